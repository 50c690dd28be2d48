-- A waiting command is acted on, and a record starts, before the count of slots ahead runs out: induction on the events. Assumes nothing.
use Prim.Native.Nat.{ℕ, suc, ◌+◌, ◌≤◌, ◌<◌}
use native.Mathlib.Omega.{arith}
use mathlib.Core.Path.{◌≡◌, refl, ap}
use mathlib.Core.Logic.{⊎_elim}
use mathlib.Core.Option.{some}
use mathlib.Core.List.{List, [], ◌∷◌, ◌++◌}
use Rattle.machine.specs.Machine.{Rules, Event, received, slot, given, slots, Events, State, waiting, next, shows, acted_in}
use Rattle.machine.specs.Promised.{Sizes, ActedBy, RecordBy, StaysOn}
use Rattle.machine.proofs.Step.{stepped}
use Rattle.machine.proofs.Counts.{ahead, gap, Kept, Acts, Waits, Starts, next_kept, toward_act, toward_record}

pub slots_cons : {X : Type 0} (e : Event X) (es : List (Event X)) → slots (e ∷ es) ≡ slots (e ∷ []) + slots es
slots_cons (received b) es = omega arith
slots_cons slot es = omega arith
slots_cons (given x) es = omega arith

module _ {r : Rules} where
  open r use {Command, Given}

  act_now : (s : State r) (c : Command) (e : Event Given) (es : Events r) (n : ℕ) → Acts c e (shows s e) → ActedBy (suc n) s c (e ∷ es)
  act_now s c e es n a = record {
    mid = [];
    rest = es;
    split = ap (λ x. x ∷ es) a.is_slot;
    in_time = omega arith;
    none_before = refl;
    acts = rw a.is_slot at a.acts;
  }

  act_later : (s : State r) (c : Command) (e : Event Given) (es : Events r) (n n' : ℕ) → acted_in (shows s e) ≡ [] → n' + slots (e ∷ []) ≤ n
      → ActedBy (suc n') (next s e) c es → ActedBy (suc n) s c (e ∷ es)
  act_later s c e es n n' none-now less a = record {
    mid = e ∷ a.mid;
    rest = a.rest;
    split = ap (λ x. e ∷ x) a.split;
    in_time = omega (arith, slots_cons e (a.mid ++ slot ∷ []), a.in_time);
    none_before = rw (none-now, a.none_before);
    acts = a.acts;
  }

  record_now_lem : (s : State r) (e : Event Given) (es : Events r) (n : ℕ) → Starts e (shows s e) → RecordBy (suc n) s (e ∷ es)
  record_now_lem s e es n v = record {
    mid = [];
    rest = es;
    split = ap (λ x. x ∷ es) v.is_slot;
    in_time = omega arith;
    acting = v.acting;
    byte = v.byte;
    others = v.others;
    starts = rw v.is_slot at v.starts;
  }

  record_later : (s : State r) (e : Event Given) (es : Events r) (n n' : ℕ) → n' + slots (e ∷ []) ≤ n → RecordBy (suc n') (next s e) es
      → RecordBy (suc n) s (e ∷ es)
  record_later s e es n n' less v = record {
    mid = e ∷ v.mid;
    rest = v.rest;
    split = ap (λ x. e ∷ x) v.split;
    in_time = omega (arith, slots_cons e (v.mid ++ slot ∷ []), v.in_time);
    acting = v.acting;
    byte = v.byte;
    others = v.others;
    starts = v.starts;
  }

  module _ {Good : r.Modes → Type 0} {W L R : ℕ} (fits : Sizes r Good W L R) where
    pub act_soon : (s : State r) (c : Command) (es : Events r) → Kept Good W s → waiting s ≡ some c → ahead R s < slots es → ActedBy (suc (ahead R s)) s c es
    act_soon s c [] h w n = absurd (omega arith)
    act_soon s c (e ∷ es) h w n =
        ⊎_elim
        (act_now s c e es _)
        (λ (v : Waits R c s (next s e) e (shows s e)).
        act_later s c e es _ _ v.no_act v.less (act_soon (next s e) c es (next_kept fits s e h) v.still (omega (arith, v.less, slots_cons e es))))
        (toward_act fits c (stepped fits s e h.good) h w)

    pub record_soon : (s : State r) (es : Events r) → Kept Good W s → StaysOn s es → gap L s < slots es → RecordBy (suc (gap L s)) s es
    record_soon s [] h on n = absurd (omega arith)
    record_soon s (e ∷ es) h on n =
        ⊎_elim
        (record_now_lem s e es _)
        (λ (less : gap L (next s e) + slots (e ∷ []) ≤ gap L s).
        record_later s e es _ _ less
        (record_soon (next s e) es (next_kept fits s e h) (λ mid rest p. on (e ∷ mid) rest (ap (λ x. e ∷ x) p)) (omega (arith, slots_cons e es))))
        (toward_record fits (stepped fits s e h.good) h (on [] (e ∷ es) refl) (on (e ∷ []) es refl))
