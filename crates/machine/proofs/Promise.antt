-- The theorem: the promise holds of every port whose messages have their sizes. The bounds follow from the two counts, and each clause from what is
-- shown of its events. Assumes nothing.
use Prim.Native.Nat.{ℕ, suc, ◌+◌, ◌-◌, ◌≤◌, ◌<◌}
use native.Mathlib.Omega.{arith}
use mathlib.Core.Path.{◌≡◌, refl, sym, ap, ◌∙◌}
use mathlib.Core.Logic.{◌≢◌}
use mathlib.Core.Option.{Option, none, some}
use mathlib.Core.List.{List, [], ◌∷◌, ◌++◌, append-nil, append_assoc}
use lib.ListN.{length}
use Rattle.laws.proofs.Tests.{never}
use Rattle.machine.specs.Machine.{Rules, Kind, neither, a_record, a_reply, Event, slot, slots, Events, listed, State, Out, took, begins, rules, on_slot, port, modes, waiting, underway, next, shows, run, start, taken_in, acted_in, taken, acted}
use Rattle.machine.specs.Promised.{Sizes, ByRules, ActedBy, RepliedBy, RecordBy, StaysOn, Theorem}
use Rattle.machine.proofs.Slot.{slotted, given_starts, idle_for}
use Rattle.machine.proofs.Step.{Stepped, stepped, takes, drops, drops_only, queue, reply_starts}
use Rattle.machine.proofs.Counts.{ahead, gap, Kept, next_kept, run_kept, reached}
use Rattle.machine.proofs.InTime.{slots_cons, act_soon, record_soon}
use Rattle.machine.proofs.Bytes.{send_all, whole_sent}

pub slots_append : {X : Type 0} (es es' : List (Event X)) → slots (es ++ es') ≡ slots es + slots es'
slots_append [] es' = omega arith
slots_append (e ∷ es) es' = omega (arith, slots_cons e (es ++ es'), slots_cons e es, slots_append es es')

-- a command that waits after one more was taken is that one: the waiting place has room for one
one_waits : {C : Type 0} (w w' : Option C) (c : C) → listed w ++ (c ∷ []) ≡ listed w' → w' ≡ some c
one_waits none none c e = absurd (omega (arith, ap length e))
one_waits none (some c') c e = cc
one_waits (some d) none c e = absurd (omega (arith, ap length e))
one_waits (some d) (some c') c e = absurd (omega (arith, ap length e))

module _ {r : Rules} where
  open r use {Command, Given}

  pub taken_waits : {s s' : State r} {e : Event Given} {o : Out r} (c : Command) → Stepped s e s' o → o ≡ took c → waiting s' ≡ some c
  taken_waits {s} {s'} c h t = one_waits (waiting s) (waiting s') c (rw t at (queue h))

  -- a message that starts is the one that the rules give
  pub starts_by_rules : (s : State r) (a : Option Command) (k : Kind) (b : ℕ) (bs : List ℕ) → shows s slot ≡ begins a k b bs → ByRules s a k (b ∷ bs)
  unfolding on_slot
  starts_by_rules (port m w (b' ∷ bs') before l) a k b bs e = never (cc)
  starts_by_rules (port m w [] before l) a k b bs e =
      let v = given_starts (rules r m w before) before l a k b bs e in
      record { none_underway = refl; new_modes = v.0; still_waits = v.1; chosen = v.2 }

module _ {r : Rules} {Good : r.Modes → Type 0} {W L R : ℕ} (fits : Sizes r Good W L R) where
  open r use {Command, reply_to}
  open fits use {reply_fits}

  in_order_from : (s : State r) (es : Events r) → Kept Good W s → listed (waiting s) ++ taken s es ≡ acted s es ++ listed (waiting (run s es))
  in_order_from s [] h = append-nil _
  in_order_from s (e ∷ es) h =
      let s' = next s e in
      let o = shows s e in
      sym (append_assoc (listed (waiting s)) (taken_in o) (taken s' es))
      ∙ ap (λ x. x ++ taken s' es) (queue (stepped fits s e h.good))
      ∙ append_assoc (acted_in o) (listed (waiting s')) (taken s' es)
      ∙ ap (λ x. acted_in o ++ x) (in_order_from s' es (next_kept fits s e h))
      ∙ sym (append_assoc (acted_in o) (acted s' es) (listed (waiting (run s' es))))

  -- a message under way has at most W - 1 bytes left, and a record may come before the command
  ahead_bound : (s : State r) → Kept Good W s → ahead R s < W + R
  ahead_bound (port m w u neither l) h = omega arith
  ahead_bound (port m w u a_record l) h = omega arith
  ahead_bound (port m w u a_reply l) h = omega arith

  -- with none under way, a reply may come before the record
  gap_bound : (s : State r) → underway s ≡ [] → gap L s ≤ L
  gap_bound (port m w u neither l) z = omega (arith, ap length z)
  gap_bound (port m w u a_record l) z = omega (arith, ap length z)
  gap_bound (port m w u a_reply l) z = omega (arith, ap length z)

  acted_by_lem : (s : State r) (c : Command) (es : Events r) → Kept Good W s → waiting s ≡ some c → W + R ≤ slots es → ActedBy (W + R) s c es
  acted_by_lem s c es h w n =
      let few : ahead R s < W + R = ahead_bound s h in
      let a = act_soon fits s c es h w (omega arith) in
      record { mid = a.mid; rest = a.rest; split = a.split; in_time = omega (arith, a.in_time); none_before = a.none_before; acts = a.acts }

  record_by_lem : (s : State r) (es : Events r) → Kept Good W s → underway s ≡ [] → StaysOn s es → L + 1 ≤ slots es → RecordBy (L + 1) s es
  record_by_lem s es h z on n =
      let few : gap L s ≤ L = gap_bound s z in
      let a = record_soon fits s es h on (omega arith) in
      record {
        mid = a.mid;
        rest = a.rest;
        split = a.split;
        in_time = omega (arith, a.in_time);
        acting = a.acting;
        byte = a.byte;
        others = a.others;
        starts = a.starts;
      }

  -- the acting slot sends the reply's first byte, and at most L - 1 slots after it the others
  replied_by : (s : State r) (c : Command) (es : Events r) → Kept Good W s → W + R + L - 1 ≤ slots es → (a : ActedBy (W + R) s c es)
      → reply_to (modes (run s a.mid)) c ≢ [] → RepliedBy (W + R + L - 1) s c a.mid a.rest
  replied_by s c es h n a some_reply =
      let s' = run s a.mid in
      let h' : Kept Good W s' = run_kept fits s a.mid h in
      let begun = reply_starts c (slotted fits s' h'.good) a.acts some_reply in
      let fit : length (reply_to (modes s') c) ≤ L = reply_fits (modes s') c h'.good in
      let long : suc (length (underway (next s' slot))) ≡ length (reply_to (modes s') c) = ap length begun.2 in
      let all : slots es ≡ slots a.mid + slots (slot ∷ a.rest) = ap slots a.split ∙ slots_append a.mid (slot ∷ a.rest) in
      let by : slots (a.mid ++ slot ∷ []) ≡ slots a.mid + 1 = slots_append a.mid (slot ∷ []) in
      let v = send_all fits (next s' slot) a.rest (next_kept fits s' slot h') (omega (arith, a.in_time)) in
      record {
        sending = v.sending;
        later = v.later;
        split = v.split;
        in_time = omega (arith, a.in_time, v.count, slots_append a.mid (slot ∷ v.sending));
        whole = rw (begun.1, v.bytes) begun.2;
      }

pub promised : {r : Rules} {Good : r.Modes → Type 0} {W L R : ℕ} → Theorem r Good W L R
promised {r} {Good} {W} fits m g =
    let s : Events r → State r = run (start r m) in
    let h : (es : Events r) → Kept Good W (s es) = λ es. reached fits m es g in
    let h' : (es : Events r) (e : Event r.Given) → Kept Good W (next (s es) e) = λ es e. next_kept fits (s es) e (h es) in
    record {
      in_order = λ es. in_order_from fits (start r m) es (h []);
      acted_in_time = λ before after e c t n. acted_by_lem fits (next (s before) e) c after (h' before e) (taken_waits c (stepped fits (s before) e (h before).good) t) n;
      replied_in_time = λ before after e c t n. replied_by fits (next (s before) e) c after (h' before e) n;
      record_in_time = λ before after. record_by_lem fits (s before) after (h before);
      whole_messages = λ es. whole_sent fits (start r m) es (h []);
      by_rules = λ es. starts_by_rules (s es);
      idle_only = λ es a. idle_for a (slotted fits (s es) (h es).good);
      taken_if_free = λ es. takes (s es);
      dropped_if_not = λ es. drops (s es);
      dropped_only = λ es e. drops_only (stepped fits (s es) e (h es).good);
    }
