-- Two counts that each slot makes smaller and nothing makes larger: the slots before a waiting command at most, and those before a record while
-- continuous sending stays on. With them, what always holds of a state. Assumes nothing.
use Prim.Native.Nat.{ℕ, ◌+◌, ◌≤◌, ◌<◌}
use native.Mathlib.Omega.{arith}
use mathlib.Core.Path.{◌≡◌, refl, sym, ap, ◌∙◌}
use mathlib.Core.Bool.{true, false, true≢false, false≢true}
use mathlib.Core.Logic.{◌⊎◌, inl, inr}
use mathlib.Core.Option.{Option, none, some}
use mathlib.Core.List.{List, [], ◌∷◌}
use lib.ListN.{length}
use Rattle.laws.proofs.Tests.{told}
use Rattle.laws.proofs.Tests.{never}
use Rattle.machine.specs.Machine.{Rules, Kind, neither, a_record, a_reply, reply_kind, Event, slot, slots, Events, listed, State, modes, waiting, underway, last, Out, begins, owed, sent_one, next, run, start, acted_in}
use Rattle.machine.specs.Promised.{Sizes}
use Rattle.machine.proofs.Slot.{acting, goes, owes, answers, flows, rests}
use Rattle.machine.proofs.Step.{Stepped, by_slot, taking, dropping, growing, noting, stepped}

-- before a waiting command: the rest of the message under way, and after a reply a record
abbrev pub then_record : ℕ → Kind → ℕ
then_record R neither = 0
then_record R a_record = 0
then_record R a_reply = R

-- before a record: the rest of the message under way, and a reply, unless one was sent last
abbrev pub then_reply : ℕ → Kind → ℕ
then_reply L neither = L
then_reply L a_record = L
then_reply L a_reply = 0

module _ {r : Rules} where
  open r use {Modes, Command, Given, continuous, act, counts}

  abbrev pub ahead : ℕ → State r → ℕ
  ahead R s = length (underway s) + then_record R (last s)

  abbrev pub gap : ℕ → State r → ℕ
  gap L s = length (underway s) + then_reply L (last s)

  -- the modes are good, and a message under way has fewer bytes left than the longest has
  pub record Kept (Good : Modes → Type 0) (W : ℕ) (s : State r) : Type 0 where
    pub good : Good (modes s)
    pub short : length (underway s) < W

  -- this event is a slot that acts on the command that waits, and on no other
  pub record Acts (c : Command) (e : Event Given) (o : Out r) : Type 0 where
    pub is_slot : e ≡ slot
    pub acts : acted_in o ≡ c ∷ []

  -- the command still waits, and a slot made the count smaller
  pub record Waits (R : ℕ) (c : Command) (s s' : State r) (e : Event Given) (o : Out r) : Type 0 where
    pub no_act : acted_in o ≡ []
    pub still : waiting s' ≡ some c
    pub less : ahead R s' + slots (e ∷ []) ≤ ahead R s

  -- this event is a slot that starts a record
  pub record Starts (e : Event Given) (o : Out r) : Type 0 where
    pub is_slot : e ≡ slot
    pub acting : Option Command
    pub byte : ℕ
    pub others : List ℕ
    pub starts : o ≡ begins acting a_record byte others

  module _ {Good : Modes → Type 0} {W L R : ℕ} (fits : Sizes r Good W L R) where
    open fits use {act_good, ended_good, update_good, uncounted_off, ended_same, greeting_fits, reply_fits, record_fits, reply_in, record_in_lem}

    -- ---- what always holds
    sent_one_good : (m : Modes) (bs : List ℕ) → Good m → Good (sent_one r m bs)
    sent_one_good m [] g = ended_good m g
    sent_one_good m (b ∷ bs) g = g

    acting_good : (m : Modes) (w : Option Command) → Good m → Good (acting r m w)
    acting_good m none g = g
    acting_good m (some c) g = act_good m c g

    kept : {s s' : State r} {e : Event Given} {o : Out r} → Stepped s e s' o → Kept Good W s → Kept Good W s'
    kept (by_slot (goes {m} {bs = bs})) h = record { good = sent_one_good m bs h.good; short = omega arith }
    kept (by_slot (owes {m} {bs = bs} on e)) h =
        record { good = sent_one_good m bs h.good; short = omega (arith, record_fits m h.good, ap length e, record_in_lem) }
    kept (by_slot (answers {m} {c} {bs = bs} n e)) h =
        record { good = sent_one_good (act m c) bs (act_good m c h.good); short = omega (arith, reply_fits m c h.good, ap length e, reply_in) }
    kept (by_slot (flows {m} {w} {bs = bs} n q on e)) h =
        let g : Good (acting r m w) = acting_good m w h.good in
        record { good = sent_one_good (acting r m w) bs g; short = omega (arith, record_fits (acting r m w) g, ap length e, record_in_lem) }
    kept (by_slot (rests {m} {w} n q off)) h = record { good = acting_good m w h.good; short = h.short }
    kept (taking b) h = record { good = h.good; short = h.short }
    kept (dropping b) h = record { good = h.good; short = h.short }
    kept (growing b) h = record { good = h.good; short = h.short }
    kept (noting {m} {x = x}) h = record { good = update_good m x h.good; short = h.short }

    pub next_kept : (s : State r) (e : Event Given) → Kept Good W s → Kept Good W (next s e)
    next_kept s e h = kept (stepped fits s e h.good) h

    pub run_kept : (s : State r) (es : Events r) → Kept Good W s → Kept Good W (run s es)
    run_kept s [] h = h
    run_kept s (e ∷ es) h = run_kept (next s e) es (next_kept s e h)

    pub reached : (m : Modes) (es : Events r) → Good m → Kept Good W (run (start r m) es)
    reached m es g = run_kept (start r m) es (record { good = g; short = greeting_fits })

    -- ---- toward the waiting command

    -- a record that is owed was counted
    owed_counted : (m : Modes) (k : Kind) → owed r m k ≡ true → then_record R k ≡ R
    owed_counted m neither h = absurd (false≢true h)
    owed_counted m a_record h = absurd (false≢true h)
    owed_counted m a_reply h = refl

    pub toward_act : {s s' : State r} {e : Event Given} {o : Out r} (c : Command) → Stepped s e s' o → Kept Good W s → waiting s ≡ some c
        → Acts c e o ⊎ Waits R c s s' e o
    toward_act c (by_slot goes) h w = inr (record { no_act = refl; still = w; less = omega arith })
    toward_act c (by_slot (owes {m} {k = k} on e)) h w = inr (record { no_act = refl; still = w; less = omega (arith, record_fits m h.good, ap length e, owed_counted m k on) })
    toward_act c (by_slot (answers n e)) h w = inl (record { is_slot = refl; acts = ap listed w })
    toward_act c (by_slot (flows n q on e)) h w = inl (record { is_slot = refl; acts = ap listed w })
    toward_act c (by_slot (rests n q off)) h w = inl (record { is_slot = refl; acts = ap listed w })
    toward_act c (taking b) h w = never (cc)
    toward_act c (dropping b) h w = inr (record { no_act = refl; still = w; less = omega arith })
    toward_act c (growing b) h w = inr (record { no_act = refl; still = w; less = omega arith })
    toward_act c noting h w = inr (record { no_act = refl; still = w; less = omega arith })

    -- ---- toward a record
    not_reply : (m : Modes) (k : Kind) → owed r m k ≡ false → continuous m ≡ true → then_reply L k ≡ L
    not_reply m neither n on = refl
    not_reply m a_record n on = refl
    not_reply m a_reply n on = absurd (true≢false (sym on ∙ n))

    sent_one_same : (m : Modes) (bs : List ℕ) → Good m → continuous (sent_one r m bs) ≡ continuous m
    sent_one_same m [] g = ended_same m g
    sent_one_same m (b ∷ bs) g = refl

    -- after a reply that leaves continuous sending on, a record is next
    counted : (m : Modes) (c : Command) → Good m → continuous (act m c) ≡ true → then_reply L (reply_kind (counts m c)) ≡ 0
    counted m c g on =
        told (counts m c)
        (λ t. ap (λ x. then_reply L (reply_kind x)) t)
        (λ t. absurd (true≢false (sym on ∙ uncounted_off m c g t)))

    pub toward_record : {s s' : State r} {e : Event Given} {o : Out r} → Stepped s e s' o → Kept Good W s
        → continuous (modes s) ≡ true → continuous (modes s') ≡ true → Starts e o ⊎ (gap L s' + slots (e ∷ []) ≤ gap L s)
    toward_record (by_slot goes) h on on' = inr (omega arith)
    toward_record (by_slot (owes o e)) h on on' = inl (record { is_slot = refl; acting = _; byte = _; others = _; starts = refl })
    toward_record (by_slot (answers {m} {c} {bs = bs} {k} n e)) h on on' =
        let still : continuous (act m c) ≡ true = sym (sent_one_same (act m c) bs (act_good m c h.good)) ∙ on' in
        inr (omega (arith, reply_fits m c h.good, ap length e, not_reply m k n on, counted m c h.good still))
    toward_record (by_slot (flows n q o e)) h on on' = inl (record { is_slot = refl; acting = _; byte = _; others = _; starts = refl })
    toward_record (by_slot (rests n q off)) h on on' = absurd (true≢false (sym on' ∙ off))
    toward_record (taking b) h on on' = inr (omega arith)
    toward_record (dropping b) h on on' = inr (omega arith)
    toward_record (growing b) h on on' = inr (omega arith)
    toward_record noting h on on' = inr (omega arith)
