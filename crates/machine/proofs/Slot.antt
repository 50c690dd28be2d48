-- A slot does one of five things. `slotted` finds which, the one walk through the rules; `slot_is` says what it then comes to. Then what the promise says
-- of one slot: a message that starts is the one that the rules give, and an idle slot has nothing to send. Assumes nothing.
use Prim.Native.Nat.{ℕ}
use native.Mathlib.Omega.{arith}
use mathlib.Core.Path.{◌≡◌, refl, ap}
use mathlib.Core.Bool.{Bool, true, false, cond}
use mathlib.Core.Option.{Option, none, some}
use mathlib.Core.List.{List, [], ◌∷◌}
use lib.ListN.{length}
use Rattle.laws.proofs.Tests.{never}
use Rattle.machine.specs.Machine.{Rules, Kind, neither, a_record, reply_kind, State, port, modes, Out, begins, sends, idles, Choice, choice, owed, rules, rule2, answer, rule3, sent_one, begin, on_slot, next, shows, slot}
use Rattle.machine.specs.Promised.{Sizes, IdleFor}

module _ (r : Rules) where
  open r use {Modes, Command, act, reply_to}

  -- the modes after the command that waits, if one does
  abbrev pub acting : Modes → Option Command → Modes
  acting m none = m
  acting m (some c) = act m c

  -- the command that waits, if one does, has no reply
  abbrev pub Silent : Modes → Option Command → Type 0
  Silent m none = Unit {0}
  Silent m (some c) = reply_to m c ≡ []

module _ {r : Rules} where
  open r use {Modes, Line, Command, continuous, record_of, act, reply_to, counts}

  -- from a state, to a state, with what it shows: the next byte; rule 1; rule 2; rule 3; rule 4
  pub data Slotted : State r → State r → Out r → Type 0 where
    goes : {m : Modes} {w : Option Command} {b : ℕ} {bs : List ℕ} {k : Kind} {l : Line}
        → Slotted (port m w (b ∷ bs) k l) (port (sent_one r m bs) w bs k l) (sends b)
    owes : {m : Modes} {w : Option Command} {b : ℕ} {bs : List ℕ} {k : Kind} {l : Line} → owed r m k ≡ true → record_of m ≡ b ∷ bs
        → Slotted (port m w [] k l) (port (sent_one r m bs) w bs a_record l) (begins none a_record b bs)
    answers : {m : Modes} {c : Command} {b : ℕ} {bs : List ℕ} {k : Kind} {l : Line} → owed r m k ≡ false → reply_to m c ≡ b ∷ bs
        → Slotted (port m (some c) [] k l) (port (sent_one r (act m c) bs) none bs (reply_kind (counts m c)) l) (begins (some c) (reply_kind (counts m c)) b bs)
    flows : {m : Modes} {w : Option Command} {b : ℕ} {bs : List ℕ} {k : Kind} {l : Line}
        → owed r m k ≡ false → Silent r m w → continuous (acting r m w) ≡ true → record_of (acting r m w) ≡ b ∷ bs
        → Slotted (port m w [] k l) (port (sent_one r (acting r m w) bs) none bs a_record l) (begins w a_record b bs)
    rests : {m : Modes} {w : Option Command} {k : Kind} {l : Line}
        → owed r m k ≡ false → Silent r m w → continuous (acting r m w) ≡ false
        → Slotted (port m w [] k l) (port (acting r m w) none [] k l) (idles w)

  -- what the rules choose in s is one of the five
  abbrev Chosen : State r → Choice r → Kind → Line → Type 0
  Chosen s ch k l = Slotted s (begin ch k l).0 (begin ch k l).1

  module _ {Good : r.Modes → Type 0} {W L R : ℕ} (fits : Sizes r Good W L R) where
    open fits use {act_good, record_some}

    third_rule : (m : Modes) (w : Option Command) (k : Kind) (l : Line) (t : Bool) (rec : List ℕ) → Good (acting r m w) → owed r m k ≡ false → Silent r m w
        → continuous (acting r m w) ≡ t → record_of (acting r m w) ≡ rec
        → Chosen (port m w [] k l) (cond t (choice w (acting r m w) none a_record rec) (choice w (acting r m w) none neither [])) k l
    unfolding begin
    third_rule m w k l true [] g n q on e = absurd (omega (arith, record_some (acting r m w) g, ap length e))
    third_rule m w k l true (b ∷ bs) g n q on e = flows n q on e
    third_rule m w k l false rec g n q off e = rests n q off

    command : (m : Modes) (c : Command) (k : Kind) (l : Line) (rep : List ℕ) → Good m → owed r m k ≡ false → reply_to m c ≡ rep
        → Chosen (port m (some c) [] k l) (answer r rep m c) k l
    unfolding begin answer rule3
    command m c k l [] g n e = third_rule m (some c) k l _ _ (act_good m c g) n e refl refl
    command m c k l (b ∷ bs) g n e = answers n e

    second_rule : (m : Modes) (w : Option Command) (k : Kind) (l : Line) → Good m → owed r m k ≡ false → Chosen (port m w [] k l) (rule2 r m w) k l
    unfolding rule2 rule3
    second_rule m none k l g n = third_rule m none k l _ _ g n tt refl refl
    second_rule m (some c) k l g n = command m c k l _ g n refl

    owing : (m : Modes) (w : Option Command) (k : Kind) (l : Line) (rec : List ℕ) → Good m → owed r m k ≡ true → record_of m ≡ rec
        → Chosen (port m w [] k l) (choice none m w a_record rec) k l
    unfolding begin
    owing m w k l [] g on e = absurd (omega (arith, record_some m g, ap length e))
    owing m w k l (b ∷ bs) g on e = owes on e

    first_rule : (m : Modes) (w : Option Command) (k : Kind) (l : Line) (t : Bool) → Good m → owed r m k ≡ t
        → Chosen (port m w [] k l) (cond t (choice none m w a_record (record_of m)) (rule2 r m w)) k l
    first_rule m w k l true g e = owing m w k l _ g e refl
    first_rule m w k l false g e = second_rule m w k l g e

    pub slotted : (s : State r) → Good (modes s) → Slotted s (next s slot) (shows s slot)
    unfolding on_slot rules
    slotted (port m w (b ∷ bs) k l) g = goes
    slotted (port m w [] k l) g = first_rule m w k l _ g refl

  pub slot_is : {s s' : State r} {o : Out r} → Slotted s s' o → on_slot s ≡ (s', o)
  unfolding on_slot rules rule2 answer rule3 begin
  slot_is goes = refl
  slot_is (owes on e) = rw (on, e)
  slot_is (answers n e) = rw (n, e)
  slot_is (flows {w = none} n q on e) = rw (n, on, e)
  slot_is (flows {w = some c} n q on e) = rw (n, q, on, e)
  slot_is (rests {w = none} n q off) = rw (n, off)
  slot_is (rests {w = some c} n q off) = rw (n, q, off)

  -- a message that starts is the one that the rules give
  pub given_starts : (ch : Choice r) (before : Kind) (l : Line) (a : Option Command) (k : Kind) (b : ℕ) (bs : List ℕ) → (begin ch before l).1 ≡ begins a k b bs
      → (m : Modes) × (w : Option Command) × (ch ≡ choice a m w k (b ∷ bs))
  unfolding begin
  given_starts (choice a' m w k' []) before l a k b bs e = never (cc)
  given_starts (choice a' m w k' (b' ∷ bs')) before l a k b bs e = (m, w, cc)

  -- an idle slot has nothing to send
  pub idle_for : {s s' : State r} {o : Out r} (a : Option Command) → Slotted s s' o → o ≡ idles a → IdleFor s s'
  idle_for a goes e = never (cc)
  idle_for a (owes on q) e = never (cc)
  idle_for a (answers n q) e = never (cc)
  idle_for a (flows n t on q) e = never (cc)
  idle_for a (rests n t off) e = record { none_underway = refl; none_waits = refl; off = off }
