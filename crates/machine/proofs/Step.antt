-- An event does one of nine things: a slot's five, a line taken or dropped, a byte joined, a hand-in noted. `stepped` finds which; `walks` says what
-- it then comes to. What is shown of one event after that has a line for each. Assumes nothing.
use Prim.Native.Nat.{ℕ, ◌<◌}
use native.Mathlib.Omega.{arith}
use mathlib.Core.Path.{◌≡◌, refl, sym, ap, ◌∙◌}
use mathlib.Core.Bool.{Bool, true, false, cond}
use mathlib.Core.Logic.{◌≢◌}
use mathlib.Core.Option.{Option, none, some}
use mathlib.Core.List.{List, [], ◌∷◌, ◌++◌, append-nil}
use lib.ListN.{length}
use Rattle.laws.proofs.Tests.{never}
use Rattle.machine.specs.Machine.{Rules, Kind, Event, received, slot, given, slots, listed, State, port, modes, waiting, underway, line, Out, grew, took, dropped, noted, on_byte, on_return, on_other, on_given, step, next, shows, taken_in, acted_in, started_in, sent_in}
use Rattle.machine.specs.Promised.{Sizes}
use Rattle.machine.proofs.Slot.{Slotted, goes, owes, answers, flows, rests, slotted, slot_is}

module _ {r : Rules} where
  open r use {Modes, Line, Command, Given, blank, join, ends, read, reply_to, update}

  pub data Stepped : State r → Event Given → State r → Out r → Type 0 where
    by_slot : {s s' : State r} {o : Out r} → Slotted s s' o → Stepped s slot s' o
    taking : {m : Modes} {u : List ℕ} {k : Kind} {l : Line} {b : ℕ} → ends l b ≡ true
        → Stepped (port m none u k l) (received b) (port m (some (read l)) u k blank) (took (read l))
    dropping : {m : Modes} {c : Command} {u : List ℕ} {k : Kind} {l : Line} {b : ℕ} → ends l b ≡ true
        → Stepped (port m (some c) u k l) (received b) (port m (some c) u k blank) dropped
    growing : {m : Modes} {w : Option Command} {u : List ℕ} {k : Kind} {l : Line} {b : ℕ} → ends l b ≡ false
        → Stepped (port m w u k l) (received b) (port m w u k (join l b)) grew
    noting : {m : Modes} {w : Option Command} {u : List ℕ} {k : Kind} {l : Line} {x : Given}
        → Stepped (port m w u k l) (given x) (port (update m x) w u k l) noted

  byte_stepped : (t : Bool) (s : State r) (b : ℕ) → ends (line s) b ≡ t → let x = cond t (on_return s) (on_other s b) in Stepped s (received b) x.0 x.1
  unfolding on_return on_other
  byte_stepped true (port m none u k l) b e = taking e
  byte_stepped true (port m (some c) u k l) b e = dropping e
  byte_stepped false (port m w u k l) b e = growing e

  give_stepped : (s : State r) (x : Given) → Stepped s (given x) (next s (given x)) (shows s (given x))
  unfolding on_given
  give_stepped (port m w u k l) x = noting

  pub stepped : {Good : Modes → Type 0} {W L R : ℕ} → Sizes r Good W L R → (s : State r) (e : Event Given) → Good (modes s) → Stepped s e (next s e) (shows s e)
  unfolding on_byte
  stepped fits s (received b) g = byte_stepped (ends (line s) b) s b refl
  stepped fits s slot g = by_slot (slotted fits s g)
  stepped fits s (given x) g = give_stepped s x

  step_is : {s s' : State r} {e : Event Given} {o : Out r} → Stepped s e s' o → step s e ≡ (s', o)
  unfolding on_byte on_return on_other on_given
  step_is (by_slot h) = slot_is h
  step_is (taking b) = rw b
  step_is (dropping b) = rw b
  step_is (growing b) = rw b
  step_is noting = refl

  -- for a proof about code: in the state s₀, which reads as s, the event leads to s' and shows o
  pub record Walks (s₀ : State r) (e : Event Given) (s' : State r) (o : Out r) : Type 0 where
    pub to : s' ≡ next s₀ e
    pub showing : o ≡ shows s₀ e

  pub walks : {s₀ s s' : State r} {e : Event Given} {o : Out r} → s₀ ≡ s → Stepped s e s' o → Walks s₀ e s' o
  walks {e = e} a h = record {
    to = sym (ap (λ x. x.0) (step_is h)) ∙ sym (ap (λ x. next x e) a);
    showing = sym (ap (λ x. x.1) (step_is h)) ∙ sym (ap (λ x. shows x e) a);
  }

  -- a carriage return
  pub takes : (s : State r) (b : ℕ) → ends (line s) b ≡ true → waiting s ≡ none → shows s (received b) ≡ took (read (line s))
  unfolding on_byte on_return
  takes (port m none u k l) b e w = rw (e, shows)
  takes (port m (some c) u k l) b e w = never (cc)

  pub drops : (s : State r) (b : ℕ) (c : Command) → ends (line s) b ≡ true → waiting s ≡ some c → shows s (received b) ≡ dropped
  unfolding on_byte on_return
  drops (port m none u k l) b c e w = never (cc)
  drops (port m (some c') u k l) b c e w = rw (e, shows)

  pub drops_only : {s s' : State r} {e : Event Given} {o : Out r} → Stepped s e s' o → o ≡ dropped → (b : ℕ) × (e ≡ received b) × (ends (line s) b ≡ true) × (c : Command) × (waiting s ≡ some c)
  drops_only (by_slot goes) d = never (cc)
  drops_only (by_slot (owes on e)) d = never (cc)
  drops_only (by_slot (answers n e)) d = never (cc)
  drops_only (by_slot (flows n q on e)) d = never (cc)
  drops_only (by_slot (rests n q off)) d = never (cc)
  drops_only (taking b) d = never (cc)
  drops_only (dropping {c = c} {b = b} e) d = (b, refl, e, c, refl)
  drops_only (growing b) d = never (cc)
  drops_only noting d = never (cc)

  -- one taken waits, and one acted on was the one that waited
  pub queue : {s s' : State r} {e : Event Given} {o : Out r} → Stepped s e s' o → listed (waiting s) ++ taken_in o ≡ acted_in o ++ listed (waiting s')
  queue (by_slot goes) = append-nil _
  queue (by_slot (owes on e)) = append-nil _
  queue (by_slot (answers n e)) = refl
  queue (by_slot (flows n q on e)) = refl
  queue (by_slot (rests n q off)) = refl
  queue (taking b) = refl
  queue (dropping b) = refl
  queue (growing b) = append-nil _
  queue noting = append-nil _

  -- the bytes: none, or the next of the message under way, or the first of a message where none was under way
  pub data Flow (s : State r) (e : Event Given) (s' : State r) (o : Out r) : Type 0 where
    quiet : (0 < length (underway s) → slots (e ∷ []) ≡ 0) → sent_in o ≡ [] → started_in o ≡ [] → underway s' ≡ underway s → Flow s e s' o
    going : (b : ℕ) → slots (e ∷ []) ≡ 1 → sent_in o ≡ b ∷ [] → started_in o ≡ [] → underway s ≡ b ∷ underway s' → Flow s e s' o
    opening : (b : ℕ) → sent_in o ≡ b ∷ [] → started_in o ≡ (b ∷ underway s') ∷ [] → underway s ≡ [] → Flow s e s' o

  pub flow : {s s' : State r} {e : Event Given} {o : Out r} → Stepped s e s' o → Flow s e s' o
  flow (by_slot goes) = going _ refl refl refl refl
  flow (by_slot (owes on e)) = opening _ refl refl refl
  flow (by_slot (answers n e)) = opening _ refl refl refl
  flow (by_slot (flows n q on e)) = opening _ refl refl refl
  flow (by_slot (rests n q off)) = quiet (λ h. omega arith) refl refl refl
  flow (taking b) = quiet (λ h. refl) refl refl refl
  flow (dropping b) = quiet (λ h. refl) refl refl refl
  flow (growing b) = quiet (λ h. refl) refl refl refl
  flow noting = quiet (λ h. refl) refl refl refl

  -- the slot that acts on a command starts its reply, if it has one
  pub reply_starts : {s s' : State r} {o : Out r} (c : Command) → Slotted s s' o → acted_in o ≡ c ∷ [] → reply_to (modes s) c ≢ []
      → (b : ℕ) × (sent_in o ≡ b ∷ []) × (b ∷ underway s' ≡ reply_to (modes s) c)
  reply_starts c goes a n = absurd (omega (arith, ap length a))
  reply_starts c (owes on e) a n = absurd (omega (arith, ap length a))
  reply_starts c (answers {c = c'} {b} o e) a n = let p : c' ≡ c = cc in (b, refl, rw (← p) (sym e))
  reply_starts c (flows {w = none} o q on e) a n = absurd (omega (arith, ap length a))
  reply_starts c (flows {w = some c'} o q on e) a n = let p : c' ≡ c = cc in absurd (n (rw (← p) q))
  reply_starts c (rests {w = none} o q off) a n = absurd (omega (arith, ap length a))
  reply_starts c (rests {w = some c'} o q off) a n = let p : c' ≡ c = cc in absurd (n (rw (← p) q))
