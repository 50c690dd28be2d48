-- Which port a line names: by its first two bytes, and no event begins with a number. So its first 138 bytes tell a line's event and port.
-- Assumes nothing.
use Prim.Native.Nat.{ℕ, ◌≤◌}
use mathlib.Core.Bool.{Bool, true, false, ◌&&◌}
use mathlib.Core.List.{List, [], ◌∷◌}
use mathlib.Core.Logic.{◌↔◌, ◌⊎◌, inl, inr, ◌≢◌}
use mathlib.Core.Path.{◌≡◌, refl, sym, ap, ◌∙◌}
use native.Mathlib.Omega.{arith}
use borrow.Author.Tests.{eqb-true}
use lib.Dec.{eqb}
use lib.ListN.{take, drop}
use Rattle.laws.proofs.Tests.{told, by, never, cond_no, and_left, and_right}
use Rattle.connectors.specs.declared.Side.{Side}
use Rattle.connectors.specs.declared.Side.TheVariants.{Camera, External}
use Rattle.capture.specs.Words.{space}
use Rattle.capture.specs.Capture.{event_of}
use Rattle.capture.specs.declared.Event.{Event}
use Rattle.capture.specs.declared.Event.TheVariants.{Slots, Other}
use Rattle.capture.proofs.Lines.{first_other, none_other}
use Rattle.capture.proofs.Long.{first_bytes}
use Rattle.capture.proofs.Promises.{forms}
use Rattle.runs.specs.Runs.{is_numbered, event_on, event_at}
use Rattle.runs.specs.Promises.{digit_of, Unnumbered, NoEvent, OfPorts}
use Rattle.runs.specs.declared.Addressed.{Addressed}

-- ---- a number

numbered_is : (n : ℕ) (s : List ℕ) → is_numbered n s ≡ true → s ≡ n ∷ space ∷ drop 2 s
unfolding is_numbered
numbered_is n [] h = never (cc)
numbered_is n (b ∷ []) h = never (cc)
numbered_is n (b ∷ c ∷ s) h =
    let e = eqb-true b n (and_left (eqb b n) (eqb c space) h) in
    let f = eqb-true c space (and_right (eqb b n) (eqb c space) h) in
    λ i. e i ∷ f i ∷ s

-- a line that begins otherwise
unnumbered : (n : ℕ) (s : List ℕ) → ((t : List ℕ) → s ≢ n ∷ space ∷ t) → is_numbered n s ≡ false
unnumbered n s h = told (is_numbered n s) (λ e. absurd (h (drop 2 s) (numbered_is n s e))) (λ e. e)

-- ---- the event and the port

without : (s : List ℕ) → event_at false s ≡ event_on Camera s
unfolding event_at
without s = refl

named : (a : Side) (s : List ℕ) → event_at true (digit_of a ∷ space ∷ s) ≡ event_on a s
unfolding event_at is_numbered
named Camera s = refl
named External s = refl

unnamed : (s : List ℕ) → Unnumbered s → event_at true s ≡ event_on Camera s
unfolding event_at
unnamed s h = cond_no _ _ (unnumbered 48 s (h Camera)) ∙ cond_no _ _ (unnumbered 49 s (h External))

-- one of these three
pub by_port : (ports : Bool) (s : List ℕ) (P : Addressed → Type 0) → ((a : Side) → s ≡ digit_of a ∷ space ∷ drop 2 s → P (event_on a (drop 2 s))) → P (event_on Camera s) →
    P (event_at ports s)
unfolding event_at
by_port ports s P f g =
    by P (ports && is_numbered 48 s) _ _
    (λ y. f Camera (numbered_is 48 s (and_right ports _ y)))
    (λ n. by P (ports && is_numbered 49 s) _ _ (λ y. f External (numbered_is 49 s (and_right ports _ y))) (λ m. g))

-- ---- of other form

digit_other : (a : Side) (s : List ℕ) → event_of (digit_of a ∷ s) ≡ Other
digit_other Camera s = first_other 48 s (λ e. absurd (omega arith)) (λ e. absurd (omega arith)) (λ e. absurd (omega arith))
digit_other External s = first_other 49 s (λ e. absurd (omega arith)) (λ e. absurd (omega arith)) (λ e. absurd (omega arith))

event_unnumbered : (s : List ℕ) → event_of s ≢ Other → Unnumbered s
event_unnumbered s n a t e = n (ap event_of e ∙ digit_other a (space ∷ t))

abbrev tells : Addressed → Event
tells x = x.event

other : (b : ℕ) (s : List ℕ) → NoEvent b → event_of (b ∷ s) ≡ Other
other b s h = first_other b s h.0 h.1 h.2

another : (b : ℕ) (s : List ℕ) → NoEvent b → ((a : Side) → b ≢ digit_of a) → (event_at true (b ∷ s)).event ≡ Other
another b s n h = ap tells (unnamed (b ∷ s) (λ a t e. h a (cc))) ∙ other b s n

longer : (a : Side) (b : ℕ) (s : List ℕ) → b ≢ 32 → (event_at true (digit_of a ∷ b ∷ s)).event ≡ Other
longer a b s n = ap tells (unnamed (digit_of a ∷ b ∷ s) (λ c t e. n (cc))) ∙ digit_other a (b ∷ s)

alone : (a : Side) → (event_at true (digit_of a ∷ [])).event ≡ Other
alone a = ap tells (unnamed (digit_of a ∷ []) (λ c t e. never (cc))) ∙ digit_other a []

-- ---- exactly

exactly : (s : List ℕ) (a : Side) (e : Event) → e ≢ Other →
    (event_at true s ≡ record { side = a; event = e }) ↔
    (((t : List ℕ) × (s ≡ digit_of a ∷ 32 ∷ t) × (event_of t ≡ e)) ⊎ ((a ≡ Camera) × (event_of s ≡ e)))
exactly s a e n = (told_by_lem, tells_so)
  where
    told_by_lem : event_at true s ≡ record { side = a; event = e } →
        ((t : List ℕ) × (s ≡ digit_of a ∷ 32 ∷ t) × (event_of t ≡ e)) ⊎ ((a ≡ Camera) × (event_of s ≡ e))
    told_by_lem =
        by_port true s (λ (x : Addressed). x ≡ record { side = a; event = e } →
        ((t : List ℕ) × (s ≡ digit_of a ∷ 32 ∷ t) × (event_of t ≡ e)) ⊎ ((a ≡ Camera) × (event_of s ≡ e)))
        (λ c h k. inl (drop 2 s, h ∙ ap (λ (x : Addressed). digit_of x.side ∷ 32 ∷ drop 2 s) k, ap tells k))
        (λ k. inr (ap (λ (x : Addressed). x.side) (sym k), ap tells k))

    tells_so : ((t : List ℕ) × (s ≡ digit_of a ∷ 32 ∷ t) × (event_of t ≡ e)) ⊎ ((a ≡ Camera) × (event_of s ≡ e)) →
        event_at true s ≡ record { side = a; event = e }
    tells_so (inl h) = ap (event_at true) h.1 ∙ named a h.0 ∙ ap (λ (x : Event). record { side = a; event = x }) h.2
    tells_so (inr h) =
        unnamed s (event_unnumbered s (λ k. n (sym h.1 ∙ k))) ∙ (λ i. record { side = sym h.0 i; event = h.1 i })

pub of_ports : OfPorts
of_ports = record {
  without = without;
  without_number = λ a s. ap tells (without (digit_of a ∷ s)) ∙ digit_other a s;
  named = named;
  unnamed = unnamed;
  exactly = exactly;
  another = another;
  longer = longer;
  twice = λ a b s n. ap tells (named a (b ∷ s)) ∙ other b s n;
  alone = alone;
  with_space = λ a. ap tells (named a []) ∙ none_other;
}

-- ---- the first bytes

-- a line of an event has 137 bytes at most
pub first_138 : (ports : Bool) (s : List ℕ) → event_at ports (take 138 s) ≡ event_at ports s
unfolding event_at is_numbered
first_138 ports [] = refl
first_138 ports (b ∷ []) = refl
first_138 ports (b ∷ c ∷ s) =
    let one = first_bytes 138 (b ∷ c ∷ s) (omega arith) in
    let rest = first_bytes 136 s (omega arith) in
    rw (one, rest)

-- and no more than 999 slots
pub few_slots : (ports : Bool) (s : List ℕ) (n : ℕ) → (event_at ports s).event ≡ Slots n → n ≤ 999
few_slots ports s n =
    by_port ports s (λ (x : Addressed). x.event ≡ Slots n → n ≤ 999) (λ a h e. ((forms.slots (drop 2 s) n).0 e).high) (λ e. ((forms.slots s n).0 e).high)
