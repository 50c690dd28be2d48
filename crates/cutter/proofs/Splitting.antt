-- The messages of an input and its tail: they make it up, and no other list does. Assumes nothing.
use Prim.Native.Nat.{ℕ}
use mathlib.Core.Bool.{true, false, ◌&&◌, false≢true}
use mathlib.Core.List.{List, [], ◌∷◌, ◌++◌, append_assoc, append-nil}
use mathlib.Core.Path.{◌≡◌, refl, sym, ap, ap₂, ◌∙◌, subst}
use borrow.Author.Tests.{eq-eqb, eqb-true}
use lib.Dec.{eqb}
use Rattle.laws.specs.Flat.{flat}
use Rattle.laws.proofs.Tests.{cond_yes, cond_no, told, and_left, and_right}
use Rattle.cutter.specs.Stream.{last_of, pairs, messages_from, tail_from, messages, tail}
use Rattle.cutter.specs.Promises.{free_from, free, IsMessage, AllMessages, no_more, first, Splits}
use Rattle.cutter.proofs.Holds.{last_snoc}

-- one byte more without a pair
free_snoc : (a : ℕ) (x : List ℕ) (b : ℕ) → free_from a x ≡ true → (eqb b 13 && eqb (last_of a x) 10) ≡ false → free_from a (x ++ b ∷ []) ≡ true
unfolding free_from last_of
free_snoc a [] b f n = cond_no _ _ n
free_snoc a (d ∷ x) b f n =
    told (eqb d 13 && eqb a 10)
    (λ e. absurd (false≢true (sym (cond_yes _ _ e) ∙ f)))
    (λ e. cond_no _ _ e ∙ free_snoc d x b (sym (cond_no _ _ e) ∙ f) n)

-- ---- they make it up

-- from a message's first bytes on
record From (x s : List ℕ) : Type 0 where
  whole : flat (messages_from x s) ++ tail_from x s ≡ x ++ s
  each : AllMessages (messages_from x s)
  rest : free (tail_from x s) ≡ true

module _ (x : List ℕ) (b : ℕ) (s : List ℕ) where
  here : List ℕ
  here = x ++ b ∷ []

  -- b ends the first message
  from_end : free x ≡ true → pairs x b ≡ true → From [] s → From x (b ∷ s)
  unfolding messages_from tail_from pairs here
  from_end f e r =
      let m : messages_from x (b ∷ s) ≡ here ∷ messages_from [] s = cond_yes _ _ e in
      let t : tail_from x (b ∷ s) ≡ tail_from [] s = cond_yes _ _ e in
      let cr : b ≡ 13 = eqb-true _ _ (and_left _ (eqb (last_of 0 x) 10) e) in
      let i : IsMessage here = record { front = x; is = ap (λ (y : ℕ). x ++ y ∷ []) cr; lf = eqb-true _ _ (and_right (eqb b 13) _ e); one = f } in
      record {
        whole =
            ap₂ (λ (y : List (List ℕ)) (z : List ℕ). flat y ++ z) m t
            ∙ append_assoc here (flat (messages_from [] s)) (tail_from [] s)
            ∙ ap (λ (y : List ℕ). here ++ y) r.whole
            ∙ append_assoc x (b ∷ []) s;
        each = subst AllMessages (sym m) (first i r.each);
        rest = ap free t ∙ r.rest;
      }

  -- it does not
  from_on : pairs x b ≡ false → From here s → From x (b ∷ s)
  unfolding messages_from tail_from here
  from_on e r =
      let m : messages_from x (b ∷ s) ≡ messages_from here s = cond_no _ _ e in
      let t : tail_from x (b ∷ s) ≡ tail_from here s = cond_no _ _ e in
      record {
        whole = ap₂ (λ (y : List (List ℕ)) (z : List ℕ). flat y ++ z) m t ∙ r.whole ∙ append_assoc x (b ∷ []) s;
        each = subst AllMessages (sym m) r.each;
        rest = ap free t ∙ r.rest;
      }

from : (s x : List ℕ) → free x ≡ true → From x s
unfolding messages_from tail_from pairs here free_from
from [] x f = record { whole = sym (append-nil x); each = no_more; rest = f }
from (b ∷ s) x f =
    told (pairs x b)
    (λ e. from_end x b s f e (from s [] refl))
    (λ e. from_on x b s e (from s (x ++ b ∷ []) (free_snoc 0 x b f e)))

pub splits : (s : List ℕ) → Splits s (messages s) (tail s)
unfolding free_from
splits s = let r = from s [] refl in record { whole = r.whole; each = r.each; rest = r.rest }

-- ---- no other list does

record On (x y s : List ℕ) : Type 0 where
  ms : messages_from x (y ++ s) ≡ messages_from (x ++ y) s
  ts : tail_from x (y ++ s) ≡ tail_from (x ++ y) s

-- bytes without a pair join
on : (y x s : List ℕ) → free_from (last_of 0 x) y ≡ true → On x y s
unfolding free_from messages_from tail_from pairs
on [] x s f = record { ms = ap (λ (z : List ℕ). messages_from z s) (sym (append-nil x)); ts = ap (λ (z : List ℕ). tail_from z s) (sym (append-nil x)) }
on (b ∷ y) x s f =
    told (pairs x b)
    (λ e. absurd (false≢true (sym (cond_yes _ _ e) ∙ f)))
    (λ e.
    let z = x ++ b ∷ [] in
    let r = on y z s (ap (λ (a : ℕ). free_from a y) (last_snoc 0 x b) ∙ sym (cond_no _ _ e) ∙ f) in
    let q = append_assoc x (b ∷ []) y in
    record {
      ms = cond_no _ _ e ∙ r.ms ∙ ap (λ (w : List ℕ). messages_from w s) q;
      ts = cond_no _ _ e ∙ r.ts ∙ ap (λ (w : List ℕ). tail_from w s) q;
    })

module _ (m s : List ℕ) (i : IsMessage m) where
  ended : pairs i.front 13 ≡ true
  unfolding pairs
  ended = eq-eqb _ _ i.lf

  after : m ++ s ≡ i.front ++ 13 ∷ s
  after = ap (λ (y : List ℕ). y ++ s) i.is ∙ append_assoc i.front (13 ∷ []) s

  joins : On [] i.front (13 ∷ s)
  unfolding last_of
  joins = on i.front [] (13 ∷ s) i.one

  -- a message at the front is the first one
  first_message : messages (m ++ s) ≡ m ∷ messages s
  unfolding messages_from
  first_message = ap messages after ∙ joins.ms ∙ cond_yes _ _ ended ∙ ap (λ (y : List ℕ). y ∷ messages s) (sym i.is)

  first_tail : tail (m ++ s) ≡ tail s
  unfolding tail_from
  first_tail = ap tail after ∙ joins.ts ∙ cond_yes _ _ ended

pub only_by : (ms : List (List ℕ)) (s t : List ℕ) → flat ms ++ t ≡ s → AllMessages ms → free t ≡ true → (ms ≡ messages s) × (t ≡ tail s)
unfolding messages_from tail_from last_of
only_by [] s t e a f =
    let r = on t [] [] f in
    let q : s ≡ t ++ [] = sym e ∙ sym (append-nil t) in
    (sym (ap messages q ∙ r.ms), sym (ap tail q ∙ r.ts))
only_by (m ∷ ms) s t e (first i a) f =
    let r = only_by ms (flat ms ++ t) t refl a f in
    let q : s ≡ m ++ (flat ms ++ t) = sym e ∙ append_assoc m (flat ms) t in (
      ap (λ (y : List (List ℕ)). m ∷ y) r.0 ∙ sym (ap messages q ∙ first_message m (flat ms ++ t) i),
      r.1 ∙ sym (ap tail q ∙ first_tail m (flat ms ++ t) i),
    )

pub only : (s : List ℕ) (ms : List (List ℕ)) (t : List ℕ) → Splits s ms t → (ms ≡ messages s) × (t ≡ tail s)
only s ms t r = only_by ms s t r.whole r.each r.rest

-- ---- nothing before a message touches what follows

forgets_from : (s t x : List ℕ) → tail_from x s ≡ [] → (messages_from x (s ++ t) ≡ messages_from x s ++ messages t) × (tail_from x (s ++ t) ≡ tail t)
unfolding messages_from tail_from
forgets_from [] t x e = (ap (λ (y : List ℕ). messages_from y t) e, ap (λ (y : List ℕ). tail_from y t) e)
forgets_from (b ∷ s) t x e =
    told (pairs x b)
    (λ p.
    let r = forgets_from s t [] (sym (cond_yes _ _ p) ∙ e) in
    let m = x ++ b ∷ [] in (
      cond_yes _ _ p ∙ ap (λ (y : List (List ℕ)). m ∷ y) r.0 ∙ sym (ap (λ (y : List (List ℕ)). y ++ messages t) (cond_yes _ _ p)),
      cond_yes _ _ p ∙ r.1,
    ))
    (λ p.
    let r = forgets_from s t (x ++ b ∷ []) (sym (cond_no _ _ p) ∙ e) in
    (cond_no _ _ p ∙ r.0 ∙ sym (ap (λ (y : List (List ℕ)). y ++ messages t) (cond_no _ _ p)), cond_no _ _ p ∙ r.1))

pub forgets : (s t : List ℕ) → tail s ≡ [] → (messages (s ++ t) ≡ messages s ++ messages t) × (tail (s ++ t) ≡ tail t)
forgets s t e = forgets_from s t [] e
