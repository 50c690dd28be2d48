-- One byte more, and a part of a piece: where a message ends, and what joins. Assumes nothing.
use Prim.Native.Nat.{ℕ, suc, ◌+◌, ◌-◌, ◌≤◌, ◌<◌}
use mathlib.Core.Bool.{Bool, true, false, ◌&&◌}
use mathlib.Core.List.{List, [], ◌∷◌}
use mathlib.Core.Path.{◌≡◌, refl, sym, ap, ◌∙◌}
use native.Mathlib.Numerals.{add-one}
use native.Mathlib.Omega.{arith}
use borrow.Author.Tests.{lt-ltb, le-ltb, ne_eqb}
use lib.Dec.{ltb, eqb}
use lib.ListN.{length, get_or, drop, set, drop_of_length-le}
use lib.Seq.{drop-cons}
use Rattle.std.specs.Prelude.{None, Some}
use Rattle.laws.proofs.Tests.{cond_yes, cond_no, told}
use Rattle.cutter.specs.Cutter.{cutter_length, too_many, joined, held_from, end_from, lf_before}
use Rattle.cutter.specs.Stream.{last_of}
use Rattle.cutter.specs.declared.Cutter.{Cutter}

module _ (c : Cutter) (b : ℕ) where
  pub joined_room : c.len < cutter_length → joined c b ≡ record { bytes = set c.bytes c.len b; len = c.len + 1 }
  unfolding joined
  joined_room h = cond_yes _ _ (lt-ltb _ _ h)

  pub joined_full : cutter_length ≤ c.len → joined c b ≡ too_many b
  unfolding joined
  joined_full h = cond_no _ _ (le-ltb _ _ h)

-- ---- the scan

module _ (lf : Bool) (s : List ℕ) (i : ℕ) where
  pub end_here : i < length s → (eqb (get_or s i 0) 13 && lf) ≡ true → end_from lf i (drop i s) ≡ Some (i + 1)
  unfolding end_from
  end_here more e = ap (end_from lf i) (drop-cons s i 0 more) ∙ cond_yes _ _ e

  pub end_later : i < length s → (eqb (get_or s i 0) 13 && lf) ≡ false →
      end_from lf i (drop i s) ≡ end_from (eqb (get_or s i 0) 10) (i + 1) (drop (i + 1) s)
  unfolding end_from
  end_later more e = rw add-one (ap (end_from lf i) (drop-cons s i 0 more) ∙ cond_no _ _ e ∙ rw add-one)

  pub end_nowhere : length s ≤ i → end_from lf i (drop i s) ≡ None
  unfolding end_from
  end_nowhere h = ap (end_from lf i) (drop_of_length-le s h)

pub lf_next : (lf : Bool) (s : List ℕ) (i : ℕ) → lf_before lf s (i + 1) ≡ eqb (get_or s i 0) 10
unfolding lf_before
lf_next lf s i =
    let k : i + 1 - 1 ≡ i = omega arith in
    cond_no _ _ (ne_eqb (i + 1) 0 (λ z. omega arith)) ∙ ap (λ (j : ℕ). eqb (get_or s j 0) 10) k

-- ---- the copy

-- a byte with room for it
pub held_room : (l s : List ℕ) (n i : ℕ) → i < length s → n < cutter_length →
    held_from (record { bytes = l; len = n }) (drop i s) ≡ held_from (record { bytes = set l n (get_or s i 0); len = n + 1 }) (drop (i + 1) s)
unfolding held_from
held_room l s n i more h =
    ap (held_from (record { bytes = l; len = n })) (drop-cons s i 0 more)
    ∙ ap (λ (d : Cutter). held_from d (drop (suc i) s)) (joined_room (record { bytes = l; len = n }) (get_or s i 0) h)
    ∙ ap (λ (j : ℕ). held_from (record { bytes = set l n (get_or s i 0); len = n + 1 }) (drop j s)) (sym (add-one i))

pub held_none : (c : Cutter) (s : List ℕ) (i : ℕ) → length s ≤ i → held_from c (drop i s) ≡ c
unfolding held_from
held_none c s i h = ap (held_from c) (drop_of_length-le s h)

-- what is too long is thrown away
counts : (c : Cutter) (b n : ℕ) → cutter_length < c.len + suc n → cutter_length < (joined c b).len + n
unfolding joined too_many
counts c b n h = told (ltb c.len cutter_length) (λ e. rw e (omega arith)) (λ e. rw e (omega arith))

pub held_over : (s : List ℕ) (c : Cutter) (b : ℕ) → cutter_length < c.len + suc (length s) → held_from c (b ∷ s) ≡ too_many (last_of b s)
unfolding held_from last_of
held_over [] c b h = joined_full c b (omega arith)
held_over (d ∷ s) c b h = held_over s (joined c b) d (counts c b (suc (length s)) h)

last_at : (s : List ℕ) (b : ℕ) → get_or (b ∷ s) (length s) 0 ≡ last_of b s
unfolding last_of
last_at [] b = refl
last_at (d ∷ s) b = last_at s d

pub held_many : (c : Cutter) (s : List ℕ) → 0 < length s → cutter_length < c.len + length s → held_from c s ≡ too_many (get_or s (length s - 1) 0)
held_many c [] k h = absurd (omega arith)
held_many c (b ∷ s) k h =
    let n : suc (length s) - 1 ≡ length s = omega arith in
    held_over s c b h ∙ ap too_many (sym (ap (λ (j : ℕ). get_or (b ∷ s) j 0) n ∙ last_at s b))
