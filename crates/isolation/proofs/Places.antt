-- Two replies to N, for the same fixed data with two letters: they are as long, and equal but where the letter and the checksum stand. Assumes nothing.
use Prim.Native.Nat.{ℕ, zero, suc, ◌+◌, ◌-◌, ◌<◌}
use mathlib.Core.Bool.{Bool, true, false}
use mathlib.Core.List.{List, [], ◌∷◌, ◌++◌, append_assoc}
use mathlib.Core.Logic.{◌⊎◌, inl, inr, ⊎_elim}
use mathlib.Core.Path.{◌≡◌, refl, sym, ap, ◌∙◌}
use native.Mathlib.Omega.{arith}
use lib.ListN.{length, get_or, length-append, get_or-append}
use lib.Seq.{get_or-append-add}
use lib.Dec.{ltb}
use borrow.Author.Tests.{ltb-true, ltb-false}
use Rattle.laws.proofs.Tests.{told}
use Rattle.digits.specs.Digits.{digits}
use Rattle.digits.proofs.Laws.{length_digits}
use Rattle.frame.specs.Frame.{ending}
use Rattle.frame.proofs.Exactly.{framed_long}
use Rattle.fixed.specs.Form.{serial, owner, lens_items, version, fixed_form}
use Rattle.fixed.specs.declared.Fixed.{Fixed}
use Rattle.state.specs.declared.Source.{Source}
use Rattle.state.specs.State.{valid_source}
use Rattle.rules.specs.Does.{fixed_with}
use Rattle.rules.proofs.Lengths.{items_told, fixed_long}
use Rattle.rules.proofs.Valid.{valid_told}
use Rattle.isolation.specs.Isolated.{reply_to_n, LetterPlace}

-- ---- where the letter stands

-- what stands before a letter and behind it, whichever letter it is
record Around (g : ℕ → List ℕ) : Type 0 where
  before : List ℕ
  behind : List ℕ
  is : (a : ℕ) → g a ≡ before ++ a ∷ behind

alone : Around (λ a. a ∷ [])
alone = record { before = []; behind = []; is = λ a. refl }

after : (w : List ℕ) {g : ℕ → List ℕ} → Around g → Around (λ a. w ++ g a)
after w r = record {
  before = w ++ r.before;
  behind = r.behind;
  is = λ a. ap (λ (x : List ℕ). w ++ x) (r.is a) ∙ sym (append_assoc w r.before (a ∷ r.behind));
}

ahead_of : (z : List ℕ) {g : ℕ → List ℕ} → Around g → Around (λ a. g a ++ z)
ahead_of z r = record {
  before = r.before;
  behind = r.behind ++ z;
  is = λ a. ap (λ (x : List ℕ). x ++ z) (r.is a) ∙ append_assoc r.before (a ∷ r.behind) z;
}

in_fixed : (f : Fixed) → Around (λ a. fixed_form.print (fixed_with a f))
unfolding fixed_form serial owner lens_items version
in_fixed f =
    after (78 ∷ 83 ∷ f.serial)
    (after (79 ∷ f.owner)
    (ahead_of (32 ∷ 32 ∷ 66 ∷ f.version)
    (after (76 ∷ f.lens.kind ∷ [])
    (after (78 ∷ digits 10 48 3 f.lens.focal)
    (after (77 ∷ digits 10 48 3 f.lens.maximum)
    (ahead_of (84 ∷ digits 10 48 2 f.lens.transmission) (after (85 ∷ []) alone)))))))

-- the contents are as long with one letter as with another
around_long : {g : ℕ → List ℕ} (r : Around g) (a : ℕ) → length (g a) ≡ length r.before + suc (length r.behind)
around_long r a = ap length (r.is a) ∙ length-append r.before (a ∷ r.behind)

pub fixed_as_long : (f : Fixed) (a b : ℕ) → length (fixed_form.print (fixed_with a f)) ≡ length (fixed_form.print (fixed_with b f))
fixed_as_long f a b = around_long (in_fixed f) a ∙ sym (around_long (in_fixed f) b)

pub reply_as_long : (checksum : Bool) (f : Fixed) (a b : ℕ) → length (reply_to_n checksum (fixed_with a f)) ≡ length (reply_to_n checksum (fixed_with b f))
reply_as_long checksum f a b =
    framed_long checksum _ (fixed_form.print (fixed_with a f)) (fixed_as_long f a b) ∙ sym (framed_long checksum _ (fixed_form.print (fixed_with b f)) refl)

-- of fixed data in range, the letter stands at place 54 of 65
module _ (s : Source) (v : valid_source s ≡ true) where
  abbrev f : Fixed
  f = s.settings.fixed

  contents_long : (a : ℕ) → length (fixed_form.print (fixed_with a f)) ≡ 65
  contents_long a = fixed_as_long f a f.lens.letter ∙ fixed_long s (valid_told s v)

  behind_letter : length (in_fixed f).behind ≡ 10
  unfolding in_fixed after ahead_of alone
  behind_letter =
      let w = (items_told s.settings (valid_told s v).settings).version in
      let t = length_digits 10 48 (omega arith) 2 f.lens.transmission in
      let j = length-append (84 ∷ digits 10 48 2 f.lens.transmission) (32 ∷ 32 ∷ 66 ∷ f.version) in
      omega (arith, j)

  letter_at : length (in_fixed f).before ≡ 54
  letter_at =
      let b = behind_letter in
      let n = contents_long f.lens.letter in
      let m = around_long (in_fixed f) f.lens.letter in
      omega arith

  -- ---- place by place

  -- in the contents
  in_contents : (u w : List ℕ) (a b i : ℕ) → (get_or (u ++ a ∷ w) i 0 ≡ get_or (u ++ b ∷ w) i 0) ⊎ (i ≡ length u)
  in_contents [] w a b zero = inr refl
  in_contents [] w a b (suc i) = inl refl
  in_contents (x ∷ u) w a b zero = inl refl
  in_contents (x ∷ u) w a b (suc i) = ⊎_elim inl (λ e. inr (ap suc e)) (in_contents u w a b i)

  -- behind them
  in_ending : (checksum : Bool) (xs ys : List ℕ) (j : ℕ) → (get_or (ending checksum xs) j 0 ≡ get_or (ending checksum ys) j 0) ⊎ ((checksum ≡ true) × ((j ≡ 0) ⊎ (j ≡ 1)))
  unfolding ending
  in_ending false xs ys j = inl refl
  in_ending true xs ys zero = inr (refl, inl refl)
  in_ending true xs ys (suc zero) = inr (refl, inr refl)
  in_ending true xs ys (suc (suc j)) = inl refl

  module _ (checksum : Bool) (a b i : ℕ) where
    abbrev xs : List ℕ
    xs = fixed_form.print (fixed_with a f)

    abbrev ys : List ℕ
    ys = fixed_form.print (fixed_with b f)

    abbrev Same : Type 0
    Same = get_or (reply_to_n checksum (fixed_with a f)) i 0 ≡ get_or (reply_to_n checksum (fixed_with b f)) i 0

    inside : i < 65 → Same ⊎ LetterPlace checksum i
    inside h =
        let r = in_fixed f in
        let n = contents_long a in
        let m = contents_long b in
        let l = get_or-append xs (ending checksum xs) 0 i (omega arith) ∙ ap (λ (x : List ℕ). get_or x i 0) (r.is a) in
        let k = get_or-append ys (ending checksum ys) 0 i (omega arith) ∙ ap (λ (x : List ℕ). get_or x i 0) (r.is b) in
        ⊎_elim (λ e. inl (l ∙ e ∙ sym k)) (λ e. inr (inl (e ∙ letter_at))) (in_contents r.before r.behind a b i)

    outside : (j : ℕ) → i ≡ 65 + j → Same ⊎ LetterPlace checksum i
    outside j h =
        let p = h ∙ ap (λ (n : ℕ). n + j) (sym (contents_long a)) in
        let q = h ∙ ap (λ (n : ℕ). n + j) (sym (contents_long b)) in
        let l = ap (λ (n : ℕ). get_or (xs ++ ending checksum xs) n 0) p ∙ get_or-append-add xs (ending checksum xs) j 0 in
        let k = ap (λ (n : ℕ). get_or (ys ++ ending checksum ys) n 0) q ∙ get_or-append-add ys (ending checksum ys) j 0 in
        ⊎_elim (λ e. inl (l ∙ e ∙ sym k)) (λ e. inr (inr (e.0, ⊎_elim (λ z. inl (omega (arith, z, h))) (λ z. inr (omega (arith, z, h))) e.1))) (in_ending checksum xs ys j)

    -- the two replies have the same byte there, or it is a place that hangs on the letter
    pub same_or_hangs : Same ⊎ LetterPlace checksum i
    same_or_hangs = told (ltb i 65) (λ y. inside (ltb-true i 65 y)) (λ n. let g = ltb-false i 65 n in outside (i - 65) (omega (arith, g)))
