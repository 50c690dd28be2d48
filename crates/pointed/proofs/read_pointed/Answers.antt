-- `pointed::read_pointed` meets its contract: its two parts join as those of `read_pointed`, for a whole part past top / 10 is wrong with any tenth. Assumes nothing.
use Prim.Native.Nat.{ℕ, ◌+◌, ◌-◌, ◌*◌, ◌/◌, ◌≤◌, ◌<◌}
use mathlib.Core.Bool.{Bool, true, false, ◌&&◌, cond}
use mathlib.Core.List.{List}
use mathlib.Core.Path.{◌≡◌, refl, sym, ◌∙◌}
use native.Mathlib.Omega.{arith}
use borrow.Author.Tests.{leb-true, leb-false, le-leb, lt-leb, lt-ltb, le-ltb}
use lib.Dec.{leb}
use lib.ListN.{length, take, drop, length-drop}
use lib.Seq.{take_all, length-take-le}
use Rattle.std.specs.Prelude.{None, Option, Some}
use Rattle.laws.proofs.Tests.{yes, no, cond_yes, cond_no, told}
use Rattle.digits.specs.Digits.{value, are_digits, only, read_digits, read_field, read_decimal, widest}
use Rattle.digits.proofs.Laws.{digits_read}
use Rattle.codec.specs.Codec.{read_tagged}
use Rattle.codec.proofs.Fields.{tagged_low}
use Rattle.pointed.specs.Pointed.{point, with_tenths, read_pointed}
use Rattle.pointed.proofs.read_pointed.Goals as goal

-- a number that was read is at most what was asked for
decimal_low : (top n : ℕ) (s : List ℕ) → read_decimal top s ≡ Some n → n ≤ top
decimal_low top n s e = (digits_read 10 48 (omega arith) s n top e).0

-- a whole part past top / 10 is wrong with any tenth
past : (top v : ℕ) (t : Bool) (g : Option ℕ) → top / 10 < v → with_tenths top (only t v) g ≡ None
unfolding with_tenths
past top v true (Some b) h = cond_no _ _ (lt-leb (v * 10 + b) top (omega arith))
past top v true None h = refl
past top v false g h = refl

-- so what is read up to top joins as what is read up to top / 10
to_top : (top v : ℕ) (short all : Bool) (g : Option ℕ) →
    with_tenths top (cond short (only (all && leb v top) v) None) g ≡ with_tenths top (cond short (only (all && leb v (top / 10)) v) None) g
unfolding with_tenths
to_top top v true true g =
    told (leb v (top / 10))
    (λ y. rw (y, le-leb v top (omega (arith, leb-true v (top / 10) y))))
    (λ n. rw n (past top v (leb v top) g (leb-false _ _ n)))
to_top top v true false g = refl
to_top top v false all g = refl

whole_to_top : (top : ℕ) (s : List ℕ) (g : Option ℕ) → with_tenths top (read_decimal top s) g ≡ with_tenths top (read_decimal (top / 10) s) g
unfolding read_field read_digits
whole_to_top top s g = to_top top (value 10 48 s) (leb (length s) widest) (are_digits 10 48 s) g

module _ (top : ℕ) (s : List ℕ) where
  abbrev whole : Option ℕ
  whole = read_decimal top (take (length s - 2) s)

  -- the last two bytes
  abbrev rest : List ℕ
  rest = take (length s - (length s - 2)) (drop (length s - 2) s)

  -- what the two parts said, as one
  joins : {f g : Option ℕ} → 2 ≤ length s → whole ≡ f → read_tagged point (read_decimal 9) rest ≡ g → with_tenths top f g ≡ read_pointed top s
  unfolding read_pointed
  joins h e f =
      let all : rest ≡ drop (length s - 2) s = take_all (length s - (length s - 2)) (drop (length s - 2) s) (simp length-drop (omega arith)) in
      no _ (le-ltb _ _ h) (rw (← e, ← f, all) (whole_to_top top (take (length s - 2) s) _))

pub returns-then-s-lt2 : goal.returns-then-s-lt2
unfolding read_pointed
returns-then-s-lt2 c = yes _ (lt-ltb _ _ c.if-s-lt2.true) refl

pub slice_bounds-read_decimal-end : goal.slice_bounds-read_decimal-end
slice_bounds-read_decimal-end c = sym (length-take-le _ _ (omega arith))

pub returns-in_err-whole : goal.returns-in_err-whole
unfolding with_tenths
returns-in_err-whole c =
    c.from_residual.ensures ∙ joins _ _ c.if-s-lt2.false (sym c.read_decimal.ensures ∙ c.in_err-whole.was) refl

pub returns-in_err-tenth : goal.returns-in_err-tenth
unfolding with_tenths
returns-in_err-tenth c =
    c.from_residual-in_err-tenth.ensures
    ∙ joins _ _ c.if-s-lt2.false (sym c.read_decimal.ensures ∙ c.in_ok-whole.was) (sym c.read_tagged.ensures ∙ c.in_err-tenth.was)

pub overflow_mul-n : goal.overflow_mul-n
overflow_mul-n c = omega (arith, decimal_low _ _ _ (sym c.read_decimal.ensures ∙ c.in_ok-whole.was))

pub overflow_add-n : goal.overflow_add-n
overflow_add-n c =
    omega (arith, decimal_low _ _ _ (sym c.read_decimal.ensures ∙ c.in_ok-whole.was), tagged_low _ _ _ _ (sym c.read_tagged.ensures ∙ c.in_ok-tenth.was))

pub returns-then-most-n : goal.returns-then-most-n
unfolding with_tenths
returns-then-most-n c =
    sym (cond_no _ _ (lt-leb _ _ c.if-most-n.true))
    ∙ joins _ _ c.if-s-lt2.false (sym c.read_decimal.ensures ∙ c.in_ok-whole.was) (sym c.read_tagged.ensures ∙ c.in_ok-tenth.was)

pub returns : goal.returns
unfolding with_tenths
returns c =
    sym (cond_yes _ _ (le-leb _ _ c.if-most-n.false))
    ∙ joins _ _ c.if-s-lt2.false (sym c.read_decimal.ensures ∙ c.in_ok-whole.was) (sym c.read_tagged.ensures ∙ c.in_ok-tenth.was)
