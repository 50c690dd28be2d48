-- `archive::read_zoom` meets its contract: its two parts, and what they make together. Assumes nothing.
use Prim.Native.Nat.{ℕ}
use mathlib.Core.List.{List}
use mathlib.Core.Path.{◌≡◌, sym, ap, ◌∙◌}
use native.Mathlib.Omega.{arith}
use borrow.Author.Tests.{le-leb, lt-leb}
use lib.ListN.{length, take, drop}
use Rattle.std.specs.Prelude.{Some}
use Rattle.laws.proofs.Tests.{cond_yes, cond_no}
use Rattle.digits.specs.Digits.{read_decimal}
use Rattle.codec.specs.Codec.{passed, chained, field_says, read_tagged}
use Rattle.codec.proofs.Fields.{gave, refused, wrong_first, wrong_later, right_both, tagged_low}
use Rattle.pointed.specs.Pointed.{point}
use Rattle.archive.specs.Old.{old_zoom}
use Rattle.archive.proofs.Laws.{from_parts, zoom_parts}
use Rattle.archive.proofs.read_zoom.Goals as goal

-- the two parts together
made : (s : List ℕ) (a b : ℕ) → length s ≡ 5 → Some a ≡ read_tagged 122 (read_decimal 1) (take 2 s) → Some b ≡ read_tagged point (read_decimal 99) (take 3 (drop 2 s)) →
    old_zoom.parse s ≡ from_parts (a, b)
unfolding chained field_says
made s a b l e f = zoom_parts s l ∙ ap (chained from_parts) (right_both (ap (field_says 11) (sym e)) (ap (field_says 11) (sym f)))

pub returns-in_err-whole : goal.returns-in_err-whole
unfolding chained field_says
returns-in_err-whole c =
    ap (field_says 11) c.from_residual.ensures
    ∙ sym (zoom_parts _ c.requires ∙ ap (chained from_parts) (wrong_first _ (refused 11 c.read_tagged.ensures c.in_err-whole.was)))

pub returns-in_err-part : goal.returns-in_err-part
unfolding chained field_says
returns-in_err-part c =
    ap (field_says 11) c.from_residual-in_err-part.ensures
    ∙ sym
    (zoom_parts _ c.requires
    ∙ ap (chained from_parts) (wrong_later (gave 11 c.read_tagged.ensures c.in_ok-whole.was) (refused 11 c.read_tagged-2.ensures c.in_err-part.was)))

pub overflow_mul-hundredths : goal.overflow_mul-hundredths
overflow_mul-hundredths c = omega (arith, tagged_low 122 1 _ _ (sym c.in_ok-whole.ensures))

pub overflow_add-hundredths : goal.overflow_add-hundredths
overflow_add-hundredths c = omega (arith, tagged_low 122 1 _ _ (sym c.in_ok-whole.ensures), tagged_low point 99 _ _ (sym c.in_ok-part.ensures))

pub returns-then-hundredths-gt100 : goal.returns-then-hundredths-gt100
unfolding field_says passed
returns-then-hundredths-gt100 c =
    sym (made _ _ _ c.requires c.in_ok-whole.ensures c.in_ok-part.ensures ∙ cond_no _ _ (lt-leb _ _ c.if-hundredths-gt100.true))

pub returns : goal.returns
unfolding field_says passed
returns c =
    sym (made _ _ _ c.requires c.in_ok-whole.ensures c.in_ok-part.ensures ∙ cond_yes _ _ (le-leb _ _ c.if-hundredths-gt100.false))
