-- Fixed data whose texts were copied into memory of their lengths stand for those handed in: a text of another length is out of range, and so is what is left
-- of it. Assumes nothing.
use Prim.Native.Nat.{ℕ}
use mathlib.Core.List.{List}
use mathlib.Core.Path.{◌≡◌, sym, ap, ◌∙◌}
use Rattle.frame.proofs.Stands.{StandsFor}
use Rattle.fixed.specs.Fixed.{fixed_of, fixed_filled}
use Rattle.fixed.specs.Form.{fixed_form}
use Rattle.fixed.specs.declared.Fixed.{Fixed}
use Rattle.fixed.specs.declared.Lens.{Lens}
use Rattle.fixed.proofs.Exact.{fixed_lowest_lem}
use Rattle.fixed.proofs.Given.{items_long, filled_items, filled_lowest}

pub stands_fixed : (s o : List ℕ) (l : Lens) (v : List ℕ) {f : Fixed} → f ≡ fixed_filled s o l v → StandsFor fixed_form f (fixed_of s o l v)
stands_fixed s o l v e = record {
  alike = ap (λ (x : Fixed). fixed_form.lowest x) e ∙ fixed_lowest_lem _ ∙ filled_lowest s o l v ∙ sym (fixed_lowest_lem _);
  same = λ z. e ∙ filled_items s o l v (items_long (fixed_of s o l v) (sym (fixed_lowest_lem _) ∙ z));
}
