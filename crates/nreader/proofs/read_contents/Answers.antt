-- `nreader::read_contents` meets its contract: the texts are copied from where they stand. Assumes nothing.
use Prim.Native.Nat.{ℕ}
use mathlib.Core.List.{List}
use mathlib.Core.Path.{◌≡◌, sym, ap, ◌∙◌}
use native.Mathlib.Omega.{arith}
use lib.ListN.{length, take, drop, length-take, length-drop}
use Rattle.std.specs.Prelude.{Err, Ok, Result}
use Rattle.std.proofs.lemmas.Result.{err_from_is_err_and}
use Rattle.refusal.specs.declared.Wrong.{Wrong}
use Rattle.refusal.specs.declared.Refusal.TheVariants.{Contents}
use Rattle.codec.specs.Codec.{Got}
use Rattle.frame.specs.Message.{found}
use Rattle.fixed.specs.Fixed.{fixed_filled}
use Rattle.fixed.specs.Form.{fixed_form, fixed_length}
use Rattle.fixed.specs.declared.Fixed.{Fixed}
use Rattle.fixed.specs.declared.Lens.{Lens}
use Rattle.fixed.proofs.Given.{Long, filled_items}
use Rattle.nreader.specs.Reader.{items_says}
use Rattle.nreader.proofs.read_contents.Goals as goal

module _ (s : List ℕ) {r : Result Lens Wrong} (says : items_says s r ≡ fixed_form.parse s) where
  wrong : (w : Wrong) → r ≡ Err w → Err (Contents w.0) ≡ found (fixed_form.parse s)
  unfolding items_says found
  wrong w e = ap (λ (q : Got Fixed). found q) (sym (ap (items_says s) e) ∙ says)

  right : length s ≡ fixed_length → (l : Lens) {f : Fixed} → r ≡ Ok l →
      f ≡ fixed_filled (take 9 (drop 2 s)) (take 31 (drop 12 s)) l (take 4 (drop 61 s)) →
      Ok f ≡ found (fixed_form.parse s)
  unfolding items_says found
  right n l e h =
      let long : Long (take 9 (drop 2 s)) (take 31 (drop 12 s)) (take 4 (drop 61 s)) = record {
        nine = simp (length-take, length-drop) (omega arith);
        thirty_one_lem = simp (length-take, length-drop) (omega arith);
        four = simp (length-take, length-drop) (omega arith);
      } in
      ap (λ (f : Fixed). Ok f) (h ∙ filled_items (take 9 (drop 2 s)) (take 31 (drop 12 s)) l (take 4 (drop 61 s)) long)
      ∙ ap (λ (q : Got Fixed). found q) (sym (ap (items_says s) e) ∙ says)

pub returns-in_err-lens : goal.returns-in_err-lens
returns-in_err-lens c =
    let d = err_from_is_err_and _ c.from_residual.ensures.1 in
    d.1 ∙ ap Err d.2 ∙ wrong _ c.read_items.ensures _ c.in_err-lens.was

pub returns : goal.returns
returns c = right _ c.read_items.ensures c.requires _ c.in_ok-lens.was c.fixed_from.ensures
