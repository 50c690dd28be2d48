-- `printed::put_labelled` meets its contract: three writes one behind the other are one. Assumes nothing.
use Prim.Native.Nat.{ℕ, ◌+◌, ◌≤◌}
use mathlib.Core.List.{List, [], ◌∷◌, ◌++◌, append_assoc}
use mathlib.Core.Path.{◌≡◌, sym, ap, ◌∙◌}
use native.Mathlib.Omega.{arith}
use lib.ListN.{length, length-append}
use Rattle.laws.specs.Over.{over}
use Rattle.laws.proofs.OverLaws.{onto}
use Rattle.digits.specs.Digits.{decimal}
use Rattle.printed.specs.Printed.{LF, width_of, numeral, labelled}
use Rattle.printed.proofs.Characters.{length_numeral, six_at_most}
use Rattle.printed.proofs.Laws.{prints_short, prints_whole}
use Rattle.printed.proofs.put_labelled.Goals as goal

module _ (label : List ℕ) (n : ℕ) {w : ℕ} (e : w ≡ width_of n) where
  digits_long : length (numeral n) ≡ w
  digits_long = length_numeral n ∙ sym e

  narrow : w ≤ 6
  narrow = omega (arith, digits_long, six_at_most n)

  long : length (labelled label n) ≡ length label + w + 1
  unfolding labelled
  long =
      let d = digits_long in
      length-append label (numeral n ++ (LF ∷ [])) ∙ ap (λ (k : ℕ). length label + k) (length-append (numeral n) (LF ∷ [])) ∙ omega arith

  in_one : (d : List ℕ) {l₁ l₂ l₃ : List ℕ} → length label + w + 1 ≤ length d → l₁ ≡ over d 0 label → l₂ ≡ over l₁ (length label) (decimal w n) →
      l₃ ≡ over l₂ (length label + w) (LF ∷ []) → l₃ ≡ over d 0 (labelled label n)
  unfolding labelled
  in_one d {l₁} {l₂} {l₃} h p q r =
      let k = digits_long in
      let both = length-append label (numeral n) in
      let q' : l₂ ≡ over l₁ (length label) (numeral n) = q ∙ ap (λ (v : ℕ). over l₁ (length label) (decimal v n)) e in
      onto d (label ++ numeral n) (LF ∷ []) 0 (length label + w)
      (onto d label (numeral n) 0 (length label) p q' (omega arith) (omega arith)) r (omega arith) (omega arith)
      ∙ ap (over d 0) (append_assoc label (numeral n) (LF ∷ []))

pub overflow_add-need : goal.overflow_add-need
overflow_add-need c = record { fits = omega (arith, narrow c.args.label.now c.args.n c.width_of-width.ensures, c.requires) }

pub overflow_add-need-2 : goal.overflow_add-need-2
overflow_add-need-2 c = record { fits = omega (arith, narrow c.args.label.now c.args.n c.width_of-width.ensures, c.requires) }

pub returns-then-out-need : goal.returns-then-out-need
returns-then-out-need c =
    let a = c.args in
    prints_short (labelled a.label.now a.n) a.out.now (long a.label.now a.n c.width_of-width.ensures) c.if-out-need.true

pub returns : goal.returns
returns c =
    let a = c.args in
    prints_whole (labelled a.label.now a.n) a.out.now (long a.label.now a.n c.width_of-width.ensures) c.if-out-need.false
    (in_one a.label.now a.n c.width_of-width.ensures a.out.now c.if-out-need.false c.put_text.ensures c.put_decimal.ensures c.put_byte.ensures)
