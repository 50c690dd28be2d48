-- `capture::is_measurement` meets its contract: its tests are those of `is_measurement`. Assumes nothing.
use mathlib.Core.Bool.{Bool, true, false, ◌&&◌}
use mathlib.Core.Path.{◌≡◌, refl, sym, ap, ◌∙◌}
use borrow.Author.Tests.{eq-eqb, ne_eqb}
use lib.Dec.{eqb}
use Rattle.capture.specs.Words.{sole, word, spaces}
use Rattle.capture.specs.Numbers.{is_whole}
use Rattle.capture.specs.Capture.{is_letter, number_words, is_measurement}
use Rattle.capture.proofs.is_measurement.Tie as tie
use Rattle.capture.proofs.is_measurement.Lts as lts
use Rattle.capture.proofs.is_measurement.Goals as goal
use Rattle.capture.proofs.is_measurement.Goals.{then-space_count-eq-M_SPACES, else-space_count-eq-M_SPACES, then-are_numbers, else-are_numbers}

-- four tests, the first three of them taken first
three_first : (p q r t : Bool) → (p && (q && (r && t))) ≡ (((p && q) && r) && t)
three_first true true r t = refl
three_first true false r t = refl
three_first false q r t = refl

abbrev Joined : Type 0
Joined = lts.Joined2 tie.the-claims tie.handed_pre tie.handed_post

-- the first two tests, and the first three
module _ (c : Joined) where
  two : c.if-space_count-eq-M_SPACES.value ≡ (eqb (spaces c.args.line.now) 13 && number_words 11 c.args.line.now)
  two = elim c.if-space_count-eq-M_SPACES.branch [
    | then-space_count-eq-M_SPACES w ↦ w.value-is ∙ w.are_numbers.ensures ∙ rw (← c.space_count.ensures, eq-eqb _ _ w.if-space_count-eq-M_SPACES.true)
    | else-space_count-eq-M_SPACES w ↦ w.value-is ∙ rw (← c.space_count.ensures, ne_eqb _ _ w.if-space_count-eq-M_SPACES.false)
  ]

  three : c.if-are_numbers.value ≡ (c.if-space_count-eq-M_SPACES.value && is_letter (sole (word 12 c.args.line.now)))
  three = elim c.if-are_numbers.branch [
    | then-are_numbers w ↦ w.value-is ∙ w.is_letter.ensures ∙ ap is_letter (w.sole_byte.ensures ∙ ap sole w.word.ensures) ∙ rw w.if-are_numbers.true
    | else-are_numbers w ↦ w.value-is ∙ rw w.if-are_numbers.false
  ]

  -- and the whole
  four : {t : Bool} → t ≡ (c.if-are_numbers.value && is_whole (word 13 c.args.line.now)) → t ≡ is_measurement c.args.line.now
  unfolding is_measurement
  four e =
      let s = c.args.line.now in
      let r = is_letter (sole (word 12 s)) in
      let t = is_whole (word 13 s) in
      e ∙ ap (λ b. b && t) (three ∙ ap (λ b. b && r) two) ∙ sym (three_first (eqb (spaces s) 13) (number_words 11 s) r t)

pub returns-then-is_letter : goal.returns-then-is_letter
returns-then-is_letter c = four c.before.before.before.before (c.is_whole.ensures ∙ ap is_whole c.word-then-is_letter.ensures ∙ rw c.if-is_letter.true)

pub returns-else-is_letter : goal.returns-else-is_letter
returns-else-is_letter c = four c.before.before (rw c.if-is_letter.false)
