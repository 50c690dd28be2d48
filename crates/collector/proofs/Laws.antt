-- A received byte in each of its three cases: a count past the buffer, a carriage return, another byte. Assumes nothing.
use Prim.Native.Nat.{ℕ}
use mathlib.Core.Bool.{true, false}
use mathlib.Core.Path.{◌≡◌, ◌∙◌}
use Rattle.laws.proofs.Tests.{cond_yes, cond_no}
use Rattle.line.specs.declared.Line.{Line}
use Rattle.line.specs.Line.{blank, ends, joined, valid_line}
use Rattle.collector.specs.Collect.{line_after, collected}

module _ (l : Line) (b : ℕ) where
  -- refused: nothing changes
  pub refused_line : valid_line l ≡ false → line_after l b ≡ l
  unfolding line_after
  refused_line n = cond_no _ _ n

  pub refused_answer : valid_line l ≡ false → collected l b ≡ record { number = 16; ended = false; line = blank }
  unfolding collected
  refused_answer n = cond_no _ _ n

  module _ (v : valid_line l ≡ true) where
    -- a carriage return: the line is handed out
    pub return_line : ends l b ≡ true → line_after l b ≡ blank
    unfolding line_after
    return_line e = cond_yes _ _ v ∙ cond_yes _ _ e

    pub return_answer : ends l b ≡ true → collected l b ≡ record { number = 0; ended = true; line = l }
    unfolding collected
    return_answer e = cond_yes _ _ v ∙ cond_yes _ _ e

    -- another byte joins
    pub other_line : ends l b ≡ false → line_after l b ≡ joined l b
    unfolding line_after
    other_line n = cond_yes _ _ v ∙ cond_no _ _ n

    pub other_answer : ends l b ≡ false → collected l b ≡ record { number = 0; ended = false; line = blank }
    unfolding collected
    other_answer n = cond_yes _ _ v ∙ cond_no _ _ n
