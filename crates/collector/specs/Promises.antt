-- What the collector promises beside its exact answer: statements only.
use Rattle.std.specs.Prelude.{ℕ, true, false, ◌↔◌, ◌≡◌}
use Rattle.line.specs.declared.Line.{Line}
use Rattle.line.specs.Line.{blank, ends, joined, valid_line}
use Rattle.collector.specs.Collect.{line_after, collected}

pub record Promised : Type 0 where
  -- 16 exactly where the count is past the buffer; else the byte is collected, answered 0
  pub by_case : (l : Line) (b : ℕ) → ((collected l b).number ≡ 16) ↔ (valid_line l ≡ false)
  pub else_done : (l : Line) (b : ℕ) → valid_line l ≡ true → (collected l b).number ≡ 0
  -- refused, the collector is the same, and nothing is handed out
  pub refused_same : (l : Line) (b : ℕ) → (collected l b).number ≡ 16 → line_after l b ≡ l
  pub refused_blank : (l : Line) (b : ℕ) → (collected l b).number ≡ 16 → ((collected l b).ended ≡ false) × ((collected l b).line ≡ blank)
  -- a line is handed out exactly where it ends, as it was collected, and leaves the collector empty
  pub ended : (l : Line) (b : ℕ) → ((collected l b).ended ≡ true) ↔ ((valid_line l ≡ true) × (ends l b ≡ true))
  pub handed_out : (l : Line) (b : ℕ) → (collected l b).ended ≡ true → ((collected l b).line ≡ l) × (line_after l b ≡ blank)
  -- any other byte joins it, and nothing is handed out
  pub joins : (l : Line) (b : ℕ) → valid_line l ≡ true → ends l b ≡ false → (line_after l b ≡ joined l b) × ((collected l b).line ≡ blank)
  -- a valid collector stays one
  pub kept_valid : (l : Line) (b : ℕ) → valid_line l ≡ true → valid_line (line_after l b) ≡ true
