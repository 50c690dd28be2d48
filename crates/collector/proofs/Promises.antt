-- The collector's promises, from its three cases. Assumes nothing.
use Prim.Native.Nat.{ℕ}
use mathlib.Core.Bool.{true, false}
use mathlib.Core.Path.{◌≡◌, ap, ◌∙◌}
use Rattle.laws.proofs.Tests.{told, never}
use Rattle.line.specs.declared.Line.{Line}
use Rattle.line.specs.Line.{ends, valid_line}
use Rattle.line.proofs.Laws.{blank_valid, joined_valid}
use Rattle.collector.specs.Collect.{line_after, collected}
use Rattle.collector.specs.Promises.{Promised}
use Rattle.collector.specs.declared.Collected.{Collected}
use Rattle.collector.proofs.Laws.{refused_line, refused_answer, return_line, return_answer, other_line, other_answer}

module _ (l : Line) (b : ℕ) where
  number_16 : valid_line l ≡ false → (collected l b).number ≡ 16
  number_16 n = ap (λ (x : Collected). x.number) (refused_answer l b n)

  number_0 : valid_line l ≡ true → (collected l b).number ≡ 0
  number_0 v =
      told (ends l b)
      (λ y. ap (λ (x : Collected). x.number) (return_answer l b v y))
      (λ n. ap (λ (x : Collected). x.number) (other_answer l b v n))

  refused : (collected l b).number ≡ 16 → valid_line l ≡ false
  refused e = told (valid_line l) (λ v. let z = number_0 v in never (cc)) (λ n. n)

  handed : (collected l b).ended ≡ true → (valid_line l ≡ true) × (ends l b ≡ true)
  handed e =
      told (valid_line l)
      (λ v. told (ends l b) (λ y. (v, y)) (λ n. let a = other_answer l b v n in never (cc)))
      (λ n. let a = refused_answer l b n in never (cc))

  valid_after : valid_line l ≡ true → valid_line (line_after l b) ≡ true
  valid_after v =
      told (ends l b)
      (λ y. ap valid_line (return_line l b v y) ∙ blank_valid)
      (λ n. ap valid_line (other_line l b v n) ∙ joined_valid l b v)

pub promised : Promised
promised = record {
  by_case = λ l b. (refused l b, number_16 l b);
  else_done = number_0;
  refused_same = λ l b e. refused_line l b (refused l b e);
  refused_blank = λ l b e.
      let a = refused_answer l b (refused l b e) in
      (ap (λ (x : Collected). x.ended) a, ap (λ (x : Collected). x.line) a);
  ended = λ l b. (handed l b, λ h. ap (λ (x : Collected). x.ended) (return_answer l b h.0 h.1));
  handed_out = λ l b e.
      let h = handed l b e in
      (ap (λ (x : Collected). x.line) (return_answer l b h.0 h.1), return_line l b h.0 h.1);
  joins = λ l b v n. (other_line l b v n, ap (λ (x : Collected). x.line) (other_answer l b v n));
  kept_valid = valid_after;
}
