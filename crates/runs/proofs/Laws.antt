-- The port of a line, as laws over plain lists. Assumes nothing.
use Prim.Native.Nat.{ℕ, ◌-◌, ◌≤◌, ◌<◌}
use mathlib.Core.Bool.{true, false, ◌&&◌}
use mathlib.Core.List.{List, [], ◌∷◌}
use mathlib.Core.Path.{◌≡◌, refl, ap, ◌∙◌}
use native.Mathlib.Omega.{arith}
use lib.Dec.{eqb}
use lib.ListN.{length, take, drop, get_or}
use Rattle.laws.specs.Gives.{Gives}
use Rattle.laws.proofs.ListLaws.{last_part}
use Rattle.laws.proofs.Tests.{never}
use Rattle.connectors.specs.declared.Side.{Side}
use Rattle.capture.specs.Words.{space}
use Rattle.telling.specs.Clauses.{RunTell}
use Rattle.telling.specs.Telling.{told_of, told_leaves}
use Rattle.telling.specs.declared.Run.{Run}
use Rattle.telling.specs.declared.Told.{Told}
use Rattle.runs.specs.Runs.{is_numbered, event_on, run_at, with_run, told_at, told_at_leaves}
use Rattle.runs.specs.declared.Addressed.{Addressed}
use Rattle.runs.specs.declared.Runs.{Runs}

-- ---- a number before a line

module _ (n : ℕ) where
  pub numbered_short : (s : List ℕ) → length s < 2 → false ≡ is_numbered n s
  unfolding is_numbered
  numbered_short [] h = refl
  numbered_short (b ∷ []) h = refl
  numbered_short (b ∷ c ∷ s) h = absurd (omega arith)

  pub numbered_long : (s : List ℕ) → 2 ≤ length s → (eqb (get_or s 0 0) n && eqb (get_or s 1 0) space) ≡ is_numbered n s
  unfolding is_numbered
  numbered_long [] h = absurd (omega arith)
  numbered_long (b ∷ []) h = absurd (omega arith)
  numbered_long (b ∷ c ∷ s) h = refl

  -- a line that has one is as long as it
  pub numbered_two : (s : List ℕ) → is_numbered n s ≡ true → 2 ≤ length s
  unfolding is_numbered
  numbered_two [] h = never (cc)
  numbered_two (b ∷ []) h = never (cc)
  numbered_two (b ∷ c ∷ s) h = omega arith

-- what stands behind it
pub rest_on : (s : List ℕ) (a : Side) {r : Addressed} → 2 ≤ length s → r ≡ event_on a (take (length s - 2) (drop 2 s)) → r ≡ event_on a (drop 2 s)
rest_on s a h e = e ∙ ap (event_on a) (last_part 2 (length s - 2) s (omega arith))

-- ---- a call

-- what the run of the line's port told is what the runs tell
pub told_at_lem : (r : Runs) (x : Addressed) (out : List ℕ) {q : Run} {t : Told} {w : Runs} {after : List ℕ} →
    q ≡ run_at r x.side → RunTell q x.event out t after → w ≡ with_run r x.side t.run →
    Gives (told_at r x out) (told_at_leaves r x out) (record { wrote = t.wrote; runs = w }) after
unfolding told_at
told_at_lem r x out {q} {t} e g h = record {
  answers =
      ap (λ (w : Runs). record { wrote = t.wrote; runs = w }) h
      ∙ ap (λ (t : Told). record { wrote = t.wrote; runs = with_run r x.side t.run }) (g.answers ∙ ap (λ (q : Run). told_of q x.event out) e);
  leaves = g.leaves ∙ ap (λ (q : Run). told_leaves q x.event out) e;
}
