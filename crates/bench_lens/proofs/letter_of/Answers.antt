-- `bench_lens::letter_of` meets its contract: the first byte, or I where there is none. Assumes nothing.
use Rattle.std.proofs.Common.{◌≡◌, ◌∙◌, ℕ, List, [], ◌∷◌, refl, ap}
use Rattle.std.specs.List.{slice_get}
use Rattle.std.specs.Option.{unwrap_or}
use Rattle.bench_lens.specs.Bench.{letter_of}
use Rattle.bench_lens.proofs.letter_of.Goals as goal

first : (w : List ℕ) → unwrap_or (slice_get w 0) 73 ≡ letter_of w
unfolding letter_of
first [] = refl
first (b ∷ w) = refl

pub returns : goal.returns
returns c = c.unwrap_or.ensures ∙ ap (λ b. unwrap_or b 73) (c.copied.ensures ∙ c.first.ensures.value) ∙ first c.args.word.now
