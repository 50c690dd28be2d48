-- `units::lowest_of` meets its contract: the figures, then the temperature. Assumes nothing.
use Prim.Native.Nat.{ℕ}
use mathlib.Core.Path.{◌≡◌, sym, ap, ◌∙◌}
use mir.Syntax.{w32}
use mir.Val.{to_z, of_z}
use mir.Facts.{to_z-of_z}
use borrow.Author.Rules.{rules}
use Rattle.std.specs.Prelude.{Option}
use Rattle.codec.specs.Codec.{lowest_named}
use Rattle.codec.proofs.Lowest.{some_here, none_here, wrong_last, right_last}
use Rattle.record.specs.Record.{figures_lowest}
use Rattle.record.specs.declared.Figures.{Figures}
use Rattle.units.specs.Measurement.{temperature_ok, measurement_lowest}
use Rattle.units.proofs.lowest_of.Goals as goal

-- the figures were tested by their unit's ranges
found : {top top' most most' : ℕ} {i : Option ℕ} (f : Figures) → top ≡ top' → most ≡ most' →
    i ≡ lowest_named (figures_lowest top most f) → i ≡ lowest_named (figures_lowest top' most' f)
found f p q h = h ∙ (λ i. lowest_named (figures_lowest (p i) (q i) f))

pub returns-then-is_some : goal.returns-then-is_some
unfolding measurement_lowest
returns-then-is_some c =
    some_here _ _ (found c.args.m.figures c.top_in.ensures c.most_in.ensures c.lowest_figure-lowest.ensures) (sym c.is_some.ensures ∙ c.if-is_some.true)

pub returns-then-not-temperature_ok : goal.returns-then-not-temperature_ok
unfolding measurement_lowest
returns-then-not-temperature_ok c =
    let own : to_z w32 (of_z w32 c.args.m.temperature) ≡ c.args.m.temperature = to_z-of_z {w = w32} (search rules) in
    none_here _ _ (found c.args.m.figures c.top_in.ensures c.most_in.ensures c.lowest_figure-lowest.ensures) (sym c.is_some.ensures ∙ c.if-is_some.false)
    (wrong_last 12 (sym (c.temperature_ok.ensures ∙ ap temperature_ok own) ∙ c.if-not-temperature_ok.true))

pub returns : goal.returns
unfolding measurement_lowest
returns c =
    let own : to_z w32 (of_z w32 c.args.m.temperature) ≡ c.args.m.temperature = to_z-of_z {w = w32} (search rules) in
    none_here _ _ (found c.args.m.figures c.top_in.ensures c.most_in.ensures c.lowest_figure-lowest.ensures) (sym c.is_some.ensures ∙ c.if-is_some.false)
    (right_last 13 (sym (c.temperature_ok.ensures ∙ ap temperature_ok own) ∙ c.if-not-temperature_ok.false))
