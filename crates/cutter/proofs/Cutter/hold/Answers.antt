-- `cutter::Cutter::hold` meets its contract: its test is that of `hold_of`. Assumes nothing.
use mathlib.Core.Bool.{false}
use mathlib.Core.Path.{refl, sym, ap, ◌∙◌}
use lib.ListN.{length}
use Rattle.std.specs.Prelude.{Ok}
use Rattle.laws.proofs.Tests.{yes, no}
use Rattle.cutter.specs.Cutter.{hold_of}
use Rattle.cutter.specs.declared.Cutter.{Cutter}
use Rattle.cutter.proofs.Cutter.hold.Goals as goal

pub returns-then-not-is_valid : goal.returns-then-not-is_valid
unfolding hold_of
returns-then-not-is_valid c = no _ (sym c.is_valid.ensures ∙ c.if-not-is_valid.true) refl

pub returns : goal.returns
unfolding hold_of
returns c =
    let n = length c.args.piece.now in
    yes _ (sym c.is_valid.ensures ∙ c.if-not-is_valid.false)
    (ap (λ (x : Cutter). record { wrote = Ok 0; used = n; ended = false; cutter = x }) c.held.ensures)
