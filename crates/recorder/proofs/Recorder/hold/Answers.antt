-- `recorder::Recorder::hold` meets its contract: its test is that of `hold_of`. Assumes nothing.
use mathlib.Core.Path.{refl, sym, ap, ◌∙◌}
use lib.ListN.{length}
use Rattle.std.specs.Prelude.{None, Ok}
use Rattle.laws.proofs.Tests.{yes, no}
use Rattle.cutter.specs.declared.Cutter.{Cutter}
use Rattle.recorder.specs.Recorder.{cut_on, hold_of}
use Rattle.recorder.proofs.Recorder.hold.Goals as goal

pub returns-then-not-is_valid : goal.returns-then-not-is_valid
unfolding hold_of
returns-then-not-is_valid c = no _ (sym c.is_valid.ensures ∙ c.if-not-is_valid.true) refl

pub returns : goal.returns
unfolding hold_of
returns c =
    let a = c.args in
    yes _ (sym c.is_valid.ensures ∙ c.if-not-is_valid.false)
    (ap (λ (y : Cutter). record { made = Ok None; used = length a.piece.now; recorder = cut_on a.self y a.self.opened }) c.held-cutter.ensures)
