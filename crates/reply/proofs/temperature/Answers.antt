-- `reply::temperature` meets its contract: the degrees beside the source. Assumes nothing.
use mathlib.Core.List.{◌∷◌}
use mathlib.Core.Path.{◌≡◌, ap, ◌∙◌}
use lib.IntN.{ℤ}
use mir.Syntax.{w32}
use mir.Val.{to_z, of_z}
use mir.Facts.{to_z-of_z}
use borrow.Author.Rules.{rules}
use Rattle.frame.specs.Frame.{framed}
use Rattle.state.specs.State.{unsent}
use Rattle.units.specs.Measurement.{degrees}
use Rattle.reply.proofs.Laws.{answered}
use Rattle.reply.proofs.temperature.Goals as goal

pub returns : goal.returns
returns c =
    let s = c.args.source in
    let own : to_z w32 (of_z w32 s.measurement.temperature) ≡ s.measurement.temperature = to_z-of_z {w = w32} (search rules) in
    answered s (80 ∷ degrees s.measurement.temperature)
    (c.degrees_message-message.ensures ∙ ap (λ (t : ℤ). unsent (framed s.modes.checksum (80 ∷ degrees t))) own)
