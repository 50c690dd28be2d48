-- `archive::read_old` meets its contract: the groups of the present line, the last with the old zoom. Assumes nothing.
use mathlib.Core.Path.{◌∙◌}
use Rattle.record.specs.Forms.{front_text, middle_text}
use Rattle.gather.proofs.Laws.{figures_found}
use Rattle.text_reader.proofs.Parts.{front_width, middle_width, back_width}
use Rattle.archive.specs.Old.{old_zoom, old_back, old_form}
use Rattle.archive.proofs.Exact.{zoom_width}
use Rattle.archive.proofs.Laws.{old_back_lem}
use Rattle.archive.proofs.read_old.Goals as goal

pub returns : goal.returns
unfolding old_form old_back
returns c =
    let s = c.args.s.now in
    figures_found front_text middle_text old_back 19 29 16 front_width middle_width (back_width old_zoom zoom_width) s _ c.requires
    c.read_front.ensures c.read_middle.ensures (c.with_zoom.ensures ∙ old_back_lem s _ c.requires c.read_zoom-zoom.ensures) c.gather.ensures
