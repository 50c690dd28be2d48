-- `text_reader::read_stop` meets its contract: the tag, then the stop behind it. Assumes nothing.
use native.Mathlib.Omega.{arith}
use Rattle.codec.proofs.Fields.{untagged, behind_tag}
use Rattle.stop.specs.Stop.{read_stop_text}
use Rattle.text_reader.proofs.read_stop.Goals as goal

pub returns-then-s-ne116 : goal.returns-then-s-ne116
returns-then-s-ne116 c = untagged 116 read_stop_text _ c.if-s-ne116.true

pub returns : goal.returns
returns c =
    behind_tag 116 read_stop_text _ (omega (arith, c.requires)) c.if-s-ne116.false c.read_stop_text.ensures
