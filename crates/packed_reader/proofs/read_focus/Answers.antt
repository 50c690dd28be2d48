-- `packed_reader::read_focus` meets its contract: the tag, and all that follows it. Assumes nothing.
use native.Mathlib.Omega.{arith}
use Rattle.digits.specs.Digits.{read_groups}
use Rattle.codec.proofs.Fields.{untagged, behind_tag}
use Rattle.record.specs.Record.{top_distance}
use Rattle.packed_reader.proofs.read_focus.Goals as goal

pub returns-then-s-ne100 : goal.returns-then-s-ne100
returns-then-s-ne100 c = untagged 100 (read_groups top_distance) _ c.if-s-ne100.true

pub returns : goal.returns
returns c =
    behind_tag 100 (read_groups top_distance) _ (omega (arith, c.requires)) c.if-s-ne100.false c.read_groups.ensures
