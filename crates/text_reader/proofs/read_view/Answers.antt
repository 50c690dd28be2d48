-- `text_reader::read_view` meets its contract: its length, the tag, then the number behind it. Assumes nothing.
use mathlib.Core.Path.{refl}
use native.Mathlib.Omega.{arith}
use borrow.Author.Tests.{eq-eqb, ne_eqb}
use Rattle.laws.proofs.Tests.{yes, no}
use Rattle.codec.specs.Codec.{read_whole}
use Rattle.codec.proofs.Fields.{untagged, behind_tag}
use Rattle.pointed.specs.Pointed.{read_pointed}
use Rattle.text_reader.proofs.read_view.Goals as goal

pub returns-then-s-ne6 : goal.returns-then-s-ne6
unfolding read_whole
returns-then-s-ne6 c = no _ (ne_eqb _ _ c.if-s-ne6.true) refl

pub returns-then-s-ne86 : goal.returns-then-s-ne86
unfolding read_whole
returns-then-s-ne86 c = yes _ (eq-eqb _ _ c.if-s-ne6.false) (untagged 86 (read_pointed 4095) _ c.if-s-ne86.true)

pub returns : goal.returns
unfolding read_whole
returns c =
    let l = c.if-s-ne6.false in
    yes _ (eq-eqb _ _ l) (behind_tag 86 (read_pointed 4095) _ (omega (arith, l)) c.if-s-ne86.false c.read_pointed.ensures)
