-- `text_writer::put_text_record` meets its contract: ten fields, the zoom and the serial, one behind the other. Assumes nothing.
use mathlib.Core.Path.{◌≡◌, refl, sym, ap, ◌∙◌}
use native.Mathlib.Omega.{arith}
use lib.ListN.{length}
use Rattle.laws.specs.Over.{over}
use Rattle.laws.proofs.OverLaws.{over_short, last, next, run}
use Rattle.digits.specs.Digits.{digits}
use Rattle.serial.proofs.Field.{serial_long}
use Rattle.text_writer.proofs.Written.{ten_long, contents_of_lem, record_long}
use borrow.Author.Rules.{rules}
use Rattle.text_writer.proofs.put_text_record.Tie as tie
use Rattle.text_writer.proofs.put_text_record.Lts as lts
use Rattle.text_writer.proofs.put_text_record.Goals as goal

abbrev Start : Type 0
Start = lts.Start tie.the-claims tie.handed_pre tie.handed_post

-- nine bytes, by type
nine : (b : Start) → length b.args.r.serial ≡ 9
nine b = search rules

pub returns-then-out-lt-TEXT_LENGTH : goal.returns-then-out-lt-TEXT_LENGTH
returns-then-out-lt-TEXT_LENGTH c =
    sym (over_short _ _ 0 (omega (arith, record_long c.args.r (nine c.before.before.before), c.if-out-lt-TEXT_LENGTH.true)))

pub returns : goal.returns
unfolding digits
returns c =
    run
    (next _ c.put_ten.ensures (ten_long c.args.r.figures)
    (next _ c.put_tagged.ensures refl
    (last _ c.put_serial.ensures (serial_long _ (nine c.before.before.before.before.before.before.before.before.before.before.before.before.before.before.before.before.before)))))
    c.if-out-lt-TEXT_LENGTH.false
    ∙ ap (over _ 0) (contents_of_lem c.args.r)
