-- `layout::put_record` meets its contract: the numbers, and the serial behind them; nothing where they do not fit. Assumes nothing.
use Rattle.std.proofs.Common.{ℕ, List, ap, ◌∙◌, rules}
use Rattle.laws.specs.Over.{over}
use Rattle.laws.proofs.OverLaws.{last, next, run}
use Rattle.layout.specs.Layout.{four_each, numbers_of, record_bytes, record_width}
use Rattle.layout.proofs.Laws.{over_nothing, numbers_long, record_long}
use Rattle.layout.proofs.put_record.Goals as goal

pub returns-then-out-lt-RECORD_WIDTH : goal.returns-then-out-lt-RECORD_WIDTH
returns-then-out-lt-RECORD_WIDTH c =
    over_nothing _ (record_bytes c.args.r) record_width (record_long c.args.r (search rules)) c.if-out-lt-RECORD_WIDTH.true

pub returns : goal.returns
unfolding numbers_of
returns c =
    run
    (next _ (c.put_numbers.ensures ∙ ap (λ (x : List ℕ). over c.args.out.now 0 (four_each x)) c.numbers_of.ensures) (numbers_long _)
    (last {k = 9} c.args.r.serial c.put_text.ensures (search rules)))
    c.if-out-lt-RECORD_WIDTH.false
