-- `layout::put_fixed` meets its contract: four writes, each on from where the one before ended; nothing where they do not fit. Assumes nothing.
use Rattle.std.proofs.Common.{rules}
use Rattle.laws.proofs.OverLaws.{last, next, run}
use Rattle.layout.specs.Layout.{fixed_bytes, fixed_width}
use Rattle.layout.proofs.Laws.{over_nothing, lens_long, fixed_long}
use Rattle.layout.proofs.put_fixed.Goals as goal

pub returns-then-out-lt-FIXED_WIDTH : goal.returns-then-out-lt-FIXED_WIDTH
returns-then-out-lt-FIXED_WIDTH c =
    over_nothing _ (fixed_bytes c.args.f) fixed_width
    (fixed_long c.args.f (record { nine = search rules; thirty_one_lem = search rules; four = search rules })) c.if-out-lt-FIXED_WIDTH.true

pub returns : goal.returns
returns c =
    run
    (next {k = 9} c.args.f.serial c.put_text.ensures (search rules)
    (next {k = 31} c.args.f.owner c.put_text-2.ensures (search rules)
    (next _ c.put_lens.ensures (lens_long _)
    (last {k = 4} c.args.f.version c.put_text-3.ensures (search rules)))))
    c.if-out-lt-FIXED_WIDTH.false
