-- `frame::is_summed` meets its contract: the two bytes at the place are those of the checksum. Assumes nothing.
use Rattle.std.proofs.Common.{◌≡◌, ◌+◌, ◌-◌, ◌&&◌, eqb, get_or, ap, ◌∙◌, arith}
use Rattle.std.proofs.Math.Bool.{and-true}
use Rattle.frame.specs.Frame.{sums}
use Rattle.frame.specs.declared.Sum.{Sum}
use Rattle.frame.proofs.Pair.{pair_at}
use Rattle.frame.proofs.is_summed.Goals as goal

pub returns : goal.returns
unfolding sums
returns c =
    let m = c.args.m.now in
    let w = c.args.width in
    let two : w + 2 - w ≡ 2 = omega arith in
    c.eq.ensures ∙ rw (two, pair_at m w c.requires, and-true)
    (ap (λ (x : Sum). eqb (get_or m w 0) x.high && eqb (get_or m (w + 1) 0) x.low) c.sum_of-sum.ensures)
