-- `straight::put_tagged` meets its contract: the tag over the first digit, or the tag and the digits on from where it ended. Assumes nothing.
use mathlib.Core.List.{[], ◌∷◌}
use mathlib.Core.Path.{refl}
use native.Mathlib.Omega.{arith}
use Rattle.laws.proofs.OverLaws.{last, next, run}
use Rattle.digits.proofs.Laws.{length_digits}
use Rattle.straight.proofs.Written.{tag_over}
use Rattle.straight.proofs.put_tagged.Goals as goal

pub returns-then-width-eq3 : goal.returns-then-width-eq3
returns-then-width-eq3 c =
    tag_over c.args.out.now c.args.at c.args.tag c.args.width c.args.n c.put_decimal.ensures c.put_byte.ensures c.requires

pub returns : goal.returns
returns c =
    run
    (next (c.args.tag ∷ []) c.put_byte-2.ensures refl
    (last _ c.put_decimal-2.ensures (length_digits 10 48 (omega arith) c.args.width _)))
    (omega (arith, c.requires))
