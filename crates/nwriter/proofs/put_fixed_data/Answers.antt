-- `nwriter::put_fixed_data` meets its contract: the three parts, each on from where the one before ended, over the first bytes. Assumes nothing.
use Prim.Native.Nat.{◌<◌}
use mathlib.Core.Path.{sym, ap, ◌∙◌}
use native.Mathlib.Omega.{arith}
use lib.ListN.{length}
use Rattle.laws.specs.Over.{over}
use Rattle.laws.proofs.OverLaws.{over_short, last, next, run_first}
use Rattle.fixed.specs.Form.{fixed_length}
use Rattle.fixed.proofs.Given.{Long}
use Rattle.nwriter.proofs.Printed.{printed, names_long, lens_long, version_long, printed_long}
use borrow.Author.Rules.{rules}
use Rattle.nwriter.proofs.put_fixed_data.Goals as goal

pub returns-in_default : goal.returns-in_default
returns-in_default c =
    let f = c.args.f in
    let long : Long f.serial f.owner f.version = record { nine = search rules; thirty_one_lem = search rules; four = search rules } in
    let short : length c.args.out.now < fixed_length = search rules in
    sym (over_short _ _ 0 (omega (arith, printed_long f long, short)))

pub returns : goal.returns
returns c =
    let f = c.args.f in
    let long : Long f.serial f.owner f.version = record { nine = search rules; thirty_one_lem = search rules; four = search rules } in
    let first = c.in-Some.ensures.cases in
    run_first _ fixed_length first.enough first.same
    (next _ c.put_names.ensures (names_long _ long)
    (next _ c.put_lens.ensures (lens_long _)
    (last _ c.put_version.ensures (version_long _ long))))
    (omega arith)
    ∙ ap (over _ 0) (printed f)
