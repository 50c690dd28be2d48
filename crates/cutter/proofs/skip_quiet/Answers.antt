-- `cutter::skip_quiet` meets its contract: each block that it passes has no CR. Assumes nothing.
use Prim.Native.Nat.{◌/◌, ◌*◌}
use mathlib.Core.Path.{◌≡◌, ◌∙◌, sym, subst}
use native.Mathlib.Omega.{arith}
use borrow.Author.Rules.{rules}
use borrow.Author.Tests.{tests}
use lib.ListN.{length}
use Rattle.std.specs.List.{prefix_len}
use Rattle.std.specs.Simd.{first_chunks}
use Rattle.std.proofs.lemmas.Iterator.{YieldsList-from_slice}
use Rattle.std.proofs.lemmas.Iterator.Consumers.{count_from_yields_List}
use Rattle.std.proofs.lemmas.Iterator.Search.{YieldsList-from_take_while}
use Rattle.std.proofs.lemmas.List.Folds.{length-prefix_len}
use Rattle.cutter.specs.Cutter.{quiet, BehindQuiet}
use Rattle.cutter.proofs.Quiet.{quiet_front}
use Rattle.cutter.proofs.skip_quiet.Goals as goal

pub returns : goal.returns
returns c =
    let s = c.args.s.now in
    let t = c.take_while in
    let e : c.count.result ≡ prefix_len quiet (first_chunks 8 (length s / 8) s) =
    count_from_yields_List t.result _ c.count.ensures.ran
    (YieldsList-from_take_while _ quiet (YieldsList-from_slice (first_chunks 8 (length s / 8) s) (cc)) t.ensures.closure t.ensures.done (λ x b q k. search (rules, tests)))
    ∙ length-prefix_len quiet _ in
    subst (λ n. BehindQuiet s (n * 8)) (sym e) (quiet_front s (length s / 8) (omega arith))
