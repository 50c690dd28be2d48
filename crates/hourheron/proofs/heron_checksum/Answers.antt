-- `hourheron::heron_checksum` meets its contract: the two characters. Assumes nothing.
use Prim.Native.Nat.{◌+◌, ◌*◌}
use mathlib.Core.Path.{ap, ◌∙◌}
use Rattle.std.specs.Prelude.{Ok}
use Rattle.frame.specs.declared.Sum.{Sum}
use Rattle.hourheron.specs.Host.{answer_of}
use Rattle.hourheron.proofs.heron_checksum.Goals as goal

pub returns : goal.returns
returns c =
    c.done.ensures ∙ ap (λ (s : Sum). answer_of (Ok (s.high * 256 + s.low))) c.sum_of-sum.ensures
