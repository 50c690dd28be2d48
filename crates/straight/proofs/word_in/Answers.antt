-- `straight::word_in` meets its contract: the library's word of these bytes. Assumes nothing.
use Rattle.std.proofs.Common.{◌∙◌}
use Rattle.straight.proofs.Xor.{eight_in}
use Rattle.straight.proofs.word_in.Goals as goal

pub returns : goal.returns
returns c = c.from_le_bytes.ensures ∙ eight_in c.args.s.now c.requires
