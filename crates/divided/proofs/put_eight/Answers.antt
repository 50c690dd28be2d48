-- `divided::put_eight` meets its contract: the library's bytes are those of the word, and the part copied to is one write. Assumes nothing.
use Rattle.std.proofs.Common.{refl, ◌∙◌}
use Rattle.laws.specs.Lowest.{lowest_first}
use Rattle.divided.proofs.Stored.{eight_bytes, copied}
use Rattle.divided.proofs.put_eight.Goals as goal

pub returns : goal.returns
unfolding lowest_first
returns c = copied _ _ (lowest_first 8 c.args.w) _ 8 (c.copy_from_slice.ensures.after ∙ c.to_le_bytes.ensures ∙ eight_bytes c.args.w) refl c.requires
