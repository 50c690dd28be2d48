-- `divided::put_four` meets its contract: the library's bytes are those of the word, and the part copied to is one write. Assumes nothing.
use Rattle.std.proofs.Common.{refl, ◌∙◌}
use Rattle.laws.specs.Lowest.{lowest_first}
use Rattle.divided.proofs.Stored.{four_bytes, copied}
use Rattle.divided.proofs.put_four.Goals as goal

pub returns : goal.returns
unfolding lowest_first
returns c = copied _ _ (lowest_first 4 c.args.w) _ 4 (c.copy_from_slice.ensures.after ∙ c.to_le_bytes.ensures ∙ four_bytes c.args.w) refl c.requires
