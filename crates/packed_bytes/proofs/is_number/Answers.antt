-- `packed_bytes::is_number` meets its contract: both of its tests. Assumes nothing.
use Rattle.packed_bytes.proofs.is_number.Goals as goal

pub returns : goal.returns
returns c = rw (c.are_groups.ensures, c.number_in.ensures)
