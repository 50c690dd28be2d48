-- What the code of a message works out on the way.
use Rattle.std.specs.Prelude.{ℕ, ◌+◌, Bool, List, take}
use Rattle.laws.specs.Over.{over}
use Rattle.frame.specs.Frame.{ending, ending_width}
use Rattle.state.specs.declared.Message.{Message}

-- the first n bytes of a buffer, ended
unfoldable pub closed_of : List ℕ → ℕ → Bool → Message
closed_of bytes n checksum = record { bytes = over bytes n (ending checksum (take n bytes)); len = n + ending_width checksum; at = 0 }
