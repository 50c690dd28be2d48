-- The bytes of a word, taken together.
use Rattle.std.specs.Prelude.{ℕ, zero, suc, ◌/◌, ◌%◌}
use Rattle.std.specs.Int.Bits.{bit_xor}

-- the exclusive-or of the k lowest bytes of a word
unfoldable pub together : ℕ → ℕ → ℕ
together zero w = 0
together (suc k) w = bit_xor (w % 256) (together k (w / 256))
