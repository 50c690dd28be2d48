-- What each public function promises: its answer.
use Rattle.std.specs.Prelude.{ℕ, Bool, ◌≡◌, ℤ}
use Rattle.sign.specs.Sign.{size, below0, signed_of}

abbrev pub IsBelow : ℤ → Bool → Type 0
IsBelow e r = r ≡ below0 e

abbrev pub SizeOf : ℤ → ℕ → Type 0
SizeOf e r = r ≡ size e

abbrev pub SignedOf : Bool → ℕ → ℤ → Type 0
SignedOf below n r = r ≡ signed_of below n
