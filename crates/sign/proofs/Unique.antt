-- One answer for each contract of this crate. Assumes nothing.
use Prim.Native.Nat.{ℕ}
use mathlib.Core.Bool.{Bool}
use mathlib.Core.Path.{◌≡◌}
use lib.IntN.{ℤ}
use Rattle.laws.proofs.OneAnswer.{one_answer}
use Rattle.sign.specs.Clauses.{IsBelow, SizeOf, SignedOf}

pub one_is_below : (e : ℤ) {r r' : Bool} → IsBelow e r → IsBelow e r' → r ≡ r'
one_is_below e = one_answer

pub one_size_of : (e : ℤ) {r r' : ℕ} → SizeOf e r → SizeOf e r' → r ≡ r'
one_size_of e = one_answer

pub one_signed_of : (below : Bool) (n : ℕ) {r r' : ℤ} → SignedOf below n r → SignedOf below n r' → r ≡ r'
one_signed_of below n = one_answer
