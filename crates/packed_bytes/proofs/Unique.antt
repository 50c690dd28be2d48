-- One answer for each public contract of this crate. Assumes nothing.
use Prim.Native.Nat.{ℕ}
use mathlib.Core.Bool.{Bool}
use mathlib.Core.List.{List}
use mathlib.Core.Path.{◌≡◌, sym, ◌∙◌}
use Rattle.laws.proofs.OneAnswer.{one_answer}
use Rattle.packed_bytes.specs.Clauses.{Quad, NumberIn, StopIn, SignIn, IsRight}

pub one_quad : (a b c d : ℕ) {r r' : ℕ} → Quad a b c d r → Quad a b c d r' → r ≡ r'
one_quad a b c d p q = p.0 ∙ sym q.0

pub one_number_in : (s : List ℕ) {r r' : ℕ} → NumberIn s r → NumberIn s r' → r ≡ r'
one_number_in s = one_answer

pub one_stop_in : (a b : ℕ) {r r' : ℕ} → StopIn a b r → StopIn a b r' → r ≡ r'
one_stop_in a b = one_answer

pub one_sign_in : (code : ℕ) {r r' : ℕ} → SignIn code r → SignIn code r' → r ≡ r'
one_sign_in code = one_answer

pub one_is_right : (m : List ℕ) (checksum : Bool) {r r' : Bool} → IsRight m checksum r → IsRight m checksum r' → r ≡ r'
one_is_right m checksum = one_answer
