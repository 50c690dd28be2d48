-- One answer for each contract of this crate. Assumes nothing.
use Prim.Native.Nat.{ℕ}
use mathlib.Core.Bool.{Bool}
use mathlib.Core.List.{List}
use mathlib.Core.Path.{◌≡◌}
use denote.Ref.{Bor}
use Rattle.laws.proofs.OneAnswer.{one_answer}
use Rattle.fixed.specs.declared.Fixed.{Fixed}
use Rattle.refusal.specs.Answer.{Answer}
use Rattle.nreader.specs.Reader.{PartIs}
use Rattle.nreader.specs.Clauses.{ReadFixed, TrimmedLength, OwnerPart}

pub one_read_fixed : (m : List ℕ) (checksum : Bool) {r r' : Answer Fixed} → ReadFixed m checksum r → ReadFixed m checksum r' → r ≡ r'
one_read_fixed m checksum = one_answer

pub one_trimmed_length : (s : List ℕ) {r r' : ℕ} → TrimmedLength s r → TrimmedLength s r' → r ≡ r'
one_trimmed_length s = one_answer

-- two parts at one place with the same bytes; a reference's ghost name is no machine value, and nothing fixes it
pub one_part : {m : Bor (List ℕ)} {a n : ℕ} {r r' : Bor (List ℕ)} → PartIs m a n r → PartIs m a n r' → (r.ref_ptr ≡ r'.ref_ptr) × (r.now ≡ r'.now)
one_part p q = (one_answer p.place q.place, one_answer p.bytes q.bytes)

pub one_owner_part : (m : Bor (List ℕ)) (checksum : Bool) {r r' : Bor (List ℕ)} →
    OwnerPart m checksum r → OwnerPart m checksum r' → (r.ref_ptr ≡ r'.ref_ptr) × (r.now ≡ r'.now)
one_owner_part m checksum = one_part
