-- One answer for each contract of this crate. Assumes nothing.
use Prim.Native.Nat.{ℕ}
use mathlib.Core.Bool.{Bool}
use mathlib.Core.List.{List}
use mathlib.Core.Path.{◌≡◌}
use Rattle.laws.proofs.OneAnswer.{one_answer}
use Rattle.gather.specs.Gather.{Four, Three}
use Rattle.record.specs.declared.Record.{Record}
use Rattle.refusal.specs.Answer.{Answer}
use Rattle.gather.proofs.Unique.{one_four, one_three}
use Rattle.packed_reader.specs.Clauses.{ReadFront, ReadMiddle, ReadBack, ReadContents, ReadPacked}

pub one_read_front : (s : List ℕ) {r r' : Four} → ReadFront s r → ReadFront s r' → r ≡ r'
one_read_front s = one_four

pub one_read_middle : (s : List ℕ) {r r' : Four} → ReadMiddle s r → ReadMiddle s r' → r ≡ r'
one_read_middle s = one_four

pub one_read_back : (s : List ℕ) {r r' : Three} → ReadBack s r → ReadBack s r' → r ≡ r'
one_read_back s = one_three

pub one_read_contents : (s : List ℕ) {a a' : Answer Record} → ReadContents s a → ReadContents s a' → a ≡ a'
one_read_contents s = one_answer

pub one_read_packed : (m : List ℕ) (checksum : Bool) {a a' : Answer Record} → ReadPacked m checksum a → ReadPacked m checksum a' → a ≡ a'
one_read_packed m checksum = one_answer
