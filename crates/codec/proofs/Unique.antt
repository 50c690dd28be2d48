-- One answer, and one content of lent memory, for each contract of this crate. Assumes nothing.
use Prim.Native.Nat.{ℕ}
use mathlib.Core.Bool.{Bool}
use mathlib.Core.List.{List}
use mathlib.Core.Path.{◌≡◌}
use Rattle.std.specs.Prelude.{Option}
use Rattle.laws.proofs.OneAnswer.{one_answer}
use Rattle.codec.specs.Clauses.{IsText, IsBehind, PutItem, PutTagged, ReadTagged}

pub one_is_text : (s : List ℕ) {r r' : Bool} → IsText s r → IsText s r' → r ≡ r'
one_is_text s = one_answer

pub one_is_behind : (s tags : List ℕ) {r r' : Bool} → IsBehind s tags r → IsBehind s tags r' → r ≡ r'
one_is_behind s tags = one_answer

pub one_put_item : (item text : List ℕ) {after after' : List ℕ} → PutItem item text after → PutItem item text after' → after ≡ after'
one_put_item item text = one_answer

pub one_put_tagged : (out : List ℕ) (at tag width n : ℕ) {after after' : List ℕ} →
    PutTagged out at tag width n after → PutTagged out at tag width n after' → after ≡ after'
one_put_tagged out at tag width n = one_answer

pub one_read_tagged : (s : List ℕ) (tag top : ℕ) {r r' : Option ℕ} → ReadTagged s tag top r → ReadTagged s tag top r' → r ≡ r'
one_read_tagged s tag top = one_answer
