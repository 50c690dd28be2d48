-- One answer for each contract of this crate. Assumes nothing.
use Prim.Native.Nat.{ℕ}
use mathlib.Core.Bool.{Bool}
use mathlib.Core.List.{List}
use mathlib.Core.Path.{◌≡◌}
use Rattle.std.specs.Prelude.{Option}
use Rattle.laws.proofs.OneAnswer.{one_answer}
use Rattle.fixed.specs.Clauses.{NoFixed, IsKind, IsLetter, LowestItem, LowestSetting, AreSettings, FixedFrom}
use Rattle.fixed.specs.declared.Fixed.{Fixed}
use Rattle.fixed.specs.declared.Lens.{Lens}
use Rattle.fixed.specs.declared.Settings.{Settings}

pub one_no_fixed : {r r' : Fixed} → NoFixed r → NoFixed r' → r ≡ r'
one_no_fixed = one_answer

pub one_is_kind : (b : ℕ) {r r' : Bool} → IsKind b r → IsKind b r' → r ≡ r'
one_is_kind b = one_answer

pub one_is_letter : (b : ℕ) {r r' : Bool} → IsLetter b r → IsLetter b r' → r ≡ r'
one_is_letter b = one_answer

pub one_lowest_item : (f : Fixed) {i i' : Option ℕ} → LowestItem f i → LowestItem f i' → i ≡ i'
one_lowest_item f = one_answer

pub one_lowest_setting : (s : Settings) {i i' : Option ℕ} → LowestSetting s i → LowestSetting s i' → i ≡ i'
one_lowest_setting s = one_answer

pub one_are_settings : (s : Settings) {r r' : Bool} → AreSettings s r → AreSettings s r' → r ≡ r'
one_are_settings s = one_answer

pub one_fixed_from : (serial owner : List ℕ) (lens : Lens) (version : List ℕ) {f f' : Fixed} →
    FixedFrom serial owner lens version f → FixedFrom serial owner lens version f' → f ≡ f'
one_fixed_from serial owner lens version = one_answer
