-- What each public function promises: its answer.
use Rattle.std.specs.Prelude.{ℕ, Bool, List, ◌≡◌, eqb, Option}
use Rattle.codec.specs.Codec.{lowest_named}
use Rattle.fixed.specs.Fixed.{kind_ok, letter_ok, fixed_lowest, settings_lowest, fixed_filled, no_fixed}
use Rattle.fixed.specs.declared.Fixed.{Fixed}
use Rattle.fixed.specs.declared.Settings.{Settings}
use Rattle.fixed.specs.declared.Lens.{Lens}

abbrev pub NoFixed : Fixed → Type 0
NoFixed r = r ≡ no_fixed

abbrev pub IsKind : ℕ → Bool → Type 0
IsKind b r = r ≡ kind_ok b

abbrev pub IsLetter : ℕ → Bool → Type 0
IsLetter b r = r ≡ letter_ok b

abbrev pub LowestItem : Fixed → Option ℕ → Type 0
LowestItem f i = i ≡ lowest_named (fixed_lowest f)

abbrev pub LowestSetting : Settings → Option ℕ → Type 0
LowestSetting s i = i ≡ lowest_named (settings_lowest s)

abbrev pub AreSettings : Settings → Bool → Type 0
AreSettings s r = r ≡ eqb (settings_lowest s) 0

abbrev pub FixedFrom : List ℕ → List ℕ → Lens → List ℕ → Fixed → Type 0
FixedFrom serial owner lens version f = f ≡ fixed_filled serial owner lens version
