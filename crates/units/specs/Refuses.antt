-- When the conversion and the check of a measurement refuse: 1, exactly in its case and with its value. Statements only.
use Rattle.std.specs.Prelude.{ℕ, ◌≤◌, ◌↔◌, ◌⊎◌, ◌≡◌, ℤ, pos, Err}
use Rattle.sign.specs.Sign.{size}
use Rattle.refusal.specs.declared.Refusal.{Refusal}
use Rattle.refusal.specs.declared.Refusal.TheVariants.{Field}
use Rattle.codec.specs.Ranges.{FirstOut}
use Rattle.units.specs.Units.{top_in, most_in, conversion}
use Rattle.units.specs.Measurement.{measurement_verdict}
use Rattle.units.specs.Ranges.{measurement_ranges}
use Rattle.units.specs.declared.Measurement.{Measurement}

-- I or M
abbrev pub UnitLetter : ℕ → Type 0
UnitLetter u = (u ≡ 73) ⊎ (u ≡ 77)

-- "one of the five", and the number in its unit's range: a distance, or the pupil
abbrev pub Convertible : ℕ → ℤ → ℕ → Type 0
Convertible i z unit =
    (((i ≡ 1) ⊎ (i ≡ 6) ⊎ (i ≡ 7) ⊎ (i ≡ 8)) × ((n : ℕ) × (z ≡ pos n) × (n ≤ top_in unit))) ⊎ ((i ≡ 10) × (size z ≤ most_in unit))

-- "refusal 1 with 0 for a bad unit letter, else with the field asked for"
abbrev pub ConvertWhen : ℕ → ℤ → ℕ → ℕ → Refusal → Type 0
ConvertWhen i z unit wanted r =
    ((UnitLetter unit × UnitLetter wanted → ⊥) × (r ≡ Field 0)) ⊎ ((UnitLetter unit × UnitLetter wanted) × ((Convertible i z unit → ⊥) × (r ≡ Field i)))

-- "lowest field; unit letter 0, temperature 13"
abbrev pub CheckWhen : Measurement → Refusal → Type 0
CheckWhen m r = ((UnitLetter m.unit → ⊥) × (r ≡ Field 0)) ⊎ (UnitLetter m.unit × ((i : ℕ) × FirstOut (measurement_ranges m) i × (r ≡ Field i)))

pub record UnitsRefuse : Type 0 where
  pub convert_when : (i : ℕ) (z : ℤ) (unit wanted : ℕ) (r : Refusal) → (conversion i z unit wanted ≡ Err r) ↔ ConvertWhen i z unit wanted r
  pub check_when : (m : Measurement) (r : Refusal) → (measurement_verdict m ≡ Err r) ↔ CheckWhen m r
