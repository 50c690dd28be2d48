-- `units::convert` meets its contract: the letters, each tested once. Assumes nothing.
use Prim.Native.Nat.{ℕ}
use mathlib.Core.Bool.{true, false, ◌&&◌, ◌||◌}
use mathlib.Core.Path.{◌≡◌, refl, sym, ◌∙◌}
use lib.IntN.{ℤ}
use mir.Facts.{to_z-of_z}
use borrow.Author.Rules.{rules}
use borrow.Author.Tests.{ne_eqb}
use Rattle.std.specs.Prelude.{Err, Ok}
use Rattle.laws.proofs.Tests.{no, and_fails, and_fails_by}
use Rattle.refusal.specs.Answer.{Answer, unless}
use Rattle.refusal.specs.declared.Refusal.TheVariants.{Field}
use Rattle.units.specs.Units.{is_unit, number_in, in_range, conversion}
use Rattle.units.proofs.convert.Goals as goal

wrong : (i : ℕ) (z : ℤ) (unit wanted : ℕ) → false ≡ (is_unit unit && is_unit wanted) → Err (Field 0) ≡ conversion i z unit wanted
unfolding conversion unless
wrong i z unit wanted e = no _ (sym e) refl

-- of the letter u; the number that the call takes is the caller's own
right : (i : ℕ) {y z : ℤ} (u : ℕ) {unit : ℕ} (wanted : ℕ) {r : Answer ℤ} → y ≡ z → is_unit u ≡ true → unit ≡ u → is_unit wanted ≡ true →
    r ≡ unless (in_range i y u) (Field i) (Ok (number_in u wanted y)) → r ≡ conversion i z unit wanted
unfolding conversion unless
right i u wanted own p e q h = h ∙ rw (own, e, p, q)

pub returns-then-not-is_unit : goal.returns-then-not-is_unit
returns-then-not-is_unit c = wrong _ _ _ _ (and_fails_by (is_unit c.args.unit) (sym c.is_unit.ensures ∙ c.if-not-is_unit.true))

pub returns-in-73 : goal.returns-in-73
returns-in-73 c =
    right _ 73 _ (to_z-of_z c.ranges.number) refl c.in-73.is (sym c.is_unit.ensures ∙ c.if-not-is_unit.false) c.convert_from.ensures

pub returns-in-77 : goal.returns-in-77
returns-in-77 c =
    right _ 77 _ (to_z-of_z c.ranges.number) refl c.in-77.is (sym c.is_unit.ensures ∙ c.if-not-is_unit.false) c.convert_from-in-77.ensures

pub returns-in_default : goal.returns-in_default
returns-in_default c = wrong _ _ _ _ (and_fails _ (λ i. ne_eqb c.args.unit 73 (search rules) i || ne_eqb c.args.unit 77 (search rules) i))
