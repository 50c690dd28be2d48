-- `capture::event_of` meets its contract: its tests are those of `event_of`. Assumes nothing.
use Prim.Native.Nat.{ℕ}
use mathlib.Core.Bool.{cond, ◌&&◌}
use mathlib.Core.List.{List}
use mathlib.Core.Path.{◌≡◌, sym, ap, ap₂, ◌∙◌}
use mir.Syntax.{w32}
use mir.Val.{to_z, of_z}
use mir.Facts.{to_z-of_z}
use native.Mathlib.Omega.{arith}
use borrow.Author.Rules.{rules}
use borrow.Author.Tests.{eq-eqb, ne_eqb}
use lib.Dec.{eqb}
use Rattle.laws.proofs.Tests.{cond_yes, cond_no, and_fails}
use Rattle.units.specs.declared.Measurement.{Measurement}
use Rattle.capture.specs.Words.{word, sole, spaces}
use Rattle.capture.specs.Numbers.{word_value}
use Rattle.capture.specs.Capture.{received_of, slots_of, is_measurement, measurement_at, event_of}
use Rattle.capture.specs.declared.Event.{Event}
use Rattle.capture.specs.declared.Event.TheVariants.{Measured, Other}
use Rattle.capture.proofs.event_of.Goals as goal

-- the event by the first word's byte and the number of spaces
abbrev by : ℕ → ℕ → List ℕ → Event
by kind n s =
    cond (eqb kind 82 && eqb n 1) (received_of (word 1 s))
    (cond (eqb kind 83 && eqb n 1) (slots_of (word 1 s))
    (cond (eqb kind 77 && is_measurement s) (Measured (measurement_at s)) Other))

module _ (s w : List ℕ) {kind n : ℕ} (first : w ≡ word 0 s) (k : kind ≡ sole w) (e : n ≡ spaces s) where
  seen : event_of s ≡ by kind n s
  unfolding event_of
  seen = ap₂ (λ (i j : ℕ). by i j s) (sym (k ∙ ap sole first)) (sym e)

  -- at a byte that is known
  at_byte : (b : ℕ) → kind ≡ b → event_of s ≡ by b n s
  at_byte b h = seen ∙ ap (λ (i : ℕ). by i n s) h

pub returns-in-82 : goal.returns-in-82
returns-in-82 c =
    c.received_of.ensures ∙ ap received_of c.word-in-82.ensures
    ∙ sym (at_byte _ _ c.word.ensures c.sole_byte.ensures c.space_count-pair.ensures 82 c.in-82.is ∙ cond_yes _ _ (eq-eqb _ _ c.if-pair.true))

pub returns-in-83 : goal.returns-in-83
returns-in-83 c =
    c.slots_of.ensures ∙ ap slots_of c.word-in-83.ensures
    ∙ sym (at_byte _ _ c.word.ensures c.sole_byte.ensures c.space_count-pair.ensures 83 c.in-83.is ∙ cond_yes _ _ (eq-eqb _ _ c.if-pair-2.true))

pub returns-in-77 : goal.returns-in-77
unfolding measurement_at
returns-in-77 c =
    let s = c.args.line.now in
    let z : to_z w32 (of_z w32 c.word_value.result) ≡ c.word_value.result = to_z-of_z {w = mir.Syntax.w32} (search rules) in
    let t = z ∙ c.word_value.ensures ∙ ap word_value c.word-in-77-2.ensures in
    let u = c.sole_byte-in-77.ensures ∙ ap sole c.word-in-77.ensures in
    let m : ◌≡◌ {A = Measurement} record {
      unit = c.sole_byte-in-77.result;
      figures = c.figures_at.result;
      temperature = to_z w32 (of_z w32 c.word_value.result);
    } (measurement_at s) = cc in
    ap Measured m
    ∙ sym (at_byte _ _ c.word.ensures c.sole_byte.ensures c.space_count-pair.ensures 77 c.in-77.is ∙ cond_yes _ _ (sym c.is_measurement.ensures ∙ c.if-is_measurement.true))

pub returns-in_default : goal.returns-in_default
returns-in_default c = sym (at_byte _ _ c.word.ensures c.sole_byte.ensures c.space_count-pair.ensures 82 c.in-82.is ∙ cond_no _ _ (ne_eqb _ _ c.if-pair.false))

pub returns-in_default-2 : goal.returns-in_default-2
returns-in_default-2 c = sym (at_byte _ _ c.word.ensures c.sole_byte.ensures c.space_count-pair.ensures 83 c.in-83.is ∙ cond_no _ _ (ne_eqb _ _ c.if-pair-2.false))

pub returns-in_default-3 : goal.returns-in_default-3
returns-in_default-3 c =
    sym (at_byte _ _ c.word.ensures c.sole_byte.ensures c.space_count-pair.ensures 77 c.in-77.is ∙ cond_no _ _ (sym c.is_measurement.ensures ∙ c.if-is_measurement.false))

pub returns-in_default-4 : goal.returns-in_default-4
returns-in_default-4 c =
    let none = seen _ _ c.word.ensures c.sole_byte.ensures c.space_count-pair.ensures in
    let r : c.sole_byte.result ≡ 82 → ⊥ = λ e. omega arith in
    let s : c.sole_byte.result ≡ 83 → ⊥ = λ e. omega arith in
    let m : c.sole_byte.result ≡ 77 → ⊥ = λ e. omega arith in
    sym (none
    ∙ cond_no _ _ (sym (and_fails _ (ne_eqb _ _ r)))
    ∙ cond_no _ _ (sym (and_fails _ (ne_eqb _ _ s)))
    ∙ cond_no _ _ (sym (and_fails _ (ne_eqb _ _ m))))
