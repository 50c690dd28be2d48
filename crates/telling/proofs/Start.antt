-- A start is judged by its letter alone: the bench lens is in range with the letter I, and the letter is one row of the table of ranges. Assumes nothing.
use Prim.Native.Nat.{ℕ}
use mathlib.Core.Bool.{true, false, ◌||◌}
use mathlib.Core.Logic.{◌↔◌, ◌⊎◌, inl, inr}
use mathlib.Core.Path.{◌≡◌, refl, sym, ap, ap₂, ◌∙◌}
use native.Mathlib.Omega.{arith}
use borrow.Author.Tests.{eqb-true, eqb-false}
use lib.Dec.{eqb}
use Rattle.std.specs.Prelude.{Err, Ok}
use Rattle.laws.proofs.Tests.{told, never}
use Rattle.refusal.specs.declared.Refusal.TheVariants.{Setting}
use Rattle.refusal.specs.declared.Refusal.{Refusal}
use Rattle.laws.specs.Every.{every}
use Rattle.laws.specs.Within.{within}
use Rattle.codec.specs.Codec.{failing, first, text_ok}
use Rattle.stop.specs.Stop.{stop_ok}
use Rattle.record.specs.Record.{front_lowest, middle_lowest, back_lowest, figures_lowest}
use Rattle.fixed.specs.Fixed.{kind_ok, letter_ok, lens_lowest, fixed_lowest, settings_lowest}
use Rattle.units.specs.Units.{by_unit}
use Rattle.units.specs.Measurement.{measurement_lowest, measurement_verdict}
use Rattle.state.specs.State.{valid_modes, valid_message, valid_source}
use Rattle.line.specs.declared.Line.{Line}
use Rattle.port.specs.declared.Port.{Port}
use Rattle.fixed.proofs.Ranges.{settings_by_table}
use Rattle.bench_lens.specs.Bench.{bench_settings, bench_measurement}
use Rattle.line.specs.Line.{blank, valid_line}
use Rattle.line.proofs.Laws.{blank_valid}
use Rattle.rules.specs.Tight.{bench}
use Rattle.rules.proofs.Tight.{tight}
use Rattle.rules.proofs.Valid.{Valid, valid_told}
use Rattle.port.specs.Port.{unstarted, started_port, valid_port, unit_of}
use Rattle.port.proofs.Promises.{leaves_new, start_verdict_lem, kept_valid, refused_same}
use Rattle.port.proofs.Cases.{good_settings, by_case}
use Rattle.telling.specs.Telling.{start_with, valid_run}
use Rattle.telling.proofs.Laws.{is_ours}

bench_valid : Valid bench
bench_valid = valid_told bench tight.good.valid

abbrev Letter : ℕ → Type 0
Letter l = (l ≡ 73) ⊎ (l ≡ 77) ⊎ (l ≡ 66) ⊎ (l ≡ 98)

module _ (l : ℕ) where
  -- row 6 of the table
  letter_is : (eqb l 73 || eqb l 77 || eqb l 66 || eqb l 98) ≡ true → Letter l
  letter_is h =
      told (eqb l 73)
      (λ y. inl (eqb-true l 73 y))
      (λ a.
      told (eqb l 77)
      (λ y. inr (inl (eqb-true l 77 y)))
      (λ b.
      told (eqb l 66)
      (λ y. inr (inr (inl (eqb-true l 66 y))))
      (λ c. inr (inr (inr (eqb-true l 98 (rw (a, b, c) at h)))))))

  is_letter_lem : Letter l → (eqb l 73 || eqb l 77 || eqb l 66 || eqb l 98) ≡ true
  is_letter_lem (inl e) = rw e
  is_letter_lem (inr (inl e)) = rw e
  is_letter_lem (inr (inr (inl e))) = rw e
  is_letter_lem (inr (inr (inr e))) = rw e

  -- the other rows are those of the bench lens
  settings_fine : (settings_lowest (bench_settings l) ≡ 0) ↔ Letter l
  settings_fine =
      let rows = (settings_by_table (bench_settings l)).all_in in
      let one = (settings_by_table (bench_settings 73)).all_in.0 bench_valid.settings in
      let two = one.1 in
      let three = two.1 in
      let four = three.1 in
      let five = four.1 in (
        λ z. letter_is (rows.0 z).1.1.1.1.1.0,
        λ h. rows.1 (one.0, (two.0, (three.0, (four.0, (five.0, (is_letter_lem h, five.1.1)))))),
      )

  pub start_done : ((start_with l).verdict ≡ Ok tt) ↔ Letter l
  unfolding start_with
  start_done = (
    λ d.
        told (eqb (settings_lowest (bench_settings l)) 0)
        (λ y. settings_fine.0 (eqb-true _ 0 y))
        (λ n.
        let z : (Ok tt) ≡ Err (Setting _) = sym d ∙ (by_case.start unstarted blank _ bench_measurement _).1 (inl (eqb-false _ 0 n, refl)) in
        never (cc)),
    λ h. start_verdict_lem unstarted blank _ _ ∙ good_settings _ bench_measurement (settings_fine.1 h) ∙ bench_valid.measurement,
  )

  pub start_valid : (start_with l).verdict ≡ Ok tt → valid_run (start_with l).run ≡ true
  unfolding start_with
  start_valid d =
      is_ours (start_with l).run
      (record {
        port = kept_valid.start unstarted blank _ _ d;
        line = ap valid_line (leaves_new unstarted blank _ _ d).1 ∙ blank_valid;
        slots = omega arith;
      })

  pub start_is : (start_with l).verdict ≡ Ok tt →
      (start_with l).run ≡ record { port = started_port (bench_settings l) bench_measurement; line = blank; slots = 0; stopped = false }
  unfolding start_with
  start_is d =
      let n = leaves_new unstarted blank (bench_settings l) bench_measurement d in
      ap₂ (λ (p : Port) (q : Line). record { port = p; line = q; slots = 0; stopped = false }) n.0 n.1

  unstarted_none : valid_port unstarted ≡ false
  unfolding valid_port valid_source valid_message valid_modes settings_lowest measurement_verdict measurement_lowest figures_lowest front_lowest middle_lowest back_lowest failing first text_ok every kind_ok letter_ok lens_lowest fixed_lowest by_unit stop_ok within unit_of
  unstarted_none = refl

  pub start_none : (x : Refusal) → (start_with l).verdict ≡ Err x → valid_run (start_with l).run ≡ false
  unfolding start_with valid_run
  start_none x d = rw ((refused_same.start unstarted blank (bench_settings l) bench_measurement x d).0, unstarted_none)
