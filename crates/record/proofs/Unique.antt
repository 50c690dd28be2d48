-- One answer for each contract of this crate. Assumes nothing.
use Prim.Native.Nat.{ℕ}
use mathlib.Core.Path.{◌≡◌}
use Rattle.std.specs.Prelude.{Option}
use Rattle.laws.proofs.OneAnswer.{one_answer}
use Rattle.record.specs.Clauses.{NoRecord, LowestFigure, LowestField}
use Rattle.record.specs.declared.Figures.{Figures}
use Rattle.record.specs.declared.Record.{Record}

pub one_lowest_figure : (f : Figures) (top most : ℕ) {r r' : Option ℕ} → LowestFigure f top most r → LowestFigure f top most r' → r ≡ r'
one_lowest_figure f top most = one_answer

pub one_lowest_field : (r : Record) {i i' : Option ℕ} → LowestField r i → LowestField r i' → i ≡ i'
one_lowest_field r = one_answer

pub one_no_record : {r r' : Record} → NoRecord r → NoRecord r' → r ≡ r'
one_no_record = one_answer
