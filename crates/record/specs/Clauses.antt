-- What each public function promises: its answer.
use Rattle.std.specs.Prelude.{ℕ, ◌≡◌, Option}
use Rattle.codec.specs.Codec.{lowest_named}
use Rattle.record.specs.Record.{figures_lowest, record_lowest, no_record}
use Rattle.record.specs.declared.Record.{Record}
use Rattle.record.specs.declared.Figures.{Figures}

abbrev pub NoRecord : Record → Type 0
NoRecord r = r ≡ no_record

abbrev pub LowestFigure : Figures → ℕ → ℕ → Option ℕ → Type 0
LowestFigure f top most r = r ≡ lowest_named (figures_lowest top most f)

abbrev pub LowestField : Record → Option ℕ → Type 0
LowestField r i = i ≡ lowest_named (record_lowest r)
