-- What each public function promises: its answer.
use Rattle.std.specs.Prelude.{ℕ, List, ◌≡◌, Result}
use Rattle.refusal.specs.declared.Wrong.{Wrong}
use Rattle.record.specs.declared.Record.{Record}
use Rattle.record.specs.declared.Figures.{Figures}
use Rattle.refusal.specs.Answer.{Answer}
use Rattle.codec.specs.Codec.{mapped, both}
use Rattle.frame.specs.Message.{found}
use Rattle.record.specs.Forms.{figures_of}
use Rattle.gather.specs.Gather.{four_says, three_says, eleven_says, record_says, Four, Three}

abbrev pub Gather : Four → Four → Three → Result Figures Wrong → Type 0
Gather front middle back r = eleven_says r ≡ mapped figures_of (both (four_says front) (both (four_says middle) (three_says back)))

abbrev pub WithSerial : Result Figures Wrong → List ℕ → Answer Record → Type 0
WithSerial eleven s a = a ≡ found (record_says eleven s)
