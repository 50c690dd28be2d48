-- "The driver keeps one line collector and has it updated there by each received byte."
use Rattle.std.specs.Prelude.{ℕ, true, false, cond}
use Rattle.refusal.specs.Refusal.{number_of}
use Rattle.refusal.specs.declared.Refusal.TheVariants as refusal
use Rattle.line.specs.declared.Line.{Line}
use Rattle.line.specs.Line.{blank, ends, joined, valid_line}
use Rattle.collector.specs.declared.Collected.{Collected}
use Rattle.collector.specs.declared.Updated.{Updated}

-- the collector afterwards: a count past its buffer is left alone, a carriage return empties the line, another byte joins it
unfoldable pub line_after : Line → ℕ → Line
line_after l b = cond (valid_line l) (cond (ends l b) blank (joined l b)) l

-- what is answered: the line that a carriage return ended; 16 comes before all
unfoldable pub collected : Line → ℕ → Collected
collected l b =
    cond (valid_line l)
    (cond (ends l b) (record { number = 0; ended = true; line = l }) (record { number = 0; ended = false; line = blank }))
    (record { number = number_of refusal.State; ended = false; line = blank })

-- both, by value
abbrev pub updated : Line → ℕ → Updated
updated l b = record { line = line_after l b; answer = collected l b }
