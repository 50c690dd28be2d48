-- The line collector, by value.
use Rattle.std.specs.Prelude.{ℕ, ◌+◌, Bool, true, false, cond, List, ltb, leb, eqb, replicate, set}
use Rattle.line.specs.declared.Line.{Line}

-- a line keeps at most so many bytes
abbrev pub line_length : ℕ
line_length = 64

unfoldable pub zeros : List ℕ
zeros = replicate line_length 0

-- the empty line
abbrev pub blank : Line
blank = record { bytes = zeros; len = 0; overlong = false }

-- the byte that ends a line
abbrev pub CR : ℕ
CR = 13

-- a carriage return ends the line, whatever stands in it
unfoldable pub ends : Line → ℕ → Bool
ends l b = eqb b CR

-- a received byte joins the line; a full one, or a count past it, keeps what it has and is marked overlong
unfoldable pub joined : Line → ℕ → Line
joined l b =
    cond (ltb l.len line_length)
    (record { bytes = set l.bytes l.len b; len = l.len + 1; overlong = l.overlong })
    (record { bytes = l.bytes; len = l.len; overlong = true })

-- a count past its buffer is refused with 16; the bytes may be anything
abbrev pub valid_line : Line → Bool
valid_line l = leb l.len line_length
