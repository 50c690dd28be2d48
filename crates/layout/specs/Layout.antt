-- How a record and fixed data lie in a C host's memory: numbers in whole bytes, lowest first.
use Rattle.std.specs.Prelude.{ℕ, ◌-◌, List, [], ◌∷◌, ◌++◌, ℤ, pos, negsuc}
use Rattle.laws.specs.Lowest.{lowest_first}
use Rattle.record.specs.declared.Figures.{Figures}
use Rattle.record.specs.declared.Record.{Record}
use Rattle.fixed.specs.declared.Fixed.{Fixed}
use Rattle.fixed.specs.declared.Lens.{Lens}

-- numbers one behind the other, four bytes each
unfoldable pub four_each : List ℕ → List ℕ
four_each [] = []
four_each (n ∷ s) = lowest_first 4 n ++ four_each s

-- two's complement in 32 bits
unfoldable pub twos : ℤ → ℕ
twos (pos n) = n
twos (negsuc n) = 4294967295 - n

-- fields 1 to 11
unfoldable pub numbers_of : Figures → List ℕ
numbers_of f =
    f.focus ∷ f.aperture ∷ f.stop ∷ f.tenth ∷ f.focal ∷ f.hyperfocal ∷ f.near ∷ f.far ∷ f.view ∷ twos f.pupil ∷ f.zoom ∷ []

-- a record: fields 1 to 11, then the serial
abbrev pub record_bytes : Record → List ℕ
record_bytes r = four_each (numbers_of r.figures) ++ r.serial

abbrev pub record_width : ℕ
record_width = 53

-- items 3 to 7: one byte, two, two, one, one
unfoldable pub lens_bytes : Lens → List ℕ
lens_bytes l = (l.kind ∷ []) ++ (lowest_first 2 l.focal ++ (lowest_first 2 l.maximum ++ ((l.letter ∷ []) ++ lowest_first 1 l.transmission)))

-- fixed data: the items in order
abbrev pub fixed_bytes : Fixed → List ℕ
fixed_bytes f = f.serial ++ (f.owner ++ (lens_bytes f.lens ++ f.version))

abbrev pub fixed_width : ℕ
fixed_width = 51
