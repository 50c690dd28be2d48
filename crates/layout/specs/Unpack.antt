-- What a C host finds in the bytes: the definitions of include/hourheron.h's unpackers, place by place.
use Rattle.std.specs.Prelude.{ℕ, ◌-◌, cond, List, leb, ℤ, pos, negsuc, take, drop, get_or}
use Rattle.laws.specs.Lowest.{from_lowest}
use Rattle.record.specs.declared.Record.{Record}
use Rattle.fixed.specs.declared.Fixed.{Fixed}

-- n bytes from a place on
abbrev pub bytes_at : ℕ → ℕ → List ℕ → List ℕ
bytes_at at n s = take n (drop at s)

-- the number in w bytes from a place on: heron_u16_at, heron_u32_at
abbrev pub number_at : ℕ → ℕ → List ℕ → ℕ
number_at at w s = from_lowest (bytes_at at w s)

-- heron_i32_at: past 2^31 - 1 stand the numbers below zero
unfoldable pub signed_by : ℕ → ℤ
signed_by n = cond (leb n 2147483647) (pos n) (negsuc (4294967295 - n))

-- heron_record_unpack
abbrev pub unpack_record : List ℕ → Record
unpack_record s = record {
  figures = record {
    focus = number_at 0 4 s;
    aperture = number_at 4 4 s;
    stop = number_at 8 4 s;
    tenth = number_at 12 4 s;
    focal = number_at 16 4 s;
    hyperfocal = number_at 20 4 s;
    near = number_at 24 4 s;
    far = number_at 28 4 s;
    view = number_at 32 4 s;
    pupil = signed_by (number_at 36 4 s);
    zoom = number_at 40 4 s;
  };
  serial = bytes_at 44 9 s;
}

-- heron_fixed_unpack
abbrev pub unpack_fixed : List ℕ → Fixed
unpack_fixed s = record {
  serial = bytes_at 0 9 s;
  owner = bytes_at 9 31 s;
  lens = record {
    kind = get_or s 40 0;
    focal = number_at 41 2 s;
    maximum = number_at 43 2 s;
    letter = get_or s 45 0;
    transmission = number_at 46 1 s;
  };
  version = bytes_at 47 4 s;
}
