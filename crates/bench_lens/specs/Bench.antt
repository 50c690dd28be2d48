-- The settings and the measurement of document 01's session program, and the start-up letter that it is given.
use Rattle.std.specs.Prelude.{ℕ, List, [], ◌∷◌, pos, replicate}
use Rattle.fixed.specs.declared.Settings.{Settings}
use Rattle.units.specs.declared.Measurement.{Measurement}

-- the start-up letter that a word gives: its first byte, or I (73) where it is empty
unfoldable pub letter_of : List ℕ → ℕ
letter_of [] = 73
letter_of (b ∷ w) = b

-- 4050.0093, BENCH, P, 50, 50, the start-up letter, 95, 4.34, names of spaces, blur circles 250
abbrev pub bench_settings : ℕ → Settings
bench_settings letter = record {
  fixed = record {
    serial = 0x34 ∷ 0x30 ∷ 0x35 ∷ 0x30 ∷ 0x2E ∷ 0x30 ∷ 0x30 ∷ 0x39 ∷ 0x33 ∷ [];
    owner = 0x42 ∷ 0x45 ∷ 0x4E ∷ 0x43 ∷ 0x48 ∷ replicate 26 0x20;
    lens = record { kind = 0x50; focal = 50; maximum = 50; letter = letter; transmission = 95 };
    version = 0x34 ∷ 0x2E ∷ 0x33 ∷ 0x34 ∷ [];
  };
  maker = replicate 15 0x20;
  type_name = replicate 30 0x20;
  blur = replicate 32 250;
}

-- record R, unit I, 21 degrees
abbrev pub bench_measurement : Measurement
bench_measurement = record {
  unit = 0x49;
  figures = record {
    focus = 798;
    aperture = 680;
    stop = 56;
    tenth = 5;
    focal = 0;
    hyperfocal = 6123;
    near = 711;
    far = 909;
    view = 273;
    pupil = pos 23;
    zoom = 0;
  };
  temperature = pos 21;
}
