-- What the bytes of a record and of fixed data say to a C host. Statements only: proofs/Promises.antt proves each.
-- `rule` is the lowest field or item out of range: 0 where the contents are sendable.
use Rattle.std.specs.Prelude.{ℕ, List, ◌∷◌, ◌++◌, ◌≡◌, negsuc, length, replicate}
use Rattle.record.specs.Record.{record_lowest, no_record}
use Rattle.record.specs.declared.Record.{Record}
use Rattle.fixed.specs.Fixed.{fixed_lowest, no_fixed}
use Rattle.fixed.specs.declared.Fixed.{Fixed}
use Rattle.layout.specs.Layout.{record_bytes, record_width, fixed_bytes, fixed_width}
use Rattle.layout.specs.Unpack.{unpack_record, unpack_fixed}

pub record Unpacks {A : Type 0} (rule : A → ℕ) (bytes : A → List ℕ) (width : ℕ) (unpack : List ℕ → A) : Type 0 where
  -- sendable contents take this many bytes,
  pub long : (a : A) → rule a ≡ 0 → length (bytes a) ≡ width
  -- a host that unpacks its memory, whatever stands past them, has them back,
  pub back : (a : A) (rest : List ℕ) → rule a ≡ 0 → unpack (bytes a ++ rest) ≡ a
  -- and no two of them lie alike
  pub apart : (a b : A) → rule a ≡ 0 → rule b ≡ 0 → bytes a ≡ bytes b → a ≡ b

-- a record and fixed data in which each number is told from its neighbours; the pupil is -2
abbrev pub some_record : List ℕ → Record
some_record serial = record {
  figures = record {
    focus = 0x030201;
    aperture = 0x0504;
    stop = 6;
    tenth = 7;
    focal = 0x0108;
    hyperfocal = 9;
    near = 10;
    far = 11;
    view = 12;
    pupil = negsuc 1;
    zoom = 13;
  };
  serial = serial;
}

abbrev pub some_fixed : List ℕ → List ℕ → List ℕ → Fixed
some_fixed serial owner version = record {
  serial = serial;
  owner = owner;
  lens = record { kind = 80; focal = 0x0201; maximum = 0x0103; letter = 73; transmission = 95 };
  version = version;
}

pub record Promised : Type 0 where
  pub of_record : Unpacks record_lowest record_bytes record_width unpack_record
  pub of_fixed : Unpacks fixed_lowest fixed_bytes fixed_width unpack_fixed
  -- fields 1 to 11 in order, four bytes each, lowest first, two's complement; then the serial
  pub laid_record : (serial : List ℕ) →
      record_bytes (some_record serial) ≡
      1 ∷ 2 ∷ 3 ∷ 0 ∷ 4 ∷ 5 ∷ 0 ∷ 0 ∷ 6 ∷ 0 ∷ 0 ∷ 0 ∷ 7 ∷ 0 ∷ 0 ∷ 0 ∷ 8 ∷ 1 ∷ 0 ∷ 0 ∷ 9 ∷ 0 ∷ 0 ∷ 0 ∷ 10 ∷ 0 ∷ 0 ∷ 0 ∷ 11 ∷ 0 ∷ 0 ∷ 0 ∷ 12 ∷ 0 ∷ 0 ∷ 0 ∷
      0xFE ∷ 0xFF ∷ 0xFF ∷ 0xFF ∷ 13 ∷ 0 ∷ 0 ∷ 0 ∷ serial
  -- the items in order: texts as they are, 3 and 6 a byte each, 4 and 5 two, 7 one
  pub laid_fixed : (serial owner version : List ℕ) →
      fixed_bytes (some_fixed serial owner version) ≡ serial ++ (owner ++ 80 ∷ 1 ∷ 2 ∷ 3 ∷ 1 ∷ 73 ∷ 95 ∷ version)
  -- "Whatever else a refusal could return is zero": every byte of what stands beside a refusal
  pub no_record : record_bytes no_record ≡ replicate record_width 0
  pub no_fixed_lem : fixed_bytes no_fixed ≡ replicate fixed_width 0
