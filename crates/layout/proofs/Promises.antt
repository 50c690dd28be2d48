-- A host that unpacks what was laid has it back, so no two sendable contents lie alike: one law over the width of a number; the places are computed.
-- Assumes nothing.
use Prim.Native.Nat.{ℕ, zero, suc, ◌+◌, ◌-◌, ◌/◌, ◌^◌, ◌<◌}
use mathlib.Core.List.{List, [], ◌++◌, append_assoc}
use mathlib.Core.Path.{◌≡◌, refl, sym, ap, ◌∙◌}
use native.Mathlib.Nat.{pow-succ'}
use native.Mathlib.Omega.{arith}
use borrow.Author.Tests.{leb-true, le-leb, lt-leb}
use lib.Dec.{leb}
use lib.IntN.{ℤ, pos, negsuc}
use lib.ListN.{length, take, drop, get_or, length-append}
use lib.Seq.{take_at, drop_at, drop-append-add, get_or-append-add}
use Rattle.laws.specs.Lowest.{lowest_first, from_lowest}
use Rattle.sign.specs.Sign.{size}
use Rattle.codec.specs.Codec.{failing, first}
use Rattle.codec.proofs.Exact.{first_zero, holds}
use Rattle.stop.specs.Stop.{stop_ok}
use Rattle.stop.proofs.Exact.{stop_top}
use Rattle.record.specs.Record.{top_distance, top_pupil, front_lowest, middle_lowest, back_lowest, figures_lowest, record_lowest}
use Rattle.record.specs.declared.Figures.{Figures}
use Rattle.record.specs.declared.Record.{Record}
use Rattle.record.proofs.Exact.{serial_long}
use Rattle.fixed.specs.Fixed.{lens_lowest, fixed_lowest}
use Rattle.fixed.specs.declared.Fixed.{Fixed}
use Rattle.fixed.proofs.Given.{Long, items_long}
use Rattle.layout.specs.Layout.{four_each, twos, numbers_of, record_bytes, lens_bytes, fixed_bytes}
use Rattle.layout.specs.Unpack.{signed_by, bytes_at, unpack_record, unpack_fixed}
use Rattle.layout.specs.Promises.{Promised}
use Rattle.layout.proofs.Laws.{record_long, fixed_long}

-- the lowest bytes of a number hold it
from_lowest_lem : (w n : ℕ) → n < 256 ^ w → from_lowest (lowest_first w n) ≡ n
unfolding from_lowest lowest_first
from_lowest_lem zero n h = omega arith
from_lowest_lem (suc w) n h = rw (from_lowest_lem w (n / 256) (omega (arith, pow-succ' 256 w))) (omega arith)

-- so they hold a field that is in its range
in_range_lem : (w n top i : ℕ) → top < 256 ^ w → failing (leb n top) (suc i) ≡ 0 → from_lowest (lowest_first w n) ≡ n
in_range_lem w n top i h z = let k = leb-true n top (holds (leb n top) i z) in from_lowest_lem w n (omega arith)

-- two's complement holds a number of 31 bits and a sign
signed_twos : (z : ℤ) → size z < 2 ^ 31 → signed_by (twos z) ≡ z
unfolding signed_by twos
signed_twos (pos n) h = rw (le-leb n 2147483647 (omega arith))
signed_twos (negsuc n) h =
    let e : 4294967295 - (4294967295 - n) ≡ n = omega arith in
    rw (lt-leb (4294967295 - n) 2147483647 (omega arith), e)

twos_fits : (z : ℤ) → size z < 2 ^ 31 → twos z < 256 ^ 4
unfolding twos
twos_fits (pos n) h = omega arith
twos_fits (negsuc n) h = omega arith

pupil_back : (z : ℤ) (i : ℕ) → failing (leb (size z) top_pupil) (suc i) ≡ 0 → signed_by (from_lowest (lowest_first 4 (twos z))) ≡ z
pupil_back z i h =
    let k = leb-true (size z) top_pupil (holds (leb (size z) top_pupil) i h) in
    ap signed_by (from_lowest_lem 4 (twos z) (twos_fits z (omega arith))) ∙ signed_twos z (omega arith)

-- ---- a record

four_zero : (a b c d : ℕ) → first a (first b (first c d)) ≡ 0 → (a ≡ 0) × (b ≡ 0) × (c ≡ 0) × (d ≡ 0)
four_zero a b c d z =
    let p = first_zero a _ z in
    let q = first_zero b _ p.1 in
    let r = first_zero c d q.1 in
    (p.0, q.0, r.0, r.1)

figures_back : (f : Figures) (s : List ℕ) → figures_lowest top_distance top_pupil f ≡ 0 → (unpack_record (four_each (numbers_of f) ++ s)).figures ≡ f
unfolding figures_lowest front_lowest middle_lowest back_lowest four_each numbers_of lowest_first
figures_back f s z =
    let g = first_zero (front_lowest top_distance f) _ z in
    let h = first_zero (middle_lowest top_distance f) _ g.1 in
    let front = four_zero _ _ _ _ g.0 in
    let middle = four_zero _ _ _ _ h.0 in
    let back = first_zero _ _ h.1 in
    let last = first_zero _ _ back.1 in
    let stop = stop_top f.stop (holds (stop_ok f.stop) 2 front.2) in
    λ j. record {
      focus = in_range_lem 4 f.focus top_distance 0 (omega arith) front.0 j;
      aperture = in_range_lem 4 f.aperture 4095 1 (omega arith) front.1 j;
      stop = from_lowest_lem 4 f.stop (omega arith) j;
      tenth = in_range_lem 4 f.tenth 9 3 (omega arith) front.3 j;
      focal = in_range_lem 4 f.focal 1023 4 (omega arith) middle.0 j;
      hyperfocal = in_range_lem 4 f.hyperfocal top_distance 5 (omega arith) middle.1 j;
      near = in_range_lem 4 f.near top_distance 6 (omega arith) middle.2 j;
      far = in_range_lem 4 f.far top_distance 7 (omega arith) middle.3 j;
      view = in_range_lem 4 f.view 4095 8 (omega arith) back.0 j;
      pupil = pupil_back f.pupil 9 last.0 j;
      zoom = in_range_lem 4 f.zoom 1000 10 (omega arith) last.1 j;
    }

record_back : (r : Record) (rest : List ℕ) → record_lowest r ≡ 0 → unpack_record (record_bytes r ++ rest) ≡ r
unfolding record_lowest four_each numbers_of lowest_first
record_back r rest z =
    λ j. record {
      figures = figures_back r.figures (r.serial ++ rest) (first_zero _ _ z).0 j;
      serial = take_at r.serial rest 9 (serial_long r z) j;
    }

-- ---- fixed data

-- what stands past a part of k bytes
past : (p q : List ℕ) (k n : ℕ) → length p ≡ k → drop (k + n) (p ++ q) ≡ drop n q
past p q k n l = ap (λ (x : ℕ). drop (x + n) (p ++ q)) (sym l) ∙ drop-append-add p q n

byte_past : (p q : List ℕ) (k n : ℕ) → length p ≡ k → get_or (p ++ q) (k + n) 0 ≡ get_or q n 0
byte_past p q k n l = ap (λ (x : ℕ). get_or (p ++ q) (x + n) 0) (sym l) ∙ get_or-append-add p q n 0

module _ (f : Fixed) (rest : List ℕ) (long : Long f.serial f.owner f.version) where
  -- the two texts at the start
  texts : List ℕ
  texts = f.serial ++ f.owner

  texts_long : length texts ≡ 40
  unfolding texts
  texts_long = simp (length-append, long.nine, long.thirty_one_lem)

  -- what stands behind them
  behind : List ℕ
  behind = lens_bytes f.lens ++ (f.version ++ rest)

  joined : fixed_bytes f ++ rest ≡ texts ++ behind
  unfolding texts behind
  joined = simp append_assoc

  byte_behind : (n : ℕ) → get_or (fixed_bytes f ++ rest) (40 + n) 0 ≡ get_or behind n 0
  byte_behind n = ap (λ (s : List ℕ). get_or s (40 + n) 0) joined ∙ byte_past texts behind 40 n texts_long

  bytes_behind : (n k : ℕ) → bytes_at (40 + n) k (fixed_bytes f ++ rest) ≡ bytes_at n k behind
  bytes_behind n k = ap (bytes_at (40 + n) k) joined ∙ ap (take k) (past texts behind 40 n texts_long)

  items_back : lens_lowest f.lens ≡ 0 → unpack_fixed (fixed_bytes f ++ rest) ≡ f
  unfolding texts behind lens_lowest lens_bytes lowest_first
  items_back z =
      let z3 = first_zero _ _ z in
      let z4 = first_zero _ _ z3.1 in
      let z5 = first_zero _ _ z4.1 in
      let z6 = first_zero _ _ z5.1 in
      let all : fixed_bytes f ++ rest ≡ f.serial ++ (f.owner ++ behind) = simp append_assoc in
      λ j. record {
        serial = (ap (take 9) all ∙ take_at f.serial _ 9 long.nine) j;
        owner = (ap (bytes_at 9 31) all ∙ ap (take 31) (drop_at f.serial _ 9 long.nine) ∙ take_at f.owner _ 31 long.thirty_one_lem) j;
        lens = record {
          kind = byte_behind 0 j;
          focal = (ap from_lowest (bytes_behind 1 2) ∙ in_range_lem 2 f.lens.focal 999 3 (omega arith) z4.0) j;
          maximum = (ap from_lowest (bytes_behind 3 2) ∙ in_range_lem 2 f.lens.maximum 999 4 (omega arith) z5.0) j;
          letter = byte_behind 5 j;
          transmission = (ap from_lowest (bytes_behind 6 1) ∙ in_range_lem 1 f.lens.transmission 99 6 (omega arith) z6.1) j;
        };
        version = (bytes_behind 7 4 ∙ take_at f.version rest 4 long.four) j;
      }

fixed_back : (f : Fixed) (rest : List ℕ) → fixed_lowest f ≡ 0 → unpack_fixed (fixed_bytes f ++ rest) ≡ f
unfolding fixed_lowest
fixed_back f rest z = items_back f rest (items_long f z) (first_zero (lens_lowest f.lens) _ (first_zero _ _ (first_zero _ _ z).1).1).0

-- ---- both

-- what comes back is told apart
apart : {A : Type 0} (rule : A → ℕ) (bytes : A → List ℕ) (unpack : List ℕ → A) → ((a : A) (rest : List ℕ) → rule a ≡ 0 → unpack (bytes a ++ rest) ≡ a) →
    (a b : A) → rule a ≡ 0 → rule b ≡ 0 → bytes a ≡ bytes b → a ≡ b
apart rule bytes unpack back a b y z e = sym (back a [] y) ∙ ap (λ (s : List ℕ). unpack (s ++ [])) e ∙ back b [] z

pub promised : Promised
unfolding four_each numbers_of lowest_first twos lens_bytes
promised = record {
  of_record = record {
    long = λ r z. record_long r (serial_long r z);
    back = record_back;
    apart = apart record_lowest record_bytes unpack_record record_back;
  };
  of_fixed = record {
    long = λ f z. fixed_long f (items_long f z);
    back = fixed_back;
    apart = apart fixed_lowest fixed_bytes unpack_fixed fixed_back;
  };
  laid_record = λ serial. refl;
  laid_fixed = λ serial owner version. refl;
  no_record = refl;
  no_fixed_lem = refl;
}
