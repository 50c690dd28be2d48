-- What the recorder makes of a piece, by what its cutter says: the answer, and what is left. Assumes nothing.
use Prim.Native.Nat.{ℕ}
use mathlib.Core.List.{List}
use mathlib.Core.Path.{◌≡◌, refl}
use Rattle.cutter.specs.Cutter.{Said, invalid, nothing, ended, cut_of, answer_by, left_by_said}
use Rattle.cutter.specs.declared.Cutter.{Cutter}
use Rattle.recorder.specs.Recorder.{take_by, take_of}
use Rattle.recorder.specs.declared.Recorder.{Recorder}
use Rattle.hourheron.specs.Takes.{lay_in, lay_left, reading_by, take_in, take_left}

-- ---- a piece

module _ (r : Recorder) (out : List ℕ) where
  in_by : (said : Said) (n : ℕ) (c : Cutter) → take_in (take_by r said n c).made out ≡ answer_by (λ m. lay_in (reading_by r m) out) said
  unfolding take_in take_by answer_by
  in_by invalid n c = refl
  in_by nothing n c = refl
  in_by (ended m) n c = refl

  left_by_lem : (said : Said) (n : ℕ) (c : Cutter) → take_left (take_by r said n c).made out ≡ left_by_said (λ m d. lay_left (reading_by r m) d) said out
  unfolding take_left take_by left_by_said
  left_by_lem invalid n c = refl
  left_by_lem nothing n c = refl
  left_by_lem (ended m) n c = refl

  module _ (p : List ℕ) where
    pub taken_in_lem : take_in (take_of r p).made out ≡ answer_by (λ m. lay_in (reading_by r m) out) (cut_of r.cutter p).said
    unfolding take_of
    taken_in_lem = in_by (cut_of r.cutter p).said (cut_of r.cutter p).used (cut_of r.cutter p).cutter

    pub taken_left : take_left (take_of r p).made out ≡ left_by_said (λ m d. lay_left (reading_by r m) d) (cut_of r.cutter p).said out
    unfolding take_of
    taken_left = left_by_lem (cut_of r.cutter p).said (cut_of r.cutter p).used (cut_of r.cutter p).cutter
