-- The packed form's groups, in terms of the parts that the code reads. Assumes nothing.
use Prim.Native.Nat.{ℕ}
use mathlib.Core.List.{List}
use mathlib.Core.Path.{◌≡◌, refl}
use native.Mathlib.Omega.{arith}
use lib.ListN.{length, take, drop, get_or, length-drop}
use lib.Seq.{drop-drop, get_or-drop, length-take-le}
use Rattle.laws.proofs.ListLaws.{last_part}
use Rattle.digits.specs.Digits.{read_groups}
use Rattle.codec.specs.Codec.{both, field_says, read_tagged, parsed}
use Rattle.codec.proofs.Fields.{parsed_whole, tagged_number}
use Rattle.stop.specs.Stop.{pair, read_stop, read_tenth}
use Rattle.stop.proofs.Exact.{pair_read}
use Rattle.pupil.specs.Pupil.{pupil_packed, read_pupil_packed, pupil_says}
use Rattle.pupil.proofs.Exact.{packed_read, packed_width}
use Rattle.record.specs.Record.{top_distance}
use Rattle.record.specs.Forms.{front_packed, middle_packed, back_packed}

pub front_width : front_packed.width ≡ 9
unfolding front_packed pair
front_width = refl

pub middle_width : middle_packed.width ≡ 14
unfolding middle_packed
middle_width = refl

pub back_width : back_packed.width ≡ 6
unfolding back_packed pupil_packed
back_width = refl

module _ (s : List ℕ) where
  pub front_parts : length s ≡ 9 → parsed front_packed 1 s ≡
      both (field_says 1 (read_tagged 100 (read_groups top_distance) (take 5 s)))
      (both (field_says 2 (read_groups 4095 (take 2 (drop 5 s))))
      (both (field_says 3 (read_stop (get_or s 7 0) (get_or s 8 0))) (field_says 4 (read_tenth (get_or s 8 0)))))
  unfolding front_packed
  front_parts l = rw (parsed_whole front_packed 1 front_width s l, tagged_number 100 1 64 64 4 top_distance (take 5 s), drop-drop 2 5 s, ← pair_read (drop 7 s), get_or-drop 7 s 0 0, get_or-drop 7 s 1 0)

  pub middle_parts : length s ≡ 14 → parsed middle_packed 5 s ≡
      both (field_says 5 (read_groups 1023 (take 2 s)))
      (both (field_says 6 (read_groups top_distance (take 4 (drop 2 s))))
      (both (field_says 7 (read_groups top_distance (take 4 (drop 6 s)))) (field_says 8 (read_groups top_distance (take 4 (drop 10 s))))))
  unfolding middle_packed
  middle_parts l = rw (parsed_whole middle_packed 5 middle_width s l, drop-drop 4 2 s, drop-drop 4 6 s, last_part 10 4 s l)

  pub back_parts : length s ≡ 6 → parsed back_packed 9 s ≡
      both (field_says 9 (read_groups 4095 (take 2 s)))
      (both (pupil_says (read_pupil_packed (take 2 (drop 2 s)))) (field_says 11 (read_groups 1000 (take 2 (drop 4 s)))))
  unfolding back_packed
  back_parts l =
      let two : length (take 2 (drop 2 s)) ≡ 2 = length-take-le 2 (drop 2 s) (simp length-drop (omega arith)) in
      rw (parsed_whole back_packed 9 back_width s l, packed_width, drop-drop 2 2 s, ← packed_read (take 2 (drop 2 s)) two, last_part 4 2 s l)
