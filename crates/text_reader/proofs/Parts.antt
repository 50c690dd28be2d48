-- The text form's groups, in terms of the parts that the code reads. Assumes nothing.
use Prim.Native.Nat.{ℕ}
use mathlib.Core.List.{List}
use mathlib.Core.Path.{◌≡◌, refl}
use native.Mathlib.Omega.{arith}
use borrow.Author.Tests.{eq-eqb}
use lib.ListN.{length, take, drop, length-take, length-drop}
use lib.Seq.{take-take, drop-drop, length-take-le}
use Rattle.std.specs.Prelude.{Option}
use Rattle.laws.proofs.ListLaws.{drop_of_take, last_part}
use Rattle.digits.specs.Digits.{read_decimal}
use Rattle.codec.specs.Codec.{Codec, both, field_says, read_tagged, read_whole, parsed}
use Rattle.codec.proofs.Fields.{read_whole_lem, parsed_whole, tagged_says, tagged_number}
use Rattle.pointed.specs.Pointed.{pointed, read_pointed}
use Rattle.pointed.proofs.Exact.{pointed_read}
use Rattle.stop.specs.Stop.{stop, read_stop_text}
use Rattle.stop.proofs.Exact.{stop_read}
use Rattle.pupil.specs.Pupil.{pupil_text, read_pupil_text, pupil_says}
use Rattle.pupil.proofs.Exact.{text_read, text_width}
use Rattle.record.specs.Forms.{front_text, middle_text, back_by, back_text}
use Rattle.record.specs.Record.{top_distance}
use Rattle.text_reader.specs.Reader.{with_zoom}

pub front_width : front_text.width ≡ 19
unfolding front_text stop
front_width = refl

pub middle_width : middle_text.width ≡ 29
unfolding middle_text
middle_width = refl

pub back_width : (zoom : Codec ℕ) → zoom.width ≡ 5 → (back_by zoom).width ≡ 16
unfolding pointed pupil_text
back_width zoom w = omega (arith, w)

pub back_text_width : back_text.width ≡ 16
unfolding back_text pointed pupil_text
back_text_width = refl

module _ (s : List ℕ) where
  pub front_parts : length s ≡ 19 → parsed front_text 1 s ≡
      both (field_says 1 (read_tagged 68 (read_decimal top_distance) (take 8 s)))
      (both (field_says 2 (read_tagged 84 (read_decimal 4095) (take 5 (drop 8 s))))
      (both (field_says 3 (read_tagged 116 read_stop_text (take 4 (drop 13 s)))) (field_says 4 (read_tagged 43 (read_decimal 9) (take 2 (drop 17 s))))))
  unfolding front_text stop
  front_parts l =
      rw (
        parsed_whole front_text 1 front_width s l,
        drop-drop 5 8 s,
        drop-drop 4 13 s,
        last_part 17 2 s l,
        tagged_number 68 1 10 48 7 top_distance (take 8 s),
        tagged_number 84 2 10 48 4 4095 (take 5 (drop 8 s)),
        tagged_says 116 read_stop_text 3 stop (take 4 (drop 13 s)) (stop_read (drop 1 (take 4 (drop 13 s)))),
        tagged_number 43 4 10 48 1 9 (drop 17 s),
      )

  pub middle_parts : length s ≡ 29 → parsed middle_text 5 s ≡
      both (field_says 5 (read_tagged 90 (read_decimal 1023) (take 5 s)))
      (both (field_says 6 (read_tagged 72 (read_decimal top_distance) (take 8 (drop 5 s))))
      (both (field_says 7 (read_tagged 78 (read_decimal top_distance) (take 8 (drop 13 s)))) (field_says 8 (read_tagged 70 (read_decimal top_distance) (take 8 (drop 21 s))))))
  unfolding middle_text
  middle_parts l =
      rw (
        parsed_whole middle_text 5 middle_width s l,
        drop-drop 8 5 s,
        drop-drop 8 13 s,
        last_part 21 8 s l,
        tagged_number 90 5 10 48 4 1023 (take 5 s),
        tagged_number 72 6 10 48 7 top_distance (take 8 (drop 5 s)),
        tagged_number 78 7 10 48 7 top_distance (take 8 (drop 13 s)),
        tagged_number 70 8 10 48 7 top_distance (drop 21 s),
      )

  pub zoom_parts : (zoom : Option ℕ) → length s ≡ 11 → with_zoom s zoom ≡
      both (field_says 9 (read_whole 6 (read_tagged 86 (read_pointed 4095)) (take 6 s))) (both (pupil_says (read_pupil_text (take 5 (drop 6 s)))) (field_says 11 zoom))
  unfolding with_zoom pointed
  zoom_parts zoom l =
      let view : length (drop 1 (take 6 s)) ≡ 5 = simp (length-drop, length-take) (omega arith) in
      rw (
        eq-eqb (length s) 11 l,
        last_part 6 5 s l,
        read_whole_lem 6 (read_tagged 86 (read_pointed 4095)) (take 6 s) (length-take-le 6 s (omega arith)),
        tagged_says 86 (read_pointed 4095) 9 (pointed 9 3 4095) (take 6 s) (pointed_read 9 3 4095 (drop 1 (take 6 s)) view),
        text_read (drop 6 s) (simp length-drop (omega arith)),
      )

  -- whatever zoom stands behind V and E
  pub back_parts : (zoom : Codec ℕ) (f : Option ℕ) → zoom.width ≡ 5 → length s ≡ 16 → field_says 11 f ≡ zoom.parse (take 5 (drop 11 s)) →
      with_zoom (take 11 s) f ≡ parsed (back_by zoom) 9 s
  unfolding with_zoom pointed
  back_parts zoom f w l e =
      rw (
        parsed_whole (back_by zoom) 9 (back_width zoom w) s l,
        eq-eqb (length (take 11 s)) 11 (length-take-le 11 s (omega arith)),
        take-take 6 11 s (omega arith),
        drop_of_take 6 5 11 s refl,
        text_width,
        drop-drop 5 6 s,
        e,
        last_part 11 5 s l,
      )
