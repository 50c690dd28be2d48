-- Document 01's bench figures marked *: one table, one statement; the figure that [5] amends; those of [6]'s old line; [7]'s messages of R; and the
-- refusal numbers of R and the session's settings, each made wrong in one way.
use Rattle.std.specs.Prelude.{ℕ, true, false, List, [], ◌∷◌, ◌++◌, ◌≡◌, ℤ, pos, negsuc, take, drop, replicate, Err, Ok}
use Rattle.refusal.specs.Answer.{Answer}
use Rattle.refusal.specs.Refusal.{number_of, value_of}
use Rattle.refusal.specs.declared.Refusal.TheVariants.{Field, Length, Checksum, Contents, Setting, Lost}
use Rattle.codec.specs.Codec.{got, wrong}
use Rattle.codec.specs.Places.{field_of}
use Rattle.frame.specs.Frame.{framed}
use Rattle.frame.specs.Message.{read_of, write_of}
use Rattle.pupil.specs.Pupil.{pupil_text, pupil_packed, plus_text, minus_text}
use Rattle.record.specs.Forms.{text_form, packed_form}
use Rattle.record.specs.Places.{text_places, packed_places}
use Rattle.record.specs.declared.Record.{Record}
use Rattle.fixed.specs.Form.{fixed_form}
use Rattle.units.specs.Units.{conversion}
use Rattle.archive.specs.Old.{old_zoom, old_form, form122}
use Rattle.archive.specs.Archive.{forward, back}
use Rattle.packed_bytes.specs.Bytes.{packed_record}
use Rattle.transfer.specs.Transfer.{turned}
use Rattle.bench_lens.specs.Bench.{letter_of, bench_settings, bench_measurement}

-- record R, but for its focus distance, ring stop, tenth, entrance pupil and zoom
unfoldable pub like_r : ℕ → ℕ → ℕ → ℤ → ℕ → Record
like_r focus stop tenth pupil zoom = record {
  figures = record {
    focus = focus;
    aperture = 680;
    stop = stop;
    tenth = tenth;
    focal = 0;
    hyperfocal = 6123;
    near = 711;
    far = 909;
    view = 273;
    pupil = pupil;
    zoom = zoom;
  };
  serial = 0x34 ∷ 0x30 ∷ 0x35 ∷ 0x30 ∷ 0x2E ∷ 0x30 ∷ 0x30 ∷ 0x39 ∷ 0x33 ∷ [];
}

-- 798, 680, 56, 5, 0, 6123, 711, 909, 273, 23, 0, 4050.0093
unfoldable pub record_r : Record
record_r = like_r 798 56 5 (pos 23) 0

-- "measurement R, unit I, 21 degrees", the serial of R, and I where no start-up letter is given
pub record Session : Type 0 where
  pub measurement : bench_measurement ≡ record { unit = 0x49; figures = record_r.figures; temperature = pos 21 }
  pub serial : (letter : ℕ) → (bench_settings letter).fixed.serial ≡ record_r.serial
  pub letter : letter_of [] ≡ 0x49

-- field i of the packed record, and the pair that fields 3 and 4 share
abbrev pub packed_field : ℕ → Record → List ℕ
packed_field i r = field_of packed_places i (packed_form.print r)

abbrev pub packed_pair : Record → List ℕ
packed_pair r = take 2 (drop 7 (packed_form.print r))

-- a focus distance packed, behind its d
abbrev pub distance : ℕ → List ℕ
distance n = drop 1 (packed_field 1 (like_r n 56 5 (pos 23) 0))

abbrev pub pupil : ℤ → List ℕ
pupil z = packed_field 10 (like_r 798 56 5 z 0)

abbrev pub pupil_as_text : ℤ → List ℕ
pupil_as_text z = field_of text_places 10 (text_form.print (like_r 798 56 5 z 0))

abbrev pub zoom : ℕ → List ℕ
zoom n = packed_field 11 (like_r 798 56 5 (pos 23) n)

-- D0000798T0680t5.6+5Z0000H0006123N0000711F0000909V027.3E+023z0000S4050.0093
unfoldable pub text_r : List ℕ
text_r =
    0x44 ∷ 0x30 ∷ 0x30 ∷ 0x30 ∷ 0x30 ∷ 0x37 ∷ 0x39 ∷ 0x38 ∷ 0x54 ∷ 0x30 ∷ 0x36 ∷ 0x38 ∷ 0x30 ∷ 0x74 ∷ 0x35 ∷ 0x2E ∷ 0x36 ∷ 0x2B ∷ 0x35 ∷
    0x5A ∷ 0x30 ∷ 0x30 ∷ 0x30 ∷ 0x30 ∷ 0x48 ∷ 0x30 ∷ 0x30 ∷ 0x30 ∷ 0x36 ∷ 0x31 ∷ 0x32 ∷ 0x33 ∷ 0x4E ∷ 0x30 ∷ 0x30 ∷ 0x30 ∷ 0x30 ∷ 0x37 ∷
    0x31 ∷ 0x31 ∷ 0x46 ∷ 0x30 ∷ 0x30 ∷ 0x30 ∷ 0x30 ∷ 0x39 ∷ 0x30 ∷ 0x39 ∷ 0x56 ∷ 0x30 ∷ 0x32 ∷ 0x37 ∷ 0x2E ∷ 0x33 ∷ 0x45 ∷ 0x2B ∷ 0x30 ∷
    0x32 ∷ 0x33 ∷ 0x7A ∷ 0x30 ∷ 0x30 ∷ 0x30 ∷ 0x30 ∷ 0x53 ∷ 0x34 ∷ 0x30 ∷ 0x35 ∷ 0x30 ∷ 0x2E ∷ 0x30 ∷ 0x30 ∷ 0x39 ∷ 0x33 ∷
    []

unfoldable pub packed_r : List ℕ
packed_r =
    0x64 ∷ 0x40 ∷ 0x40 ∷ 0x4C ∷ 0x5E ∷ 0x4A ∷ 0x68 ∷ 0xB8 ∷ 0x85 ∷ 0x40 ∷ 0x40 ∷ 0x40 ∷ 0x41 ∷
    0x5F ∷ 0x6B ∷ 0x40 ∷ 0x40 ∷ 0x4B ∷ 0x47 ∷ 0x40 ∷ 0x40 ∷ 0x4E ∷ 0x4D ∷ 0x44 ∷ 0x51 ∷ 0x40 ∷
    0x57 ∷ 0x40 ∷ 0x40 ∷ 0x53 ∷ 0x34 ∷ 0x30 ∷ 0x35 ∷ 0x30 ∷ 0x2E ∷ 0x30 ∷ 0x30 ∷ 0x39 ∷ 0x33 ∷
    []

-- I is 73, M is 77; field 1 is a distance, field 10 the pupil
pub record Starred : Type 0 where
  pub record_as_text : text_form.print record_r ≡ text_r
  pub record_packed : packed_form.print record_r ≡ packed_r
  -- of `!` `MN`, of `?` `L@`, as they are sent
  pub sum_of_bang : framed true (0x21 ∷ []) ≡ 0x21 ∷ 0x4D ∷ 0x4E ∷ 0x0A ∷ 0x0D ∷ []
  pub sum_of_query : framed true (0x3F ∷ []) ≡ 0x3F ∷ 0x4C ∷ 0x40 ∷ 0x0A ∷ 0x0D ∷ []
  pub distance_388 : distance 388 ≡ 0x40 ∷ 0x40 ∷ 0x46 ∷ 0x44 ∷ []
  pub distance_9999999 : distance 9999999 ≡ 0x66 ∷ 0x49 ∷ 0x59 ∷ 0x7F ∷ []
  pub pupil_37 : pupil (pos 37) ≡ 0x40 ∷ 0x65 ∷ []
  pub pupil_minus_37 : pupil (negsuc 36) ≡ 0x60 ∷ 0x65 ∷ []
  pub pupil_minus_999 : pupil (negsuc 998) ≡ 0x6F ∷ 0x67 ∷ []
  pub zoom_1000 : zoom 1000 ≡ 0x4F ∷ 0x68 ∷ []
  pub stop_250_tenth_9 : packed_pair (like_r 798 250 9 (pos 23) 0) ≡ 0xFA ∷ 0xC9 ∷ []
  pub mm_1000 : conversion 1 (pos 1000) 77 73 ≡ Ok (pos 394)
  pub mm_9999999 : conversion 1 (pos 9999999) 77 73 ≡ Ok (pos 3937007)
  pub inch_25 : conversion 1 (pos 25) 73 77 ≡ Ok (pos 64)
  pub inch_minus_25 : conversion 10 (negsuc 24) 73 77 ≡ Ok (negsuc 63)

-- "60 40 refused, field 10", as [5] amends it: 0 is sent as 40 40 and as E+000, read of these and of 60 40 and E-000, and not of what stands next to them
pub record Amended : Type 0 where
  pub sends_40_40 : pupil (pos 0) ≡ 0x40 ∷ 0x40 ∷ []
  pub sends_plus_000 : pupil_as_text (pos 0) ≡ 0x45 ∷ 0x2B ∷ 0x30 ∷ 0x30 ∷ 0x30 ∷ []
  pub packed_60_40 : pupil_packed.parse (0x60 ∷ 0x40 ∷ []) ≡ got (pos 0)
  pub packed_40_40 : pupil_packed.parse (0x40 ∷ 0x40 ∷ []) ≡ got (pos 0)
  pub packed_60_41 : pupil_packed.parse (0x60 ∷ 0x41 ∷ []) ≡ got (negsuc 0)
  pub packed_70_40 : pupil_packed.parse (0x70 ∷ 0x40 ∷ []) ≡ wrong 10
  pub text_minus_000 : pupil_text.parse (0x45 ∷ 0x2D ∷ 0x30 ∷ 0x30 ∷ 0x30 ∷ []) ≡ got (pos 0)
  pub text_plus_000 : pupil_text.parse (0x45 ∷ 0x2B ∷ 0x30 ∷ 0x30 ∷ 0x30 ∷ []) ≡ got (pos 0)
  pub text_minus_001 : pupil_text.parse (0x45 ∷ 0x2D ∷ 0x30 ∷ 0x30 ∷ 0x31 ∷ []) ≡ got (negsuc 0)
  pub text_space_000 : pupil_text.parse (0x45 ∷ 0x20 ∷ 0x30 ∷ 0x30 ∷ 0x30 ∷ []) ≡ wrong 10

-- [6]: R as an old line, and what its zoom is written as and read of: "zoom as z and x.xx in 0.00 to 1.00"
pub record OldLines : Type 0 where
  pub r_at_057 : old_form.print (like_r 798 56 5 (pos 23) 570).figures ≡ take 59 text_r ++ 0x7A ∷ 0x30 ∷ 0x2E ∷ 0x35 ∷ 0x37 ∷ []
  pub sends_000 : old_zoom.print 0 ≡ 0x7A ∷ 0x30 ∷ 0x2E ∷ 0x30 ∷ 0x30 ∷ []
  pub sends_100 : old_zoom.print 1000 ≡ 0x7A ∷ 0x31 ∷ 0x2E ∷ 0x30 ∷ 0x30 ∷ []
  pub reads_057 : old_zoom.parse (0x7A ∷ 0x30 ∷ 0x2E ∷ 0x35 ∷ 0x37 ∷ []) ≡ got 570
  pub reads_100 : old_zoom.parse (0x7A ∷ 0x31 ∷ 0x2E ∷ 0x30 ∷ 0x30 ∷ []) ≡ got 1000
  pub past_101 : old_zoom.parse (0x7A ∷ 0x31 ∷ 0x2E ∷ 0x30 ∷ 0x31 ∷ []) ≡ wrong 11
  pub without_point : old_zoom.parse (0x7A ∷ 0x30 ∷ 0x35 ∷ 0x37 ∷ 0x30 ∷ []) ≡ wrong 11
  pub without_z : old_zoom.parse (0x5A ∷ 0x30 ∷ 0x2E ∷ 0x35 ∷ 0x37 ∷ []) ≡ wrong 11
  -- whole lines: R at 0.57 forward, with -000 forward, and at 0.575 back
  pub forwards : forward (take 59 text_r ++ 0x7A ∷ 0x30 ∷ 0x2E ∷ 0x35 ∷ 0x37 ∷ 0x0A ∷ 0x0D ∷ []) record_r.serial ≡
      Ok (take 59 text_r ++ 0x7A ∷ 0x30 ∷ 0x35 ∷ 0x37 ∷ 0x30 ∷ (drop 64 text_r ++ 0x0A ∷ 0x0D ∷ []))
  pub forwards_minus : forward (take 54 text_r ++ minus_text ++ 0x7A ∷ 0x30 ∷ 0x2E ∷ 0x35 ∷ 0x37 ∷ 0x0A ∷ 0x0D ∷ []) record_r.serial ≡
      Ok (take 54 text_r ++ plus_text ++ 0x7A ∷ 0x30 ∷ 0x35 ∷ 0x37 ∷ 0x30 ∷ (drop 64 text_r ++ 0x0A ∷ 0x0D ∷ []))
  pub backs_lost : back (take 59 text_r ++ 0x7A ∷ 0x30 ∷ 0x35 ∷ 0x37 ∷ 0x35 ∷ (drop 64 text_r ++ 0x0A ∷ 0x0D ∷ [])) ≡ Err Lost
  -- firmware 1.22: S and x.xx
  pub r_of_122 : form122.print (like_r 798 56 5 (pos 23) 570) ≡ take 59 text_r ++ 0x7A ∷ 0x30 ∷ 0x2E ∷ 0x35 ∷ 0x37 ∷ drop 64 text_r

-- [7]: R from packed to text, plain, with checksum, and with 60 40 and 70 40 for its pupil; with the text's checksum; under the other setting
pub record Turns : Type 0 where
  pub r_plain : turned false (packed_r ++ 0x0A ∷ 0x0D ∷ []) ≡ Ok (text_r ++ 0x0A ∷ 0x0D ∷ [])
  pub r_summed : turned true (packed_r ++ 0x4D ∷ 0x48 ∷ 0x0A ∷ 0x0D ∷ []) ≡ Ok (text_r ++ 0x49 ∷ 0x46 ∷ 0x0A ∷ 0x0D ∷ [])
  pub minus_zero : turned false (take 25 packed_r ++ 0x60 ∷ 0x40 ∷ (drop 27 packed_r ++ 0x0A ∷ 0x0D ∷ [])) ≡
      Ok (take 54 text_r ++ plus_text ++ (drop 59 text_r ++ 0x0A ∷ 0x0D ∷ []))
  pub wrong_pupil : turned false (take 25 packed_r ++ 0x70 ∷ 0x40 ∷ (drop 27 packed_r ++ 0x0A ∷ 0x0D ∷ [])) ≡ Err (Contents 10)
  pub text_sum : turned true (packed_r ++ 0x49 ∷ 0x46 ∷ 0x0A ∷ 0x0D ∷ []) ≡ Err Checksum
  pub plain_for_summed : turned true (packed_r ++ 0x0A ∷ 0x0D ∷ []) ≡ Err (Length 41)
  pub summed_for_plain : turned false (packed_r ++ 0x4D ∷ 0x48 ∷ 0x0A ∷ 0x0D ∷ []) ≡ Err (Length 43)
  -- what its bytes say
  pub r_said : packed_record packed_r ≡ record_r

-- the number, and what is also returned
abbrev pub told_with : {A : Type 0} → Answer A → ℕ × ℕ
told_with (Ok a) = (0, 0)
told_with (Err x) = (number_of x, value_of x)

-- "Refusal numbers", those of a writer, a reader and [6]; a wrong one that is told for 7, 9, 10 or 16 is refused where it is printed or handed over
pub record Numbered : Type 0 where
  -- R with a stop of 105; into 75 bytes
  pub one : told_with (write_of text_form Field false (like_r 798 105 5 (pos 23) 0) (replicate 76 0)) ≡ (1, 3)
  pub two : told_with (write_of text_form Field false record_r (replicate 75 0)) ≡ (2, 76)
  -- R without its D; with CR LF; with the packed form's checksum; with Z for z
  pub three : told_with (read_of text_form false (drop 1 text_r ++ 0x0A ∷ 0x0D ∷ [])) ≡ (3, 75)
  pub four : told_with (read_of text_form false (text_r ++ 0x0D ∷ 0x0A ∷ [])) ≡ (4, 0)
  pub five : told_with (read_of text_form true (text_r ++ 0x4D ∷ 0x48 ∷ 0x0A ∷ 0x0D ∷ [])) ≡ (5, 0)
  pub six : told_with (read_of text_form false (take 59 text_r ++ 0x5A ∷ (drop 60 text_r ++ 0x0A ∷ 0x0D ∷ []))) ≡ (6, 11)
  -- the start-up letter Q
  pub eight : told_with (write_of fixed_form Setting false (bench_settings 0x51).fixed (replicate 67 0)) ≡ (8, 6)
  -- R at 0.575, back
  pub eleven : told_with (back (take 59 text_r ++ 0x7A ∷ 0x30 ∷ 0x35 ∷ 0x37 ∷ 0x35 ∷ (drop 64 text_r ++ 0x0A ∷ 0x0D ∷ []))) ≡ (11, 0)
