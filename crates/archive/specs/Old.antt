-- The D line of old zoom firmware: the present one without S and its nine bytes, and with the zoom as z and x.xx. Document 000, notes 3 and 4.
use Rattle.std.specs.Prelude.{ℕ, ◌+◌, ◌*◌, ◌/◌, ◌%◌, Bool, ◌&&◌, List, [], leb, eqb, take}
use Rattle.codec.specs.Codec.{Codec, failing, first, passed, number, tagged, ◌⊗◌, via_iso, through}
use Rattle.codec.specs.Places.{Place}
use Rattle.pointed.specs.Pointed.{point}
use Rattle.record.specs.Record.{top_distance, top_pupil, figures_lowest}
use Rattle.record.specs.Forms.{Back, front_text, middle_text, back_by, serial, figures_of, groups_of, of_parts, parts_of}
use Rattle.record.specs.Places.{text_places}
use Rattle.record.specs.declared.Figures.{Figures}
use Rattle.record.specs.declared.Record.{Record}

-- thousandths that hundredths can say
unfoldable pub by_ten : ℕ → Bool
by_ten z = eqb (z % 10) 0

-- z and x.xx in 0.00 to 1.00: hundredths, whole and behind the point, for ten times as many thousandths
unfoldable pub old_zoom : Codec ℕ
old_zoom =
    through 11 (λ z. leb z 1000 && by_ten z)
    (λ z. (z / 10 / 100, z / 10 % 100))
    (λ z. [])
    (λ p. passed (leb (p.0 * 100 + p.1) 100) 11 ((p.0 * 100 + p.1) * 10))
    (tagged 122 11 (number 11 10 48 1 1) ⊗ tagged point 11 (number 11 10 48 2 99))

-- V, E, z
unfoldable pub old_back : Codec Back
old_back = back_by old_zoom

-- the contents of an old line: fields 1 to 11
unfoldable pub old_form : Codec Figures
old_form = via_iso figures_of groups_of (front_text ⊗ (middle_text ⊗ old_back))

-- and how many bytes they take
abbrev pub old_length : ℕ
old_length = 64

-- what an old line holds: fields 1 to 11 in the ranges of document 01, and hundredths
unfoldable pub old_lowest : Figures → ℕ
old_lowest f = first (figures_lowest top_distance top_pupil f) (failing (by_ten f.zoom) 11)

-- where its fields stand: as in the present line, which has one more
unfoldable pub old_places : List Place
old_places = take 11 text_places

-- firmware 1.22 (document 000: S from 1.22 on, x.xx up to 1.22): S as now, and the zoom as it was
unfoldable pub form122 : Codec Record
form122 = via_iso of_parts parts_of ((front_text ⊗ (middle_text ⊗ old_back)) ⊗ serial)
