-- How many bytes each group of fields takes, and that the groups, one behind the other, are a record's contents. Assumes nothing.
use mathlib.Core.List.{◌++◌, append_assoc}
use mathlib.Core.Path.{◌≡◌, refl}
use lib.ListN.{length, length-append}
use Rattle.digits.specs.Digits.{digits}
use Rattle.pointed.specs.Pointed.{pointed}
use Rattle.pupil.specs.Pupil.{pupil_text}
use Rattle.record.specs.Forms.{Middle, middle_text, back_text, zoom_text, ten_text, ten_length, serial, text_form, text_length}
use Rattle.record.specs.declared.Figures.{Figures}
use Rattle.record.specs.declared.Record.{Record}
use Rattle.record.proofs.Exact.{front_text_long}
use Rattle.serial.proofs.Field.{serial_long}

pub middle_long : (p : Middle) → length (middle_text.print p) ≡ 29
unfolding middle_text digits
middle_long p = refl

pub ten_long : (f : Figures) → length (ten_text f) ≡ ten_length
unfolding pointed pupil_text digits
ten_long f = simp (length-append, front_text_long, middle_long)

pub contents_of_lem : (r : Record) →
    ten_text r.figures ++ (zoom_text.print r.figures.zoom ++ serial.print r.serial) ≡ text_form.print r
unfolding text_form back_text
contents_of_lem r = simp append_assoc

pub record_long : (r : Record) → length r.serial ≡ 9 → length (text_form.print r) ≡ text_length
unfolding pointed pupil_text digits
record_long r l = rw (← contents_of_lem r) (simp (length-append, front_text_long, middle_long, serial_long r.serial l))
