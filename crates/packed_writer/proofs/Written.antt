-- How many bytes each group of fields takes, and that the groups, one behind the other, are a record's contents. Assumes nothing.
use mathlib.Core.List.{◌++◌, append_assoc}
use mathlib.Core.Path.{◌≡◌, refl}
use lib.ListN.{length, length-append}
use Rattle.digits.specs.Digits.{digits}
use Rattle.stop.specs.Stop.{pair}
use Rattle.pupil.specs.Pupil.{pupil_packed}
use Rattle.record.specs.Forms.{Front, Middle, Back, front_packed, middle_packed, back_packed, serial, packed_form, packed_length, front_of, middle_of, back_of}
use Rattle.record.specs.declared.Record.{Record}
use Rattle.serial.proofs.Field.{serial_long}

pub front_long : (p : Front) → length (front_packed.print p) ≡ 9
unfolding front_packed pair digits
front_long p = refl

pub middle_long : (p : Middle) → length (middle_packed.print p) ≡ 14
unfolding middle_packed digits
middle_long p = refl

pub back_long : (p : Back) → length (back_packed.print p) ≡ 6
unfolding back_packed pupil_packed digits
back_long p = refl

pub groups_of : (r : Record) →
    front_packed.print (front_of r.figures) ++ (middle_packed.print (middle_of r.figures) ++ (back_packed.print (back_of r.figures) ++ serial.print r.serial))
    ≡ packed_form.print r
unfolding packed_form
groups_of r = rw (append_assoc, append_assoc)

pub record_long : (r : Record) → length r.serial ≡ 9 → length (packed_form.print r) ≡ packed_length
record_long r l = rw (← groups_of r) (simp (length-append, front_long, middle_long, back_long, serial_long r.serial l))
