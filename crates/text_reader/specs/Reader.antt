-- What is said of the last group where its zoom was read apart.
use Rattle.std.specs.Prelude.{ℕ, cond, List, eqb, length, take, drop, Option}
use Rattle.codec.specs.Codec.{Got, wrong, both, field_says}
use Rattle.pupil.specs.Pupil.{pupil_text}
use Rattle.record.specs.Forms.{Back, view_text}

-- V, E and the zoom as it was read; of another number of bytes than V and E take, field 9 is wrong
unfoldable pub with_zoom : List ℕ → Option ℕ → Got Back
with_zoom s zoom = cond (eqb (length s) 11) (both (view_text.parse (take 6 s)) (both (pupil_text.parse (drop 6 s)) (field_says 11 zoom))) (wrong 9)
