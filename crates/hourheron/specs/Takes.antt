-- What a C host is handed by a recorder, and what is left in its memory.
use Rattle.std.specs.Prelude.{ℕ, List, Option, None, Some, Err, Ok}
use Rattle.laws.specs.Gives.{Gives}
use Rattle.refusal.specs.Answer.{Answer}
use Rattle.frame.specs.Message.{then_write, then_left}
use Rattle.cutter.specs.Cutter.{cut_of, answer_by, left_by_said}
use Rattle.recorder.specs.Recorder.{reading_of, take_of, has_made, is_opening}
use Rattle.recorder.specs.declared.Reading.{Reading}
use Rattle.recorder.specs.declared.Reading.TheVariants.{Fixed as as_fixed, Record as as_record}
use Rattle.recorder.specs.declared.Recorded.{Recorded}
use Rattle.recorder.specs.declared.Recorder.{Recorder}
use Rattle.recorder.specs.declared.HandedOut.{HandedOut}
use Rattle.layout.specs.Layout.{record_bytes, record_width, fixed_bytes, fixed_width}
use Rattle.hourheron.specs.Host.{answer_of}
use Rattle.hourheron.specs.declared.Answer as host
use Rattle.hourheron.specs.declared.SendValue.{SendValue}
use Rattle.hourheron.specs.declared.TakeValue.{TakeValue}

-- ---- what it has to send

abbrev pub send_to : HandedOut → SendValue
send_to s = let a = answer_of s.wrote in record { number = a.number; value = a.value; recorder = s.recorder }

-- ---- a message: refused as it is; then 2 with the bytes that its contents take; else their count

unfoldable pub lay_in : Reading → List ℕ → Answer ℕ
lay_in (as_fixed a) out = then_write fixed_width a out
lay_in (as_record a) out = then_write record_width a out

unfoldable pub lay_left : Reading → List ℕ → List ℕ
lay_left (as_fixed a) out = then_left fixed_bytes a out
lay_left (as_record a) out = then_left record_bytes a out

-- ---- a piece: the answer to the message that ended; 16, or 0 with 0 where none did

-- what the recorder reads a message as
abbrev pub reading_by : Recorder → Answer (List ℕ) → Reading
reading_by r m = reading_of r.setup r.opened m

abbrev pub take_with : host.Answer → Recorded → TakeValue
take_with a t = record { number = a.number; value = a.value; used = t.used; ended = has_made t.made; opening = is_opening t.made; recorder = t.recorder }

abbrev pub Takes : Recorder → List ℕ → List ℕ → TakeValue → List ℕ → Type 0
Takes r piece out v after =
    let said = (cut_of r.cutter piece).said in
    Gives (take_with (answer_of (answer_by (λ m. lay_in (reading_by r m) out) said)) (take_of r piece)) (left_by_said (λ m d. lay_left (reading_by r m) d) said out) v after

-- ---- the same of what the recorder hands over

abbrev pub LaysReading : Reading → List ℕ → host.Answer → List ℕ → Type 0
LaysReading x out r after = Gives (answer_of (lay_in x out)) (lay_left x out) r after

unfoldable pub take_in : Answer (Option Reading) → List ℕ → Answer ℕ
take_in (Err x) out = Err x
take_in (Ok None) out = Ok 0
take_in (Ok (Some x)) out = lay_in x out

unfoldable pub take_left : Answer (Option Reading) → List ℕ → List ℕ
take_left (Err x) out = out
take_left (Ok None) out = out
take_left (Ok (Some x)) out = lay_left x out

abbrev pub LaysTaken : Answer (Option Reading) → List ℕ → host.Answer → List ℕ → Type 0
LaysTaken made out r after = Gives (answer_of (take_in made out)) (take_left made out) r after
