-- What a C host is handed: document 01's number and the value beside it; and what each entry leaves in its memory.
use Rattle.std.specs.Prelude.{ℕ, ◌+◌, ◌*◌, Bool, List, ℤ, pos, Err, Ok}
use Rattle.laws.specs.Gives.{Gives}
use Rattle.refusal.specs.Answer.{Answer}
use Rattle.refusal.specs.Refusal.{number_of, value_of}
use Rattle.refusal.specs.declared.Refusal.{Refusal}
use Rattle.codec.specs.Codec.{Codec}
use Rattle.frame.specs.Frame.{sum_of}
use Rattle.frame.specs.Message.{then_write, then_left, write_of, left_by}
use Rattle.record.specs.declared.Record.{Record}
use Rattle.fixed.specs.declared.Fixed.{Fixed}
use Rattle.hourheron.specs.declared.Answer as host
use Rattle.hourheron.specs.declared.Conversion.{Conversion}

-- ---- the answers

-- done: 0 and a count; refused: the refusal's number and value
abbrev pub answer_of : Answer ℕ → host.Answer
answer_of (Ok n) = record { number = 0; value = n }
answer_of (Err x) = record { number = number_of x; value = value_of x }

-- done: the number; refused: the field. What does not come with an answer is zero
abbrev pub conversion_of : Answer ℤ → Conversion
conversion_of (Ok z) = record { number = 0; field = 0; value = z }
conversion_of (Err x) = record { number = number_of x; field = value_of x; value = pos 0 }

-- first character * 256 + second
abbrev pub checksum_of : List ℕ → ℕ
checksum_of s = (sum_of s).high * 256 + (sum_of s).low

-- ---- a writer: the answer and the memory of any message

abbrev pub Writes : {A : Type 0} → Codec A → (ℕ → Refusal) → Bool → A → List ℕ → host.Answer → List ℕ → Type 0
Writes form low checksum a out r after = Gives (answer_of (write_of form low checksum a out)) (left_by form low checksum a out) r after

-- a record of fields and a serial of any length
abbrev pub record_from : ℕ → ℕ → ℕ → ℕ → ℕ → ℕ → ℕ → ℕ → ℕ → ℤ → ℕ → List ℕ → Record
record_from focus aperture stop tenth focal hyperfocal near far view pupil zoom serial = record {
  figures = record {
    focus = focus;
    aperture = aperture;
    stop = stop;
    tenth = tenth;
    focal = focal;
    hyperfocal = hyperfocal;
    near = near;
    far = far;
    view = view;
    pupil = pupil;
    zoom = zoom;
  };
  serial = serial;
}

-- items 1 to 8, texts of any length
abbrev pub fixed_from : List ℕ → List ℕ → ℕ → ℕ → ℕ → ℕ → ℕ → List ℕ → Fixed
fixed_from serial owner kind focal maximum letter transmission version = record {
  serial = serial;
  owner = owner;
  lens = record { kind = kind; focal = focal; maximum = maximum; letter = letter; transmission = transmission };
  version = version;
}

-- ---- a reader: refused as the message is; then 2 with the bytes that the contents take; else their count

abbrev pub Lays : {A : Type 0} → (A → List ℕ) → ℕ → Answer A → List ℕ → host.Answer → List ℕ → Type 0
Lays bytes width read out r after = Gives (answer_of (then_write width read out)) (then_left bytes read out) r after

-- ---- a question about a message: refused as the message is

unfoldable pub asked_of : {A : Type 0} → (Answer A → ℕ) → Answer A → Answer ℕ
asked_of f (Ok a) = Ok (f (Ok a))
asked_of f (Err x) = Err x
