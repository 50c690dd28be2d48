-- What each public function promises.
use Rattle.std.specs.Prelude.{ℕ, ◌<◌, Bool, List, ◌≡◌}
use Rattle.refusal.specs.Answer.{is_accepted}
use Rattle.stop.specs.Stop.{stop_in}
use Rattle.pupil.specs.Pupil.{sign_byte}
use Rattle.frame.specs.Message.{read_of}
use Rattle.record.specs.Forms.{packed_form}
use Rattle.packed_bytes.specs.Bytes.{packed_number, quad_of, pupil_in}

abbrev pub Quad : ℕ → ℕ → ℕ → ℕ → ℕ → Type 0
Quad a b c d r = (r ≡ quad_of a b c d) × (r < 4294967296)

abbrev pub NumberIn : List ℕ → ℕ → Type 0
NumberIn s r = r ≡ packed_number s

abbrev pub StopIn : ℕ → ℕ → ℕ → Type 0
StopIn a b r = r ≡ stop_in a b

abbrev pub SignIn : ℕ → ℕ → Type 0
SignIn code r = r ≡ sign_byte (pupil_in code)

-- whether the reader accepts
abbrev pub IsRight : List ℕ → Bool → Bool → Type 0
IsRight m checksum r = r ≡ is_accepted (read_of packed_form checksum m)
