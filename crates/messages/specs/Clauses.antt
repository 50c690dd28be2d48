-- What each public function promises: its answer.
use Rattle.std.specs.Prelude.{ℕ, Bool, List, [], ◌∷◌, ◌≡◌, ℤ}
use Rattle.digits.specs.Digits.{decimal}
use Rattle.frame.specs.Frame.{framed}
use Rattle.record.specs.Forms.{text_form, packed_form}
use Rattle.record.specs.declared.Record.{Record}
use Rattle.fixed.specs.Form.{fixed_form}
use Rattle.fixed.specs.declared.Fixed.{Fixed}
use Rattle.units.specs.Measurement.{degrees}
use Rattle.state.specs.State.{unsent}
use Rattle.state.specs.declared.Message.{Message}

abbrev pub LetterMessage : ℕ → Bool → Message → Type 0
LetterMessage byte checksum r = r ≡ unsent (framed checksum (byte ∷ []))

abbrev pub VersionMessage : List ℕ → Bool → Message → Type 0
VersionMessage version checksum r = r ≡ unsent (framed checksum (66 ∷ 32 ∷ version))

abbrev pub MakerMessage : List ℕ → Bool → Message → Type 0
MakerMessage maker checksum r = r ≡ unsent (framed checksum (75 ∷ 51 ∷ maker))

abbrev pub TypeMessage : List ℕ → Bool → Message → Type 0
TypeMessage name checksum r = r ≡ unsent (framed checksum (75 ∷ 52 ∷ name))

abbrev pub RateMessage : ℕ → Bool → Message → Type 0
RateMessage digit checksum r = r ≡ unsent (framed checksum (75 ∷ 98 ∷ digit ∷ 33 ∷ []))

abbrev pub FixedMessage : Fixed → Bool → Message → Type 0
FixedMessage fixed checksum r = r ≡ unsent (framed checksum (fixed_form.print fixed))

abbrev pub DegreesMessage : ℤ → Bool → Message → Type 0
DegreesMessage t checksum r = r ≡ unsent (framed checksum (80 ∷ degrees t))

abbrev pub BlurMessage : ℕ → ℕ → Bool → Message → Type 0
BlurMessage letter circle checksum r = r ≡ unsent (framed checksum (letter ∷ 48 ∷ 46 ∷ 48 ∷ decimal 3 circle))

abbrev pub TextMessage : Record → Bool → Message → Type 0
TextMessage r checksum m = m ≡ unsent (framed checksum (text_form.print r))

abbrev pub PackedMessage : Record → Bool → Message → Type 0
PackedMessage r checksum m = m ≡ unsent (framed checksum (packed_form.print r))
