-- One answer for each contract of a public function. Assumes nothing.
use Prim.Native.Nat.{ℕ}
use mathlib.Core.Bool.{Bool}
use mathlib.Core.List.{List}
use mathlib.Core.Path.{◌≡◌}
use lib.IntN.{ℤ}
use Rattle.laws.proofs.OneAnswer.{one_answer}
use Rattle.record.specs.declared.Record.{Record}
use Rattle.fixed.specs.declared.Fixed.{Fixed}
use Rattle.state.specs.declared.Message.{Message}
use Rattle.messages.specs.Clauses.{LetterMessage, VersionMessage, MakerMessage, TypeMessage, RateMessage, FixedMessage, DegreesMessage, BlurMessage, TextMessage, PackedMessage}

pub one_letter_message : (byte : ℕ) (checksum : Bool) {r r' : Message} → LetterMessage byte checksum r → LetterMessage byte checksum r' → r ≡ r'
one_letter_message byte checksum = one_answer

pub one_version_message : (version : List ℕ) (checksum : Bool) {r r' : Message} →
    VersionMessage version checksum r → VersionMessage version checksum r' → r ≡ r'
one_version_message version checksum = one_answer

pub one_maker_message : (maker : List ℕ) (checksum : Bool) {r r' : Message} → MakerMessage maker checksum r → MakerMessage maker checksum r' → r ≡ r'
one_maker_message maker checksum = one_answer

pub one_type_message : (name : List ℕ) (checksum : Bool) {r r' : Message} → TypeMessage name checksum r → TypeMessage name checksum r' → r ≡ r'
one_type_message name checksum = one_answer

pub one_rate_message : (digit : ℕ) (checksum : Bool) {r r' : Message} → RateMessage digit checksum r → RateMessage digit checksum r' → r ≡ r'
one_rate_message digit checksum = one_answer

pub one_fixed_message : (fixed : Fixed) (checksum : Bool) {r r' : Message} → FixedMessage fixed checksum r → FixedMessage fixed checksum r' → r ≡ r'
one_fixed_message fixed checksum = one_answer

pub one_degrees_message : (t : ℤ) (checksum : Bool) {r r' : Message} → DegreesMessage t checksum r → DegreesMessage t checksum r' → r ≡ r'
one_degrees_message t checksum = one_answer

pub one_blur_message : (letter circle : ℕ) (checksum : Bool) {r r' : Message} →
    BlurMessage letter circle checksum r → BlurMessage letter circle checksum r' → r ≡ r'
one_blur_message letter circle checksum = one_answer

pub one_text_message : (r : Record) (checksum : Bool) {m m' : Message} → TextMessage r checksum m → TextMessage r checksum m' → m ≡ m'
one_text_message r checksum = one_answer

pub one_packed_message : (r : Record) (checksum : Bool) {m m' : Message} → PackedMessage r checksum m → PackedMessage r checksum m' → m ≡ m'
one_packed_message r checksum = one_answer
