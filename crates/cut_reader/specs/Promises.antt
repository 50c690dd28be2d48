-- What a reader answers to the messages of a stream, for any codec: statements only. `rule`, `plain` and `places` are as in demand 2.
use Rattle.std.specs.Prelude.{ℕ, ◌≤◌, ◌<◌, Bool, List, ◌↔◌, ◌⊎◌, ◌≡◌, length, Err, Ok}
use Rattle.laws.specs.Member.{◌∈◌}
use Rattle.refusal.specs.Answer.{Answer}
use Rattle.refusal.specs.declared.Refusal.{Refusal}
use Rattle.refusal.specs.declared.Refusal.TheVariants.{End, TooLong}
use Rattle.codec.specs.Codec.{Codec, spellings}
use Rattle.codec.specs.Places.{Place}
use Rattle.frame.specs.Message.{messages_of, read_of}
use Rattle.frame.specs.Refuses.{ReadWhen}
use Rattle.record.specs.Forms.{text_form, packed_form}
use Rattle.record.specs.Places.{text_places, packed_places}
use Rattle.record.specs.Record.{record_lowest}
use Rattle.fixed.specs.Fixed.{fixed_lowest}
use Rattle.fixed.specs.Form.{fixed_form}
use Rattle.fixed.specs.Places.{fixed_places}
use Rattle.cutter.specs.Cutter.{cutter_length, ended, then_read, cut_of}
use Rattle.cutter.specs.Stream.{judged}
use Rattle.cutter.specs.declared.Cutter.{Cutter}

pub record ReadsCut {A : Type 0} (form : Codec A) (rule : A → ℕ) (plain : ℕ) (places : List Place) : Type 0 where
  -- accepted exactly where it is a spelling of sendable contents: none of these is too long
  pub exactly : (checksum : Bool) (m : List ℕ) (a : A) → (judged (read_of form checksum) m ≡ Ok a) ↔ ((rule a ≡ 0) × (m ∈ messages_of form checksum a))
  -- "9, too long, given at the pair in place of 3 to 6": each exactly in its case
  pub refuses : (checksum : Bool) (m : List ℕ) (r : Refusal) → (judged (read_of form checksum) m ≡ Err r) ↔
      (((160 < length m) × (r ≡ TooLong)) ⊎ ((length m ≤ 160) × ReadWhen rule (spellings form) places plain checksum m r))
  -- 4 cannot come from a cut message, whatever cutter was handed in
  pub never_4 : (checksum : Bool) (c : Cutter) (p : List ℕ) (m : Answer (List ℕ)) → length c.bytes ≡ cutter_length → (cut_of c p).said ≡ ended m →
      then_read (read_of form checksum) m ≡ Err End → ⊥

pub record Promised : Type 0 where
  pub text : ReadsCut text_form record_lowest 76 text_places
  pub packed : ReadsCut packed_form record_lowest 41 packed_places
  pub fixed : ReadsCut fixed_form fixed_lowest 67 fixed_places
