-- [5] "Two lens makers send -000, and 60 40 packed, for a pupil at zero. The readers must take both as 0." Statements only. `at` is how many bytes of the
-- contents stand before the pupil's; `plus` and `minus` are zero as a writer sends it and as those makers do.
use Rattle.std.specs.Prelude.{ℕ, Bool, List, ◌∷◌, ◌≢◌, ◌↔◌, ◌⊎◌, ◌≡◌, ℤ, pos, take, Err, Ok}
use Rattle.laws.specs.Over.{over}
use Rattle.refusal.specs.declared.Refusal.TheVariants.{Contents}
use Rattle.codec.specs.Codec.{Codec, spellings}
use Rattle.codec.specs.Places.{Place, field_of}
use Rattle.frame.specs.Frame.{framed}
use Rattle.frame.specs.Message.{read_of, message_of}
use Rattle.pupil.specs.Pupil.{zero_too}

-- the writer's message for r, or, where the pupil is 0, the same with minus zero in the pupil's place, under its own checksum
abbrev pub PlusOrMinus : {A : Type 0} → Codec A → (A → ℤ) → ℕ → List ℕ → Bool → A → List ℕ → Type 0
PlusOrMinus form pupil_of at minus checksum r m =
    (m ≡ message_of form checksum r) ⊎ ((pupil_of r ≡ pos 0) × (m ≡ framed checksum (over (form.print r) at minus)))

pub record MinusZero {A : Type 0} (form : Codec A) (rule : A → ℕ) (pupil_of : A → ℤ) (places : List Place) (at : ℕ) (plus minus : List ℕ) : Type 0 where
  -- "From now on readers accept the writers' messages and these two spellings", one in each form
  pub accepts : (checksum : Bool) (m : List ℕ) (r : A) → (read_of form checksum m ≡ Ok r) ↔ ((rule r ≡ 0) × PlusOrMinus form pupil_of at minus checksum r m)
  -- these are the spellings of the contents by which 'accepts exactly' is said of every codec
  pub spelt : (r : A) → spellings form r ≡ form.print r ∷ zero_too (over (form.print r) at minus) (pupil_of r)
  -- "The readers must take both as 0", and as nothing else
  pub reads_zero : (checksum : Bool) (m : List ℕ) (r : A) → read_of form checksum m ≡ Ok r → field_of places 10 m ≡ minus → pupil_of r ≡ pos 0
  -- "6 no longer given for it"
  pub never_6 : (checksum : Bool) (m : List ℕ) → field_of places 10 m ≡ minus → read_of form checksum m ≢ Err (Contents 10)
  -- "Writers still send plus",
  pub sends_plus : (r : A) → pupil_of r ≡ pos 0 → field_of places 10 (form.print r) ≡ plus
  -- and never minus zero
  pub never_minus : (r : A) → rule r ≡ 0 → field_of places 10 (form.print r) ≢ minus
  -- "writing what was read gives the plus form": minus zero comes out as plus zero, under its own checksum,
  pub comes_plus : (checksum : Bool) (m : List ℕ) (r : A) → read_of form checksum m ≡ Ok r → field_of places 10 m ≡ minus →
      message_of form checksum r ≡ framed checksum (over (take form.width m) at plus)
  -- and any other message as it was
  pub comes_same : (checksum : Bool) (m : List ℕ) (r : A) → read_of form checksum m ≡ Ok r → field_of places 10 m ≢ minus → message_of form checksum r ≡ m
