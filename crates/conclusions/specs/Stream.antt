-- What a C host may conclude from a call with a piece of a stream, and from what a recorder hands out: statements only. What holds over all the pieces
-- of a stream is promised in crates `cutter` and `recorder`, of the very `cut_of`, `take_of` and `send_of` that the entries hand over.
use Rattle.std.specs.Prelude.{ℕ, ◌≤◌, ◌<◌, Bool, true, false, List, ◌∷◌, ◌++◌, ◌↔◌, ◌⊎◌, ◌≡◌, length, drop, Err, Ok}
use Rattle.refusal.specs.declared.Refusal.TheVariants.{TooLong}
use Rattle.cutter.specs.Cutter.{cutter_length, fresh, nothing, ended, has_ended, cut_of}
use Rattle.cutter.specs.declared.Cutter.{Cutter}
use Rattle.recorder.specs.Recorder.{valid_recorder, send_of, take_of, has_made, is_opening}
use Rattle.recorder.specs.declared.Recorder.{Recorder}
use Rattle.hourheron.specs.Clauses.{HeronReadText, HeronReadPacked, HeronReadFixed}
use Rattle.hourheron.specs.declared.Answer as host
use Rattle.hourheron.specs.declared.CutValue.{CutValue}
use Rattle.hourheron.specs.declared.SendValue.{SendValue}
use Rattle.hourheron.specs.declared.TakeValue.{TakeValue}

-- ---- the answer to a piece: c is the cutter, p the piece, out the lent memory, a the answer, and after what is left

pub record OfPiece (c : Cutter) (p out : List ℕ) (a : host.Answer) (after : List ℕ) : Type 0 where
  -- "16 covers the cutter too": exactly for a count that is none of its own
  pub invalid : (a.number ≡ 16) ↔ (161 < c.len)
  -- "9, too long, given at the pair": exactly there
  pub too_long : (a.number ≡ 9) ↔ ((cut_of c p).said ≡ ended (Err TooLong))
  -- both come with 0
  pub alone : (a.number ≡ 16) ⊎ (a.number ≡ 9) → a.value ≡ 0
  -- no message ended: 0 with 0
  pub unended : (cut_of c p).said ≡ nothing → (a.number ≡ 0) × (a.value ≡ 0)
  -- "4 cannot come", from any cutter whose array has its length
  pub never_4 : length c.bytes ≡ cutter_length → a.number ≡ 4 → ⊥
  -- nothing is written where no message ended, nor by a refusal
  pub unended_same : has_ended (cut_of c p).said ≡ false → after ≡ out
  pub refused_same : (a.number ≡ 0 → ⊥) → after ≡ out

-- ---- the cutter: r is what is handed over

abbrev pub answer_in : CutValue → host.Answer
answer_in r = record { number = r.number; value = r.value }

pub record CutCall (c : Cutter) (p out : List ℕ) (r : CutValue) (after : List ℕ) : Type 0 where
  -- it cuts as the cutter does
  pub used : r.used ≡ (cut_of c p).used
  pub ends : r.ended ≡ has_ended (cut_of c p).said
  pub cutter : r.cutter ≡ (cut_of c p).cutter
  pub answer : OfPiece c p out (answer_in r) after
  -- "only 16 leaves the cutter as it was"
  pub invalid_same : 161 < c.len → (r.used ≡ 0) × (r.ended ≡ false) × (r.cutter ≡ c)
  -- "a message refused at its end is used up like any other"
  pub after_end : r.ended ≡ true → r.cutter ≡ fresh

-- a message that ended: the answer and the memory of the reader's own entry, so that all that is promised of that one holds
pub record ReadsCut (Read : List ℕ → host.Answer → List ℕ → Type 0) (c : Cutter) (p out : List ℕ) (r : CutValue) (after : List ℕ) : Type 0 where
  pub call : CutCall c p out r after
  pub reads : (m : List ℕ) → (cut_of c p).said ≡ ended (Ok m) → Read m (answer_in r) after

-- every call of an entry that reads
abbrev pub CutReader : (Cutter → List ℕ → Bool → List ℕ → CutValue → List ℕ → Type 0) → (List ℕ → Bool → List ℕ → host.Answer → List ℕ → Type 0) → Type 0
CutReader Cut Read =
    (c : Cutter) (p : List ℕ) (checksum : Bool) (out : List ℕ) (r : CutValue) (after : List ℕ) →
    Cut c p checksum out r after → ReadsCut (λ m a d. Read m checksum out a d) c p out r after

-- the message itself: with its length, or 2 with it
pub record HandsMessage (c : Cutter) (p out : List ℕ) (r : CutValue) (after : List ℕ) : Type 0 where
  pub call : CutCall c p out r after
  pub whole : (m : List ℕ) → (cut_of c p).said ≡ ended (Ok m) → length m ≤ length out →
      (r.number ≡ 0) × (r.value ≡ length m) × (after ≡ m ++ drop (length m) out)
  pub no_room : (m : List ℕ) → (cut_of c p).said ≡ ended (Ok m) → length out < length m →
      (r.number ≡ 2) × (r.value ≡ length m) × (after ≡ out)

-- ---- the recorder: v is what is handed over

abbrev pub answer_out : TakeValue → host.Answer
answer_out v = record { number = v.number; value = v.value }

pub record TakeCall (r : Recorder) (p out : List ℕ) (v : TakeValue) (after : List ℕ) : Type 0 where
  -- it takes as the recorder does
  pub used : v.used ≡ (take_of r p).used
  pub ends : v.ended ≡ has_made (take_of r p).made
  pub opening : v.opening ≡ is_opening (take_of r p).made
  pub recorder : v.recorder ≡ (take_of r p).recorder
  pub answer : OfPiece r.cutter p out (answer_out v) after
  -- 16 leaves it as it was
  pub invalid_same : 161 < r.cutter.len → (v.used ≡ 0) × (v.ended ≡ false) × (v.recorder ≡ r)
  -- a message that ended: the answer and the memory of the N reader's own entry, plain, until one is accepted;
  pub fixed : (m : List ℕ) → r.opened ≡ false → (cut_of r.cutter p).said ≡ ended (Ok m) →
      (v.opening ≡ true) × HeronReadFixed m false out (answer_out v) after
  -- from then on of the record reader's that its settings name
  pub text : (m : List ℕ) → r.opened ≡ true → r.setup.packed ≡ false → (cut_of r.cutter p).said ≡ ended (Ok m) →
      (v.opening ≡ false) × HeronReadText m r.setup.checksum out (answer_out v) after
  pub packed : (m : List ℕ) → r.opened ≡ true → r.setup.packed ≡ true → (cut_of r.cutter p).said ≡ ended (Ok m) →
      (v.opening ≡ false) × HeronReadPacked m r.setup.checksum out (answer_out v) after

pub record SendCall (r : Recorder) (out : List ℕ) (v : SendValue) (after : List ℕ) : Type 0 where
  pub recorder : v.recorder ≡ (send_of r out).recorder
  -- N CR, with room for it; then nothing
  pub asks : valid_recorder r ≡ true → r.sent ≡ false → 2 ≤ length out →
      (v.number ≡ 0) × (v.value ≡ 2) × (after ≡ 78 ∷ 13 ∷ drop 2 out) × (v.recorder.sent ≡ true)
  pub asks_once : valid_recorder r ≡ true → r.sent ≡ true → (v.number ≡ 0) × (v.value ≡ 0) × (after ≡ out) × (v.recorder ≡ r)
  -- 16, then 2 with the bytes that are needed, each exactly in its case
  pub invalid : (v.number ≡ 16) ↔ (161 < r.cutter.len)
  pub alone : v.number ≡ 16 → v.value ≡ 0
  pub no_room : (n : ℕ) → ((v.number ≡ 2) × (v.value ≡ n)) ↔ ((valid_recorder r ≡ true) × (r.sent ≡ false) × (length out < 2) × (n ≡ 2))
  -- a refusal changes nothing
  pub refused_same : (v.number ≡ 0 → ⊥) → (v.recorder ≡ r) × (after ≡ out)
