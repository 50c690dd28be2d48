-- What the recorder promises beside its exact answers: statements only.
use Rattle.std.specs.Prelude.{ℕ, ◌≤◌, ◌<◌, true, false, ◌&&◌, not, List, [], ◌∷◌, ◌++◌, ◌↔◌, ◌≡◌, length, drop, None, Some, Err, Ok}
use Rattle.refusal.specs.Answer.{Answer}
use Rattle.refusal.specs.declared.Refusal.{Refusal}
use Rattle.refusal.specs.declared.Refusal.TheVariants.{Room, State}
use Rattle.frame.specs.Message.{read_of}
use Rattle.record.specs.Forms.{text_form, packed_form}
use Rattle.record.specs.Record.{no_record}
use Rattle.record.specs.declared.Record.{Record}
use Rattle.fixed.specs.Fixed.{no_fixed}
use Rattle.fixed.specs.Form.{fixed_form}
use Rattle.fixed.specs.declared.Fixed.{Fixed}
use Rattle.cutter.specs.Cutter.{fresh, held_from, nothing, ended, cut_of, whole_left}
use Rattle.cutter.specs.Stream.{messages, tail, judged, judged_all}
use Rattle.recorder.specs.Recorder.{first_setup, start_of, valid_recorder, hands_out, send_of, form_of, take_of, has_made, is_opening, verdict_in, items_in, fields_in}
use Rattle.recorder.specs.Messages.{readings_from, open_from, Ran}
use Rattle.recorder.specs.declared.Setup.{Setup}
use Rattle.recorder.specs.declared.Recorder.{Recorder}
use Rattle.recorder.specs.declared.Reading.{Reading}
use Rattle.recorder.specs.declared.Reading.TheVariants.{Fixed as as_fixed, Record as as_record}

-- ---- over the list of messages

unfoldable pub all_fixed : List (Answer Fixed) → List Reading
all_fixed [] = []
all_fixed (a ∷ rest) = as_fixed a ∷ all_fixed rest

unfoldable pub all_records : List (Answer Record) → List Reading
all_records [] = []
all_records (a ∷ rest) = as_record a ∷ all_records rest

-- the N reader, plain, accepts none of these
pub data NoneAccepted : List (List ℕ) → Type 0 where
  no_more : NoneAccepted []
  next : (m : List ℕ) (ms : List (List ℕ)) (x : Refusal) → judged (read_of fixed_form false) m ≡ Err x → NoneAccepted ms → NoneAccepted (m ∷ ms)

pub record OfMessages : Type 0 where
  -- "the settings a recorder starts with say off"
  pub first_off : first_setup.checksum ≡ false
  pub first_text : first_setup.packed ≡ false
  -- its setting names the form
  pub text : (s : Setup) → s.packed ≡ false → form_of s ≡ text_form
  pub packed : (s : Setup) → s.packed ≡ true → form_of s ≡ packed_form
  -- until the N reader accepts a message, that reader's answers, plain
  pub waiting : (s : Setup) (ms : List (List ℕ)) → NoneAccepted ms → readings_from s false ms ≡ all_fixed (judged_all (read_of fixed_form false) ms)
  -- from then on those of the record reader, under its setting
  pub opened : (s : Setup) (before after : List (List ℕ)) (m : List ℕ) (f : Fixed) → NoneAccepted before →
      judged (read_of fixed_form false) m ≡ Ok f →
      readings_from s false (before ++ m ∷ after) ≡
      all_fixed (judged_all (read_of fixed_form false) before) ++ as_fixed (Ok f) ∷ all_records (judged_all (read_of (form_of s) s.checksum) after)
  -- whether it is open after them
  pub waits : (s : Setup) (ms : List (List ℕ)) → NoneAccepted ms → open_from s false ms ≡ false
  pub opens : (s : Setup) (before after : List (List ℕ)) (m : List ℕ) (f : Fixed) → NoneAccepted before →
      judged (read_of fixed_form false) m ≡ Ok f → open_from s false (before ++ m ∷ after) ≡ true
  -- what is told of a message: the reader's answer, which reader it was, and the contents; of a refused one they are zero
  pub told_fixed : (f : Fixed) →
      let x = Ok (Some (as_fixed (Ok f))) in
      (verdict_in x ≡ Ok tt) × (is_opening x ≡ true) × (items_in x ≡ f) × (fields_in x ≡ no_record)
  pub told_no_fixed : (x : Refusal) →
      let y = Ok (Some (as_fixed (Err x))) in
      (verdict_in y ≡ Err x) × (is_opening y ≡ true) × (items_in y ≡ no_fixed) × (fields_in y ≡ no_record)
  pub told_record : (a : Record) →
      let x = Ok (Some (as_record (Ok a))) in
      (verdict_in x ≡ Ok tt) × (is_opening x ≡ false) × (items_in x ≡ no_fixed) × (fields_in x ≡ a)
  pub told_no_record : (x : Refusal) →
      let y = Ok (Some (as_record (Err x))) in
      (verdict_in y ≡ Err x) × (is_opening y ≡ false) × (items_in y ≡ no_fixed) × (fields_in y ≡ no_record)

-- ---- over every sequence of calls

-- an input can be taken
pub record Run (r : Recorder) (i : List ℕ) : Type 0 where
  pub made : List Reading
  pub left : Recorder
  pub ran : Ran r i made left

pub record AnyCalls : Type 0 where
  -- from a start, however the pieces fall and whenever it sends: what it makes of the list of messages
  pub readings : (s : Setup) (i : List ℕ) (xs : List Reading) (q : Recorder) → Ran (start_of s) i xs q → xs ≡ readings_from s false (messages i)
  -- and the recorder that it becomes
  pub left : (s : Setup) (i : List ℕ) (xs : List Reading) (q : Recorder) → Ran (start_of s) i xs q →
      (q.cutter ≡ held_from fresh (tail i)) × (q.setup ≡ s) × (q.opened ≡ open_from s false (messages i))
  -- pieces that fall elsewhere change nothing, from any recorder
  pub elsewhere : (r : Recorder) (i : List ℕ) (xs ys : List Reading) (q p : Recorder) → valid_recorder r ≡ true → Ran r i xs q → Ran r i ys p →
      (xs ≡ ys) × (q.cutter ≡ p.cutter) × (q.setup ≡ p.setup) × (q.opened ≡ p.opened)
  pub runs : (r : Recorder) (i : List ℕ) → valid_recorder r ≡ true → Run r i

-- ---- one call

pub record EachCall : Type 0 where
  -- where it cuts is where its cutter does
  pub cuts : (r : Recorder) (p : List ℕ) →
      ((take_of r p).used ≡ (cut_of r.cutter p).used) × ((take_of r p).recorder.cutter ≡ (cut_of r.cutter p).cutter)
  -- 16 exactly for a count that is none of the cutter's own; then it is as it was
  pub take_16 : (r : Recorder) (p : List ℕ) → ((take_of r p).made ≡ Err State) ↔ (161 < r.cutter.len)
  pub take_same : (r : Recorder) (p : List ℕ) → (take_of r p).made ≡ Err State → ((take_of r p).recorder ≡ r) × ((take_of r p).used ≡ 0)
  -- nothing else is refused in place of a message, and no message is refused with 16
  pub take_refused : (r : Recorder) (p : List ℕ) (x : Refusal) → (take_of r p).made ≡ Err x → x ≡ State
  pub told_16 : (r : Recorder) (p : List ℕ) → verdict_in (take_of r p).made ≡ Err State → (take_of r p).made ≡ Err State
  -- `opening`: a message ended and was read as fixed data
  pub opening : (r : Recorder) (p : List ℕ) → is_opening (take_of r p).made ≡ (has_made (take_of r p).made && not r.opened)
  -- where no message ended nothing is made; where 16 is given, none ended
  pub take_none : (r : Recorder) (p : List ℕ) → (cut_of r.cutter p).said ≡ nothing → (take_of r p).made ≡ Ok None
  pub take_ended : (r : Recorder) (p : List ℕ) → (has_made (take_of r p).made ≡ true) ↔ ((m : Answer (List ℕ)) × ((cut_of r.cutter p).said ≡ ended m))
  -- a start has something to send
  pub start_asks : (s : Setup) → ((start_of s).sent ≡ false) × (valid_recorder (start_of s) ≡ true)
  -- after a start it has N CR to send: with room they stand at the start of the lent memory, the rest as it was
  pub asks : (r : Recorder) (out : List ℕ) → valid_recorder r ≡ true → r.sent ≡ false → 2 ≤ length out →
      ((send_of r out).wrote ≡ Ok 2) × (whole_left (hands_out r) out ≡ 78 ∷ 13 ∷ drop 2 out) × ((send_of r out).recorder.sent ≡ true)
  -- and then nothing, however much it takes in between
  pub take_sent : (r : Recorder) (p : List ℕ) → (take_of r p).recorder.sent ≡ r.sent
  pub asks_once : (r : Recorder) (out : List ℕ) → valid_recorder r ≡ true → r.sent ≡ true →
      ((send_of r out).wrote ≡ Ok 0) × (whole_left (hands_out r) out ≡ out) × ((send_of r out).recorder ≡ r)
  -- 16, then 2, each exactly in its case
  pub send_16 : (r : Recorder) (out : List ℕ) → ((send_of r out).wrote ≡ Err State) ↔ (161 < r.cutter.len)
  pub send_2 : (r : Recorder) (out : List ℕ) (n : ℕ) →
      ((send_of r out).wrote ≡ Err (Room n)) ↔ ((valid_recorder r ≡ true) × (r.sent ≡ false) × (length out < 2) × (n ≡ 2))
  -- a refusal changes nothing
  pub send_same : (r : Recorder) (out : List ℕ) (x : Refusal) → (send_of r out).wrote ≡ Err x →
      ((send_of r out).recorder ≡ r) × (whole_left (hands_out r) out ≡ out)

pub record Promised : Type 0 where
  pub of_messages : OfMessages
  pub any_calls : AnyCalls
  pub each_call : EachCall
