-- What the recorder makes of a list of messages: fixed data until a message is accepted, then records. Assumes nothing.
use Prim.Native.Nat.{ℕ}
use mathlib.Core.Bool.{true, false}
use mathlib.Core.List.{List, [], ◌∷◌, ◌++◌}
use mathlib.Core.Path.{◌≡◌, refl, sym, ap, ap₂, ◌∙◌}
use Rattle.std.specs.Prelude.{Err, Ok}
use Rattle.refusal.specs.Answer.{Answer, is_accepted}
use Rattle.frame.specs.Message.{read_of}
use Rattle.fixed.specs.Form.{fixed_form}
use Rattle.fixed.specs.declared.Fixed.{Fixed}
use Rattle.cutter.specs.Stream.{judged, judged_all}
use Rattle.cutter.proofs.Feeding.{read_judged}
use Rattle.recorder.specs.Recorder.{form_of, opens_by}
use Rattle.recorder.specs.declared.Reading.{Reading}
use Rattle.recorder.specs.declared.Reading.TheVariants.{Fixed as as_fixed, Record as as_record}
use Rattle.recorder.specs.Messages.{reading_for, readings_from, open_from}
use Rattle.recorder.specs.Promises.{all_fixed, all_records, NoneAccepted}
use Rattle.recorder.specs.declared.Setup.{Setup}
use Rattle.recorder.proofs.Takes.{reads_fixed, reads_record}

module _ (s : Setup) where
  -- once open it reads records
  records : (ms : List (List ℕ)) → readings_from s true ms ≡ all_records (judged_all (read_of (form_of s) s.checksum) ms)
  unfolding readings_from all_records judged_all opens_by
  records [] = refl
  records (m ∷ ms) =
      let read = read_of (form_of s) s.checksum in
      let e : reading_for s true m ≡ as_record (judged read m) = reads_record s (judged Ok m) refl ∙ ap as_record (read_judged read m) in
      ap₂ ◌∷◌ e (ap (λ (x : Reading). readings_from s (opens_by true x) ms) e ∙ records ms)

  -- before that a message is read as fixed data, and opens it if it is accepted
  first : (m : List ℕ) (ms : List (List ℕ)) (a : Answer Fixed) → judged (read_of fixed_form false) m ≡ a →
      readings_from s false (m ∷ ms) ≡ as_fixed a ∷ readings_from s (is_accepted a) ms
  unfolding readings_from opens_by
  first m ms a h =
      let e : reading_for s false m ≡ as_fixed a = reads_fixed s (judged Ok m) refl ∙ ap as_fixed (read_judged _ m ∙ h) in
      ap (λ (x : Reading). x ∷ readings_from s (opens_by false x) ms) e

  open_first : (m : List ℕ) (ms : List (List ℕ)) (a : Answer Fixed) → judged (read_of fixed_form false) m ≡ a →
      open_from s false (m ∷ ms) ≡ open_from s (is_accepted a) ms
  unfolding open_from opens_by
  open_first m ms a h =
      let e : reading_for s false m ≡ as_fixed a = reads_fixed s (judged Ok m) refl ∙ ap as_fixed (read_judged _ m ∙ h) in
      ap (λ (x : Reading). open_from s (opens_by false x) ms) e

  open_stays : (ms : List (List ℕ)) → open_from s true ms ≡ true
  unfolding open_from opens_by
  open_stays [] = refl
  open_stays (m ∷ ms) = ap (λ (x : Reading). open_from s (opens_by true x) ms) (reads_record s (judged Ok m) refl) ∙ open_stays ms

  pub waits : {ms : List (List ℕ)} → NoneAccepted ms → open_from s false ms ≡ false
  unfolding open_from
  waits NoneAccepted.no_more = refl
  waits (NoneAccepted.next m ms x h n) = open_first m ms (Err x) h ∙ waits n

  pub opens : {before : List (List ℕ)} (after : List (List ℕ)) (m : List ℕ) (f : Fixed) → NoneAccepted before →
      judged (read_of fixed_form false) m ≡ Ok f → open_from s false (before ++ m ∷ after) ≡ true
  opens after m f NoneAccepted.no_more h = open_first m after (Ok f) h ∙ open_stays after
  opens after m f (NoneAccepted.next b before x g n) h = open_first b (before ++ m ∷ after) (Err x) g ∙ opens after m f n h

  pub waiting : {ms : List (List ℕ)} → NoneAccepted ms → readings_from s false ms ≡ all_fixed (judged_all (read_of fixed_form false) ms)
  unfolding readings_from all_fixed judged_all
  waiting NoneAccepted.no_more = refl
  waiting (NoneAccepted.next m ms x h n) = first m ms (Err x) h ∙ ap₂ ◌∷◌ (ap as_fixed (sym h)) (waiting n)

  pub opened : {before : List (List ℕ)} (after : List (List ℕ)) (m : List ℕ) (f : Fixed) → NoneAccepted before →
      judged (read_of fixed_form false) m ≡ Ok f →
      readings_from s false (before ++ m ∷ after) ≡
      all_fixed (judged_all (read_of fixed_form false) before) ++ as_fixed (Ok f) ∷ all_records (judged_all (read_of (form_of s) s.checksum) after)
  unfolding all_fixed judged_all
  opened after m f NoneAccepted.no_more h = first m after (Ok f) h ∙ ap (λ (x : List Reading). as_fixed (Ok f) ∷ x) (records after)
  opened after m f (NoneAccepted.next b before x g n) h =
      first b (before ++ m ∷ after) (Err x) g ∙ ap₂ ◌∷◌ (ap as_fixed (sym g)) (opened after m f n h)
