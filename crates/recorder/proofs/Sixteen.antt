-- 16 is not said of a message: no reader answers it, and no cutter hands it on. Assumes nothing.
use Prim.Native.Nat.{ℕ, ◌+◌}
use mathlib.Core.Bool.{Bool, true, false}
use mathlib.Core.List.{List}
use mathlib.Core.Path.{◌≡◌, refl, ap}
use lib.Dec.{eqb}
use lib.ListN.{length, take}
use Rattle.std.specs.Prelude.{Some, Err, Ok}
use Rattle.laws.proofs.Tests.{by, never}
use Rattle.refusal.specs.Answer.{Answer, Verdict}
use Rattle.refusal.specs.declared.Refusal.TheVariants.{State}
use Rattle.codec.specs.Codec.{Codec, Got, got, wrong}
use Rattle.frame.specs.Frame.{ending_width, is_ended, sums, opening}
use Rattle.frame.specs.Message.{found, afterwards, read_of}
use Rattle.record.specs.declared.Record.{Record}
use Rattle.fixed.specs.Form.{fixed_form}
use Rattle.fixed.specs.declared.Fixed.{Fixed}
use Rattle.cutter.specs.Cutter.{Said, invalid, nothing, ended, cut_of, then_read}
use Rattle.cutter.specs.declared.Cutter.{Cutter}
use Rattle.cutter.proofs.Nine.{only_9}
use Rattle.recorder.specs.Recorder.{form_of, reading_of, take_by, verdict_in}
use Rattle.recorder.specs.declared.Reading.TheVariants.{Fixed as as_fixed, Record as as_record}
use Rattle.recorder.specs.declared.Setup.{Setup}
use Rattle.recorder.specs.declared.Recorder.{Recorder}

-- ---- a reader

abbrev NotOpening : Verdict → Type 0
NotOpening v = v ≡ Err State → ⊥

opening_not : (checksum : Bool) (w : ℕ) (m : List ℕ) → NotOpening (opening checksum w m)
unfolding opening
opening_not checksum w m =
    by NotOpening (eqb (length m) (w + ending_width checksum)) _ _
    (λ _. by NotOpening (is_ended m) _ _
    (λ _. by NotOpening checksum _ _ (λ _. by NotOpening (sums w m) _ _ (λ _ e. never (cc)) (λ _ e. never (cc))) (λ _ e. never (cc)))
    (λ _ e. never (cc)))
    (λ _ e. never (cc))

module _ {A : Type 0} where
  found_not : (g : Got A) → found g ≡ Err State → ⊥
  unfolding found
  found_not (got a) e = never (cc)
  found_not (wrong i) e = never (cc)

  afterwards_not : (v : Verdict) (g : Got A) → NotOpening v → afterwards v (found g) ≡ Err State → ⊥
  unfolding afterwards
  afterwards_not (Ok tt) g h e = found_not g e
  afterwards_not (Err x) g h e = h (cc)

  -- it came with the message
  read_16 : (form : Codec A) (checksum : Bool) (m : Answer (List ℕ)) → then_read (read_of form checksum) m ≡ Err State → m ≡ Err State
  unfolding then_read read_of
  read_16 form checksum (Ok m) e = absurd (afterwards_not _ (form.parse (take form.width m)) (opening_not checksum form.width m) e)
  read_16 form checksum (Err x) e = cc

fixed_16 : (a : Answer Fixed) → verdict_in (Ok (Some (as_fixed a))) ≡ Err State → a ≡ Err State
unfolding verdict_in
fixed_16 (Ok f) e = never (cc)
fixed_16 (Err x) e = cc

record_16 : (a : Answer Record) → verdict_in (Ok (Some (as_record a))) ≡ Err State → a ≡ Err State
unfolding verdict_in
record_16 (Ok f) e = never (cc)
record_16 (Err x) e = cc

reading_16 : (s : Setup) (opened : Bool) (m : Answer (List ℕ)) → verdict_in (Ok (Some (reading_of s opened m))) ≡ Err State → m ≡ Err State
unfolding reading_of
reading_16 s true m e = read_16 (form_of s) s.checksum m (record_16 _ e)
reading_16 s false m e = read_16 fixed_form false m (fixed_16 _ e)

-- ---- the cutter

pub cut_not : (c : Cutter) (p : List ℕ) → (cut_of c p).said ≡ ended (Err State) → ⊥
cut_not c p e = let k = only_9 c p State e in never (cc)

-- ---- a call

pub taken_16 : (r : Recorder) (x : Said) (used : ℕ) (c : Cutter) → (x ≡ ended (Err State) → ⊥) →
    verdict_in (take_by r x used c).made ≡ Err State → x ≡ invalid
unfolding take_by verdict_in
taken_16 r invalid used c h e = refl
taken_16 r nothing used c h e = never (cc)
taken_16 r (ended m) used c h e = absurd (h (ap ended (reading_16 r.setup r.opened m e)))
