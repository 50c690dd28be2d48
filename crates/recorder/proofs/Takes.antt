-- What a message is read as, and what taking a piece comes to, by where a message ends in it. Assumes nothing.
use Prim.Native.Nat.{ℕ, ◌≤◌}
use mathlib.Core.Bool.{Bool, true, false, ◌||◌}
use mathlib.Core.List.{List}
use mathlib.Core.Path.{◌≡◌, refl, ap, ◌∙◌}
use lib.ListN.{length, take}
use Rattle.std.specs.Prelude.{None, Some, Ok, Err}
use Rattle.laws.proofs.Tests.{told, cond_yes, cond_no}
use Rattle.refusal.specs.Answer.{Answer, is_accepted, is_done}
use Rattle.frame.specs.Message.{read_of}
use Rattle.fixed.specs.Form.{fixed_form}
use Rattle.cutter.specs.Cutter.{cutter_length, fresh, valid_cutter, Cutting, then_read, end_in}
use Rattle.cutter.proofs.Cuts.{cut_none, cut_some}
use Rattle.recorder.specs.Recorder.{form_of, reading_of, opens_by, cut_on, take_by, take_of, reading_in, hold_of, verdict_in}
use Rattle.fixed.specs.declared.Fixed as fixed
use Rattle.recorder.specs.declared.Reading.TheVariants.{Fixed as as_fixed, Record as as_record}
use Rattle.recorder.specs.declared.Setup.{Setup}
use Rattle.recorder.specs.declared.Recorder.{Recorder}

-- ---- a message

module _ (s : Setup) (m : Answer (List ℕ)) where
  pub reads_record : {opened : Bool} → opened ≡ true → reading_of s opened m ≡ as_record (then_read (read_of (form_of s) s.checksum) m)
  unfolding reading_of
  reads_record e = cond_yes _ _ e

  pub reads_fixed : {opened : Bool} → opened ≡ false → reading_of s opened m ≡ as_fixed (then_read (read_of fixed_form false) m)
  unfolding reading_of
  reads_fixed e = cond_no _ _ e

-- it opens exactly where a message of fixed data is done, and stays so
accepted_done : (a : Answer fixed.Fixed) → is_accepted a ≡ is_done (verdict_in (Ok (Some (as_fixed a))))
unfolding verdict_in
accepted_done (Ok f) = refl
accepted_done (Err x) = refl

pub opens_done : (s : Setup) (opened : Bool) (m : Answer (List ℕ)) →
    opens_by opened (reading_of s opened m) ≡ (opened || is_done (verdict_in (Ok (Some (reading_of s opened m)))))
unfolding reading_of opens_by
opens_done s true m = refl
opens_done s false m = accepted_done (then_read (read_of fixed_form false) m)

-- ---- a piece

module _ (r : Recorder) (p : List ℕ) (long : length r.cutter.bytes ≡ cutter_length) where
  -- no message ends
  pub take_none : end_in r.cutter p ≡ None → take_of r p ≡ hold_of r p
  unfolding take_of take_by hold_of
  take_none z =
      ap (λ (t : Cutting). take_by r t.said t.used t.cutter) (cut_none r.cutter p long z)
      ∙ told (valid_cutter r.cutter) (λ v. rw v) (λ v. rw v)

  -- one ends
  pub take_some : (e : ℕ) → end_in r.cutter p ≡ Some e → (e ≤ length p) × (take_of r p ≡
      record {
        made = Ok (Some (reading_in r (take e p)));
        used = e;
        recorder = cut_on r fresh (opens_by r.opened (reading_in r (take e p)));
      })
  unfolding take_of take_by reading_in
  take_some e z =
      let g = cut_some r.cutter p e long z in
      (g.1, ap (λ (t : Cutting). take_by r t.said t.used t.cutter) g.2)
