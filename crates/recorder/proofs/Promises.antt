-- The promises hold. Assumes nothing.
use Prim.Native.Nat.{ℕ, ◌≤◌, ◌<◌}
use mathlib.Core.Bool.{Bool, true, false, ◌&&◌, not, false≢true}
use mathlib.Core.List.{List, ◌∷◌}
use mathlib.Core.Logic.{◌↔◌}
use mathlib.Core.Path.{◌≡◌, refl, sym, ap, ◌∙◌}
use native.Mathlib.Omega.{arith}
use borrow.Author.Tests.{ltb-true, ltb-false, lt-leb, leb-false}
use lib.Dec.{ltb}
use lib.ListN.{length, drop}
use Rattle.std.specs.Prelude.{Some, Err, Ok}
use Rattle.laws.proofs.OverLaws.{over_fits}
use Rattle.laws.proofs.Tests.{told, never}
use Rattle.refusal.specs.Answer.{Answer}
use Rattle.refusal.specs.declared.Refusal.{Refusal}
use Rattle.refusal.specs.declared.Refusal.TheVariants.{Room, State}
use Rattle.cutter.specs.Cutter.{Said, invalid, nothing, ended, cut_of, whole_left}
use Rattle.cutter.specs.declared.Cutter.{Cutter}
use Rattle.cutter.proofs.Promises as cutter
use Rattle.recorder.specs.Recorder.{valid_recorder, asking, hands_out, send_of, reading_of, take_by, take_of, has_made, is_opening, verdict_in, items_in, fields_in}
use Rattle.recorder.specs.Promises.{Promised}
use Rattle.recorder.specs.declared.Setup.{Setup}
use Rattle.recorder.specs.declared.Recorder.{Recorder}
use Rattle.recorder.specs.declared.HandedOut.{HandedOut}
use Rattle.recorder.proofs.Sends.{send_invalid, send_nothing, send_short, send_asking}
use Rattle.recorder.proofs.Readings.{waiting, opened, waits, opens}
use Rattle.recorder.proofs.Running.{take_used, take_cutter, take_sent, readings, left, elsewhere, runs}
use Rattle.recorder.proofs.Sixteen.{cut_not, taken_16}

-- ---- taking

opening_read : (s : Setup) (o : Bool) (m : Answer (List ℕ)) → is_opening (Ok (Some (reading_of s o m))) ≡ not o
unfolding reading_of is_opening
opening_read s true m = refl
opening_read s false m = refl

opening_by : (r : Recorder) (x : Said) (n : ℕ) (c : Cutter) → is_opening (take_by r x n c).made ≡ (has_made (take_by r x n c).made && not r.opened)
unfolding take_by is_opening has_made
opening_by r invalid n c = refl
opening_by r nothing n c = refl
opening_by r (ended m) n c = opening_read r.setup r.opened m

opening_told : (r : Recorder) (p : List ℕ) → is_opening (take_of r p).made ≡ (has_made (take_of r p).made && not r.opened)
unfolding take_of
opening_told r p = opening_by r (cut_of r.cutter p).said _ _

refused_by : (r : Recorder) (s : Said) (n : ℕ) (c : Cutter) (x : Refusal) → (take_by r s n c).made ≡ Err x → x ≡ State
unfolding take_by
refused_by r invalid n c x e = cc
refused_by r nothing n c x e = never (cc)
refused_by r (ended m) n c x e = never (cc)

module _ (r : Recorder) (p : List ℕ) where
  said_invalid : verdict_in (take_of r p).made ≡ Err State → (cut_of r.cutter p).said ≡ invalid
  unfolding take_of
  said_invalid e = taken_16 r (cut_of r.cutter p).said _ _ (cut_not r.cutter p) e

  invalid_said : (cut_of r.cutter p).said ≡ invalid → (take_of r p).made ≡ Err State
  unfolding take_of take_by
  invalid_said i = let t = cut_of r.cutter p in ap (λ (x : Said). (take_by r x t.used t.cutter).made) i

  verdict_16 : (take_of r p).made ≡ Err State → verdict_in (take_of r p).made ≡ Err State
  unfolding verdict_in
  verdict_16 e = ap verdict_in e

  take_16 : ((take_of r p).made ≡ Err State) ↔ (161 < r.cutter.len)
  take_16 =
      let c = (cutter.promised).each_call.refused r.cutter p in
      (λ e. c.0 (said_invalid (verdict_16 e)), λ v. invalid_said (c.1 v))

  take_same : (take_of r p).made ≡ Err State → ((take_of r p).recorder ≡ r) × ((take_of r p).used ≡ 0)
  unfolding take_of take_by
  take_same e =
      let i = said_invalid (verdict_16 e) in
      let c = (cutter.promised).each_call.refused_same r.cutter p i in
      ((λ j. (take_by r (i j) (c.1 j) (c.0 j)).recorder), take_used r p ∙ c.1)

  take_refused : (x : Refusal) → (take_of r p).made ≡ Err x → x ≡ State
  unfolding take_of
  take_refused = refused_by r (cut_of r.cutter p).said _ _

ended_only : (r : Recorder) (x : Said) (used : ℕ) (c : Cutter) → has_made (take_by r x used c).made ≡ true → (m : Answer (List ℕ)) × (x ≡ ended m)
unfolding take_by has_made
ended_only r invalid used c e = absurd (false≢true e)
ended_only r nothing used c e = absurd (false≢true e)
ended_only r (ended m) used c e = (m, refl)

take_ended : (r : Recorder) (p : List ℕ) → (has_made (take_of r p).made ≡ true) ↔ ((m : Answer (List ℕ)) × ((cut_of r.cutter p).said ≡ ended m))
unfolding take_of take_by has_made
take_ended r p = (ended_only r (cut_of r.cutter p).said _ _, λ q. rw q.1)

-- ---- sending

module _ (r : Recorder) (out : List ℕ) where
  -- one of four
  cases : {C : Type 0} → (valid_recorder r ≡ false → C) → (valid_recorder r ≡ true → r.sent ≡ true → C) →
      (valid_recorder r ≡ true → r.sent ≡ false → length out < 2 → C) → (valid_recorder r ≡ true → r.sent ≡ false → 2 ≤ length out → C) → C
  cases f g h k =
      told (valid_recorder r)
      (λ v. told r.sent (g v) (λ s. told (ltb (length out) 2) (λ e. h v s (ltb-true _ _ e)) (λ e. k v s (ltb-false _ _ e))))
      f

  asks : valid_recorder r ≡ true → r.sent ≡ false → 2 ≤ length out →
      ((send_of r out).wrote ≡ Ok 2) × (whole_left (hands_out r) out ≡ 78 ∷ 13 ∷ drop 2 out) × ((send_of r out).recorder.sent ≡ true)
  asks v s h =
      let g = send_asking r out v s h in (
        ap (λ (x : HandedOut). x.wrote) (sym g.answers),
        sym g.leaves ∙ over_fits out asking 0 (omega arith),
        ap (λ (x : HandedOut). x.recorder.sent) (sym g.answers),
      )

  asks_once : valid_recorder r ≡ true → r.sent ≡ true →
      ((send_of r out).wrote ≡ Ok 0) × (whole_left (hands_out r) out ≡ out) × ((send_of r out).recorder ≡ r)
  asks_once v s =
      let g = send_nothing r out v s in
      (ap (λ (x : HandedOut). x.wrote) (sym g.answers), sym g.leaves, ap (λ (x : HandedOut). x.recorder) (sym g.answers))

  send_16 : ((send_of r out).wrote ≡ Err State) ↔ (161 < r.cutter.len)
  send_16 = (
    λ e.
        cases (λ v. leb-false r.cutter.len 161 v)
        (λ v s. let g = (send_nothing r out v s).answers in never (cc))
        (λ v s h. let g = (send_short r out v s h).answers in never (cc))
        (λ v s h. let g = (send_asking r out v s h).answers in never (cc)),
    λ h. ap (λ (x : HandedOut). x.wrote) (sym (send_invalid r out (lt-leb r.cutter.len 161 h)).answers),
  )

  send_2 : (n : ℕ) → ((send_of r out).wrote ≡ Err (Room n)) ↔ ((valid_recorder r ≡ true) × (r.sent ≡ false) × (length out < 2) × (n ≡ 2))
  send_2 n = (
    λ e.
        cases (λ v. let g = (send_invalid r out v).answers in never (cc))
        (λ v s. let g = (send_nothing r out v s).answers in never (cc))
        (λ v s h. let g = (send_short r out v s h).answers in (v, s, h, cc))
        (λ v s h. let g = (send_asking r out v s h).answers in never (cc)),
    λ h. ap (λ (x : HandedOut). x.wrote) (sym (send_short r out h.0 h.1 h.2).answers) ∙ ap (λ (j : ℕ). Err (Room j)) (sym h.3),
  )

  send_same : (x : Refusal) → (send_of r out).wrote ≡ Err x → ((send_of r out).recorder ≡ r) × (whole_left (hands_out r) out ≡ out)
  send_same x e =
      cases
      (λ v. let g = send_invalid r out v in (ap (λ (y : HandedOut). y.recorder) (sym g.answers), sym g.leaves))
      (λ v s. let g = (send_nothing r out v s).answers in never (cc))
      (λ v s h. let g = send_short r out v s h in (ap (λ (y : HandedOut). y.recorder) (sym g.answers), sym g.leaves))
      (λ v s h. let g = (send_asking r out v s h).answers in never (cc))

pub promised : Promised
unfolding verdict_in is_opening items_in fields_in take_of take_by
promised = record {
  of_messages = record {
    first_off = refl;
    first_text = refl;
    text = λ s e. rw e;
    packed = λ s e. rw e;
    waiting = λ s ms. waiting s;
    opened = λ s before. opened s;
    waits = λ s ms. waits s;
    opens = λ s before. opens s;
    told_fixed = λ f. (refl, refl, refl, refl);
    told_no_fixed = λ x. (refl, refl, refl, refl);
    told_record = λ a. (refl, refl, refl, refl);
    told_no_record = λ x. (refl, refl, refl, refl);
  };
  any_calls = record { readings = readings; left = left; elsewhere = elsewhere; runs = runs };
  each_call = record {
    cuts = λ r p. (take_used r p, take_cutter r p);
    take_16 = take_16;
    take_same = take_same;
    take_refused = take_refused;
    told_16 = λ r p e. invalid_said r p (said_invalid r p e);
    opening = opening_told;
    take_none = λ r p e. rw e;
    take_ended = take_ended;
    start_asks = λ s. (refl, refl);
    asks = asks;
    take_sent = take_sent;
    asks_once = asks_once;
    send_16 = send_16;
    send_2 = send_2;
    send_same = send_same;
  };
}
