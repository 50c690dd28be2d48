-- What a C host may conclude from a recorder's calls: by the reader that it uses, and by what it hands out. Assumes nothing.
use Prim.Native.Nat.{ℕ, ◌<◌}
use mathlib.Core.Bool.{true, false}
use mathlib.Core.List.{List}
use mathlib.Core.Logic.Iff
use mathlib.Core.Path.{◌≡◌, refl, sym, ap, ◌∙◌}
use Rattle.std.specs.Prelude.{Err, Ok}
use Rattle.laws.specs.Gives.{Gives}
use Rattle.laws.proofs.Tests.{told}
use Rattle.refusal.specs.Answer.{Answer}
use Rattle.refusal.specs.Refusal.{number_of, value_of}
use Rattle.refusal.specs.declared.Refusal.{Refusal}
use Rattle.refusal.specs.declared.Refusal.TheVariants.{Room, State}
use Rattle.refusal.proofs.Promises.{numbers}
use Rattle.demand2.proofs.Proved.{demand2}
use Rattle.cutter.specs.Cutter.{ended, cut_of, answer_by, left_by_said, then_read}
use Rattle.cutter.proofs.Promises.{promised as cuts}
use Rattle.cut_reader.proofs.Promises.{promised as cut}
use Rattle.recorder.specs.Recorder.{reading_of, take_by, take_of, has_made, is_opening, send_of}
use Rattle.recorder.specs.declared.Recorder.{Recorder}
use Rattle.recorder.proofs.Promises.{promised as recorded}
use Rattle.layout.proofs.Promises.{promised as laid}
use Rattle.hourheron.specs.Clauses.{HeronReadText, HeronReadPacked, HeronReadFixed, HeronRecorderSendValue, HeronRecorderTakeValue}
use Rattle.hourheron.specs.Host.{answer_of}
use Rattle.conclusions.specs.Stream.{answer_out, TakeCall, SendCall}
use Rattle.hourheron.specs.Takes.{reading_by, lay_in, lay_left}
use Rattle.hourheron.specs.declared.SendValue.{SendValue}
use Rattle.hourheron.specs.declared.TakeValue.{TakeValue}
use Rattle.conclusions.proofs.Stream.{Alone, alone_16, Makes, makes_read, of_piece}

-- ---- a piece

module _ (r : Recorder) (p out : List ℕ) where
  makes_take : Makes (λ m. lay_in (reading_by r m) out) (λ m d. lay_left (reading_by r m) d) r.cutter p out
  unfolding reading_of lay_in lay_left
  makes_take =
      let c = r.cutter in
      let checksum = r.setup.checksum in
      told r.opened
      (λ y. told r.setup.packed
      (λ k. rw (y, k) (makes_read demand2.packed demand2.packed_refuses laid.of_record cut.packed c p checksum out))
      (λ k. rw (y, k) (makes_read demand2.text demand2.text_refuses laid.of_record cut.text c p checksum out)))
      (λ n. rw n (makes_read demand2.fixed demand2.fixed_refuses laid.of_fixed cut.fixed c p false out))

  not_ended : 161 < r.cutter.len → has_made (take_of r p).made ≡ false
  unfolding take_of take_by has_made
  not_ended v = rw ((cuts.each_call.refused r.cutter p).1 v)

  module _ (m : List ℕ) (q : (cut_of r.cutter p).said ≡ ended (Ok m)) where
    opening_fixed : r.opened ≡ false → is_opening (take_of r p).made ≡ true
    unfolding take_of take_by reading_of is_opening
    opening_fixed o = rw (q, o)

    opening_record : r.opened ≡ true → is_opening (take_of r p).made ≡ false
    unfolding take_of take_by reading_of is_opening
    opening_record o = rw (q, o)

  module _ (v : TakeValue) (after : List ℕ) (call : HeronRecorderTakeValue r p out v after) where
    answer_out_lem : Gives (answer_of (answer_by (λ m. lay_in (reading_by r m) out) (cut_of r.cutter p).said))
        (left_by_said (λ m d. lay_left (reading_by r m) d) (cut_of r.cutter p).said out) (answer_out v) after
    answer_out_lem = record { answers = ap answer_out call.answers; leaves = call.leaves }

    module _ (m : List ℕ) (q : (cut_of r.cutter p).said ≡ ended (Ok m)) where
      at_fixed : r.opened ≡ false → HeronReadFixed m false out (answer_out v) after
      unfolding answer_by left_by_said reading_of lay_in lay_left then_read
      at_fixed o = rw (q, o) at answer_out_lem

      at_text : r.opened ≡ true → r.setup.packed ≡ false → HeronReadText m r.setup.checksum out (answer_out v) after
      unfolding answer_by left_by_said reading_of lay_in lay_left then_read
      at_text o k = rw (q, o, k) at answer_out_lem

      at_packed : r.opened ≡ true → r.setup.packed ≡ true → HeronReadPacked m r.setup.checksum out (answer_out v) after
      unfolding answer_by left_by_said reading_of lay_in lay_left then_read
      at_packed o k = rw (q, o, k) at answer_out_lem

    is_used : v.used ≡ (take_of r p).used
    is_used = ap (λ (x : TakeValue). x.used) call.answers

    is_ended_lem : v.ended ≡ has_made (take_of r p).made
    is_ended_lem = ap (λ (x : TakeValue). x.ended) call.answers

    is_opening_lem : v.opening ≡ is_opening (take_of r p).made
    is_opening_lem = ap (λ (x : TakeValue). x.opening) call.answers

    is_recorder : v.recorder ≡ (take_of r p).recorder
    is_recorder = ap (λ (x : TakeValue). x.recorder) call.answers

    pub takes : TakeCall r p out v after
    takes = record {
      used = is_used;
      ends = is_ended_lem;
      opening = is_opening_lem;
      recorder = is_recorder;
      answer = of_piece _ _ r.cutter p out makes_take (answer_out v) after answer_out_lem;
      invalid_same = λ z.
          let s = recorded.each_call.take_same r p ((recorded.each_call.take_16 r p).1 z) in
          (is_used ∙ s.1, is_ended_lem ∙ not_ended z, is_recorder ∙ s.0);
      fixed = λ m o q. (is_opening_lem ∙ opening_fixed m q o, at_fixed m q o);
      text = λ m o k q. (is_opening_lem ∙ opening_record m q o, at_text m q o k);
      packed = λ m o k q. (is_opening_lem ∙ opening_record m q o, at_packed m q o k);
    }

-- ---- what it has to send

-- a number that a refusal has alone, a number with its value, and any but 0 tell what was written
wrote_alone : (w : Answer ℕ) (y : Refusal) → Alone y → (answer_of w).number ≡ number_of y → w ≡ Err y
wrote_alone (Ok n) y alone e = absurd (numbers.not_zero y (sym e))
wrote_alone (Err x) y alone e = ap Err (alone x e)

wrote_with : (w : Answer ℕ) (y : Refusal) → (answer_of w).number ≡ number_of y → (answer_of w).value ≡ value_of y → w ≡ Err y
wrote_with (Ok n) y e f = absurd (numbers.not_zero y (sym e))
wrote_with (Err x) y e f = ap Err (numbers.apart x y e f)

wrote_not : (w : Answer ℕ) → ((answer_of w).number ≡ 0 → ⊥) → (x : Refusal) × (w ≡ Err x)
wrote_not (Ok n) not = absurd (not refl)
wrote_not (Err x) not = (x, refl)

module _ (r : Recorder) (out : List ℕ) (v : SendValue) (after : List ℕ) (call : HeronRecorderSendValue r out v after) where
  is_number : v.number ≡ (answer_of (send_of r out).wrote).number
  is_number = ap (λ (x : SendValue). x.number) call.answers

  is_value_lem : v.value ≡ (answer_of (send_of r out).wrote).value
  is_value_lem = ap (λ (x : SendValue). x.value) call.answers

  is_next : v.recorder ≡ (send_of r out).recorder
  is_next = ap (λ (x : SendValue). x.recorder) call.answers

  number_of_lem : (w : Answer ℕ) → (send_of r out).wrote ≡ w → v.number ≡ (answer_of w).number
  number_of_lem w e = is_number ∙ ap (λ (x : Answer ℕ). (answer_of x).number) e

  value_of_lem : (w : Answer ℕ) → (send_of r out).wrote ≡ w → v.value ≡ (answer_of w).value
  value_of_lem w e = is_value_lem ∙ ap (λ (x : Answer ℕ). (answer_of x).value) e

  pub sends : SendCall r out v after
  sends =
      let each = recorded.each_call in
      record {
        recorder = is_next;
        asks = λ z s h.
            let e = each.asks r out z s h in
            (number_of_lem _ e.0, value_of_lem _ e.0, call.leaves ∙ e.1, ap (λ (x : Recorder). x.sent) is_next ∙ e.2);
        asks_once = λ z s.
            let e = each.asks_once r out z s in
            (number_of_lem _ e.0, value_of_lem _ e.0, call.leaves ∙ e.1, is_next ∙ e.2);
        invalid = (
          λ e. (each.send_16 r out).0 (wrote_alone _ State alone_16 (sym is_number ∙ e)),
          λ z. number_of_lem _ ((each.send_16 r out).1 z),
        );
        alone = λ e. value_of_lem _ (wrote_alone _ State alone_16 (sym is_number ∙ e));
        no_room = λ n.
            Iff.trans
            (λ e. wrote_with _ (Room n) (sym is_number ∙ e.0) (sym is_value_lem ∙ e.1), λ e. (number_of_lem _ e, value_of_lem _ e))
            (each.send_2 r out n);
        refused_same = λ not.
            let w = wrote_not (send_of r out).wrote (λ z. not (is_number ∙ z)) in
            let e = each.send_same r out w.0 w.1 in
            (is_next ∙ e.0, call.leaves ∙ e.1);
      }
