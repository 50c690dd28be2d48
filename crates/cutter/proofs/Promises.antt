-- The promises hold. Assumes nothing.
use Prim.Native.Nat.{ℕ, ◌+◌, ◌-◌, ◌≤◌, ◌<◌}
use mathlib.Core.Bool.{false}
use mathlib.Core.List.{List, ◌∷◌, ◌++◌}
use mathlib.Core.Logic.{◌↔◌}
use mathlib.Core.Path.{◌≡◌, refl, sym, ap, ◌∙◌}
use native.Mathlib.Omega.{arith}
use borrow.Author.Tests.{le-leb, lt-leb, leb-true, leb-false}
use lib.Dec.{leb}
use lib.ListN.{length, take, drop}
use Rattle.std.specs.Prelude.{Ok}
use Rattle.laws.proofs.OverLaws.{over_fits, over_short}
use Rattle.laws.proofs.Tests.{told, never, cond_yes, cond_no}
use Rattle.refusal.specs.Answer.{Answer, unless}
use Rattle.frame.specs.Message.{room_for, then_left}
use Rattle.cutter.specs.Cutter.{cutter_length, zeros, fresh, valid_cutter, held_from, held_message, invalid, nothing, ended, Cutting, cut_of}
use Rattle.cutter.specs.Cutter.{answer_by, left_by_said, has_ended, then_read, whole_in, cut_answer}
use Rattle.cutter.specs.Stream.{messages, judged}
use Rattle.cutter.specs.Promises.{CallAnswers, CallParts, Promised}
use Rattle.cutter.specs.declared.Cutter.{Cutter}
use Rattle.cutter.proofs.Cuts.{cut_some, cut_held, held_small, held_long}
use Rattle.cutter.proofs.Calls.{call, call_refused}
use Rattle.cutter.proofs.Feeding.{resumed, answers, left, elsewhere, named, runs}
use Rattle.cutter.proofs.Splitting.{splits, only, forgets}
use Rattle.cutter.proofs.Lent.{lent, lent_none, lent_next}
use Rattle.cutter.proofs.Ending.{ends_lf_cr}
use Rattle.cutter.proofs.Nine.{only_9}

-- a call, refused or not
module _ (c : Cutter) (p : List ℕ) where
  -- 16 is said of no other cutter
  not_valid : (cut_of c p).said ≡ invalid → valid_cutter c ≡ false
  not_valid e = told (valid_cutter c) (λ v. absurd ((call c p v).not_refused e)) (λ n. n)

  refused : ((cut_of c p).said ≡ invalid) ↔ (161 < c.len)
  refused = (λ e. leb-false c.len 161 (not_valid e), λ h. ap (λ (r : Cutting). r.said) (call_refused c p (lt-leb c.len 161 h)))

  refused_same : (cut_of c p).said ≡ invalid → ((cut_of c p).cutter ≡ c) × ((cut_of c p).used ≡ 0)
  refused_same e =
      let q = call_refused c p (not_valid e) in
      (ap (λ (r : Cutting). r.cutter) q, ap (λ (r : Cutting). r.used) q)

  after_end : (m : Answer (List ℕ)) → (cut_of c p).said ≡ ended m → (cut_of c p).cutter ≡ fresh
  after_end m e = told (valid_cutter c) (λ v. (call c p v).freshly m e) (λ n. let q = call_refused c p n in never (cc))

  unfinished : (cut_of c p).said ≡ nothing → ((cut_of c p).cutter ≡ held_from c p) × ((cut_of c p).used ≡ length p)
  unfinished e =
      told (valid_cutter c)
      (λ v. let a = (call c p v).all e in (a.0, omega (arith, a.1)))
      (λ n. let q = call_refused c p n in never (cc))

  within : (cut_of c p).used ≤ length p
  within =
      told (valid_cutter c)
      (λ v. let u = (call c p v).fits in omega arith)
      (λ n. let u = ap (λ (r : Cutting). r.used) (call_refused c p n) in omega arith)

-- what a call says, known
module _ (c : Cutter) (p out : List ℕ) where
  handed : CallAnswers c p out
  unfolding cut_answer answer_by left_by_said has_ended whole_in then_read then_left room_for unless
  handed = record {
    refuses = λ e. let q = refused_same c p e in (rw e (rw q.0 (rw q.1)), rw e);
    none = λ e. let q = unfinished c p e in (rw e (rw q.0 (rw q.1)), rw e);
    too_long = λ x e. let q = after_end c p _ e in (rw e (rw q (rw (only_9 c p x e))), rw e);
    no_room = λ m e h.
        let q = after_end c p _ e in
        (rw e (rw q (rw (lt-leb (length m) (length out) h))), rw e (over_short out m 0 (omega arith)));
    whole = λ m e h.
        let q = after_end c p _ e in
        let k : 0 + length m ≡ length m = omega arith in
        (rw e (rw q (rw (le-leb (length m) (length out) h))), rw e (over_fits out m 0 (omega arith) ∙ ap (λ (j : ℕ). m ++ drop j out) k));
  }

fresh_whole : (m : List ℕ) → held_message (held_from fresh m) ≡ judged Ok m
unfolding judged unless zeros
fresh_whole m =
    told (leb (length m) cutter_length)
    (λ e. let h = leb-true (length m) cutter_length e in held_small fresh m refl (omega arith) ∙ sym (cond_yes _ _ e))
    (λ e. let h = leb-false (length m) cutter_length e in held_long fresh m (omega arith) ∙ sym (cond_no _ _ e))

parts : CallParts
unfolding zeros
parts = record {
  zero = refl;
  some = λ c p e long z. let q = cut_some c p e long z in (q.0, q.2);
  none = λ c p out long z. sym (cut_held c p out long z).answers;
  whole = fresh_whole;
  behind_none = λ x s z. ((lent s x 0).nowhere z).0;
  behind = λ x s e z.
      let k : e - 0 ≡ e = omega arith in
      let q = (lent s x 0).somewhere e z in
      (q.low, q.is ∙ ap (λ (j : ℕ). (x ++ take j s) ∷ messages (drop j s)) k);
}

pub promised : Promised
promised = record {
  one_list = record { splits = splits; only = only; forgets = forgets };
  any_cutting = record { resumed = resumed; answers = answers; left = left; elsewhere = elsewhere; named = named; runs = runs };
  each_call = record {
    refused = refused;
    refused_same = refused_same;
    after_end = after_end;
    unfinished = unfinished;
    within = within;
    uses_some = λ c p v h. (call c p v).some h;
    kept_valid = λ c p v. (call c p v).valid v;
    ends_lf_cr = ends_lf_cr;
  };
  lent = record { none = lent_none; next = lent_next };
  answers = handed;
  parts = parts;
}
