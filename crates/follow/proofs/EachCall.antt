-- What is promised of each call: read off the cases of `take` and of `close`, with what is promised of the run that a line tells. Assumes nothing.
use Prim.Native.Nat.{ℕ, ◌≤◌, ◌<◌}
use mathlib.Core.Bool.{true, false}
use mathlib.Core.List.{List, [], ◌∷◌}
use mathlib.Core.Logic.{◌↔◌, ◌⊎◌, inl, inr, ◌≢◌}
use mathlib.Core.Path.{◌≡◌, refl, sym}
use native.Mathlib.Omega.{arith}
use borrow.Author.Tests.{le-leb, lt-leb, leb-true, leb-false, ltb-true}
use lib.Dec.{ltb}
use lib.ListN.{length, take}
use Rattle.std.specs.Prelude.{Err, Ok}
use Rattle.laws.proofs.Tests.{told, by, never, and_left, and_both, and_fails, and_fails_by}
use Rattle.refusal.specs.declared.Refusal.{Refusal}
use Rattle.refusal.specs.declared.Refusal.TheVariants.{Room, State}
use Rattle.capture.specs.Words.{before}
use Rattle.printed.specs.Printed.{LF}
use Rattle.runs.specs.Runs.{valid_runs}
use Rattle.runs.proofs.Ports.{few_slots}
use Rattle.runs.proofs.Promises.{each_call as of-runs}
use Rattle.follow.specs.Follow.{held_length, valid_text, held_in, joins, joined_text, valid_follower, line_in, event_in, event_held, take_of, take_leaves, close_of, close_leaves}
use Rattle.follow.specs.Promises.{EachCall}
use Rattle.follow.specs.declared.Text.{Text}
use Rattle.follow.specs.declared.Follower.{Follower}
use Rattle.follow.proofs.Laws.{valid_text_lem}
use Rattle.follow.proofs.Each.{ending, Took, invalid, held, whole, short, took, unended, Closed, no_line, closed, within, fits}

-- ---- a follower that is none of ours

abbrev Foreign : Follower → Type 0
Foreign f = (valid_runs f.runs ≡ false) ⊎ (138 < f.text.len)

foreign : (f : Follower) → valid_follower f ≡ false → Foreign f
foreign f n =
    told (valid_runs f.runs)
    (λ r. told (valid_text f.text) (λ t. never (cc (and_both r t))) (λ t. inr (leb-false _ _ t)))
    (λ r. inl r)

is_foreign : (f : Follower) → Foreign f → valid_follower f ≡ false
is_foreign f (inl r) = sym (and_fails (valid_text f.text) r)
is_foreign f (inr t) = sym (and_fails_by (valid_runs f.runs) (lt-leb _ _ t))

-- ---- a line that comes in

-- its count stays within the buffer, whatever the buffer is
joined_few : (t : Text) (s : List ℕ) → t.len ≤ held_length → (joined_text t s).len ≤ held_length
unfolding joined_text joins
joined_few t [] h = h
joined_few t (b ∷ s) h =
    joined_few (joins t b) s
    (by (λ (u : Text). u.len ≤ held_length) (ltb t.len held_length) _ _
    (λ e. let low : t.len < held_length = ltb-true _ _ e in omega arith)
    (λ e. h))

-- ---- a call, by its case

module _ {f : Follower} {piece out : List ℕ} where
  take_16 : Took f piece out → ((take_of f piece out).wrote ≡ Err State) ↔ (valid_follower f ≡ false)
  take_16 (invalid v e l) = (λ h. v, λ n. cc)
  take_16 (held v q e l) = (λ h. never (cc), λ n. never (cc))
  take_16 (whole v q k e l) = (λ h. never (cc), λ n. never (cc))
  take_16 (short v q k e l) = (λ h. never (cc), λ n. never (cc))

  take_2 : Took f piece out → (n : ℕ) →
      ((take_of f piece out).wrote ≡ Err (Room n)) ↔
      ((valid_follower f ≡ true) × (before LF piece < length piece) × (length out < length (ending f piece out).text) × (n ≡ length (ending f piece out).text))
  take_2 (invalid v e l) n = (λ h. never (cc), λ h. never (cc))
  take_2 (held v q e l) n = (λ h. never (cc), λ h. absurd (omega arith))
  take_2 (whole v q k e l) n = (λ h. never (cc), λ h. absurd (omega arith))
  take_2 (short v q k e l) n = (λ h. (v, q, k, cc), λ h. cc)

  take_same : Took f piece out → (x : Refusal) → (take_of f piece out).wrote ≡ Err x →
      ((take_of f piece out).used ≡ 0) × ((take_of f piece out).follower ≡ f) × (take_leaves f piece out ≡ out)
  take_same (invalid v e l) x h = (cc, cc, l)
  take_same (held v q e l) x h = never (cc)
  take_same (whole v q k e l) x h = never (cc)
  take_same (short v q k e l) x h = (cc, cc, l)

  uses_some : Took f piece out → (n : ℕ) → (take_of f piece out).wrote ≡ Ok n → 0 < length piece → 0 < (take_of f piece out).used
  uses_some (invalid v e l) n h some = never (cc)
  uses_some (held v q e l) n h some = rw e some
  uses_some (whole v q k e l) n h some = rw e (omega arith)
  uses_some (short v q k e l) n h some = never (cc)

  -- no line has more than 999 slots
  goes_on : Took f piece out → valid_follower f ≡ true → 2997 ≤ length out → (n : ℕ) × ((take_of f piece out).wrote ≡ Ok n)
  goes_on (invalid v e l) t h = never (cc)
  goes_on (held v q e l) t h = (0, cc)
  goes_on (whole v q k e l) t h = (length (ending f piece out).text, cc)
  goes_on (short v q k e l) t h =
      let most = of-runs.longest f.runs (event_in f (take (before LF piece) piece)) (few_slots f.ports (line_in f (take (before LF piece) piece))) in
      absurd (omega arith)

  kept_valid : Took f piece out → valid_follower f ≡ true → valid_follower (take_of f piece out).follower ≡ true
  kept_valid (invalid v e l) t = rw e t
  kept_valid (held v q e l) t =
      rw e (and_both (and_left (valid_runs f.runs) _ t) (le-leb _ _ (joined_few f.text piece (leb-true _ _ (valid_text_lem f t)))))
  kept_valid (whole v q k e l) t = rw e (and_both (of-runs.tell_valid f.runs _ (and_left (valid_runs f.runs) _ t)) refl)
  kept_valid (short v q k e l) t = rw e t

close_same : {f : Follower} {out : List ℕ} → Closed f out → (x : Refusal) → (close_of f out).wrote ≡ Err x → ((close_of f out).follower ≡ f) × (close_leaves f out ≡ out)
close_same (invalid v e l) x h = (cc, l)
close_same (no_line v z e l) x h = never (cc)
close_same (whole v z k e l) x h = never (cc)
close_same (short v z k e l) x h = (cc, l)

close_16 : {f : Follower} {out : List ℕ} → Closed f out → ((close_of f out).wrote ≡ Err State) ↔ (valid_follower f ≡ false)
close_16 (invalid v e l) = (λ h. v, λ n. cc)
close_16 (no_line v z e l) = (λ h. never (cc), λ n. never (cc))
close_16 (whole v z k e l) = (λ h. never (cc), λ n. never (cc))
close_16 (short v z k e l) = (λ h. never (cc), λ n. never (cc))

-- 2 exactly for a line whose text is too long
close_2 : {f : Follower} {out : List ℕ} → Closed f out → (n : ℕ) →
    ((close_of f out).wrote ≡ Err (Room n)) ↔
    ((valid_follower f ≡ true) × (f.text.len ≢ 0) × (length out < length (unended f out).text) × (n ≡ length (unended f out).text))
close_2 (invalid v e l) n = (λ h. never (cc), λ h. never (cc))
close_2 (no_line v z e l) n = (λ h. never (cc), λ h. absurd (h.1 z))
close_2 (whole v z k e l) n = (λ h. never (cc), λ h. absurd (omega arith))
close_2 (short v z k e l) n = (λ h. (v, z, k, cc), λ h. cc)

close_goes_on : {f : Follower} {out : List ℕ} → Closed f out → valid_follower f ≡ true → 2997 ≤ length out → (n : ℕ) × ((close_of f out).wrote ≡ Ok n)
close_goes_on (invalid v e l) t h = never (cc)
close_goes_on (no_line v z e l) t h = (0, cc)
close_goes_on {f} {out} (whole v z k e l) t h = (length (unended f out).text, cc)
close_goes_on {f} (short v z k e l) t h =
    let most = of-runs.longest f.runs (event_held f) (few_slots f.ports (held_in f.text)) in
    absurd (omega arith)

close_valid : {f : Follower} {out : List ℕ} → Closed f out → valid_follower f ≡ true → valid_follower (close_of f out).follower ≡ true
close_valid (invalid v e l) t = rw e t
close_valid (no_line v z e l) t = rw e t
close_valid {f} (whole v z k e l) t = rw e (and_both (of-runs.tell_valid f.runs _ (and_left (valid_runs f.runs) _ t)) refl)
close_valid (short v z k e l) t = rw e t

close_once : {f : Follower} {out : List ℕ} {n : ℕ} → Closed f out → (close_of f out).wrote ≡ Ok n → ((close_of f out).used ≡ 0) × ((close_of f out).follower.text.len ≡ 0)
close_once (invalid v e l) h = never (cc)
close_once (no_line v z e l) h = (cc, rw e z)
close_once (whole v z k e l) h = (cc, rw e)
close_once (short v z k e l) h = never (cc)

pub each_call : EachCall
each_call = record {
  begins = λ letter ports. of-runs.start_verdict_lem letter;
  close_once = λ f out n. close_once (closed f out);
  take_16 = λ f piece out. (
    λ h. foreign f ((take_16 (took f piece out)).0 h),
    λ h. (take_16 (took f piece out)).1 (is_foreign f h),
  );
  take_2 = λ f piece out. take_2 (took f piece out);
  take_same = λ f piece out. take_same (took f piece out);
  close_same = λ f out. close_same (closed f out);
  close_16 = λ f out. (
    λ h. foreign f ((close_16 (closed f out)).0 h),
    λ h. (close_16 (closed f out)).1 (is_foreign f h),
  );
  close_2 = λ f out n. close_2 (closed f out) n;
  close_goes_on = λ f out. close_goes_on (closed f out);
  close_valid = λ f out. close_valid (closed f out);
  within = within;
  fits = fits;
  uses_some = λ f piece out. uses_some (took f piece out);
  goes_on = λ f piece out. goes_on (took f piece out);
  kept_valid = λ f piece out. kept_valid (took f piece out);
}
