-- A call by its cases: refused, held, told, or short of room; what is promised of each call is read off them. Assumes nothing.
use Prim.Native.Nat.{ℕ, ◌+◌, ◌≤◌, ◌<◌}
use mathlib.Core.Bool.{true, false}
use mathlib.Core.List.{List}
use mathlib.Core.Path.{◌≡◌, refl, sym, ap, ap₂, ◌∙◌}
use native.Mathlib.Omega.{arith}
use borrow.Author.Tests.{eqb-true, eqb-false, leb-true, leb-false}
use lib.Dec.{leb, eqb}
use lib.ListN.{length, take}
use Rattle.std.specs.Prelude.{Err, Ok}
use Rattle.laws.specs.Over.{over}
use Rattle.laws.proofs.Tests.{told, never, and_left}
use Rattle.refusal.specs.Answer.{Answer}
use Rattle.refusal.specs.declared.Refusal.TheVariants as refusal
use Rattle.capture.specs.Words.{before}
use Rattle.capture.proofs.Words.{before_low}
use Rattle.printed.specs.Printed.{LF}
use Rattle.runs.specs.Runs.{valid_runs, TellingAt, tell_at, told_at, told_at_leaves}
use Rattle.runs.specs.declared.Addressed.{Addressed}
use Rattle.runs.specs.declared.Runs.{Runs}
use Rattle.runs.specs.declared.ToldAt.{ToldAt}
use Rattle.runs.proofs.Promises.{each_call}
use Rattle.follow.specs.Follow.{blank_text, valid_text, valid_follower, followed_by, refused_state, hold_of, event_in, event_held, take_of, take_leaves, close_of, close_leaves}
use Rattle.follow.specs.declared.Follower.{Follower}
use Rattle.follow.specs.declared.Followed.{Followed}
use Rattle.follow.proofs.Laws.{take_16, take_hold, take_line, close_16, close_none, close_line}

-- ---- a line that is told

module _ (r : Runs) (x : Addressed) (out : List ℕ) (v : valid_runs r ≡ true) where
  abbrev t : TellingAt
  t = tell_at r x

  told_whole : length t.text ≤ length out →
      (told_at r x out ≡ record { wrote = Ok (length t.text); runs = t.runs }) × (told_at_leaves r x out ≡ over out 0 t.text)
  told_whole h = each_call.tell_done r x out ((each_call.both_valid r).0 v x.side) h

  told_short : length out < length t.text → (told_at r x out ≡ record { wrote = Err (refusal.Room (length t.text)); runs = r }) × (told_at_leaves r x out ≡ out)
  told_short h =
      let w = (each_call.tell_2 r x out (length t.text)).1 ((each_call.both_valid r).0 v x.side, h, refl) in
      let same = each_call.tell_same r x out _ w in
      (ap₂ (λ (y : Answer ℕ) (q : Runs). record { wrote = y; runs = q }) w same.0, same.1)

-- ---- take

valid_runs_lem : (f : Follower) → valid_follower f ≡ true → valid_runs f.runs ≡ true
valid_runs_lem f v = and_left (valid_runs f.runs) (valid_text f.text) v

-- the follower once a text was printed
abbrev pub told_to : Follower → TellingAt → ℕ → Followed
told_to f t used = record { wrote = Ok (length t.text); used = used; follower = record { runs = t.runs; text = blank_text; ports = f.ports } }

abbrev pub short_of : Follower → TellingAt → Followed
short_of f t = record { wrote = Err (refusal.Room (length t.text)); used = 0; follower = f }

module _ (f : Follower) (piece out : List ℕ) where
  -- what the line tells that ends in the piece
  abbrev pub ending : TellingAt
  ending = tell_at f.runs (event_in f (take (before LF piece) piece))

  pub data Took : Type 0 where
    invalid : valid_follower f ≡ false → take_of f piece out ≡ refused_state f → take_leaves f piece out ≡ out → Took
    held : valid_follower f ≡ true → before LF piece ≡ length piece → take_of f piece out ≡ hold_of f piece → take_leaves f piece out ≡ out → Took
    whole : valid_follower f ≡ true → before LF piece < length piece → length ending.text ≤ length out →
        take_of f piece out ≡ told_to f ending (before LF piece + 1) → take_leaves f piece out ≡ over out 0 ending.text → Took
    short : valid_follower f ≡ true → before LF piece < length piece → length out < length ending.text →
        take_of f piece out ≡ short_of f ending → take_leaves f piece out ≡ out → Took

  abbrev event : Addressed
  event = event_in f (take (before LF piece) piece)

  -- a line ends
  pub line_is : valid_follower f ≡ true → before LF piece < length piece →
      (take_of f piece out ≡ followed_by f (told_at f.runs event out) (before LF piece + 1)) × (take_leaves f piece out ≡ told_at_leaves f.runs event out)
  line_is v low =
      let g = take_line f piece out v (λ e. absurd (omega arith)) refl (record { answers = refl; leaves = refl }) in
      (sym g.answers, sym g.leaves)

  pub took : Took
  took =
      told (valid_follower f)
      (λ v.
      let ours = valid_runs_lem f v in
      told (eqb (before LF piece) (length piece))
      (λ e.
      let g = take_hold f piece out v (eqb-true _ _ e) in
      held v (eqb-true _ _ e) (sym g.answers) (sym g.leaves))
      (λ e.
      let n : before LF piece ≡ length piece → ⊥ = eqb-false _ _ e in
      let low : before LF piece < length piece = omega (arith, before_low LF piece, n) in
      let l = line_is v low in
      told (leb (length ending.text) (length out))
      (λ h.
      let t = told_whole f.runs event out ours (leb-true _ _ h) in
      whole v low (leb-true _ _ h) (l.0 ∙ ap (λ (x : ToldAt). followed_by f x (before LF piece + 1)) t.0) (l.1 ∙ t.1))
      (λ h.
      let t = told_short f.runs event out ours (leb-false _ _ h) in
      short v low (leb-false _ _ h) (l.0 ∙ ap (λ (x : ToldAt). followed_by f x (before LF piece + 1)) t.0) (l.1 ∙ t.1))))
      (λ v.
      let g = take_16 f piece out v in
      invalid v (sym g.answers) (sym g.leaves))

-- ---- close

module _ (f : Follower) (out : List ℕ) where
  -- what the line tells that has not ended
  abbrev pub unended : TellingAt
  unended = tell_at f.runs (event_held f)

  pub data Closed : Type 0 where
    invalid : valid_follower f ≡ false → close_of f out ≡ refused_state f → close_leaves f out ≡ out → Closed
    no_line : valid_follower f ≡ true → f.text.len ≡ 0 → close_of f out ≡ record { wrote = Ok 0; used = 0; follower = f } → close_leaves f out ≡ out → Closed
    whole : valid_follower f ≡ true → (f.text.len ≡ 0 → ⊥) → length unended.text ≤ length out → close_of f out ≡ told_to f unended 0 →
        close_leaves f out ≡ over out 0 unended.text → Closed
    short : valid_follower f ≡ true → (f.text.len ≡ 0 → ⊥) → length out < length unended.text → close_of f out ≡ short_of f unended →
        close_leaves f out ≡ out → Closed

  pub closed : Closed
  closed =
      told (valid_follower f)
      (λ v.
      let ours = valid_runs_lem f v in
      told (eqb f.text.len 0)
      (λ e.
      let g = close_none f out v (eqb-true _ _ e) in
      no_line v (eqb-true _ _ e) (sym g.answers) (sym g.leaves))
      (λ e.
      let n : f.text.len ≡ 0 → ⊥ = eqb-false _ _ e in
      let g = close_line f out v n refl (record { answers = refl; leaves = refl }) in
      told (leb (length unended.text) (length out))
      (λ h.
      let t = told_whole f.runs (event_held f) out ours (leb-true _ _ h) in
      whole v n (leb-true _ _ h) (sym g.answers ∙ ap (λ (x : ToldAt). followed_by f x 0) t.0) (sym g.leaves ∙ t.1))
      (λ h.
      let t = told_short f.runs (event_held f) out ours (leb-false _ _ h) in
      short v n (leb-false _ _ h) (sym g.answers ∙ ap (λ (x : ToldAt). followed_by f x 0) t.0) (sym g.leaves ∙ t.1))))
      (λ v.
      let g = close_16 f out v in
      invalid v (sym g.answers) (sym g.leaves))

-- ---- what is read off

pub within : (f : Follower) (piece out : List ℕ) → (take_of f piece out).used ≤ length piece
within f piece out = by_case (took f piece out)
  where
    by_case : Took f piece out → (take_of f piece out).used ≤ length piece
    by_case (invalid v e l) = rw e (omega arith)
    by_case (held v n e l) = rw e (omega arith)
    by_case (whole v n h e l) = rw e (omega arith)
    by_case (short v n h e l) = rw e (omega arith)

pub fits : (f : Follower) (piece out : List ℕ) (n : ℕ) → (take_of f piece out).wrote ≡ Ok n → n ≤ length out
fits f piece out n c = by_case (took f piece out)
  where
    by_case : Took f piece out → n ≤ length out
    by_case (invalid v e l) = never (cc)
    by_case (held v q e l) = let z : n ≡ 0 = cc in omega arith
    by_case (whole v q h e l) = let z : n ≡ length (ending f piece out).text = cc in omega arith
    by_case (short v q h e l) = never (cc)
