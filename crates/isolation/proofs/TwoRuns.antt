-- Two runs of the box with the same calls of one port's own: what holds of that port at the start and is kept by its own calls, by restarts and by the turns
-- of the letter that the other port is allowed, holds at the end, and of all answers. Assumes nothing.
use mathlib.Core.Bool.{true, false, true≢false, cond}
use mathlib.Core.List.{List, [], ◌∷◌, ◌++◌, tail, head_d}
use mathlib.Core.Option.{Option, none}
use mathlib.Core.Path.{◌≡◌, refl, sym, ap, subst, ◌∙◌}
use Rattle.std.specs.Prelude as std
use Rattle.std.specs.Prelude.{Err, None, Ok, Some}
use Rattle.laws.proofs.Tests.{told, cond_yes, cond_no, never}
use Rattle.refusal.specs.Answer.{Verdict}
use Rattle.fixed.specs.declared.Settings.{Settings}
use Rattle.units.specs.declared.Measurement.{Measurement}
use Rattle.rules.specs.Lens.{Turn}
use Rattle.walk.specs.Calls.{Held}
use Rattle.walk.specs.Calls as one
use Rattle.connectors.specs.declared.Side.{Side}
use Rattle.connectors.specs.declared.Side.TheVariants.{Camera, External}
use Rattle.connectors.specs.Connectors.{side_of, both_verdict, started_both, started_by, start_both}
use Rattle.isolation.specs.Turns.{turned_by}
use Rattle.isolation.specs.Calls.{Both, held_at, is_side, is_at, Asked, asks, Call, restart, on, is_own, after_in, after, after_all, own_calls, turn_by}
use Rattle.isolation.specs.Answers.{Answer, started, answered, answer_to, answers_at}
use Rattle.isolation.proofs.Acts.{call_turns}
use Rattle.isolation.proofs.Sees.{settled_as}
use Rattle.isolation.proofs.EachPort.{asked_after}

-- ---- what the other port's call turns, as a port sees it

abbrev pub turn_at : Side → Both → std.Option Side → Asked → Option Turn
turn_at a h (Some b) q = cond (is_side a b) none (turn_by (held_at h b) q)
turn_at a h None q = none

abbrev pub turn_in : Side → Both → Call → Option Turn
turn_in a h (restart s camera external) = none
turn_in a h (on n q) = turn_at a h (side_of n) q

-- every turn of the letter is an allowed one
unfoldable pub Allowed : (Option Turn → Type 0) → Side → Both → List Call → Type 0
Allowed T a h [] = Unit {0}
Allowed T a h (c ∷ cs) = T (turn_in a h c) × Allowed T a (after h c) cs

other_leaves : (a : Side) (h : Both) (m : std.Option Side) (q : Asked) → is_at a m ≡ false →
    held_at (after_in h m q) a ≡ settled_as (held_at h a) (turned_by (turn_at a h m q) (held_at h a).port.source.settings)
other_leaves a h None q e = refl
other_leaves Camera h (Some Camera) q e = absurd (true≢false e)
other_leaves External h (Some External) q e = absurd (true≢false e)
other_leaves Camera h (Some External) q e = ap (settled_as (held_at h Camera)) (call_turns (held_at h External) q)
other_leaves External h (Some Camera) q e = ap (settled_as (held_at h External)) (call_turns (held_at h Camera) q)

-- a number that names this port
is_named : (a : Side) (m : std.Option Side) → is_at a m ≡ true → m ≡ Some a
is_named a None e = absurd (true≢false (sym e))
is_named Camera (Some Camera) e = refl
is_named External (Some External) e = refl
is_named Camera (Some External) e = absurd (true≢false (sym e))
is_named External (Some Camera) e = absurd (true≢false (sym e))

-- ---- a relation of what two runs hold of a port, and of what it answers in them

pub data Pairwise (A : Answer → Answer → Type 0) : List Answer → List Answer → Type 0 where
  none_left : Pairwise A [] []
  and_more : {x y : Answer} {xs ys : List Answer} → A x y → Pairwise A xs ys → Pairwise A (x ∷ xs) (y ∷ ys)

pub record Kept (R : Held → Held → Type 0) (A : Answer → Answer → Type 0) (T : Option Turn → Type 0) : Type 0 where
  pub same : (x : Held) → R x x
  pub answers : (x y : Held) (q : Asked) → R x y → A (answered x q) (answered y q)
  pub after : (x y : Held) (q : Asked) → R x y → R (one.after x (asks q)) (one.after y (asks q))
  pub restarts : (v : Verdict) (x y : Held) → R x y → A (started v x) (started v y)
  pub turn_left : (t : Option Turn) (x y : Held) → T t → R x y → R (settled_as x (turned_by t x.port.source.settings)) y
  pub turn_right : (t : Option Turn) (x y : Held) → T t → R x y → R x (settled_as y (turned_by t y.port.source.settings))

module _ {R : Held → Held → Type 0} {A : Answer → Answer → Type 0} {T : Option Turn → Type 0} (kept : Kept R A T) (a : Side) where
  -- ---- a call of the other port

  others_left : (h : Both) (c : Call) (y : Held) → is_own a c ≡ false → T (turn_in a h c) → R (held_at h a) y → R (held_at (after h c) a) y
  others_left h (restart s camera external) y e t r = absurd (true≢false e)
  others_left h (on n q) y e t r = subst (λ (x : Held). R x y) (sym (other_leaves a h (side_of n) q e)) (kept.turn_left _ _ y t r)

  others_right : (k : Both) (c : Call) (x : Held) → is_own a c ≡ false → T (turn_in a k c) → R x (held_at k a) → R x (held_at (after k c) a)
  others_right k (restart s camera external) x e t r = absurd (true≢false e)
  others_right k (on n q) x e t r = subst (λ (y : Held). R x y) (sym (other_leaves a k (side_of n) q e)) (kept.turn_right _ x _ t r)

  -- ---- a call of its own

  -- a restart: the verdict is that of what is handed in
  abbrev new_held : (h : Both) (s : Settings) (camera external : Measurement) (v : Verdict) → Held
  new_held h s camera external v =
      let r = started_by v (started_both s camera external) h.connectors h.lines in
      held_at (record { connectors = r.connectors; lines = r.lines }) a

  restarted : (h k : Both) (s : Settings) (camera external : Measurement) (v : Verdict) → R (held_at h a) (held_at k a) →
      R (new_held h s camera external v) (new_held k s camera external v)
  restarted h k s camera external (Ok tt) r = kept.same _
  restarted h k s camera external (Err x) r = r

  verdict_is : (h : Both) (s : Settings) (camera external : Measurement) (v : Verdict) → (started_by v (started_both s camera external) h.connectors h.lines).verdict ≡ v
  verdict_is h s camera external (Ok tt) = refl
  verdict_is h s camera external (Err x) = refl

  own_after : (h k : Both) (c : Call) → is_own a c ≡ true → R (held_at h a) (held_at k a) → R (held_at (after h c) a) (held_at (after k c) a)
  unfolding start_both
  own_after h k (restart s camera external) e r = restarted h k s camera external (both_verdict s camera external) r
  own_after h k (on n q) e r =
      let f = is_named a (side_of n) e in
      subst (λ (x : Held). R x (held_at (after k (on n q)) a)) (sym (asked_after a h n q f))
      (subst (λ (y : Held). R (one.after (held_at h a) (asks q)) y) (sym (asked_after a k n q f)) (kept.after _ _ q r))

  own_answers : (h k : Both) (c : Call) → is_own a c ≡ true → R (held_at h a) (held_at k a) → A (answer_to a h c) (answer_to a k c)
  unfolding start_both
  own_answers h k (restart s camera external) e r =
      let v = both_verdict s camera external in
      let x = new_held h s camera external v in
      let y = new_held k s camera external v in
      subst (λ (w : Verdict). A (started w x) (started (started_by v (started_both s camera external) k.connectors k.lines).verdict y)) (sym (verdict_is h s camera external v))
      (subst (λ (w : Verdict). A (started v x) (started w y)) (sym (verdict_is k s camera external v)) (kept.restarts v x y (restarted h k s camera external v r)))
  own_answers h k (on n q) e r = kept.answers _ _ q r

  -- ---- the second run, up to its next call that is the port's own

  own_here : (c : Call) (cs : List Call) → is_own a c ≡ true → own_calls a (c ∷ cs) ≡ c ∷ own_calls a cs
  unfolding own_calls
  own_here c cs e = ap (λ (x : List Call). x ++ own_calls a cs) (cond_yes _ _ e)

  own_later : (c : Call) (cs : List Call) → is_own a c ≡ false → own_calls a (c ∷ cs) ≡ own_calls a cs
  unfolding own_calls
  own_later c cs e = ap (λ (x : List Call). x ++ own_calls a cs) (cond_no _ _ e)

  answers_here : (h : Both) (c : Call) (cs : List Call) → is_own a c ≡ true → answers_at a h (c ∷ cs) ≡ answer_to a h c ∷ answers_at a (after h c) cs
  unfolding answers_at
  answers_here h c cs e = ap (λ (x : List Answer). x ++ answers_at a (after h c) cs) (cond_yes _ _ e)

  answers_later : (h : Both) (c : Call) (cs : List Call) → is_own a c ≡ false → answers_at a h (c ∷ cs) ≡ answers_at a (after h c) cs
  unfolding answers_at
  answers_later h c cs e = ap (λ (x : List Answer). x ++ answers_at a (after h c) cs) (cond_no _ _ e)

  -- the call is there, with what the port then is
  record Meets (x : Held) (k : Both) (ds : List Call) (o : Call) (os : List Call) : Type 0 where
    there : Both
    rest : List Call
    relates : R x (held_at there a)
    allowed : Allowed T a (after there o) rest
    own : os ≡ own_calls a rest
    answers : answers_at a k ds ≡ answer_to a there o ∷ answers_at a (after there o) rest
    left : after_all k ds ≡ after_all (after there o) rest

  meets : (x : Held) (k : Both) (ds : List Call) (o : Call) (os : List Call) → R x (held_at k a) → Allowed T a k ds → o ∷ os ≡ own_calls a ds → Meets x k ds o os
  unfolding Allowed after_all own_calls head_d
  meets x k [] o os r w e = never (cc)
  meets x k (d ∷ ds) o os r w e =
      told (is_own a d)
      (λ y.
      let f : o ∷ os ≡ d ∷ own_calls a ds = e ∙ own_here d ds y in
      let g : d ≡ o = sym (ap (λ (x : List Call). head_d x o) f) in
      let i = ap (λ (c : Call). answer_to a k c ∷ answers_at a (after k c) ds) g in
      record {
        there = k;
        rest = ds;
        relates = r;
        allowed = subst (λ (c : Call). Allowed T a (after k c) ds) g w.1;
        own = ap tail f;
        answers = answers_here k d ds y ∙ i;
        left = ap (λ (c : Call). after_all (after k c) ds) g;
      })
      (λ n.
      let m = meets x (after k d) ds o os (others_right k d x n w.0 r) w.1 (e ∙ own_later d ds n) in
      record {
        there = m.there;
        rest = m.rest;
        relates = m.relates;
        allowed = m.allowed;
        own = m.own;
        answers = answers_later k d ds n ∙ m.answers;
        left = m.left;
      })

  -- or there is none
  passes : (x : Held) (k : Both) (ds : List Call) → R x (held_at k a) → Allowed T a k ds → [] ≡ own_calls a ds → R x (held_at (after_all k ds) a) × ([] ≡ answers_at a k ds)
  unfolding Allowed after_all own_calls answers_at
  passes x k [] r w e = (r, refl)
  passes x k (d ∷ ds) r w e =
      told (is_own a d)
      (λ y. let f : [] ≡ d ∷ own_calls a ds = e ∙ own_here d ds y in never (cc))
      (λ n.
      let p = passes x (after k d) ds (others_right k d x n w.0 r) w.1 (e ∙ own_later d ds n) in
      (p.0, p.1 ∙ sym (answers_later k d ds n)))

  -- ---- both runs

  pub two_runs : (h k : Both) (cs ds : List Call) → R (held_at h a) (held_at k a) → Allowed T a h cs → Allowed T a k ds → own_calls a cs ≡ own_calls a ds →
      Pairwise A (answers_at a h cs) (answers_at a k ds) × R (held_at (after_all h cs) a) (held_at (after_all k ds) a)
  unfolding Allowed after_all own_calls answers_at
  two_runs h k [] ds r v w e =
      let p = passes (held_at h a) k ds r w e in
      (subst (Pairwise A []) p.1 none_left, p.0)
  two_runs h k (c ∷ cs) ds r v w e =
      told (is_own a c)
      (λ y.
      let m = meets (held_at h a) k ds c (own_calls a cs) r w (sym (own_here c cs y) ∙ e) in
      let t = two_runs (after h c) (after m.there c) cs m.rest (own_after h m.there c y m.relates) v.1 m.allowed m.own in
      let p : Pairwise A (answer_to a h c ∷ answers_at a (after h c) cs) (answer_to a m.there c ∷ answers_at a (after m.there c) m.rest) =
      and_more (own_answers h m.there c y m.relates) t.0 in (
        subst (λ (x : List Answer). Pairwise A x (answers_at a k ds)) (sym (answers_here h c cs y)) (subst (Pairwise A _) (sym m.answers) p),
        subst (λ (x : Both). R (held_at (after_all (after h c) cs) a) (held_at x a)) (sym m.left) t.1,
      ))
      (λ n.
      let t = two_runs (after h c) k cs ds (others_left h c (held_at k a) n v.0 r) v.1 w (sym (own_later c cs n) ∙ e) in
      (subst (λ (x : List Answer). Pairwise A x (answers_at a k ds)) (sym (answers_later h c cs n)) t.0, t.1))
