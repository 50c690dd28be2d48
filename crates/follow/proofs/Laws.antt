-- The line that has not ended yet: what is kept of it is its first bytes, which tell its event. Assumes nothing.
use Prim.Native.Nat.{ℕ, ◌+◌, ◌≤◌, ◌<◌}
use mathlib.Core.Bool.{Bool, true, false}
use mathlib.Core.List.{List, [], ◌∷◌, ◌++◌, append-nil, append_assoc}
use mathlib.Core.Path.{◌≡◌, refl, sym, ap, subst, ◌∙◌}
use native.Mathlib.Numerals.{add-one}
use native.Mathlib.Omega.{arith}
use borrow.Author.Tests.{eq-eqb, ne_eqb, lt-ltb, le-ltb, ltb-true, ltb-false}
use lib.Dec.{ltb}
use lib.ListN.{length, take, drop, get_or, set, length-set}
use lib.Seq.{drop-cons, take-suc-set, take_all, take_at, length-take-le}
use Rattle.std.specs.Prelude.{Ok}
use Rattle.laws.specs.Gives.{Gives}
use Rattle.laws.proofs.Tests.{yes, no, told, and_right, cond_yes, cond_no}
use Rattle.capture.specs.Words.{before}
use Rattle.printed.specs.Printed.{LF}
use Rattle.runs.specs.Clauses.{RunsTell}
use Rattle.runs.specs.Runs.{event_at, valid_runs, told_at, told_at_leaves}
use Rattle.runs.specs.declared.Addressed.{Addressed}
use Rattle.runs.specs.declared.ToldAt.{ToldAt}
use Rattle.runs.proofs.Ports.{first_138}
use Rattle.follow.specs.Follow.{held_length, valid_text, held_in, joins, joined_text, valid_follower, followed_by, refused_state, hold_of, event_in, event_held, take_of, take_leaves, close_of, close_leaves}
use Rattle.follow.specs.declared.Text.{Text}
use Rattle.follow.specs.declared.Follower.{Follower}
use Rattle.follow.specs.declared.Followed.{Followed}

-- ---- a byte

module _ (t : Text) (b : ℕ) where
  pub joins_kept : t.len < held_length → joins t b ≡ record { bytes = set t.bytes t.len b; len = t.len + 1 }
  unfolding joins
  joins_kept h = cond_yes _ _ (lt-ltb _ _ h)

  pub joins_full : held_length ≤ t.len → joins t b ≡ t
  unfolding joins
  joins_full h = cond_no _ _ (le-ltb _ _ h)

-- a full line keeps no more
pub joined_full : (t : Text) (s : List ℕ) → held_length ≤ t.len → joined_text t s ≡ t
unfolding joined_text
joined_full t [] h = refl
joined_full t (b ∷ s) h = ap (λ (u : Text). joined_text u s) (joins_full t b h) ∙ joined_full t s h

-- the byte at i joins, and the rest follows
pub joined_next : (t : Text) (s : List ℕ) (i : ℕ) → i < length s → joined_text t (drop i s) ≡ joined_text (joins t (get_or s i 0)) (drop (i + 1) s)
unfolding joined_text
joined_next t s i h = rw (add-one, drop-cons s i 0 h)

-- ---- what is kept

-- a line whose buffer is as long as its type says and whose count is within it
pub record Sound (t : Text) : Type 0 where
  pub long : length t.bytes ≡ held_length
  pub few : t.len ≤ held_length

pub held_long : {t : Text} → Sound t → length (held_in t) ≡ t.len
held_long {t} h = length-take-le t.len t.bytes (omega (arith, h.long, h.few))

-- one byte more
module _ {t : Text} (h : Sound t) (b : ℕ) (low : t.len < held_length) where
  abbrev more : Text
  more = record { bytes = set t.bytes t.len b; len = t.len + 1 }

  more_sound : Sound more
  more_sound = record { long = length-set t.bytes t.len b ∙ h.long; few = omega arith }

  held_more : held_in more ≡ held_in t ++ (b ∷ [])
  held_more = ap (λ (n : ℕ). take n (set t.bytes t.len b)) (add-one t.len) ∙ take-suc-set t.bytes t.len b (omega (arith, h.long))

-- of a line that comes in parts its first bytes are kept
pub held_joined : (t : Text) (s : List ℕ) → Sound t → held_in (joined_text t s) ≡ take held_length (held_in t ++ s)
unfolding joined_text
held_joined t [] h = sym (take_all held_length (held_in t ++ []) (rw (append-nil (held_in t)) (omega (arith, held_long h, h.few))) ∙ append-nil (held_in t))
held_joined t (b ∷ s) h =
    told (ltb t.len held_length)
    (λ e.
    let low : t.len < held_length = ltb-true _ _ e in
    ap (λ (u : Text). held_in (joined_text u s)) (joins_kept t b low)
    ∙ held_joined (more h b low) s (more_sound h b low)
    ∙ ap (λ (x : List ℕ). take held_length (x ++ s)) (held_more h b low)
    ∙ ap (take held_length) (append_assoc (held_in t) (b ∷ []) s))
    (λ e.
    let high : held_length ≤ t.len = ltb-false _ _ e in
    let n = held_long h in
    ap (λ (u : Text). held_in (joined_text u s)) (joins_full t b high)
    ∙ ap held_in (joined_full t s high)
    ∙ sym (take_at (held_in t) (b ∷ s) held_length (omega (arith, h.few))))

pub joined_sound : (t : Text) (s : List ℕ) → Sound t → Sound (joined_text t s)
unfolding joined_text
joined_sound t [] h = h
joined_sound t (b ∷ s) h =
    told (ltb t.len held_length)
    (λ e.
    let low : t.len < held_length = ltb-true _ _ e in
    subst (λ (u : Text). Sound (joined_text u s)) (sym (joins_kept t b low)) (joined_sound (more h b low) s (more_sound h b low)))
    (λ e. subst (λ (u : Text). Sound (joined_text u s)) (sym (joins_full t b (ltb-false _ _ e))) (joined_sound t s h))

-- they tell the event of the whole line
pub tells_event : (ports : Bool) (t : Text) (s : List ℕ) → Sound t → event_at ports (held_in (joined_text t s)) ≡ event_at ports (held_in t ++ s)
tells_event ports t s h = ap (event_at ports) (held_joined t s h) ∙ first_138 ports (held_in t ++ s)

-- ---- a call, by its case

pub valid_text_lem : (f : Follower) → valid_follower f ≡ true → valid_text f.text ≡ true
valid_text_lem f v = and_right (valid_runs f.runs) (valid_text f.text) v

module _ (f : Follower) (piece out : List ℕ) where
  abbrev Takes : Followed → List ℕ → Type 0
  Takes r after = Gives (take_of f piece out) (take_leaves f piece out) r after

  pub take_16 : valid_follower f ≡ false → Takes (refused_state f) out
  unfolding take_of take_leaves
  take_16 v = record { answers = no _ v refl; leaves = no _ v refl }

  pub take_hold : valid_follower f ≡ true → before LF piece ≡ length piece → Takes (hold_of f piece) out
  unfolding take_of take_leaves
  take_hold v e = record { answers = yes _ v (yes _ (eq-eqb _ _ e) refl); leaves = yes _ v (yes _ (eq-eqb _ _ e) refl) }

  pub take_line : {x : Addressed} {t : ToldAt} {after : List ℕ} → valid_follower f ≡ true → (before LF piece ≡ length piece → ⊥) →
      x ≡ event_in f (take (before LF piece) piece) → RunsTell f.runs x out t after → Takes (followed_by f t (before LF piece + 1)) after
  unfolding take_of take_leaves
  take_line v n e g = record {
    answers = yes _ v (no _ (ne_eqb _ _ n) (ap (λ (t : ToldAt). followed_by f t (before LF piece + 1)) (g.answers ∙ ap (λ (y : Addressed). told_at f.runs y out) e)));
    leaves = yes _ v (no _ (ne_eqb _ _ n) (g.leaves ∙ ap (λ (y : Addressed). told_at_leaves f.runs y out) e));
  }

module _ (f : Follower) (out : List ℕ) where
  abbrev Closes : Followed → List ℕ → Type 0
  Closes r after = Gives (close_of f out) (close_leaves f out) r after

  pub close_16 : valid_follower f ≡ false → Closes (refused_state f) out
  unfolding close_of close_leaves
  close_16 v = record { answers = no _ v refl; leaves = no _ v refl }

  pub close_none : valid_follower f ≡ true → f.text.len ≡ 0 → Closes (record { wrote = Ok 0; used = 0; follower = f }) out
  unfolding close_of close_leaves
  close_none v e = record { answers = yes _ v (yes _ (eq-eqb _ _ e) refl); leaves = yes _ v (yes _ (eq-eqb _ _ e) refl) }

  pub close_line : {x : Addressed} {t : ToldAt} {after : List ℕ} → valid_follower f ≡ true → (f.text.len ≡ 0 → ⊥) →
      x ≡ event_held f → RunsTell f.runs x out t after → Closes (followed_by f t 0) after
  unfolding close_of close_leaves
  close_line v n e g = record {
    answers = yes _ v (no _ (ne_eqb _ _ n) (ap (λ (t : ToldAt). followed_by f t 0) (g.answers ∙ ap (λ (y : Addressed). told_at f.runs y out) e)));
    leaves = yes _ v (no _ (ne_eqb _ _ n) (g.leaves ∙ ap (λ (y : Addressed). told_at_leaves f.runs y out) e));
  }
