-- However the pieces fall, the calls print what the lines of the whole text tell: the follower has the line that has not ended yet. Assumes nothing.
use Prim.Native.Nat.{ℕ, ◌+◌, ◌≤◌, ◌<◌}
use mathlib.Core.Bool.{Bool}
use mathlib.Core.List.{List, [], ◌∷◌, ◌++◌, append_assoc, append-nil}
use mathlib.Core.Path.{◌≡◌, refl, sym, ap, ap₂, subst, ◌∙◌}
use native.Mathlib.Numerals.{add-one}
use native.Mathlib.Omega.{arith}
use borrow.Author.Tests.{leb-true, leb-false}
use lib.Dec.{leb}
use lib.ListN.{length, take}
use lib.Seq.{take_all, take_at, take-append-le, length-take-le}
use Rattle.std.specs.Prelude.{Ok}
use Rattle.laws.specs.Over.{over}
use Rattle.laws.proofs.OverLaws.{take_over}
use Rattle.laws.proofs.Tests.{told, never}
use Rattle.capture.specs.Words.{before}
use Rattle.printed.specs.Printed.{LF, slots_line}
use Rattle.runs.specs.Runs.{event_at, start_runs, valid_runs, TellingAt, tell_at, count_both, count_both_leaves}
use Rattle.runs.specs.declared.Addressed.{Addressed}
use Rattle.runs.specs.declared.Runs.{Runs}
use Rattle.runs.proofs.Ports.{first_138}
use Rattle.runs.proofs.Promises.{each_call}
use Rattle.follow.specs.Replay.{lines}
use Rattle.follow.specs.Both.{tell_both, replay_both}
use Rattle.follow.specs.Follow.{held_length, blank_text, held_in, joined_text, hold_of, line_in, event_in, take_of, take_leaves, close_of, close_leaves}
use Rattle.follow.specs.Calls.{Fed, no_more, next, Replays}
use Rattle.follow.specs.Promises.{Unbroken}
use Rattle.follow.specs.declared.Follower.{Follower}
use Rattle.follow.specs.declared.Followed.{Followed}
use Rattle.follow.proofs.Laws.{Sound, held_long, held_joined, joined_sound}
use Rattle.follow.proofs.Lines.{unbroken_append, unbroken_first, with_lf, ended, last}
use Rattle.follow.proofs.Each.{told_to, ending, Took, invalid, held, whole, short, took, unended, Closed, no_line, closed}
use Rattle.follow.proofs.Both.{ahead}

-- ---- the line that has not ended

-- the follower has the bytes w since the last LF, as far as it keeps them
pub record Has (w : List ℕ) (f : Follower) : Type 0 where
  pub unbroken : Unbroken w
  pub sound : Sound f.text
  pub kept : held_in f.text ≡ take held_length w

zeros_long : length blank_text.bytes ≡ held_length
zeros_long = refl

has_none : (r : Runs) (ports : Bool) → Has [] (record { runs = r; text = blank_text; ports = ports })
unfolding before
has_none r ports = record { unbroken = refl; sound = record { long = zeros_long; few = omega arith }; kept = refl }

-- more bytes, of which the first ones are known
kept_append : (w a : List ℕ) → take held_length (take held_length w ++ a) ≡ take held_length (w ++ a)
kept_append w a =
    told (leb (length w) held_length)
    (λ e. ap (λ (x : List ℕ). take held_length (x ++ a)) (take_all held_length w (leb-true _ _ e)))
    (λ e.
    let h : held_length < length w = leb-false _ _ e in
    take_at (take held_length w) a held_length (length-take-le held_length w (omega arith)) ∙ sym (take-append-le held_length w a (omega arith)))

module _ {w : List ℕ} {f : Follower} (h : Has w f) (a : List ℕ) where
  has_more : Unbroken a → Has (w ++ a) (record { runs = f.runs; text = joined_text f.text a; ports = f.ports })
  has_more u = record {
    unbroken = unbroken_append w a h.unbroken u;
    sound = joined_sound f.text a h.sound;
    kept = held_joined f.text a h.sound ∙ ap (λ (x : List ℕ). take held_length (x ++ a)) h.kept ∙ kept_append w a;
  }

  -- they tell the event of the whole line
  same_event : event_in f a ≡ event_at f.ports (w ++ a)
  same_event =
      sym (first_138 f.ports (line_in f a))
      ∙ ap (event_at f.ports) (ap (λ (x : List ℕ). take held_length (x ++ a)) h.kept ∙ kept_append w a)
      ∙ first_138 f.ports (w ++ a)

-- ---- the calls

-- what the lines of a text tell from a follower's runs on
abbrev tells_from : Follower → List ℕ → TellingAt
tells_from f s = tell_both f.ports f.runs (lines s)

-- calls from f, which has w, to g: whatever follows, they tell the first of it
record Comes (w : List ℕ) (f : Follower) (s t : List ℕ) (g : Follower) : Type 0 where
  left : List ℕ
  has : Has left g
  tells : (rest : List ℕ) → tells_from f (w ++ (s ++ rest)) ≡ ahead t (tells_from g (left ++ rest))

-- a line that ended, and what follows it
first_line : (ports : Bool) (r : Runs) (l s : List ℕ) → Unbroken l →
    let t = tell_at r (event_at ports l) in
    tell_both ports r (lines (l ++ LF ∷ s)) ≡ ahead t.text (tell_both ports t.runs (lines s))
unfolding tell_both
first_line ports r l s u = ap (tell_both ports r) (ended l s u)

-- a piece in which no line ends
module _ {w : List ℕ} (f : Follower) (piece out : List ℕ) (n : ℕ) (s t : List ℕ) (g : Follower) (h : Has w f)
    (c : (take_of f piece out).wrote ≡ Ok n) where
  held_comes : take_of f piece out ≡ hold_of f piece → Comes (w ++ piece) (take_of f piece out).follower s t g →
      Comes w f (take (take_of f piece out).used piece ++ s) (take n (take_leaves f piece out) ++ t) g
  held_comes e i =
      let z : n ≡ 0 = cc in
      let all : take (take_of f piece out).used piece ≡ piece = ap (λ (x : Followed). take x.used piece) e ∙ take_all (length piece) piece (omega arith) in
      record {
        left = i.left;
        has = i.has;
        tells = λ rest.
            ap (λ (x : List ℕ). tells_from f (w ++ ((x ++ s) ++ rest))) all
            ∙ ap (λ (x : List ℕ). tells_from f (w ++ x)) (append_assoc piece s rest)
            ∙ ap (tells_from f) (sym (append_assoc w piece (s ++ rest)))
            ∙ ap (λ (x : Followed). tells_from x.follower ((w ++ piece) ++ (s ++ rest))) (sym e)
            ∙ i.tells rest
            ∙ sym (ap (λ (k : ℕ). ahead (take k (take_leaves f piece out) ++ t) (tells_from g (i.left ++ rest))) z);
      }

  -- and one in which the line ends
  abbrev a : List ℕ
  a = take (before LF piece) piece

  whole_comes : before LF piece < length piece → length (ending f piece out).text ≤ length out →
      take_of f piece out ≡ told_to f (ending f piece out) (before LF piece + 1) → take_leaves f piece out ≡ over out 0 (ending f piece out).text →
      Comes [] (take_of f piece out).follower s t g →
      Comes w f (take (take_of f piece out).used piece ++ s) (take n (take_leaves f piece out) ++ t) g
  whole_comes low room e l i =
      let x = ending f piece out in
      let z : n ≡ length x.text = cc in
      let text : take n (take_leaves f piece out) ≡ x.text =
      ap₂ take z l ∙ take_over out x.text (length x.text) refl room in
      let used : take (take_of f piece out).used piece ≡ a ++ LF ∷ [] =
      ap (λ (y : Followed). take y.used piece) e ∙ ap (λ (k : ℕ). take k piece) (add-one (before LF piece)) ∙ with_lf piece low in
      record {
        left = i.left;
        has = i.has;
        tells = λ rest.
            ap (λ (y : List ℕ). tells_from f (w ++ ((y ++ s) ++ rest))) used
            ∙ ap (tells_from f) (joins rest)
            ∙ first_line f.ports f.runs (w ++ a) (s ++ rest) (unbroken_append w a h.unbroken (unbroken_first piece))
            ∙ ap (λ (y : Addressed). ahead (tell_at f.runs y).text (tell_both f.ports (tell_at f.runs y).runs (lines (s ++ rest)))) (sym (same_event h a))
            ∙ ap (λ (y : Followed). ahead x.text (tells_from y.follower (s ++ rest))) (sym e)
            ∙ ap (ahead x.text) (i.tells rest)
            ∙ ap (λ (y : List ℕ). record { text = y; runs = (tells_from g (i.left ++ rest)).runs }) (sym (append_assoc x.text t _))
            ∙ sym (ap (λ (y : List ℕ). ahead (y ++ t) (tells_from g (i.left ++ rest))) text);
      }
    where
      joins : (rest : List ℕ) → w ++ (((a ++ LF ∷ []) ++ s) ++ rest) ≡ (w ++ a) ++ LF ∷ (s ++ rest)
      joins rest = simp append_assoc

-- by what the call made of its piece, and what the calls after it come to
comes_by : {w : List ℕ} (f : Follower) (piece out : List ℕ) (n : ℕ) (s t : List ℕ) (g : Follower) → Has w f → (take_of f piece out).wrote ≡ Ok n →
    ((v : List ℕ) → Has v (take_of f piece out).follower → Comes v (take_of f piece out).follower s t g) →
    Took f piece out → Comes w f (take (take_of f piece out).used piece ++ s) (take n (take_leaves f piece out) ++ t) g
comes_by f piece out n s t g h c i (invalid v e l) = never (cc)
comes_by {w} f piece out n s t g h c i (held v q e l) =
    held_comes f piece out n s t g h c e (i (w ++ piece) (subst (Has (w ++ piece)) (ap (λ (x : Followed). x.follower) (sym e)) (has_more h piece q)))
comes_by f piece out n s t g h c i (whole v low room e l) =
    whole_comes f piece out n s t g h c low room e l
    (i [] (subst (Has []) (ap (λ (x : Followed). x.follower) (sym e)) (has_none (ending f piece out).runs f.ports)))
comes_by f piece out n s t g h c i (short v low room e l) = never (cc)

comes : {w : List ℕ} {f : Follower} {s t : List ℕ} {g : Follower} → Fed f s t g → Has w f → Comes w f s t g
comes {w} no_more h = record { left = w; has = h; tells = λ rest. refl }
comes {w = w} (next f piece out n s t g c fed) h = comes_by f piece out n s t g h c (λ v k. comes {w = v} fed k) (took f piece out)

-- ---- the end of the text

nothing_kept : (w : List ℕ) → take held_length w ≡ [] → w ≡ []
nothing_kept [] e = refl
nothing_kept (b ∷ w) e = never (cc)

-- one line that has not ended, or none
alone : (ports : Bool) (r : Runs) (b : ℕ) (l : List ℕ) → Unbroken (b ∷ l) →
    let t = tell_at r (event_at ports (b ∷ l)) in
    tell_both ports r (lines (b ∷ l)) ≡ record { text = t.text ++ []; runs = t.runs }
unfolding tell_both
alone ports r b l u = ap (tell_both ports r) (last b l u)

-- the close tells it
record Tells (w : List ℕ) (f : Follower) (out : List ℕ) (n : ℕ) : Type 0 where
  text : take n (close_leaves f out) ≡ (tells_from f w).text
  runs : (close_of f out).follower.runs ≡ (tells_from f w).runs

none_tells : (f : Follower) (out : List ℕ) (n : ℕ) → n ≡ 0 → (close_of f out).follower ≡ f → Tells [] f out n
unfolding lines tell_both
none_tells f out n z e = record { text = ap (λ (k : ℕ). take k (close_leaves f out)) z; runs = ap (λ (x : Follower). x.runs) e }

line_tells : (w : List ℕ) (f : Follower) (out : List ℕ) (n : ℕ) → Has w f → (f.text.len ≡ 0 → ⊥) → n ≡ length (unended f out).text →
    length (unended f out).text ≤ length out → (close_of f out).follower.runs ≡ (unended f out).runs → close_leaves f out ≡ over out 0 (unended f out).text →
    Tells w f out n
line_tells [] f out n h some z room e l = absurd (some (sym (held_long h.sound) ∙ ap length h.kept))
line_tells (b ∷ w) f out n h some z room e l =
    let x = ap (event_at f.ports) h.kept ∙ first_138 f.ports (b ∷ w) in
    let one = alone f.ports f.runs b w h.unbroken in
    record {
      text =
          ap₂ take z l
          ∙ take_over out (unended f out).text (length (unended f out).text) refl room
          ∙ ap (λ (y : Addressed). (tell_at f.runs y).text) x
          ∙ sym (append-nil _)
          ∙ sym (ap (λ (t : TellingAt). t.text) one);
      runs = e ∙ ap (λ (y : Addressed). (tell_at f.runs y).runs) x ∙ sym (ap (λ (t : TellingAt). t.runs) one);
    }

close_tells : (w : List ℕ) (f : Follower) (out : List ℕ) (n : ℕ) → Has w f → (close_of f out).wrote ≡ Ok n → Closed f out → Tells w f out n
close_tells w f out n h c (invalid v e l) = never (cc)
close_tells w f out n h c (no_line v z e l) =
    let nothing : w ≡ [] = nothing_kept w (sym h.kept ∙ ap (λ (k : ℕ). take k f.text.bytes) z) in
    subst (λ (x : List ℕ). Tells x f out n) (sym nothing) (none_tells f out n (cc) (ap (λ (x : Followed). x.follower) e))
close_tells w f out n h c (whole v some room e l) = line_tells w f out n h some (cc) room (ap (λ (x : Followed). x.follower.runs) e) l
close_tells w f out n h c (short v some room e l) = never (cc)

-- the last line
count_tells : (r : Runs) (out : List ℕ) (n : ℕ) → count_both r out ≡ Ok n → take n (count_both_leaves r out) ≡ slots_line r.slots
count_tells r out n c =
    let line = slots_line r.slots in
    told (valid_runs r)
    (λ v.
    told (leb (length line) (length out))
    (λ y.
    let room = leb-true _ _ y in
    let d = each_call.count_done r out v room in
    let z : n ≡ length line = cc in
    ap₂ take z d.1 ∙ take_over out line (length line) refl room)
    (λ y. let w = (each_call.count_2 r out (length line)).1 (v, leb-false _ _ y, refl) in never (cc)))
    (λ v. let w = (each_call.count_16 r out).1 v in never (cc))

-- ---- the whole

pub replays : (letter : ℕ) (ports : Bool) (input text : List ℕ) → Replays letter ports input text → text ≡ replay_both ports (start_runs letter).runs input
unfolding replay_both
replays letter ports input text p =
    let r = (start_runs letter).runs in
    let i = comes p.fed (has_none r ports) in
    let f = p.left in
    let x = close_tells i.left f p.room p.closed i.has p.closes (closed f p.room) in
    let u = tells_from f i.left in
    let all : tell_both ports r (lines input) ≡ ahead p.told u =
    ap (λ (s : List ℕ). tell_both ports r (lines s)) (sym (append-nil input)) ∙ i.tells [] ∙ ap (λ (s : List ℕ). ahead p.told (tells_from f s)) (append-nil i.left) in
    let end = count_tells (close_of f p.room).follower.runs p.last_room p.counted p.counts ∙ ap (λ (q : Runs). slots_line q.slots) x.runs in
    p.printed
    ∙ ap₂ (λ (s t : List ℕ). p.told ++ (s ++ t)) x.text end
    ∙ sym (append_assoc p.told u.text (slots_line u.runs.slots))
    ∙ sym (ap (λ (t : TellingAt). t.text ++ slots_line t.runs.slots) all)
