-- Calls end to end, a call for each event, and calls slot by slot: each is one event of the machine. Assumes nothing.
use Prim.Native.Nat.{ℕ, zero, suc, ◌+◌}
use mathlib.Core.List.{List, [], ◌∷◌, ◌++◌, append-nil, append_assoc}
use mathlib.Core.Path.{◌≡◌, refl, sym, ap, ap₂, ◌∙◌}
use lib.ListN.{replicate}
use Rattle.machine.specs.Machine.{Event, Events, received, slot, given, slots}
use Rattle.machine.proofs.Promise.{slots_append}
use Rattle.rules.specs.Lens.{Given, measurement, elsewhere, lens}
use Rattle.walk.specs.Walk.{Sound}
use Rattle.walk.specs.Calls.{Call, receive, slots_once, measure, fill, turn, Held, after, bytes, ran, events_of, after_all, bytes_all, events_all, FromStart}
use Rattle.walk.specs.InCalls.{slots_in, slots_run, singly, by_slots}
use Rattle.walk.proofs.Calls.{fill_is, reached}

-- ---- calls end to end

pub after_append : (h : Held) (cs ds : List Call) → after_all h (cs ++ ds) ≡ after_all (after_all h cs) ds
unfolding after_all
after_append h [] ds = refl
after_append h (c ∷ cs) ds = after_append (after h c) cs ds

pub bytes_append : (h : Held) (cs ds : List Call) → bytes_all h (cs ++ ds) ≡ bytes_all h cs ++ bytes_all (after_all h cs) ds
unfolding after_all bytes_all
bytes_append h [] ds = refl
bytes_append h (c ∷ cs) ds = ap (λ (x : List ℕ). bytes h c ++ x) (bytes_append (after h c) cs ds) ∙ sym (append_assoc (bytes h c) _ _)

pub events_append : (h : Held) (cs ds : List Call) → events_all h (cs ++ ds) ≡ events_all h cs ++ events_all (after_all h cs) ds
unfolding after_all events_all
events_append h [] ds = refl
events_append h (c ∷ cs) ds = ap (λ (x : Events lens). events_of h c ++ x) (events_append (after h c) cs ds) ∙ sym (append_assoc (events_of h c) _ _)

-- after more calls it is still from that start
pub goes_on : {h : Held} (cs : List Call) → FromStart h → FromStart (after_all h cs)
goes_on {h} cs f = record {
  old = f.old;
  old_line = f.old_line;
  settings = f.settings;
  measurement = f.measurement;
  accepted = f.accepted;
  calls = f.calls ++ cs;
  held = ap (λ (x : Held). after_all x cs) f.held ∙ sym (after_append _ f.calls cs);
}

-- ---- a call for each event

abbrev pub call_of : Event Given → Call
call_of (received b) = receive b
call_of slot = slots_once
call_of (given (measurement m)) = measure m
call_of (given (elsewhere t)) = turn t

abbrev pub calls_of : Events lens → List Call
calls_of [] = []
calls_of (e ∷ es) = call_of e ∷ calls_of es

pub calls_append : (es fs : Events lens) → calls_of (es ++ fs) ≡ calls_of es ++ calls_of fs
calls_append [] fs = refl
calls_append (e ∷ es) fs = ap (λ (x : List Call). call_of e ∷ x) (calls_append es fs)

-- they are its events, and run its slots
pub events_of_lem : (h : Held) (es : Events lens) → events_all h (calls_of es) ≡ es
unfolding events_all
events_of_lem h [] = refl
events_of_lem h (received b ∷ es) = ap (λ (x : Events lens). received b ∷ x) (events_of_lem (after h (receive b)) es)
events_of_lem h (slot ∷ es) = ap (λ (x : Events lens). slot ∷ x) (events_of_lem (after h slots_once) es)
events_of_lem h (given (measurement m) ∷ es) = ap (λ (x : Events lens). given (measurement m) ∷ x) (events_of_lem (after h (measure m)) es)
events_of_lem h (given (elsewhere t) ∷ es) = ap (λ (x : Events lens). given (elsewhere t) ∷ x) (events_of_lem (after h (turn t)) es)

slots_replicate : (k : ℕ) → slots {X = Given} (replicate k slot) ≡ k
slots_replicate zero = refl
slots_replicate (suc k) = ap suc (slots_replicate k)

call_slots : (h : Held) (c : Call) → slots_in h c ≡ slots (events_of h c)
call_slots h (receive b) = refl
call_slots h slots_once = refl
call_slots h (measure m) = refl
call_slots h (fill n) = sym (slots_replicate (ran n h.port))
call_slots h (turn t) = refl

pub slots_are : (h : Held) (cs : List Call) → slots_run h cs ≡ slots (events_all h cs)
unfolding slots_run events_all
slots_are h [] = refl
slots_are h (c ∷ cs) =
    ap₂ (λ (x y : ℕ). x + y) (call_slots h c) (slots_are (after h c) cs) ∙ sym (slots_append (events_of h c) (events_all (after h c) cs))

-- ---- slot by slot

calls_replicate : (k : ℕ) → replicate k slots_once ≡ calls_of (replicate k slot)
calls_replicate zero = refl
calls_replicate (suc k) = ap (λ (x : List Call). slots_once ∷ x) (calls_replicate k)

singly_are : (h : Held) (c : Call) → singly h c ≡ calls_of (events_of h c)
singly_are h (receive b) = refl
singly_are h slots_once = refl
singly_are h (measure m) = refl
singly_are h (fill n) = calls_replicate (ran n h.port)
singly_are h (turn t) = refl

pub by_slots_lem : (h : Held) (cs : List Call) → by_slots h cs ≡ calls_of (events_all h cs)
unfolding by_slots events_all
by_slots_lem h [] = refl
by_slots_lem h (c ∷ cs) =
    ap₂ (λ (x y : List Call). x ++ y) (singly_are h c) (by_slots_lem (after h c) cs) ∙ sym (calls_append (events_of h c) (events_all (after h c) cs))

same_call : (h : Held) (c : Call) → Sound h.port → (after_all h (singly h c) ≡ after h c) × (bytes_all h (singly h c) ≡ bytes h c)
unfolding after_all bytes_all
same_call h (receive b) s = (refl, refl)
same_call h slots_once s = (refl, append-nil _)
same_call h (measure m) s = (refl, refl)
same_call h (turn t) s = (refl, refl)
same_call h (fill n) s =
    let r = fill_is h n s.valid in
    (r.state, r.sends)

pub same : (h : Held) (cs : List Call) → FromStart h → (after_all h (by_slots h cs) ≡ after_all h cs) × (bytes_all h (by_slots h cs) ≡ bytes_all h cs)
unfolding after_all bytes_all by_slots
same h [] f = (refl, refl)
same h (c ∷ cs) f =
    let x = same_call h c (reached f).sound in
    let ds = by_slots (after h c) cs in
    let y = same (after h c) cs (goes_on (c ∷ []) f) in (
      after_append h (singly h c) ds ∙ ap (λ (z : Held). after_all z ds) x.0 ∙ y.0,
      bytes_append h (singly h c) ds ∙ ap₂ (λ (z : List ℕ) (w : Held). z ++ bytes_all w ds) x.1 x.0 ∙ ap (λ (z : List ℕ). bytes h c ++ z) y.1,
    )
