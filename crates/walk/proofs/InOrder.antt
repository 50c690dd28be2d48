-- The lines that the calls take and act on are the machine's, so the promised order is theirs. Assumes nothing.
use Prim.Native.Nat.{ℕ, zero, suc}
use mathlib.Core.Bool.{Bool, ◌&&◌, cond}
use mathlib.Core.List.{List, [], ◌∷◌, ◌++◌, append-nil}
use mathlib.Core.Option.{Option, none, some}
use mathlib.Core.Path.{◌≡◌, refl, sym, ap, ap₂, subst, ◌∙◌}
use lib.ListN.{replicate}
use Rattle.std.specs.Prelude as std
use Rattle.std.specs.Prelude.{None, Some, is_some}
use Rattle.laws.proofs.Tests.{told, never}
use Rattle.refusal.specs.Answer.{Verdict, is_done}
use Rattle.machine.specs.Machine.{Kind, Choice, choice, State, port, waiting, line, listed, rules, begin, on_byte, on_return, on_other, on_slot, on_given, received, slot, given, Out, next, shows, seen, taken_in, taken, acted_in, acted}
use Rattle.machine.proofs.Use.{seen_append}
use Rattle.line.specs.declared.Line.{Line}
use Rattle.line.specs.Line.{ends}
use Rattle.rules.specs.Lens.{Given, measurement, elsewhere, lens}
use Rattle.walk.specs.View.{waits_of, view}
use Rattle.walk.specs.Calls.{Call, receive, slots_once, measure, fill, turn, Held, view_of, after, ran, events_of, after_all, events_all, FromStart}
use Rattle.walk.specs.Answers.{verdict_of}
use Rattle.walk.specs.InCalls.{taken_by, taken_all, waits_in, acted_by, acted_all}
use Rattle.walk.proofs.Calls.{follows, all_follow, reached}
use Rattle.walk.proofs.Here.{here}
use Rattle.walk.proofs.BySlots.{goes_on}
use Rattle.walk.proofs.Byte.{byte_shows, by_byte}

-- ---- in order

-- no slot takes a line
begin_takes : (c : Choice lens) (k : Kind) (l : Line) → taken_in (begin c k l).1 ≡ []
unfolding begin
begin_takes (choice a m w k []) before l = refl
begin_takes (choice a m w k (b ∷ bs)) before l = refl

slot_takes : (x : State lens) → taken_in (shows x slot) ≡ []
unfolding on_slot
slot_takes (port m w (b ∷ bs) k l) = refl
slot_takes (port m w [] k l) = begin_takes (rules lens m w k) k l

slots_take : (k : ℕ) (x : State lens) → taken x (replicate k slot) ≡ []
slots_take zero x = refl
slots_take (suc k) x = ap₂ (λ (a b : List Line). a ++ b) (slot_takes x) (slots_take k (next x slot))

given_takes : (x : State lens) (g : Given) → taken_in (shows x (given g)) ≡ []
unfolding on_given
given_takes (port s w u k l) g = refl

-- a received byte takes the line that it ends, where the answer is done
return_takes : (x : State lens) → taken_in (on_return x).1 ≡ cond (is_done (verdict_of (on_return x).1)) (line x ∷ []) []
unfolding on_return
return_takes (port m none u k l) = refl
return_takes (port m (some c) u k l) = refl

other_takes : (x : State lens) (b : ℕ) → taken_in (on_other x b).1 ≡ []
unfolding on_other
other_takes (port m w u k l) b = refl

byte_takes : (x : State lens) (b : ℕ) → taken_in (shows x (received b)) ≡ cond (ends (line x) b && is_done (verdict_of (shows x (received b)))) (line x ∷ []) []
unfolding on_byte
byte_takes x b =
    let P : Bool → Type 0 = λ t.
    (let o = (cond t (on_return x) (on_other x b)).1 in
    taken_in o ≡ cond (t && is_done (verdict_of o)) (line x ∷ []) []) in
    told (ends (line x) b) (λ y. subst P (sym y) (return_takes x)) (λ n. subst P (sym n) (other_takes x b))

call_takes : (h : Held) (c : Call) → FromStart h → taken_by h c ≡ taken (view_of h) (events_of h c)
unfolding view
call_takes h (receive b) f =
    ap (λ (v : Verdict). cond (ends h.line b && is_done v) (h.line ∷ []) []) (byte_shows h.port h.line b (reached f).sound (reached f).line) ∙ sym (byte_takes (view_of h) b) ∙ sym (append-nil _)
call_takes h slots_once f = sym (append-nil _ ∙ slot_takes (view_of h))
call_takes h (measure m) f = sym (append-nil _ ∙ given_takes (view_of h) (measurement m))
call_takes h (fill n) f = sym (slots_take (ran n h.port) (view_of h))
call_takes h (turn t) f = sym (append-nil _ ∙ given_takes (view_of h) (elsewhere t))

-- ---- what is acted on

byte_acts : (x : State lens) (b : ℕ) → acted_in (shows x (received b)) ≡ []
byte_acts x b = by_byte (λ o. acted_in o ≡ []) x b refl (λ c. refl) refl

-- a place that is empty then held nothing, if none of it was acted on
nothing : (o : Option Line) (t : List Line) → listed o ++ t ≡ [] → listed o ≡ []
nothing none t k = refl
nothing (some c) t k = never cc

left_nil : (w : std.Option Line) (t a : List Line) (v : std.Option Line) → listed (waits_of w) ++ t ≡ a ++ listed (waits_of v) → a ≡ [] → cond (is_some v) [] (listed (waits_of w)) ≡ a
left_nil w t a (Some c) e z = sym z
left_nil w t a None e z = nothing (waits_of w) t (e ∙ append-nil a ∙ z) ∙ sym z

-- what leaves it was acted on, if none was taken
few : (o : Option Line) (xs : List Line) (c : Line) → listed o ≡ xs ++ c ∷ [] → xs ≡ []
few o [] c i = refl
few none (x ∷ xs) c i = never cc
few (some d) (x ∷ []) c i = never cc
few (some d) (x ∷ y ∷ xs) c i = never cc

left_all : (w : std.Option Line) (t a : List Line) (v : std.Option Line) → listed (waits_of w) ++ t ≡ a ++ listed (waits_of v) → t ≡ [] → cond (is_some v) [] (listed (waits_of w)) ≡ a
left_all w t a v e z = by_waiting v (sym (ap (λ (x : List Line). listed (waits_of w) ++ x) z ∙ append-nil _) ∙ e)
  where
    by_waiting : (v : std.Option Line) → listed (waits_of w) ≡ a ++ listed (waits_of v) → cond (is_some v) [] (listed (waits_of w)) ≡ a
    by_waiting (Some c) k = sym (few (waits_of w) a c k)
    by_waiting None k = k ∙ append-nil a

call_acts : (h : Held) (c : Call) → FromStart h → acted_by h c ≡ acted (view_of h) (events_of h c)
unfolding view
call_acts h c f = by_call c
  where
    e : (d : Call) → waits_in h ++ taken (view_of h) (events_of h d) ≡ acted (view_of h) (events_of h d) ++ waits_in (after h d)
    e d = (here (reached f)).in_order (events_of h d) ∙ ap (λ (x : State lens). acted (view_of h) (events_of h d) ++ listed (waiting x)) (sym (follows h d (reached f).sound (reached f).line).state)

    none_taken : (d : Call) → taken (view_of h) (events_of h d) ≡ [] → acted_by h d ≡ acted (view_of h) (events_of h d)
    none_taken d = left_all h.port.waiting _ _ (after h d).port.waiting (e d)

    by_call : (d : Call) → acted_by h d ≡ acted (view_of h) (events_of h d)
    by_call (receive b) = left_nil h.port.waiting _ _ (after h (receive b)).port.waiting (e (receive b)) (append-nil _ ∙ byte_acts (view_of h) b)
    by_call slots_once = none_taken slots_once (sym (call_takes h slots_once f))
    by_call (measure m) = none_taken (measure m) (sym (call_takes h (measure m) f))
    by_call (fill n) = none_taken (fill n) (sym (call_takes h (fill n) f))
    by_call (turn t) = none_taken (turn t) (sym (call_takes h (turn t) f))

-- what each call shows is what the machine shows, so all do
pub end_to_end_lem : {A : Type 0} (g : Out lens → List A) (h : Held) (c : Call) (cs : List Call) → FromStart h → (xs ys : List A) →
    xs ≡ seen g (view_of h) (events_of h c) → ys ≡ seen g (view_of (after h c)) (events_all (after h c) cs) → xs ++ ys ≡ seen g (view_of h) (events_of h c ++ events_all (after h c) cs)
end_to_end_lem {A} g h c cs f xs ys x y =
    let r = reached f in
    let es = events_all (after h c) cs in
    ap₂ (λ (a b : List A). a ++ b) x (y ∙ ap (λ (z : State lens). seen g z es) (follows h c r.sound r.line).state) ∙ sym (seen_append g (view_of h) (events_of h c) es)

pub all_take : (h : Held) (cs : List Call) → FromStart h → taken_all h cs ≡ taken (view_of h) (events_all h cs)
unfolding after_all events_all taken_all
all_take h [] f = refl
all_take h (c ∷ cs) f = end_to_end_lem taken_in h c cs f _ _ (call_takes h c f) (all_take (after h c) cs (goes_on (c ∷ []) f))

pub all_act : (h : Held) (cs : List Call) → FromStart h → acted_all h cs ≡ acted (view_of h) (events_all h cs)
unfolding after_all events_all acted_all
all_act h [] f = refl
all_act h (c ∷ cs) f = end_to_end_lem acted_in h c cs f _ _ (call_acts h c f) (all_act (after h c) cs (goes_on (c ∷ []) f))

pub lines_in_order : (h : Held) (cs : List Call) → FromStart h → waits_in h ++ taken_all h cs ≡ acted_all h cs ++ waits_in (after_all h cs)
unfolding view
lines_in_order h cs f =
    let r = reached f in
    ap (λ (x : List Line). waits_in h ++ x) (all_take h cs f)
    ∙ (here r).in_order (events_all h cs)
    ∙ ap₂ (λ (x : List Line) (y : State lens). x ++ listed (waiting y)) (sym (all_act h cs f)) (sym (all_follow h cs r.sound r.line).state)
