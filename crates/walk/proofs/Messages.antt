-- The messages that the calls start are the machine's, so the promised bytes are theirs; and where none is under way the rules choose. Assumes nothing.
use Prim.Native.Nat.{ℕ, zero, suc}
use mathlib.Core.Bool.{◌&&◌}
use mathlib.Core.List.{List, [], ◌∷◌, ◌++◌, append-nil}
use mathlib.Core.Logic.{◌≢◌}
use mathlib.Core.Option.{Option, none, some}
use mathlib.Core.Path.{◌≡◌, refl, sym, ap, ap₂, ◌∙◌}
use native.Mathlib.Omega.{arith}
use borrow.Author.Tests.{ltb-true, ltb-false}
use lib.Dec.{ltb}
use lib.ListN.{replicate}
use Rattle.std.specs.Prelude as std
use Rattle.std.specs.Prelude.{None, Some, Ok}
use Rattle.laws.proofs.Tests.{cond_yes, cond_no, told, never}
use Rattle.machine.specs.Machine.{Kind, Choice, choice, State, port, modes, waiting, underway, last, rule3, answer, rule2, rules, begin, on_slot, on_given, slot, given, shows, started_in, started}
use Rattle.fixed.specs.declared.Settings.{Settings}
use Rattle.units.specs.declared.Measurement.{Measurement}
use Rattle.line.specs.declared.Line.{Line}
use Rattle.state.specs.declared.Source.{Source}
use Rattle.rules.specs.Does.{does, continuous}
use Rattle.rules.specs.Lens.{Given, measurement, elsewhere, lens, greeting}
use Rattle.port.specs.declared.Port.{Port}
use Rattle.port.specs.Port.{is_reply, choose_of, slot_of, start_of}
use Rattle.port.proofs.Valid.{message_valid}
use Rattle.walk.specs.View.{kind_of, waits_of, view}
use Rattle.walk.specs.Walk.{Sound}
use Rattle.walk.specs.Calls.{Call, receive, slots_once, measure, fill, turn, Held, view_of, after, ran, events_of, after_all, events_all, begun, FromStart}
use Rattle.walk.specs.InCalls.{slots_in, else_record, given_to, given_at, if_any, started_at, started_over, started_all, WholeMessages}
use Rattle.walk.proofs.Slot.{none_left, all_sent, owed_is}
use Rattle.walk.proofs.Walk.{walks}
use Rattle.walk.proofs.Calls.{reached, of_the_port}
use Rattle.walk.proofs.BySlots.{goes_on}
use Rattle.walk.proofs.Byte.{by_byte}
use Rattle.walk.proofs.InOrder.{end_to_end_lem}

-- ---- what the rules give

abbrev message_in : Choice lens → List ℕ
message_in (choice a m w k xs) = xs

rule3_gives : (a : Option Line) (s : Source) → message_in (rule3 lens a s) ≡ else_record [] s
unfolding rule3 else_record
rule3_gives a s = told (continuous s) (λ y. rw y) (λ n. rw n)

answer_gives : (xs : List ℕ) (s : Source) (c : Line) → message_in (answer lens xs s c) ≡ else_record xs (does s c).source
unfolding answer else_record
answer_gives [] s c = rule3_gives (some c) (does s c).source
answer_gives (b ∷ bs) s c = refl

gives_to : (s : Source) (w : std.Option Line) → message_in (rule2 lens s (waits_of w)) ≡ given_to s w
unfolding rule2
gives_to s (Some c) = answer_gives (does s c).reply s c
gives_to s None = rule3_gives none s

rules_give : (p : Port) → message_in (rules lens p.source (waits_of p.waiting) (kind_of p.last)) ≡ given_at p
unfolding rules given_at
rules_give p =
    rw (owed_is p.source p.last)
    (told (continuous p.source && is_reply p.last)
    (λ y. rw y)
    (λ n. rw n (gives_to p.source p.waiting)))

-- ---- the message that a slot starts

begin_starts : (c : Choice lens) (k : Kind) (l : Line) → started_in (begin c k l).1 ≡ if_any (message_in c)
unfolding begin
begin_starts (choice a m w k []) before l = refl
begin_starts (choice a m w k (b ∷ bs)) before l = refl

starts : (x : State lens) → underway x ≡ [] → started_in (shows x slot) ≡ if_any (message_in (rules lens (modes x) (waiting x) (last x)))
unfolding on_slot
starts (port m w (b ∷ bs) k l) e = never cc
starts (port m w [] k l) e = begin_starts (rules lens m w k) k l

-- none, while one is under way
goes : (x : State lens) → underway x ≢ [] → started_in (shows x slot) ≡ []
unfolding on_slot
goes (port m w (b ∷ bs) k l) n = refl
goes (port m w [] k l) n = absurd (n refl)

slot_starts : (p : Port) (l : Line) → Sound p → started_at p ≡ started_in (shows (view p l) slot)
unfolding view
slot_starts p l s =
    let m = p.message in
    let v = message_valid p s.valid in
    told (ltb m.at m.len)
    (λ y.
    let more = ltb-true m.at m.len y in
    cond_yes _ _ y ∙ sym (goes (view p l) (λ e. absurd (omega (arith, all_sent m v s.long e)))))
    (λ n.
    let none = none_left m v s.long (ltb-false m.at m.len n) in
    cond_no _ _ n ∙ ap if_any (sym (rules_give p)) ∙ sym (starts (view p l) none))

slots_start : (k : ℕ) (p : Port) (l : Line) → Sound p → started_over k p ≡ started (view p l) (replicate k slot)
unfolding started_over
slots_start zero p l s = refl
slots_start (suc k) p l s =
    ap₂ (λ (a b : List (List ℕ)). a ++ b) (slot_starts p l s)
    (slots_start k (slot_of p).port l (walks.slot_sound p s) ∙ ap (λ (x : State lens). started x (replicate k slot)) (walks.slot_walks p l s))

-- ---- those that the calls start

given_starts : (x : State lens) (g : Given) → started_in (shows x (given g)) ≡ []
unfolding on_given
given_starts (port s w u k l) g = refl

call_starts : (h : Held) (c : Call) → FromStart h → started_over (slots_in h c) h.port ≡ started (view_of h) (events_of h c)
unfolding started_over
call_starts h (receive b) f = sym (append-nil _ ∙ by_byte (λ o. started_in o ≡ []) (view_of h) b refl (λ c. refl) refl)
call_starts h slots_once f = slots_start 1 h.port h.line (reached f).sound
call_starts h (measure m) f = sym (append-nil _ ∙ given_starts (view_of h) (measurement m))
call_starts h (fill n) f = slots_start (ran n h.port) h.port h.line (reached f).sound
call_starts h (turn t) f = sym (append-nil _ ∙ given_starts (view_of h) (elsewhere t))

pub all_start : (h : Held) (cs : List Call) → FromStart h → started_all h cs ≡ started (view_of h) (events_all h cs)
unfolding after_all events_all started_all
all_start h [] f = refl
all_start h (c ∷ cs) f = end_to_end_lem started_in h c cs f _ _ (call_starts h c f) (all_start (after h c) cs (goes_on (c ∷ []) f))

-- ---- from a start

begun_there : (old : Port) (l : Line) (s : Settings) (m : Measurement) → (start_of old l s m).verdict ≡ Ok tt → FromStart (begun old l s m)
unfolding after_all
begun_there old l s m e = record { old = old; old_line = l; settings = s; measurement = m; accepted = e; calls = []; held = refl }

pub whole_messages : (old : Port) (l : Line) (s : Settings) (m : Measurement) (cs : List Call) → (start_of old l s m).verdict ≡ Ok tt → WholeMessages (begun old l s m) cs
unfolding view
whole_messages old l s m cs e =
    let h = begun old l s m in
    let es = events_all h cs in
    let w = (of_the_port.demand3 old l s m e).whole_messages es in
    let all : started_all h cs ≡ started _ es = all_start h cs (begun_there old l s m e) ∙ ap (λ (x : State lens). started x es) (walks.start_walks old l s m e) in
    let left = ap underway (of_the_port.states old l s m cs e) in
    record {
      whole = w.whole;
      done = w.done;
      messages = ap (λ (x : List (List ℕ)). greeting ∷ x) all ∙ w.messages ∙ ap (λ (x : List ℕ). w.whole ++ (w.done ++ x) ∷ []) (sym left);
      bytes = of_the_port.sends old l s m cs e ∙ w.bytes;
    }

pub by_rules : (h : Held) → FromStart h → h.port.message.at ≡ h.port.message.len → slot_of h.port ≡ choose_of h.port
unfolding slot_of
by_rules h f e =
    let m = h.port.message in
    cond_yes _ _ (reached f).sound.valid
    ∙ told (ltb m.at m.len) (λ y. absurd (omega (arith, ltb-true m.at m.len y))) (λ n. cond_no _ _ n)
