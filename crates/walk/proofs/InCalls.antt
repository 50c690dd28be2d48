-- Demand 3 in the words of calls: slot by slot, a call is one event, so what is promised of the events comes back as calls. Assumes nothing.
use Prim.Native.Nat.{ℕ, ◌≤◌}
use mathlib.Core.Bool.{true}
use mathlib.Core.List.{List, [], ◌∷◌, ◌++◌}
use mathlib.Core.Logic.{◌≢◌}
use mathlib.Core.Option.{Option, none, some}
use mathlib.Core.Path.{◌≡◌, refl, sym, ap, ap₂, subst, ◌∙◌}
use native.Mathlib.Omega.{arith}
use Rattle.std.specs.Prelude.{Some, Ok, Err}
use Rattle.laws.proofs.Tests.{never}
use Rattle.machine.specs.Machine.{State, waiting, listed, Events, received, slot, slots, took, modes, next, shows, run, sent, taken_in, taken, acted_in, acted}
use Rattle.machine.specs.Promised as machine
use Rattle.machine.specs.Promised.{ActedBy}
use Rattle.machine.proofs.Use.{seen_append, acted_first}
use Rattle.refusal.specs.declared.Refusal.TheVariants as refusal
use Rattle.line.specs.declared.Line.{Line}
use Rattle.line.specs.Line.{ends}
use Rattle.state.specs.declared.Source.{Source}
use Rattle.rules.specs.Does.{does, continuous}
use Rattle.rules.specs.Lens.{lens}
use Rattle.rules.specs.Promise.{act_by, reply_by, record_by}
use Rattle.port.specs.Port.{act_of, slot_of, receive_of}
use Rattle.port.proofs.Valid.{message_valid}
use Rattle.walk.specs.View.{waits_of, view}
use Rattle.walk.specs.Calls.{Call, receive, slots_once, Held, view_of, after, after_all, events_all, FromStart}
use Rattle.walk.specs.Answers.{verdict_of}
use Rattle.walk.specs.InCalls.{acted_all, slots_run, by_slots, Replied, Acted, StaysOn, Recorded, Demand3InCalls}
use Rattle.walk.proofs.Slot.{none_left, waits_some}
use Rattle.walk.proofs.Calls.{follows, all_follow, Reached, reached}
use Rattle.walk.proofs.Answers.{answers}
use Rattle.walk.proofs.BySlots.{events_append, goes_on, calls_of, calls_append, events_of_lem, slots_are, by_slots_lem, same}
use Rattle.walk.proofs.Here.{here}
use Rattle.walk.proofs.Records.{begins_record_lem}
use Rattle.walk.proofs.InOrder.{all_act, lines_in_order}
use Rattle.walk.proofs.Messages.{whole_messages, by_rules}

-- ---- a call for each event: the state after them, the slots that they run, where they split

view_after : {h : Held} → Reached h → (es : Events lens) → view_of (after_all h (calls_of es)) ≡ run (view_of h) es
view_after {h} r es = (all_follow h (calls_of es) r.sound r.line).state ∙ ap (run (view_of h)) (events_of_lem h es)

slots_of_lem : (h : Held) (es : Events lens) → slots_run h (calls_of es) ≡ slots es
slots_of_lem h es = slots_are h (calls_of es) ∙ ap slots (events_of_lem h es)

-- the calls up to a slot, and those after it
split_at : (h : Held) (cs : List Call) (mid rest : Events lens) → events_all h cs ≡ mid ++ slot ∷ rest → by_slots h cs ≡ calls_of mid ++ slots_once ∷ calls_of rest
split_at h cs mid rest e = by_slots_lem h cs ∙ ap calls_of e ∙ calls_append mid (slot ∷ rest)

in_time : (h : Held) (mid rest : Events lens) {n : ℕ} → slots (mid ++ slot ∷ rest) ≤ n → slots_run h (calls_of mid ++ slots_once ∷ calls_of rest) ≤ n
in_time h mid rest {n} =
    subst (λ (k : ℕ). k ≤ n) (sym (ap (slots_run h) (sym (calls_append mid (slot ∷ rest))) ∙ slots_of_lem h (mid ++ slot ∷ rest)))

-- ---- a command

-- a byte that ends the line and is answered done takes it
takes : (h : Held) (b : ℕ) → FromStart h → ends h.line b ≡ true → (receive_of h.port h.line b).verdict ≡ Ok tt → shows (view_of h) (received b) ≡ took h.line
unfolding view
takes h b f e d = by_waiting (waits_of h.port.waiting) refl
  where
    by_waiting : (w : Option Line) → waits_of h.port.waiting ≡ w → shows (view_of h) (received b) ≡ took h.line
    by_waiting none n = (here (reached f)).taken_if_free b e n
    by_waiting (some c) y =
        let z : Err refusal.Dropped ≡ Ok tt = sym (ap verdict_of ((here (reached f)).dropped_if_not b c e y)) ∙ sym (answers.receive_shows h b f) ∙ d in
        never cc

-- the line taken waits, where none was acted on
still_waits : (w v : Option Line) (c : Line) (t : List Line) → listed w ++ c ∷ t ≡ listed v → v ≡ some c
still_waits none none c t e = never cc
still_waits none (some d) c t e = cc
still_waits (some x) none c t e = never cc
still_waits (some x) (some d) c [] e = never cc
still_waits (some x) (some d) c (y ∷ t) e = never cc

no_more : (xs ys : List Line) → xs ++ ys ≡ [] → xs ≡ []
no_more [] ys e = refl
no_more (x ∷ xs) ys e = never cc

module _ (h : Held) (b : ℕ) (cs : List Call) (f : FromStart h) (t : shows (view_of h) (received b) ≡ took h.line) where
  abbrev h' : Held
  h' = after h (receive b)

  abbrev x' : State lens
  x' = next (view_of h) (received b)

  abbrev r : Reached h
  r = reached f

  f' : FromStart h'
  unfolding after_all
  f' = goes_on (receive b ∷ []) f

  abbrev r' : Reached h'
  r' = reached f'

  seen_so : view_of h' ≡ x'
  seen_so = (follows h (receive b) r.sound r.line).state

  view_then : (es : Events lens) → view_of (after_all h' (calls_of es)) ≡ run x' es
  view_then es = view_after r' es ∙ ap (λ (x : State lens). run x es) seen_so

  soon : act_by ≤ slots_run h' cs → ActedBy act_by x' h.line (events_all h' cs)
  soon n = (here r).acted_in_time (events_all h' cs) (received b) h.line t (subst (λ (j : ℕ). act_by ≤ j) (slots_are h' cs) n)

  -- it is the first that the calls act on
  first_acted : ActedBy act_by x' h.line (events_all h' cs) → (more : List Line) × (acted_all h' cs ≡ h.line ∷ more)
  first_acted a =
      let first = acted_first a in
      (first.0, all_act h' cs f' ∙ ap (λ (x : State lens). acted x (events_all h' cs)) seen_so ∙ first.1)

  module _ (a : ActedBy act_by x' h.line (events_all h' cs)) where
    waits : (some_of others : List Call) → calls_of a.mid ≡ some_of ++ others → (after_all h' some_of).port.waiting ≡ Some h.line
    unfolding view
    waits some_of others e =
        let es = events_all h' some_of in
        let fs = events_all (after_all h' some_of) others in
        let parts : a.mid ≡ es ++ fs = sym (events_of_lem h' a.mid) ∙ ap (events_all h') e ∙ events_append h' some_of others in
        let none_yet : acted x' es ≡ [] = no_more _ (acted (run x' es) fs) (sym (ap (acted x') parts ∙ seen_append acted_in x' es fs) ∙ a.none_before) in
        let o = (here r).in_order (received b ∷ es) in
        let k : listed (waiting (view_of h)) ++ h.line ∷ taken x' es ≡ listed (waiting (run x' es)) =
        sym (ap (λ (z : List Line). listed (waiting (view_of h)) ++ (z ++ taken x' es)) (ap taken_in t)) ∙ o ∙ ap₂ (λ (y z : List Line). (y ++ z) ++ listed (waiting (run x' es))) (ap acted_in t) none_yet in
        let v : view_of (after_all h' some_of) ≡ run x' es = (all_follow h' some_of r'.sound r'.line).state ∙ ap (λ (x : State lens). run x es) seen_so in
        waits_some (after_all h' some_of).port.waiting h.line (ap waiting v ∙ still_waits (waiting (view_of h)) (waiting (run x' es)) h.line (taken x' es) k)

    abbrev there : Held
    there = after_all h' (calls_of a.mid)

    acts : slot_of there.port ≡ act_of there.port h.line
    acts = (answers.slot_acts there h.line (goes_on (calls_of a.mid) f') (ap (λ (x : State lens). acted_in (shows x slot)) (view_then a.mid) ∙ a.acts)).1

    replies : reply_by ≤ slots_run h' (by_slots h' cs) → (does there.port.source h.line).reply ≢ [] → Replied reply_by h' h.line (calls_of a.mid) (calls_of a.rest)
    unfolding view
    replies n replied =
        let m : there.port.source ≡ modes (run x' a.mid) = ap modes (view_then a.mid) in
        let reply : Source → List ℕ = λ s. (does s h.line).reply in
        let q = (here r).replied_in_time (events_all h' cs) (received b) h.line t (enough n) a (λ e. replied (ap reply m ∙ e)) in
        let es = slot ∷ q.sending in
        let s = reached (goes_on (calls_of a.mid) f') in
        record {
          sending = calls_of q.sending;
          later = calls_of q.later;
          split = ap calls_of q.split ∙ calls_append q.sending q.later;
          in_time = in_time h' a.mid q.sending q.in_time;
          whole =
              (all_follow there (calls_of es) s.sound s.line).sends
              ∙ ap₂ (λ (x : State lens) (y : Events lens). sent x y) (view_then a.mid) (events_of_lem there es)
              ∙ q.whole
              ∙ ap reply (sym m);
        }
      where
        enough : reply_by ≤ slots_run h' (by_slots h' cs) → reply_by ≤ slots (events_all h' cs)
        enough k = subst (λ (j : ℕ). reply_by ≤ j) (ap (slots_run h') (by_slots_lem h' cs) ∙ slots_of_lem h' (events_all h' cs)) k

    acted_there : Acted act_by reply_by h' h.line (by_slots h' cs)
    acted_there = record {
      mid = calls_of a.mid;
      rest = calls_of a.rest;
      split = split_at h' cs a.mid a.rest a.split;
      in_time = in_time h' a.mid [] a.in_time;
      waits = waits;
      acts = acts;
      replies = replies;
    }

-- ---- a record

-- continuous sending that stays on slot by slot stays on for the machine
stays_on : (h : Held) (cs : List Call) → Reached h → StaysOn h (by_slots h cs) → machine.StaysOn (view_of h) (events_all h cs)
unfolding view
stays_on h cs r on mid rest e =
    ap continuous (ap modes (sym (view_after r mid))) ∙ on (calls_of mid) (calls_of rest) (by_slots_lem h cs ∙ ap calls_of e ∙ calls_append mid rest)

recorded : (h : Held) (cs : List Call) → FromStart h → h.port.message.at ≡ h.port.message.len → StaysOn h (by_slots h cs) → record_by ≤ slots_run h cs →
    Recorded record_by h (by_slots h cs)
unfolding view
recorded h cs f e on n =
    let r = reached f in
    let m = h.port.message in
    let none_left = none_left m (message_valid h.port r.sound.valid) r.sound.long (omega arith) in
    let v = (here r).record_in_time (events_all h cs) none_left (stays_on h cs r on) (subst (λ (j : ℕ). record_by ≤ j) (slots_are h cs) n) in
    let s = begins_record_lem (after_all h (calls_of v.mid)) (goes_on (calls_of v.mid) f) (ap (λ (x : State lens). shows x slot) (view_after r v.mid) ∙ v.starts) in
    record {
      mid = calls_of v.mid;
      rest = calls_of v.rest;
      split = split_at h cs v.mid v.rest v.split;
      in_time = in_time h v.mid [] v.in_time;
      none_underway = s.none_underway;
      byte = v.byte;
      leaves = s.leaves;
      whole = s.whole;
      a_record = s.a_record;
    }

-- ---- all

pub in_calls : Demand3InCalls
in_calls = record {
  same_state = λ h cs f. (same h cs f).0;
  same_bytes = λ h cs f. (same h cs f).1;
  same_slots = λ h cs f. ap (slots_run h) (by_slots_lem h cs) ∙ slots_of_lem h (events_all h cs) ∙ sym (slots_are h cs);
  in_order = lines_in_order;
  acted_in_time = λ h b cs f e d n.
      let t = takes h b f e d in
      acted_there h b cs f t (soon h b cs f t n);
  acted_first = λ h b cs f e d n.
      let t = takes h b f e d in
      first_acted h b cs f t (soon h b cs f t n);
  record_in_time = recorded;
  whole_messages = whole_messages;
  by_rules = by_rules;
}
