-- Two runs with the same calls of one port's own: that port's answers are the same, or alike. Assumes nothing.
use Prim.Native.Nat.{ℕ, zero, suc, ◌+◌}
use mathlib.Core.Bool.{Bool, true, ◌&&◌, cond}
use mathlib.Core.List.{List, [], ◌∷◌, ◌++◌, map}
use mathlib.Core.Logic.{◌⊎◌, inl, inr, ⊎_elim}
use mathlib.Core.Option.{Option, none, some}
use mathlib.Core.Path.{◌≡◌, refl, sym, ap, ap₂, subst, ◌∙◌}
use lib.Dec.{eqb}
use lib.ListN.{length, length-append}
use Rattle.std.specs.Prelude.{None, Some, is_some, Ok, Err}
use Rattle.laws.proofs.Tests.{told, and_left}
use Rattle.refusal.specs.Answer.{Verdict, is_done}
use Rattle.refusal.specs.declared.Refusal.{Refusal}
use Rattle.fixed.specs.Fixed.{settings_lowest}
use Rattle.units.specs.Measurement.{measurement_verdict}
use Rattle.units.specs.declared.Measurement.{Measurement}
use Rattle.line.specs.declared.Line.{Line}
use Rattle.line.specs.Line.{ends, valid_line}
use Rattle.state.specs.declared.Message.{Message}
use Rattle.state.specs.declared.Source.{Source}
use Rattle.state.specs.State.{valid_modes, valid_source}
use Rattle.rules.specs.Does.{lettered_with}
use Rattle.rules.specs.Lens.{Turn, turned}
use Rattle.rules.specs.Unread.{lettered}
use Rattle.rules.proofs.Kept.{turned_same}
use Rattle.port.specs.declared.Handed.{Handed}
use Rattle.port.specs.declared.Port.{Port}
use Rattle.port.specs.declared.Received.{Received}
use Rattle.port.specs.declared.Slotted.{Slotted}
use Rattle.port.specs.Port.{valid_port, slot_of, taken_of, receive_of, handed, measured_port, measure_of}
use Rattle.port.proofs.Valid.{source_valid}
use Rattle.fill.specs.Fill.{SlotRun, then_run, run_of, fill_of}
use Rattle.fill.specs.declared.Filled.{Filled}
use Rattle.walk.specs.View.{bytes_of}
use Rattle.walk.specs.Calls.{Held}
use Rattle.walk.specs.Calls as one
use Rattle.connectors.specs.declared.Side.{Side}
use Rattle.connectors.specs.Connectors.{side_of}
use Rattle.isolation.specs.Turns.{turned_by}
use Rattle.isolation.specs.Calls.{Both, held_at, is_at, Asked, receive, slots_once, measure, fill, asks, Call, restart, on, after, after_all, own_calls, bytes_at}
use Rattle.isolation.specs.Answers.{Sent, as_long, slots_filled, Answer, answered, answers_at, Told, with_line_lem, with_count, alone, told_by, bytes_of_all, answer_bytes, all_bytes}
use Rattle.isolation.specs.Isolated.{BothToN, AlikePort, AlikeSlots, AlikeHeld, AllAlike, no_slot, next_slot, AlikeAnswer, on_start, on_byte_lem, on_slot_lem, on_measurement, on_fill, AlikeAnswers, no_more, and_next, Isolated}
use Rattle.isolation.proofs.Sees.{settled_as}
use Rattle.isolation.proofs.TwoRuns.{Allowed, Pairwise, none_left, and_more, Kept, two_runs}
use Rattle.isolation.proofs.Same.{words, same, same_port}
use Rattle.isolation.proofs.Alike.{cond_alike, other, valid_alike, as_other, slot_alike}

-- ---- a received byte

record AlikeReceived (x y : Received) : Type 0 where
  verdict : y.verdict ≡ x.verdict
  line : y.line ≡ x.line
  port : AlikePort x.port y.port

module _ {p q : Port} (d : AlikePort p q) where
  valid_same : valid_port q ≡ valid_port p
  valid_same = ap valid_port (sym (as_other p q d)) ∙ valid_alike p d.letter q.message (ap valid_source (sym d.source) ∙ d.valid) d.message

  taken_alike : (l : Line) → AlikeReceived (taken_of p l) (taken_of q l)
  unfolding taken_of
  taken_alike l =
      cond_alike AlikeReceived (is_some p.waiting) (is_some q.waiting) (λ i. is_some (d.waiting i))
      (λ y. record { verdict = refl; line = refl; port = d })
      (λ n. record {
        verdict = refl;
        line = refl;
        port = record { letter = d.letter; source = d.source; valid = d.valid; message = d.message; last = d.last; waiting = refl };
      })

  receive_alike : (l : Line) (b : ℕ) → AlikeReceived (receive_of p l b) (receive_of q l b)
  unfolding receive_of
  receive_alike l b =
      cond_alike AlikeReceived (valid_port p && valid_line l) (valid_port q && valid_line l) (λ i. valid_same i && valid_line l)
      (λ y. cond_alike AlikeReceived (ends l b) (ends l b) refl (λ z. taken_alike l) (λ z. record { verdict = refl; line = refl; port = d }))
      (λ n. record { verdict = refl; line = refl; port = d })

-- ---- a measurement

record AlikeHanded (x y : Handed) : Type 0 where
  verdict : y.verdict ≡ x.verdict
  port : AlikePort x.port y.port

-- settings that are in range with either letter are so with any measurement
measured_same : (s : Source) (b : ℕ) (m : Measurement) → valid_source s ≡ true → valid_source (lettered b s) ≡ true →
    valid_source (record { settings = lettered_with b s.settings; measurement = m; modes = s.modes }) ≡ valid_source (record { settings = s.settings; measurement = m; modes = s.modes })
unfolding valid_source
measured_same s b m v w =
    let k = is_done (measurement_verdict s.measurement) && valid_modes s.modes in
    let x = and_left (eqb (settings_lowest s.settings) 0) k v in
    let y = and_left (eqb (settings_lowest (lettered_with b s.settings)) 0) k w in
    ap (λ (z : Bool). z && (is_done (measurement_verdict m) && valid_modes s.modes)) (y ∙ sym x)

module _ (p : Port) (b : ℕ) (n : Message) (e : valid_source (lettered b p.source) ≡ valid_source p.source)
    (a : (n ≡ p.message) ⊎ BothToN p.source.settings.fixed p.message n) (m : Measurement) where
  abbrev q : Port
  q = other p b n

  alike_here : AlikePort p q
  alike_here = record { letter = b; source = refl; valid = e; message = a; last = refl; waiting = refl }

  handed_alike : (v : Verdict) → valid_source p.source ≡ true → AlikeHanded (handed v (measured_port p m) p) (handed v (measured_port q m) q)
  unfolding handed
  handed_alike (Ok tt) v = record {
    verdict = refl;
    port = record { letter = b; source = refl; valid = measured_same p.source b m v (e ∙ v); message = a; last = refl; waiting = refl };
  }
  handed_alike (Err r) v = record { verdict = refl; port = alike_here }

  other_measured : AlikeHanded (measure_of p m) (measure_of q m)
  unfolding measure_of
  other_measured =
      cond_alike AlikeHanded (valid_port p) (valid_port q) (valid_alike p b n e a)
      (λ y. handed_alike (measurement_verdict m) (source_valid p y))
      (λ z. record { verdict = refl; port = alike_here })

measure_alike : {p q : Port} → AlikePort p q → (m : Measurement) → AlikeHanded (measure_of p m) (measure_of q m)
measure_alike {p} {q} d m =
    subst (λ (x : Port). AlikeHanded (measure_of p m) (measure_of x m)) (as_other p q d)
    (other_measured p d.letter q.message (ap valid_source (sym d.source) ∙ d.valid) d.message m)

-- ---- a fill

-- two slots that both sent a byte, or neither
data AsMuch : Sent → Sent → Type 0 where
  bytes : {x y : ℕ} → AsMuch (Ok (Some x)) (Ok (Some y))
  idle : AsMuch (Ok None) (Ok None)
  refused : {r : Refusal} → AsMuch (Err r) (Err r)

as_itself : (x : Sent) → AsMuch x x
as_itself (Ok (Some b)) = bytes
as_itself (Ok None) = idle
as_itself (Err r) = refused

as_much : {x y : Slotted} → AlikeSlots x y → AsMuch x.sent y.sent
as_much {x} {y} a =
    ⊎_elim
    (λ e. subst (AsMuch x.sent) (sym e) (as_itself x.sent))
    (λ n. subst (λ (z : Sent). AsMuch z y.sent) (sym n.sends) (subst (AsMuch (Ok (Some n.byte))) (sym n.sends') bytes))
    a.sent

record AlikeRuns (r t : SlotRun) (xs ys : List Slotted) : Type 0 where
  port : AlikePort r.port t.port
  long : length t.bytes ≡ length r.bytes
  slots : AllAlike xs ys

then_alike : {u w : Sent} → AsMuch u w → (x y : Slotted) (r t : SlotRun) (xs ys : List Slotted) → AlikeSlots x y → AlikeRuns r t xs ys →
    AlikeRuns (then_run u x.port r) (then_run w y.port t) (x ∷ as_long u xs) (y ∷ as_long w ys)
then_alike bytes x y r t xs ys a k = record { port = k.port; long = ap suc k.long; slots = next_slot a k.slots }
then_alike idle x y r t xs ys a k = record { port = a.port; long = refl; slots = next_slot a no_slot }
then_alike refused x y r t xs ys a k = record { port = a.port; long = refl; slots = next_slot a no_slot }

run_alike : (n : ℕ) {p q : Port} → AlikePort p q → AlikeRuns (run_of n p) (run_of n q) (slots_filled n p) (slots_filled n q)
unfolding run_of slots_filled
run_alike zero d = record { port = d; long = refl; slots = no_slot }
run_alike (suc n) {p} {q} d =
    let a = slot_alike d in
    then_alike (as_much a) (slot_of p) (slot_of q) _ _ _ _ a (run_alike n a.port)

record AlikeFilled (x y : Filled) : Type 0 where
  verdict : y.verdict ≡ x.verdict
  count : y.count ≡ x.count
  port : AlikePort x.port y.port

fill_alike : (n : ℕ) {p q : Port} → AlikePort p q → AlikeFilled (fill_of p n) (fill_of q n)
unfolding fill_of
fill_alike n {p} {q} d =
    let r = run_alike n d in
    cond_alike AlikeFilled (valid_port p) (valid_port q) (valid_same d)
    (λ y. record { verdict = refl; count = r.long; port = r.port })
    (λ z. record { verdict = refl; count = refl; port = d })

-- ---- all calls, and turns of the letter

itself : (p : Port) → AlikePort p p
itself p = record { letter = p.source.settings.fixed.lens.letter; source = refl; valid = refl; message = inl refl; last = refl; waiting = refl }

answers_alike : (x y : Held) (q : Asked) → AlikeHeld x y → AlikeAnswer (answered x q) (answered y q)
answers_alike x y (receive b) a =
    subst (λ (l : Line). AlikeAnswer (answered x (receive b)) (answered (record { port = y.port; line = l }) (receive b))) (sym a.line)
    (let r = receive_alike a.port x.line b in on_byte_lem r.verdict r.line r.port)
answers_alike x y slots_once a = on_slot_lem (slot_alike a.port)
answers_alike x y (measure m) a = let r = measure_alike a.port m in on_measurement r.verdict r.port
answers_alike x y (fill n) a = let r = fill_alike n a.port in on_fill r.verdict r.count r.port (run_alike n a.port).slots

after_alike : (x y : Held) (q : Asked) → AlikeHeld x y → AlikeHeld (one.after x (asks q)) (one.after y (asks q))
after_alike x y (receive b) a =
    subst (λ (l : Line). AlikeHeld (one.after x (one.receive b)) (one.after (record { port = y.port; line = l }) (one.receive b))) (sym a.line)
    (let r = receive_alike a.port x.line b in record { port = r.port; line = r.line })
after_alike x y slots_once a = record { port = (slot_alike a.port).port; line = a.line }
after_alike x y (measure m) a = record { port = (measure_alike a.port m).port; line = a.line }
after_alike x y (fill n) a = record { port = (fill_alike n a.port).port; line = a.line }

turn_left : (t : Option Turn) (x y : Held) → AlikeHeld x y → AlikeHeld (settled_as x (turned_by t x.port.source.settings)) y
turn_left none x y a = a
turn_left (some t) x y a =
    let d = a.port in
    record {
      port = record {
        letter = d.letter;
        source = d.source;
        valid = d.valid ∙ sym (turned_same t x.port.source);
        message = ⊎_elim (λ e. inl e) (λ n. inr (record { checksum = n.checksum; letter = n.letter; letter' = n.letter'; at = n.at; is = n.is; is' = n.is' })) d.message;
        last = d.last;
        waiting = d.waiting;
      };
      line = a.line;
    }

turn_right : (t : Option Turn) (x y : Held) → AlikeHeld x y → AlikeHeld x (settled_as y (turned_by t y.port.source.settings))
turn_right none x y a = a
turn_right (some t) x y a =
    let d = a.port in
    let s = turned t y.port.source in
    record {
      port = record {
        letter = s.settings.fixed.lens.letter;
        source = ap (λ (z : Source). lettered s.settings.fixed.lens.letter z) d.source;
        valid = turned_same t y.port.source ∙ d.valid;
        message = d.message;
        last = d.last;
        waiting = d.waiting;
      };
      line = a.line;
    }

alikes : Kept AlikeHeld AlikeAnswer (λ t. Unit {0})
alikes = record {
  same = λ x. record { port = itself x.port; line = refl };
  answers = answers_alike;
  after = after_alike;
  restarts = λ v x y a. on_start refl a;
  turn_left = λ t x y u a. turn_left t x y a;
  turn_right = λ t x y u a. turn_right t x y a;
}

any_turn : (a : Side) (h : Both) (cs : List Call) → Allowed (λ t. Unit {0}) a h cs
unfolding Allowed
any_turn a h [] = tt
any_turn a h (c ∷ cs) = (tt, any_turn a (after h c) cs)

all_alike : {xs ys : List Answer} → Pairwise AlikeAnswer xs ys → AlikeAnswers xs ys
all_alike none_left = no_more
all_alike (and_more x p) = and_next x (all_alike p)

two_alike : (a : Side) (h k : Both) (cs ds : List Call) → held_at h a ≡ held_at k a → own_calls a cs ≡ own_calls a ds →
    Pairwise AlikeAnswer (answers_at a h cs) (answers_at a k ds) × AlikeHeld (held_at (after_all h cs) a) (held_at (after_all k ds) a)
two_alike a h k cs ds e o =
    two_runs alikes a h k cs ds (subst (AlikeHeld (held_at h a)) e (record { port = itself _; line = refl })) (any_turn a h cs) (any_turn a k ds) o

-- ---- the bytes

run_bytes : (t : Sent) (q : Port) (r : SlotRun) (xs : List Slotted) → r.bytes ≡ bytes_of_all xs → (then_run t q r).bytes ≡ bytes_of t ++ bytes_of_all (as_long t xs)
unfolding bytes_of_all
run_bytes (Ok (Some b)) q r xs e = ap (λ (z : List ℕ). b ∷ z) e
run_bytes (Ok None) q r xs e = refl
run_bytes (Err x) q r xs e = refl

fill_bytes : (n : ℕ) (p : Port) → (run_of n p).bytes ≡ bytes_of_all (slots_filled n p)
unfolding run_of slots_filled bytes_of_all
fill_bytes zero p = refl
fill_bytes (suc n) p = run_bytes (slot_of p).sent _ _ _ (fill_bytes n (slot_of p).port)

answer_bytes_lem : (x : Held) (q : Asked) → one.bytes x (asks q) ≡ answer_bytes (answered x q)
answer_bytes_lem x (receive b) = refl
answer_bytes_lem x slots_once = refl
answer_bytes_lem x (measure m) = refl
answer_bytes_lem x (fill n) = fill_bytes n x.port

all_bytes_lem : (a : Side) (h : Both) (cs : List Call) → bytes_at a h cs ≡ all_bytes (answers_at a h cs)
unfolding bytes_at answers_at all_bytes
all_bytes_lem a h [] = refl
all_bytes_lem a h (restart s camera external ∷ cs) = all_bytes_lem a (after h (restart s camera external)) cs
all_bytes_lem a h (on n q ∷ cs) =
    let t = is_at a (side_of n) in
    let k = after h (on n q) in
    let P : Bool → Type 0 = λ b. (cond b (one.bytes (held_at h a) (asks q)) [] ++ bytes_at a k cs ≡ all_bytes (cond b (answered (held_at h a) q ∷ []) [] ++ answers_at a k cs)) in
    told t
    (λ y. subst P (sym y) (ap₂ (λ (x z : List ℕ). x ++ z) (answer_bytes_lem (held_at h a) q) (all_bytes_lem a k cs)))
    (λ z. subst P (sym z) (all_bytes_lem a k cs))

-- as many in alike answers
sent_long : {u w : Sent} → AsMuch u w → length (bytes_of u) ≡ length (bytes_of w)
sent_long bytes = refl
sent_long idle = refl
sent_long refused = refl

slots_long : {xs ys : List Slotted} → AllAlike xs ys → length (bytes_of_all xs) ≡ length (bytes_of_all ys)
unfolding bytes_of_all
slots_long no_slot = refl
slots_long (next_slot {x} {y} {xs} {ys} a k) =
    length-append (bytes_of x.sent) (bytes_of_all xs) ∙ ap₂ (λ (m n : ℕ). m + n) (sent_long (as_much a)) (slots_long k) ∙ sym (length-append (bytes_of y.sent) (bytes_of_all ys))

answer_long : {x y : Answer} → AlikeAnswer x y → length (answer_bytes x) ≡ length (answer_bytes y)
answer_long (on_start v h) = refl
answer_long (on_byte_lem v l p) = refl
answer_long (on_slot_lem a) = sent_long (as_much a)
answer_long (on_measurement v p) = refl
answer_long (on_fill v c p k) = slots_long k

answers_long : {xs ys : List Answer} → Pairwise AlikeAnswer xs ys → length (all_bytes xs) ≡ length (all_bytes ys)
unfolding all_bytes
answers_long none_left = refl
answers_long (and_more {x} {y} {xs} {ys} a k) =
    length-append (answer_bytes x) (all_bytes xs) ∙ ap₂ (λ (m n : ℕ). m + n) (answer_long a) (answers_long k) ∙ sym (length-append (answer_bytes y) (all_bytes ys))

-- ---- verdicts, counts and lines

told_alike : {x y : Answer} → AlikeAnswer x y → told_by x ≡ told_by y
told_alike (on_start v h) = ap₂ with_line_lem (sym v) (sym h.line)
told_alike (on_byte_lem v l p) = ap₂ with_line_lem (sym v) (sym l)
told_alike (on_slot_lem a) = refl
told_alike (on_measurement v p) = ap alone (sym v)
told_alike (on_fill v c p k) = ap₂ with_count (sym v) (sym c)

all_told : {xs ys : List Answer} → Pairwise AlikeAnswer xs ys → map told_by xs ≡ map told_by ys
all_told none_left = refl
all_told (and_more a k) = ap₂ (λ (x : Told) (l : List Told). x ∷ l) (told_alike a) (all_told k)

-- ---- all

pub isolated : Isolated
isolated = record {
  words = words;
  same = same;
  same_bytes = λ a h k cs ds e o n m. all_bytes_lem a h cs ∙ ap all_bytes (same a h k cs ds e o n m) ∙ sym (all_bytes_lem a k ds);
  same_port = same_port;
  alike = λ a h k cs ds e o. all_alike (two_alike a h k cs ds e o).0;
  alike_port = λ a h k cs ds e o. (two_alike a h k cs ds e o).1;
  alike_told = λ a h k cs ds e o. all_told (two_alike a h k cs ds e o).0;
  alike_long = λ a h k cs ds e o. ap length (all_bytes_lem a h cs) ∙ answers_long (two_alike a h k cs ds e o).0 ∙ sym (ap length (all_bytes_lem a k ds));
  fill_bytes = fill_bytes;
  bytes = all_bytes_lem;
}
