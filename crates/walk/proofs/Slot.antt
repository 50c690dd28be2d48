-- A slot of a sound port is the machine's slot of its view: first the byte of a message under way, then a message that starts, then each rule. Assumes nothing.
use Prim.Native.Nat.{ℕ, suc, ◌+◌, ◌≤◌, ◌<◌}
use mathlib.Core.Bool.{Bool, true, false, ◌&&◌}
use mathlib.Core.List.{List, [], ◌∷◌}
use mathlib.Core.Option.{Option, none, some}
use mathlib.Core.Path.{◌≡◌, refl, sym, ap, subst, ◌∙◌}
use native.Mathlib.Numerals.{add-one}
use native.Mathlib.Omega.{arith}
use borrow.Author.Tests.{leb-true, ltb-true, ltb-false, eqb-true, eqb-false}
use lib.Arith.{lt_of_le-ne}
use lib.Dec.{leb, ltb, eqb}
use lib.ListN.{length, take, drop, get_or, drop_of_length-le}
use lib.Seq.{drop-cons, get_or-take, length-take-le}
use Rattle.std.specs.Prelude as std
use Rattle.std.specs.Prelude.{None, Some, Ok}
use Rattle.laws.proofs.OverLaws.{length_over, take_over}
use Rattle.laws.proofs.Tests.{and_right, cond_yes, cond_no, told, by, never}
use Rattle.machine.specs.Machine.{Kind, neither, a_record, State, port, Out, sends, begins, Choice, choice, owed, rule3, answer, rule2, rules, sent_one, reply_kind, listed, begin, on_slot, acted_in, sent_in}
use Rattle.line.specs.declared.Line.{Line}
use Rattle.state.specs.declared.Last.{Last}
use Rattle.state.specs.declared.Last.TheVariants as last
use Rattle.state.specs.declared.Message.{Message}
use Rattle.state.specs.declared.Source.{Source}
use Rattle.state.specs.State.{message_length, zeros, unsent, valid_message, valid_source}
use Rattle.rules.specs.Does.{does, counts, continuous, record_message}
use Rattle.state.proofs.Laws.{zeros_long}
use Rattle.rules.specs.Lens.{lens, longest_message}
use Rattle.rules.proofs.Kept.{does_valid, reply_at_most}
use Rattle.rules.proofs.Lengths.{record_at_most, record_some}
use Rattle.port.specs.declared.Port.{Port}
use Rattle.port.specs.declared.Slotted.{Slotted}
use Rattle.port.specs.Port.{moved_if, send_from, begun_with, begins_record, rest_of, freed, reply_last, answers, is_reply, act_of, act_or_rest, choose_of, slot_of}
use Rattle.port.proofs.Valid.{source_valid, message_valid, message_low}
use Rattle.walk.specs.View.{kind_of, waits_of, left_of, view, bytes_of}
use Rattle.walk.specs.Walk.{Sound}

-- what a slot of the port and the machine's step come to: the same state, the same bytes, and a buffer as long as before
pub record Alike (l : Line) (x : Slotted) (y : State lens × Out lens) : Type 0 where
  pub state : view x.port l ≡ y.0
  pub bytes : bytes_of x.sent ≡ sent_in y.1
  pub long : length x.port.message.bytes ≡ message_length

-- ---- one byte of a message

module _ (bytes : List ℕ) (len at : ℕ) (long : length bytes ≡ message_length) (low : len ≤ message_length) (more : at < len) where
  whole : length (take len bytes) ≡ len
  whole = length-take-le len bytes (omega arith)

  left_is : drop at (take len bytes) ≡ get_or bytes at 0 ∷ drop (at + 1) (take len bytes)
  left_is = rw add-one (drop-cons (take len bytes) at 0 (omega (arith, whole)) ∙ ap (λ (x : ℕ). x ∷ drop (suc at) (take len bytes)) (get_or-take len bytes at 0 more))

  moved_is : (s : Source) → moved_if (eqb (at + 1) len) s ≡ sent_one lens s (drop (at + 1) (take len bytes))
  unfolding moved_if
  moved_is s =
      told (eqb (at + 1) len)
      (λ y.
      let e : at + 1 ≡ len = eqb-true (at + 1) len y in
      rw (y, drop_of_length-le (take len bytes) {i = at + 1} (omega (arith, whole))))
      (λ n.
      let k : at + 1 < len = lt_of_le-ne {i = at + 1} {k = len} (omega arith) (eqb-false (at + 1) len n) in
      rw (n, drop-cons (take len bytes) (at + 1) 0 (omega (arith, whole))))

send_alike : (p : Port) (l : Line) (at : ℕ) (b : ℕ) (bs : List ℕ) (out : Out lens) → length p.message.bytes ≡ message_length → p.message.len ≤ message_length → at < p.message.len →
    drop at (take p.message.len p.message.bytes) ≡ b ∷ bs → sent_in out ≡ b ∷ [] →
    Alike l (send_from p at) (port (sent_one lens p.source bs) (waits_of p.waiting) bs (kind_of p.last) l, out)
unfolding send_from view
send_alike p l at b bs out long low more e o =
    let m = p.message in
    let i = left_is m.bytes m.len at long low more in
    let h : get_or m.bytes at 0 ∷ drop (at + 1) (take m.len m.bytes) ≡ b ∷ bs = sym i ∙ e in
    let hb : get_or m.bytes at 0 ≡ b = cc in
    let hs : drop (at + 1) (take m.len m.bytes) ≡ bs = cc in
    record {
      state = rw (moved_is m.bytes m.len at long low more p.source, hs);
      bytes = ap (λ (x : ℕ). x ∷ []) hb ∙ sym o;
      long = long;
    }

-- ---- a message that starts

begin_alike : (s : Source) (b : ℕ) (bs : List ℕ) (k : Last) (w : std.Option Line) (l : Line) (out : Out lens) → length (b ∷ bs) ≤ longest_message → sent_in out ≡ b ∷ [] →
    Alike l (begun_with s (unsent (b ∷ bs)) k w) (port (sent_one lens s bs) (waits_of w) bs (kind_of k) l, out)
unfolding begun_with
begin_alike s b bs k w l out low o =
    let xs = b ∷ bs in
    let z = zeros_long in
    send_alike (record { source = s; message = unsent xs; last = k; waiting = w }) l 0 b bs out
    (length_over zeros xs 0 ∙ z) (omega arith) (omega arith) (take_over zeros xs (length xs) refl (omega arith)) o

-- nothing is left where the place is the length
pub none_left : (m : Message) → valid_message m ≡ true → length m.bytes ≡ message_length → m.len ≤ m.at → left_of m ≡ []
none_left m v long h = drop_of_length-le (take m.len m.bytes) {i = m.at} (omega (arith, length-take-le m.len m.bytes (rw long (message_low m v))))

-- and where nothing is left the place is the length
pub all_sent : (m : Message) → valid_message m ≡ true → length m.bytes ≡ message_length → left_of m ≡ [] → m.at ≡ m.len
unfolding valid_message
all_sent m v long e =
    let low = message_low m v in
    let in-it = leb-true m.at m.len (and_right (leb m.len message_length) (leb m.at m.len) v) in
    told (ltb m.at m.len)
    (λ y.
    let i = left_is m.bytes m.len m.at long low (ltb-true m.at m.len y) in
    let h : get_or m.bytes m.at 0 ∷ drop (m.at + 1) (take m.len m.bytes) ≡ [] = sym i ∙ e in
    never cc)
    (λ n. omega (arith, ltb-false m.at m.len n))

and_false : (b : Bool) → (b && false) ≡ false
and_false true = refl
and_false false = refl

and_true : (b : Bool) → (b && true) ≡ b
and_true true = refl
and_true false = refl

-- ---- the rules

-- a choice of the machine and what the port makes of it
abbrev pub Chosen : Line → Kind → Slotted → Choice lens → Type 0
Chosen l k x c = Alike l x (begin c k l)

some_alike : (s : Source) (xs : List ℕ) (k : Last) (w : std.Option Line) (l : Line) (a : Option Line) (before : Kind) → 0 < length xs → length xs ≤ longest_message →
    Chosen l before (begun_with s (unsent xs) k w) (choice a s (waits_of w) (kind_of k) xs)
unfolding begin
some_alike s [] k w l a before h low = absurd (omega arith)
some_alike s (b ∷ bs) k w l a before h low = begin_alike s b bs k w l (begins a (kind_of k) b bs) low refl

-- nothing starts: the state stays, and what was sent last with it
idle_alike : (p : Port) (l : Line) (a : Option Line) (k : Kind) → length p.message.bytes ≡ message_length → left_of p.message ≡ [] → waits_of p.waiting ≡ none →
    Chosen l (kind_of p.last) (record { sent = Ok None; port = p }) (choice a p.source none k [])
unfolding begin view
idle_alike p l a k long e z = record { state = rw (e, z); bytes = refl; long = long }

module _ (p : Port) (l : Line) (v : valid_source p.source ≡ true) where
  record_alike : (a : Option Line) (before : Kind) → Chosen l before (begins_record p) (choice a p.source (waits_of p.waiting) a_record (record_message p.source))
  unfolding begins_record
  record_alike a before = some_alike p.source (record_message p.source) last.Record p.waiting l a before (record_some p.source) (record_at_most p.source v)

  -- rules 3 and 4, with no command waiting and no message under way
  rest_alike : (a : Option Line) → length p.message.bytes ≡ message_length → left_of p.message ≡ [] → waits_of p.waiting ≡ none →
      Chosen l (kind_of p.last) (rest_of p) (rule3 lens a p.source)
  unfolding rest_of rule3
  rest_alike a long e z =
      told (continuous p.source)
      (λ y. rw y (subst (λ (o : Option Line). Chosen l (kind_of p.last) (begins_record p) (choice a p.source o a_record (record_message p.source))) z (record_alike a (kind_of p.last))))
      (λ n. rw n (idle_alike p l a neither long e z))

reply_kind_lem : (b : Bool) → kind_of (reply_last b) ≡ reply_kind b
reply_kind_lem true = refl
reply_kind_lem false = refl

-- rule 2, by what the command answers
answered : (p : Port) (l c : Line) (xs : List ℕ) → valid_source p.source ≡ true → length p.message.bytes ≡ message_length → left_of p.message ≡ [] → length xs ≤ longest_message →
    Chosen l (kind_of p.last) (answers p (does p.source c).source xs (reply_last (counts p.source c))) (answer lens xs p.source c)
unfolding answers answer
answered p l c [] v long e low =
    rest_alike (freed p (does p.source c).source) l (does_valid p.source c v) (some c) long e refl
answered p l c (b ∷ bs) v long e low =
    let s = (does p.source c).source in
    subst (λ (k : Kind). Chosen l (kind_of p.last) (begun_with s (unsent (b ∷ bs)) (reply_last (counts p.source c)) None) (choice (some c) s none k (b ∷ bs))) (reply_kind_lem (counts p.source c))
    (some_alike s (b ∷ bs) (reply_last (counts p.source c)) None l (some c) (kind_of p.last) (omega arith) low)

act_alike : (p : Port) (l c : Line) → valid_source p.source ≡ true → length p.message.bytes ≡ message_length → left_of p.message ≡ [] →
    Chosen l (kind_of p.last) (act_of p c) (rule2 lens p.source (some c))
unfolding act_of rule2
act_alike p l c v long e =
    answered p l c (does p.source c).reply v long e (reply_at_most p.source c v)

-- rules 2 to 4
later_alike : (p : Port) (l : Line) (w : std.Option Line) → p.waiting ≡ w → valid_source p.source ≡ true → length p.message.bytes ≡ message_length → left_of p.message ≡ [] →
    Chosen l (kind_of p.last) (act_or_rest p w) (rule2 lens p.source (waits_of w))
unfolding rule2
later_alike p l (Some c) z v long e = act_alike p l c v long e
later_alike p l None z v long e = rest_alike p l v none long e (ap waits_of z)

pub owed_is : (s : Source) (k : Last) → owed lens s (kind_of k) ≡ (continuous s && is_reply k)
owed_is s last.Neither = sym (and_false (continuous s))
owed_is s last.Record = sym (and_false (continuous s))
owed_is s last.Reply = sym (and_true (continuous s))

choose_alike : (p : Port) (l : Line) → valid_source p.source ≡ true → length p.message.bytes ≡ message_length → left_of p.message ≡ [] →
    Chosen l (kind_of p.last) (choose_of p) (rules lens p.source (waits_of p.waiting) (kind_of p.last))
unfolding choose_of rules
choose_alike p l v long e =
    rw (owed_is p.source p.last)
    (told (continuous p.source && is_reply p.last)
    (λ y. rw y (record_alike p l v none (kind_of p.last)))
    (λ n. rw n (later_alike p l p.waiting refl v long e)))

-- ---- the slot

pub slot_alike : (p : Port) (l : Line) → Sound p → Alike l (slot_of p) (on_slot (view p l))
unfolding slot_of view on_slot
slot_alike p l s =
    let m = p.message in
    let low = message_low m (message_valid p s.valid) in
    let src = source_valid p s.valid in
    rw s.valid
    (told (ltb m.at m.len)
    (λ y.
    let more = ltb-true m.at m.len y in
    let i = left_is m.bytes m.len m.at s.long low more in
    rw (y, i) (send_alike p l m.at _ _ (sends (get_or m.bytes m.at 0)) s.long low more i refl))
    (λ n.
    let e : left_of m ≡ [] = none_left m (message_valid p s.valid) s.long (ltb-false m.at m.len n) in
    rw (n, e) (choose_alike p l src s.long e)))

-- ---- where a slot acts

-- the command that a choice acts on
abbrev acts_on : Choice lens → Option Line
acts_on (choice a m w k xs) = a

begin_acts : (c : Choice lens) (k : Kind) (l : Line) → acted_in (begin c k l).1 ≡ listed (acts_on c)
unfolding begin
begin_acts (choice a m w k []) before l = refl
begin_acts (choice a m w k (b ∷ bs)) before l = refl

rule3_acts : (a : Option Line) (s : Source) → acts_on (rule3 lens a s) ≡ a
unfolding rule3
rule3_acts a s = by (λ (c : Choice lens). acts_on c ≡ a) (continuous s) _ _ (λ y. refl) (λ n. refl)

answer_acts : (xs : List ℕ) (s : Source) (c : Line) → acts_on (answer lens xs s c) ≡ some c
unfolding answer
answer_acts [] s c = rule3_acts (some c) (does s c).source
answer_acts (b ∷ bs) s c = refl

rule2_acts : (s : Source) (w : Option Line) → acts_on (rule2 lens s w) ≡ w
unfolding rule2
rule2_acts s none = rule3_acts none s
rule2_acts s (some c) = answer_acts (does s c).reply s c

-- the waiting place that the machine sees filled
pub waits_some : (w : std.Option Line) (c : Line) → waits_of w ≡ some c → w ≡ Some c
waits_some (Some l) c e = cc
waits_some None c e = never cc

listed_one : (w : Option Line) (c : Line) → listed w ≡ c ∷ [] → w ≡ some c
listed_one none c e = never cc
listed_one (some d) c e = cc

choose_acts : (p : Port) (l : Line) (c : Line) → acted_in (begin (rules lens p.source (waits_of p.waiting) (kind_of p.last)) (kind_of p.last) l).1 ≡ c ∷ [] →
    (p.waiting ≡ Some c) × (choose_of p ≡ act_of p c)
unfolding choose_of rules
choose_acts p l c e =
    let w = waits_of p.waiting in
    let a : listed (acts_on (rules lens p.source w (kind_of p.last))) ≡ c ∷ [] = sym (begin_acts _ _ l) ∙ e in
    told (continuous p.source && is_reply p.last)
    (λ y.
    let h : [] ≡ c ∷ [] = sym (ap (λ (x : Choice lens). listed (acts_on x)) (cond_yes _ _ (owed_is p.source p.last ∙ y))) ∙ a in
    never cc)
    (λ n.
    let r = ap (λ (x : Choice lens). listed (acts_on x)) (cond_no _ _ (owed_is p.source p.last ∙ n)) in
    let h = waits_some p.waiting c (listed_one w c (sym (ap (λ (x : Option Line). listed x) (rule2_acts p.source w)) ∙ sym r ∙ a)) in
    (h, cond_no _ _ n ∙ ap (act_or_rest p) h))

-- a slot in which the machine acts on a command is rule 2 of the port, and that command waits
pub slot_acts : (p : Port) (l : Line) (c : Line) → Sound p → acted_in (on_slot (view p l)).1 ≡ c ∷ [] → (p.waiting ≡ Some c) × (slot_of p ≡ act_of p c)
unfolding slot_of view on_slot
slot_acts p l c s =
    let m = p.message in
    let low = message_low m (message_valid p s.valid) in
    rw s.valid
    (told (ltb m.at m.len)
    (λ y. rw (y, left_is m.bytes m.len m.at s.long low (ltb-true m.at m.len y)) (λ e. never cc))
    (λ n. rw (n, none_left m (message_valid p s.valid) s.long (ltb-false m.at m.len n)) (choose_acts p l c)))
