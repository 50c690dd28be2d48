-- Two ports that differ in the letter of their settings, and in the message under way where it answers N, stay so with every slot, and send the same but where a
-- reply to N hangs on the letter. Assumes nothing.
use Prim.Native.Nat.{ℕ, ◌+◌, ◌≤◌, ◌<◌}
use mathlib.Core.Bool.{Bool, true, false, ◌&&◌, cond}
use mathlib.Core.List.{List, [], ◌∷◌}
use mathlib.Core.Logic.{◌⊎◌, inl, inr, ⊎_elim}
use mathlib.Core.Option.{Option, none, some}
use mathlib.Core.Path.{◌≡◌, refl, sym, ap, subst, ◌∙◌}
use native.Mathlib.Omega.{arith}
use borrow.Author.Tests.{ltb-true, le-leb, leb-true}
use lib.Dec.{ltb, leb, eqb}
use lib.ListN.{length, get_or, get_or-append}
use Rattle.std.specs.Prelude as std
use Rattle.std.specs.Prelude.{None, Some, Ok}
use Rattle.laws.specs.Over.{over}
use Rattle.laws.proofs.Tests.{told, cond_yes, and_left, and_right}
use Rattle.fixed.specs.Form.{fixed_form}
use Rattle.fixed.specs.declared.Fixed.{Fixed}
use Rattle.fixed.specs.declared.Settings.{Settings}
use Rattle.line.specs.declared.Line.{Line}
use Rattle.line.specs.Command.{command_of}
use Rattle.state.specs.declared.Last.{Last}
use Rattle.state.specs.declared.Last.TheVariants as last
use Rattle.state.specs.declared.Message.{Message}
use Rattle.state.specs.declared.Modes.{Modes}
use Rattle.state.specs.declared.Source.{Source}
use Rattle.state.specs.State.{message_length, zeros, unsent, valid_message, valid_source}
use Rattle.state.proofs.Laws.{zeros_long}
use Rattle.rules.specs.Does.{with_modes, rate_moved, fixed_with, does, counts, continuous, record_message}
use Rattle.rules.specs.Lens.{Turn}
use Rattle.rules.specs.Unread.{lettered}
use Rattle.rules.proofs.Unread.{unread}
use Rattle.rules.proofs.Lengths.{framed_some, record_some, record_at_most}
use Rattle.rules.proofs.Kept.{does_valid, reply_at_most, ended_valid}
use Rattle.port.specs.declared.Port.{Port}
use Rattle.port.specs.declared.Slotted.{Slotted}
use Rattle.port.specs.Port.{valid_waiting, valid_port, moved_if, send_from, begun_with, begins, begins_record, rest_of, reply_last, freed, answers, act_of, act_or_rest, is_reply, choose_of, slot_of}
use Rattle.isolation.specs.Turns.{turns_in, turned_by}
use Rattle.isolation.specs.Isolated.{reply_to_n, sent_to, BothToN, AlikePort, SentToN, AlikeSlots}
use Rattle.isolation.proofs.Turns.{settings_after, letter_by, does_lettered, n_or_not, says_fixed}
use Rattle.isolation.proofs.Places.{reply_as_long, same_or_hangs}

-- ---- a relation of two tests that agree

pub cond_alike : {X Y : Type 0} (R : X → Y → Type 0) (b c : Bool) {x y : X} {x' y' : Y} → c ≡ b → (b ≡ true → R x x') → (b ≡ false → R y y') → R (cond b x y) (cond c x' y')
cond_alike R b c {x} {y} {x'} {y'} e f g =
    subst (λ (d : Bool). R (cond b x y) (cond d x' y')) (sym e)
    (told b
    (λ h. subst (λ (d : Bool). R (cond d x y) (cond d x' y')) (sym h) (f h))
    (λ h. subst (λ (d : Bool). R (cond d x y) (cond d x' y')) (sym h) (g h)))

-- ---- the messages

as_long_lem : (f : Fixed) (m m' : Message) → (m' ≡ m) ⊎ BothToN f m m' → (m'.len ≡ m.len) × (m'.at ≡ m.at)
as_long_lem f m m' (inl e) = (ap (λ (x : Message). x.len) e, ap (λ (x : Message). x.at) e)
as_long_lem f m m' (inr n) = (
  ap (λ (x : Message). x.len) n.is' ∙ reply_as_long n.checksum f n.letter' n.letter ∙ sym (ap (λ (x : Message). x.len) n.is),
  ap (λ (x : Message). x.at) n.is' ∙ sym (ap (λ (x : Message). x.at) n.is),
)

-- they are replies for these fixed data, whatever letter those have
of_letter : (f g : Fixed) (m m' : Message) → ((a : ℕ) → fixed_with a g ≡ fixed_with a f) → (m' ≡ m) ⊎ BothToN f m m' → (m' ≡ m) ⊎ BothToN g m m'
of_letter f g m m' e (inl s) = inl s
of_letter f g m m' e (inr n) = inr (record {
  checksum = n.checksum;
  letter = n.letter;
  letter' = n.letter';
  at = n.at;
  is = n.is ∙ ap (λ (x : Fixed). sent_to n.at (reply_to_n n.checksum x)) (sym (e n.letter));
  is' = n.is' ∙ ap (λ (x : Fixed). sent_to n.at (reply_to_n n.checksum x)) (sym (e n.letter'));
})

-- a byte of a message that fits is that of its bytes
byte_of : (xs : List ℕ) (i : ℕ) → i < length xs → length xs ≤ message_length → get_or (unsent xs).bytes i 0 ≡ get_or xs i 0
unfolding over
byte_of xs i h k =
    let z = zeros_long in
    ap (λ (x : List ℕ). get_or x i 0) (cond_yes _ _ (le-leb (0 + length xs) (length zeros) (omega arith))) ∙ get_or-append xs _ 0 i h

-- ---- a byte leaves

abbrev sent_further : ℕ → Message → Message
sent_further at m = record { bytes = m.bytes; len = m.len; at = at + 1 }

-- with these modes after it
abbrev sent_with : Modes → Port → ℕ → Slotted
sent_with k p at = record {
  sent = Ok (Some (get_or p.message.bytes at 0));
  port = record { source = with_modes p.source k; message = sent_further at p.message; last = p.last; waiting = p.waiting };
}

abbrev moved_modes : Bool → Modes → Modes
moved_modes ended m = cond ended (rate_moved m) m

sends_with : (p : Port) (at : ℕ) → send_from p at ≡ sent_with (moved_modes (eqb (at + 1) p.message.len) p.source.modes) p at
unfolding send_from moved_if
sends_with p at = told (eqb (at + 1) p.message.len) (λ e. rw e) (λ e. rw e)

moved_valid : (ended : Bool) (s : Source) → valid_source s ≡ true → valid_source (with_modes s (moved_modes ended s.modes)) ≡ true
moved_valid true s v = ended_valid s v
moved_valid false s v = v

-- the port, with another letter and another message
abbrev pub other : Port → ℕ → Message → Port
other p b m = record { source = lettered b p.source; message = m; last = p.last; waiting = p.waiting }

module _ (p : Port) (b : ℕ) (m : Message) (v : valid_source p.source ≡ true) (w : valid_source (lettered b p.source) ≡ true)
    (a : (m ≡ p.message) ⊎ BothToN p.source.settings.fixed p.message m) where
  abbrev f : Fixed
  f = p.source.settings.fixed

  abbrev further : (at : ℕ) → BothToN f p.message m → BothToN f (sent_further at p.message) (sent_further at m)
  further at n = record {
    checksum = n.checksum;
    letter = n.letter;
    letter' = n.letter';
    at = at + 1;
    is = ap (sent_further at) n.is;
    is' = ap (sent_further at) n.is';
  }

  -- one that answers N
  in_reply : (k : Modes) (at : ℕ) → at < p.message.len → p.message.len ≤ message_length → BothToN f p.message m →
      ((sent_with k (other p b m) at).sent ≡ (sent_with k p at).sent) ⊎ SentToN (sent_with k p at) (sent_with k (other p b m) at)
  in_reply k at h g n =
      let xs = reply_to_n n.checksum (fixed_with n.letter f) in
      let ys = reply_to_n n.checksum (fixed_with n.letter' f) in
      let x : p.message.len ≡ length xs = ap (λ (z : Message). z.len) n.is in
      let y : length xs ≡ length ys = reply_as_long n.checksum f n.letter n.letter' in
      let i : get_or p.message.bytes at 0 ≡ get_or xs at 0 = ap (λ (z : Message). get_or z.bytes at 0) n.is ∙ byte_of xs at (omega arith) (omega arith) in
      let j : get_or m.bytes at 0 ≡ get_or ys at 0 = ap (λ (z : Message). get_or z.bytes at 0) n.is' ∙ byte_of ys at (omega arith) (omega arith) in
      ⊎_elim
      (λ e. inl (ap (λ (y : ℕ). Ok (Some y)) (j ∙ sym e ∙ sym i)))
      (λ e. inr (record {
        byte = get_or p.message.bytes at 0;
        byte' = get_or m.bytes at 0;
        sends = refl;
        sends' = refl;
        replies = further at n;
        place = at;
        left_from_lem = omega arith;
        hangs = e;
        stands = i;
        stands' = j;
      }))
      (same_or_hangs p.source v n.checksum n.letter n.letter' at)

  sent_alike : (k : Modes) (at : ℕ) → valid_source (with_modes p.source k) ≡ true → valid_source (with_modes (lettered b p.source) k) ≡ true →
      (BothToN f p.message m → (at < p.message.len) × (p.message.len ≤ message_length)) → AlikeSlots (sent_with k p at) (sent_with k (other p b m) at)
  sent_alike k at r t h = record {
    port = record {
      letter = b;
      source = refl;
      valid = t ∙ sym r;
      message = ⊎_elim (λ e. inl (ap (sent_further at) e)) (λ n. inr (further at n)) a;
      last = refl;
      waiting = refl;
    };
    sent = ⊎_elim (λ e. inl (ap (λ (z : Message). Ok (Some (get_or z.bytes at 0))) e)) (λ n. in_reply k at (h n).0 (h n).1 n) a;
  }

  pub send_alike : (at : ℕ) → (BothToN f p.message m → (at < p.message.len) × (p.message.len ≤ message_length)) → AlikeSlots (send_from p at) (send_from (other p b m) at)
  send_alike at h =
      let e = eqb (at + 1) p.message.len in
      let k = moved_modes e p.source.modes in
      let q = other p b m in
      let i : send_from q at ≡ sent_with k q at = sends_with q at ∙ ap (λ (n : ℕ). sent_with (moved_modes (eqb (at + 1) n) p.source.modes) q at) (as_long_lem f p.message m a).0 in
      subst (λ (x : Slotted). AlikeSlots x (send_from q at)) (sym (sends_with p at))
      (subst (λ (y : Slotted). AlikeSlots (sent_with k p at) y) (sym i) (sent_alike k at (moved_valid e p.source v) (moved_valid e (lettered b p.source) w) h))

-- ---- a message starts: the same, or the reply to N

module _ (s : Source) (b : ℕ) (v : valid_source s ≡ true) (w : valid_source (lettered b s) ≡ true) (k : Last) (x : std.Option Line) where
  abbrev starting : List ℕ → Port
  starting xs = record { source = s; message = unsent xs; last = k; waiting = x }

  begins_alike : (xs ys : List ℕ) → (unsent ys ≡ unsent xs) ⊎ BothToN s.settings.fixed (unsent xs) (unsent ys) → 0 < length xs → length xs ≤ message_length →
      AlikeSlots (begins s xs k x) (begins (lettered b s) ys k x)
  unfolding begun_with
  begins_alike xs ys a h g = send_alike (starting xs) b (unsent ys) v w a 0 (λ n. (h, g))

-- ---- the rules

-- what a slot of the other port comes to
module _ (p : Port) (b : ℕ) (m : Message) (v : valid_source p.source ≡ true) (w : valid_source (lettered b p.source) ≡ true)
    (a : (m ≡ p.message) ⊎ BothToN p.source.settings.fixed p.message m) where
  abbrev q : Port
  q = other p b m

  here : AlikePort p q
  here = record { letter = b; source = refl; valid = w ∙ sym v; message = a; last = refl; waiting = refl }

  record_alike : AlikeSlots (begins_record p) (begins_record q)
  unfolding begins_record
  record_alike =
      let s = p.source in
      subst (λ (xs : List ℕ). AlikeSlots (begins_record p) (begins (lettered b s) xs last.Record p.waiting)) (sym (unread.letter_unsent b s))
      (begins_alike s b v w last.Record p.waiting (record_message s) (record_message s) (inl refl) (record_some s) (omega (arith, record_at_most s v)))

  rest_alike : AlikeSlots (rest_of p) (rest_of q)
  unfolding rest_of
  rest_alike = cond_alike AlikeSlots (continuous p.source) (continuous p.source) refl (λ y. record_alike) (λ n. record { port = here; sent = inl refl })

-- a turn of the letter leaves all of the fixed data but the letter
turned_fixed : (t : Option Turn) (s : Settings) (c : ℕ) → fixed_with c (turned_by t s).fixed ≡ fixed_with c s.fixed
turned_fixed none s c = refl
turned_fixed (some t) s c = refl

acted_fixed : (s : Source) (l : Line) (c : ℕ) → fixed_with c (does s l).source.settings.fixed ≡ fixed_with c s.settings.fixed
acted_fixed s l c = ap (λ (x : Settings). fixed_with c x.fixed) (settings_after s l) ∙ turned_fixed (turns_in s.modes.state l) s.settings c

begins_where_some : (p : Port) (s : Source) (xs : List ℕ) (k : Last) → 0 < length xs → answers p s xs k ≡ begins s xs k None
unfolding answers
begins_where_some p s [] k h = absurd (omega arith)
begins_where_some p s (x ∷ xs) k h = refl

module _ (p : Port) (b : ℕ) (m : Message) (v : valid_source p.source ≡ true) (w : valid_source (lettered b p.source) ≡ true)
    (a : (m ≡ p.message) ⊎ BothToN p.source.settings.fixed p.message m) where
  -- a command acted on leaves s here, and s with letter c there
  module _ (s : Source) (c : ℕ) (r : valid_source s ≡ true) (t : valid_source (lettered c s) ≡ true)
      (e : (x : ℕ) → fixed_with x s.settings.fixed ≡ fixed_with x p.source.settings.fixed) (k : Last) where
    answers_same : (xs : List ℕ) → length xs ≤ message_length → AlikeSlots (answers p s xs k) (answers (other p b m) (lettered c s) xs k)
    unfolding answers
    answers_same [] h = rest_alike (freed p s) c m r t (of_letter p.source.settings.fixed s.settings.fixed p.message m e a)
    answers_same (x ∷ xs) h = begins_alike s c r t k None (x ∷ xs) (x ∷ xs) (inl refl) (omega arith) h

    answers_n : (checksum : Bool) (i j : ℕ) → length (reply_to_n checksum (fixed_with i s.settings.fixed)) ≤ message_length →
        AlikeSlots (answers p s (reply_to_n checksum (fixed_with i s.settings.fixed)) k)
        (answers (other p b m) (lettered c s) (reply_to_n checksum (fixed_with j s.settings.fixed)) k)
    answers_n checksum i j h =
        let xs = reply_to_n checksum (fixed_with i s.settings.fixed) in
        let ys = reply_to_n checksum (fixed_with j s.settings.fixed) in
        let y = reply_as_long checksum s.settings.fixed i j in
        let z = framed_some checksum (fixed_form.print (fixed_with i s.settings.fixed)) in
        subst (λ (x : Slotted). AlikeSlots x (answers (other p b m) (lettered c s) ys k)) (sym (begins_where_some p s xs k z))
        (subst (λ (x : Slotted). AlikeSlots (begins s xs k None) x) (sym (begins_where_some (other p b m) (lettered c s) ys k (omega arith)))
        (begins_alike s c r t k None xs ys (inr (record { checksum = checksum; letter = i; letter' = j; at = 0; is = refl; is' = refl })) z h))

  act_alike : (l : Line) → AlikeSlots (act_of p l) (act_of (other p b m) l)
  unfolding act_of
  act_alike l =
      let s = p.source in
      let x = does s l in
      let y = does (lettered b s) l in
      let c = letter_by (turns_in s.modes.state l) b in
      let k = reply_last (counts s l) in
      let q = other p b m in
      let d : y.source ≡ lettered c x.source = does_lettered b s l in
      let r = does_valid s l v in
      let t = subst (λ (z : Source). valid_source z ≡ true) d (does_valid (lettered b s) l w) in
      let n = reply_at_most s l v in
      let alike : (xs ys : List ℕ) → x.reply ≡ xs → y.reply ≡ ys → AlikeSlots (answers p x.source xs k) (answers q (lettered c x.source) ys k) →
      AlikeSlots (answers p x.source x.reply k) (answers q y.source y.reply (reply_last (counts (lettered b s) l))) =
      (λ xs ys f g i.
      subst (λ (z : Bool). AlikeSlots (answers p x.source x.reply k) (answers q y.source y.reply (reply_last z))) (sym (unread.counts_alone (lettered b s) s l refl))
      (subst (λ (z : Source). AlikeSlots (answers p x.source x.reply k) (answers q z y.reply k)) (sym d)
      (subst (λ (z : List ℕ). AlikeSlots (answers p x.source z k) (answers q (lettered c x.source) y.reply k)) (sym f)
      (subst (λ (z : List ℕ). AlikeSlots (answers p x.source xs k) (answers q (lettered c x.source) z k)) (sym g) i)))) in
      ⊎_elim
      (λ e.
      let o = s.modes.checksum in
      let f : x.reply ≡ reply_to_n o (fixed_with s.settings.fixed.lens.letter x.source.settings.fixed) =
      says_fixed s l e ∙ ap (reply_to_n o) (sym (acted_fixed s l s.settings.fixed.lens.letter)) in
      let g : y.reply ≡ reply_to_n o (fixed_with b x.source.settings.fixed) = says_fixed (lettered b s) l e ∙ ap (reply_to_n o) (sym (acted_fixed s l b)) in
      alike _ _ f g (answers_n x.source c r t (acted_fixed s l) k o _ _ (subst (λ (z : List ℕ). length z ≤ message_length) f (omega arith))))
      (λ e. alike _ _ refl (unread.letter_unsaid b s l e) (answers_same x.source c r t (acted_fixed s l) k x.reply (omega arith)))
      (n_or_not (command_of l))

  later_alike : (x : std.Option Line) → AlikeSlots (act_or_rest p x) (act_or_rest (other p b m) x)
  later_alike (Some l) = act_alike l
  later_alike None = rest_alike p b m v w a

  choose_alike : AlikeSlots (choose_of p) (choose_of (other p b m))
  unfolding choose_of
  choose_alike =
      let o = continuous p.source && is_reply p.last in
      cond_alike AlikeSlots o o refl (λ y. record_alike p b m v w a) (λ n. later_alike p.waiting)

-- ---- a slot

pub valid_alike : (p : Port) (b : ℕ) (m : Message) → valid_source (lettered b p.source) ≡ valid_source p.source →
    (m ≡ p.message) ⊎ BothToN p.source.settings.fixed p.message m → valid_port (other p b m) ≡ valid_port p
unfolding valid_port valid_message
valid_alike p b m e a =
    let n = as_long_lem _ p.message m a in
    λ i. e i && ((leb (n.0 i) message_length && leb (n.1 i) (n.0 i)) && valid_waiting p.waiting)

pub as_other : (p q : Port) (d : AlikePort p q) → other p d.letter q.message ≡ q
as_other p q d = λ i. record { source = sym d.source i; message = q.message; last = sym d.last i; waiting = sym d.waiting i }

other_slot_alike : (p : Port) (b : ℕ) (m : Message) → valid_source (lettered b p.source) ≡ valid_source p.source →
    (m ≡ p.message) ⊎ BothToN p.source.settings.fixed p.message m → AlikeSlots (slot_of p) (slot_of (other p b m))
unfolding slot_of valid_port valid_message
other_slot_alike p b m e a =
    let n = as_long_lem _ p.message m a in
    cond_alike AlikeSlots (valid_port p) (valid_port (other p b m)) (valid_alike p b m e a)
    (λ y.
    let x = valid_message p.message in
    let l = valid_waiting p.waiting in
    let v = and_left (valid_source p.source) (x && l) y in
    let k = and_left x l (and_right (valid_source p.source) (x && l) y) in
    let g = leb-true p.message.len message_length (and_left (leb p.message.len message_length) (leb p.message.at p.message.len) k) in
    cond_alike AlikeSlots (ltb p.message.at p.message.len) (ltb m.at m.len) (λ i. ltb (n.1 i) (n.0 i))
    (λ h. subst (λ (at : ℕ). AlikeSlots (send_from p p.message.at) (send_from (other p b m) at)) (sym n.1)
    (send_alike p b m v (e ∙ v) a p.message.at (λ z. (ltb-true _ _ h, g))))
    (λ h. choose_alike p b m v (e ∙ v) a))
    (λ y. record { port = record { letter = b; source = refl; valid = e; message = a; last = refl; waiting = refl }; sent = inl refl })

pub slot_alike : {p q : Port} → AlikePort p q → AlikeSlots (slot_of p) (slot_of q)
slot_alike {p} {q} d =
    subst (λ (x : Port). AlikeSlots (slot_of p) (slot_of x)) (as_other p q d)
    (other_slot_alike p d.letter q.message (ap valid_source (sym d.source) ∙ d.valid) d.message)
