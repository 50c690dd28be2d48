-- A record that starts is the record of the source that the slot leaves, byte for byte, and is then what was sent last. Assumes nothing.
use Prim.Native.Nat.{ℕ}
use mathlib.Core.Bool.{Bool, true, false}
use mathlib.Core.List.{List, [], ◌∷◌}
use mathlib.Core.Option.{Option, none, some}
use mathlib.Core.Path.{◌≡◌, refl, sym, ap, subst, ◌∙◌}
use Rattle.std.specs.Prelude.{Ok, Some}
use Rattle.laws.proofs.Tests.{by, never}
use Rattle.machine.specs.Machine.{Kind, a_record, last, sent_in, begins, Choice, choice, State, port, underway, reply_kind, owed, rule3, answer, rule2, rules, sent_one, begin, on_slot, slot, modes, next, shows}
use Rattle.line.specs.declared.Line.{Line}
use Rattle.state.specs.declared.Last.{Last}
use Rattle.state.specs.declared.Last.TheVariants as last
use Rattle.state.specs.declared.Sending.{Sending}
use Rattle.state.specs.declared.Sending.TheVariants as sending
use Rattle.state.specs.declared.Source.{Source}
use Rattle.rules.specs.Does.{with_modes, rate_moved, record_is, does, counts, record_message, continuous}
use Rattle.rules.specs.Lens.{lens}
use Rattle.port.specs.declared.Port.{Port}
use Rattle.port.specs.Port.{slot_of}
use Rattle.port.proofs.Valid.{message_valid}
use Rattle.walk.specs.View.{kind_of, left_of, view}
use Rattle.walk.specs.Calls.{Held, view_of, FromStart}
use Rattle.walk.proofs.Slot.{all_sent}
use Rattle.walk.proofs.Walk.{walks}
use Rattle.walk.proofs.Calls.{reached}
use Rattle.walk.proofs.Answers.{one_byte}
use Rattle.walk.proofs.Here.{here}

-- a message that starts is then what was sent last
begin_last : (c : Choice lens) (k : Kind) (l : Line) {a : Option Line} {k' : Kind} {b : ℕ} {bs : List ℕ} → (begin c k l).1 ≡ begins a k' b bs → last (begin c k l).0 ≡ k'
unfolding begin
begin_last (choice a m w k []) before l e = never (cc)
begin_last (choice a m w k (b ∷ bs)) before l e = cc

slot_last : (x : State lens) {a : Option Line} {k : Kind} {b : ℕ} {bs : List ℕ} → shows x slot ≡ begins a k b bs → last (next x slot) ≡ k
unfolding on_slot
slot_last (port m w (b ∷ bs) k l) e = never (cc)
slot_last (port m w [] k l) e = begin_last (rules lens m w k) k l e

-- a choice of the record's kind is the record of the modes that it leaves
abbrev IsRecord : Choice lens → Type 0
IsRecord (choice a m w k xs) = k ≡ a_record → xs ≡ record_message m

rule3_record : (a : Option Line) (s : Source) → IsRecord (rule3 lens a s)
unfolding rule3
rule3_record a s = by IsRecord (continuous s) _ _ (λ y e. refl) (λ n e. never (cc))

answer_record : (xs : List ℕ) (s : Source) (c : Line) → IsRecord (answer lens xs s c)
unfolding answer
answer_record [] s c = rule3_record (some c) (does s c).source
answer_record (b ∷ bs) s c = no_reply (counts s c)
  where
    no_reply : (t : Bool) → reply_kind t ≡ a_record → b ∷ bs ≡ record_message (does s c).source
    no_reply true e = never (cc)
    no_reply false e = never (cc)

rule2_record : (s : Source) (w : Option Line) → IsRecord (rule2 lens s w)
unfolding rule2
rule2_record s none = rule3_record none s
rule2_record s (some c) = answer_record (does s c).reply s c

rules_record : (s : Source) (w : Option Line) (k : Kind) → IsRecord (rules lens s w k)
unfolding rules
rules_record s w k = by IsRecord (owed lens s k) _ _ (λ y e. refl) (λ n. rule2_record s w)

-- no record reads the rate, which the last byte of a message moves
record_moved : (s : Source) (xs : List ℕ) → record_message (sent_one lens s xs) ≡ record_message s
unfolding record_message record_is
record_moved s [] = rw (same_record s.modes.sending)
  where
    same_record : (x : Sending) → record_is x (with_modes s (rate_moved s.modes)) ≡ record_is x s
    same_record sending.Off = refl
    same_record sending.Text = refl
    same_record sending.Packed = refl
record_moved s (b ∷ bs) = refl

-- so the byte that starts a record and what is left after it are that record
begin_record_lem : (c : Choice lens) (k : Kind) (l : Line) {a : Option Line} {b : ℕ} {bs : List ℕ} → IsRecord c → (begin c k l).1 ≡ begins a a_record b bs →
    let x = (begin c k l).0 in
    b ∷ underway x ≡ record_message (modes x)
unfolding begin
begin_record_lem (choice a m w k []) before l r e = never (cc)
begin_record_lem (choice a m w k (b ∷ bs)) before l {b = d} r e =
    let same : d ≡ b = cc in
    ap (λ (x : ℕ). x ∷ bs) same ∙ r (cc) ∙ sym (record_moved m bs)

slot_record : (x : State lens) {a : Option Line} {b : ℕ} {bs : List ℕ} → shows x slot ≡ begins a a_record b bs → b ∷ underway (next x slot) ≡ record_message (modes (next x slot))
unfolding on_slot
slot_record (port m w (b ∷ bs) k l) e = never (cc)
slot_record (port m w [] k l) e = begin_record_lem (rules lens m w k) k l (rules_record m w k) e

record_kind : (k : Last) → kind_of k ≡ a_record → k ≡ last.Record
record_kind last.Neither e = never (cc)
record_kind last.Record e = refl
record_kind last.Reply e = never (cc)

-- a slot in which the machine starts a record
pub record Begins (p : Port) (b : ℕ) : Type 0 where
  pub none_underway : p.message.at ≡ p.message.len
  pub leaves : (slot_of p).sent ≡ Ok (Some b)
  pub whole : b ∷ left_of (slot_of p).port.message ≡ record_message (slot_of p).port.source
  pub a_record : (slot_of p).port.last ≡ last.Record

pub begins_record_lem : (h : Held) → FromStart h → {a : Option Line} {b : ℕ} {bs : List ℕ} → shows (view_of h) slot ≡ begins a a_record b bs → Begins h.port b
unfolding view
begins_record_lem h f {a} {b} {bs} e =
    let r = reached f in
    let m = h.port.message in
    let u = (here r).by_rules a a_record b bs e in
    let then = walks.slot_walks h.port h.line r.sound in
    record {
      none_underway = all_sent m (message_valid h.port r.sound.valid) r.sound.long u.none_underway;
      leaves = one_byte (slot_of h.port).sent b (walks.slot_sends h.port h.line r.sound ∙ ap sent_in e);
      whole = subst (λ (x : State lens). b ∷ underway x ≡ record_message (modes x)) (sym then) (slot_record (view_of h) e);
      a_record = record_kind (slot_of h.port).port.last (ap last then ∙ slot_last (view_of h) e);
    }
