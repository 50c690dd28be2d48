-- A slot of a valid port leaves a valid port and is no refusal, rule by rule. Assumes nothing.
use Prim.Native.Nat.{ℕ, ◌+◌, ◌≤◌, ◌<◌}
use mathlib.Core.Bool.{Bool, true, false, ◌&&◌}
use mathlib.Core.List.{List, [], ◌∷◌}
use mathlib.Core.Path.{◌≡◌, refl, sym, subst}
use native.Mathlib.Omega.{arith}
use borrow.Author.Tests.{le-leb, leb-true, ltb-true}
use lib.Dec.{leb, ltb}
use lib.ListN.{length}
use Rattle.std.specs.Prelude.{Option, None, Some, Err}
use Rattle.laws.proofs.Tests.{and_left, and_right, and_both, cond_yes, by, never}
use Rattle.refusal.specs.declared.Refusal.{Refusal}
use Rattle.line.specs.declared.Line.{Line}
use Rattle.state.specs.declared.Last.{Last}
use Rattle.state.specs.declared.Message.{Message}
use Rattle.state.specs.declared.Source.{Source}
use Rattle.state.specs.State.{message_length, unsent, valid_message, valid_source}
use Rattle.rules.specs.Does.{does, continuous, record_message}
use Rattle.rules.specs.Lens.{longest_message}
use Rattle.rules.proofs.Kept.{does_valid, reply_at_most, ended_valid}
use Rattle.rules.proofs.Lengths.{record_at_most, record_some}
use Rattle.port.specs.declared.Port.{Port}
use Rattle.port.specs.declared.Slotted.{Slotted}
use Rattle.port.specs.Port.{valid_waiting, valid_port, moved_if, send_from, begun_with, begins_record, rest_of, freed, answers, is_reply, act_of, act_or_rest, choose_of, slot_of}

-- ---- the parts of a valid port

pub source_valid : (p : Port) → valid_port p ≡ true → valid_source p.source ≡ true
unfolding valid_port
source_valid p v = and_left (valid_source p.source) (valid_message p.message && valid_waiting p.waiting) v

pub message_valid : (p : Port) → valid_port p ≡ true → valid_message p.message ≡ true
unfolding valid_port
message_valid p v = and_left (valid_message p.message) (valid_waiting p.waiting) (and_right (valid_source p.source) (valid_message p.message && valid_waiting p.waiting) v)

pub waiting_valid : (p : Port) → valid_port p ≡ true → valid_waiting p.waiting ≡ true
unfolding valid_port
waiting_valid p v = and_right (valid_message p.message) (valid_waiting p.waiting) (and_right (valid_source p.source) (valid_message p.message && valid_waiting p.waiting) v)

pub message_low : (m : Message) → valid_message m ≡ true → m.len ≤ message_length
unfolding valid_message
message_low m v = leb-true _ _ (and_left (leb m.len message_length) (leb m.at m.len) v)

pub made_valid : (p : Port) → valid_source p.source ≡ true → valid_message p.message ≡ true → valid_waiting p.waiting ≡ true → valid_port p ≡ true
unfolding valid_port
made_valid p s m l = and_both s (and_both m l)

-- ---- what a slot leaves

pub record Fine (x : Slotted) : Type 0 where
  pub valid : valid_port x.port ≡ true
  pub answers : (r : Refusal) → x.sent ≡ Err r → ⊥

moved_valid : (b : Bool) (s : Source) → valid_source s ≡ true → valid_source (moved_if b s) ≡ true
unfolding moved_if
moved_valid true s v = ended_valid s v
moved_valid false s v = v

send_fine : (p : Port) (at : ℕ) → valid_source p.source ≡ true → p.message.len ≤ message_length → at < p.message.len → valid_waiting p.waiting ≡ true → Fine (send_from p at)
unfolding send_from valid_port valid_message
send_fine p at v low more l = record {
  valid = and_both (moved_valid _ p.source v) (and_both (and_both (le-leb p.message.len message_length low) (le-leb (at + 1) p.message.len (omega arith))) l);
  answers = λ r e. never (cc);
}

begins_fine : (s : Source) (xs : List ℕ) (k : Last) (w : Option Line) → valid_source s ≡ true → 0 < length xs → length xs ≤ longest_message → valid_waiting w ≡ true → Fine (begun_with s (unsent xs) k w)
unfolding begun_with
begins_fine s xs k w v some low l = send_fine (record { source = s; message = unsent xs; last = k; waiting = w }) 0 v (omega arith) some l

record_fine : (p : Port) → valid_port p ≡ true → Fine (begins_record p)
unfolding begins_record
record_fine p v =
    let s = source_valid p v in
    begins_fine p.source (record_message p.source) _ p.waiting s (record_some p.source) (record_at_most p.source s) (waiting_valid p v)

rest_fine : (p : Port) → valid_port p ≡ true → Fine (rest_of p)
unfolding rest_of
rest_fine p v =
    by Fine (continuous p.source) _ _ (λ y. record_fine p v) (λ n. record { valid = v; answers = λ r e. never (cc) })

answers_fine : (p : Port) (s : Source) (xs : List ℕ) (k : Last) → valid_port p ≡ true → valid_source s ≡ true → length xs ≤ longest_message → Fine (answers p s xs k)
unfolding answers
answers_fine p s [] k v vs low = rest_fine (freed p s) (made_valid (freed p s) vs (message_valid p v) refl)
answers_fine p s (b ∷ bs) k v vs low = begins_fine s (b ∷ bs) k _ vs (omega arith) low refl

act_fine : (p : Port) (l : Line) → valid_port p ≡ true → Fine (act_of p l)
unfolding act_of
act_fine p l v =
    let s = source_valid p v in
    answers_fine p (does p.source l).source (does p.source l).reply _ v (does_valid p.source l s) (reply_at_most p.source l s)

later_fine : (p : Port) (w : Option Line) → valid_port p ≡ true → Fine (act_or_rest p w)
later_fine p (Some l) v = act_fine p l v
later_fine p None v = rest_fine p v

choose_fine : (p : Port) → valid_port p ≡ true → Fine (choose_of p)
unfolding choose_of
choose_fine p v =
    by Fine (continuous p.source && is_reply p.last) _ _
    (λ y. record_fine p v)
    (λ n. later_fine p p.waiting v)

pub slot_fine : (p : Port) → valid_port p ≡ true → Fine (slot_of p)
unfolding slot_of
slot_fine p v =
    subst Fine (sym (cond_yes _ _ v))
    (by Fine (ltb p.message.at p.message.len) _ _
    (λ y. send_fine p p.message.at (source_valid p v) (message_low p.message (message_valid p v)) (ltb-true _ _ y) (waiting_valid p v))
    (λ n. choose_fine p v))
