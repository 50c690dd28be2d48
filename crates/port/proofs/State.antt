-- A valid port is one of ours, part by part, and the rate moves with a message's last byte and not before. Assumes nothing.
use Prim.Native.Nat.{ℕ, ◌+◌, ◌≤◌, ◌<◌}
use mathlib.Core.Bool.{true}
use mathlib.Core.Logic.{◌⊎◌, inl, inr, ⊎_elim}
use mathlib.Core.Path.{◌≡◌, refl, ap, subst, ◌∙◌}
use native.Mathlib.Omega.{arith}
use borrow.Author.Tests.{le-leb, leb-true, lt-ltb, eq-eqb, ne_eqb}
use lib.Dec.{leb}
use Rattle.std.specs.Prelude.{Option, None, Some}
use Rattle.laws.proofs.Tests.{and_right, and_both, cond_yes, cond_no}
use Rattle.line.specs.Line.{line_length}
use Rattle.line.specs.declared.Line.{Line}
use Rattle.units.specs.Units.{is_unit}
use Rattle.units.proofs.Nearest.{either}
use Rattle.state.specs.declared.Source.{Source}
use Rattle.state.specs.State.{message_length, valid_message}
use Rattle.rules.proofs.Valid.{valid_told, valid_made}
use Rattle.port.specs.declared.Port.{Port}
use Rattle.port.specs.declared.Slotted.{Slotted}
use Rattle.port.specs.Port.{valid_waiting, valid_port, moved_if, send_from, slot_of}
use Rattle.port.specs.Promises.{Ours, SixteenWhen, RateWhen}
use Rattle.port.proofs.Valid.{source_valid, message_valid, message_low, waiting_valid, made_valid}

told_ours : (p : Port) → valid_port p ≡ true → Ours p
unfolding valid_message
told_ours p v =
    let q = valid_told p.source (source_valid p v) in
    record {
      settings = q.settings;
      measurement = q.measurement;
      film = leb-true _ 31 q.film;
      unit = either (λ (u : ℕ). (u ≡ 73) ⊎ (u ≡ 77)) (inl refl) (inr refl) _ q.unit;
      rate = leb-true _ 7 q.rate;
      next_rate_lem = leb-true _ 7 q.next_rate_lem;
      message = message_low p.message (message_valid p v);
      sent = leb-true _ _ (and_right (leb p.message.len message_length) _ (message_valid p v));
      waiting = λ l e. leb-true _ line_length (subst (λ (w : Option Line). valid_waiting w ≡ true) e (waiting_valid p v));
    }

made_waiting : (w : Option Line) → ((l : Line) → w ≡ Some l → l.len ≤ line_length) → valid_waiting w ≡ true
made_waiting (Some l) h = le-leb _ line_length (h l refl)
made_waiting None h = refl

made_ours : (p : Port) → Ours p → valid_port p ≡ true
unfolding valid_message
made_ours p o =
    made_valid p
    (valid_made p.source
    (record {
      settings = o.settings;
      measurement = o.measurement;
      film = le-leb _ 31 o.film;
      unit = ⊎_elim (λ e. ap is_unit e) (λ e. ap is_unit e) o.unit;
      rate = le-leb _ 7 o.rate;
      next_rate_lem = le-leb _ 7 o.next_rate_lem;
    }))
    (and_both (le-leb _ message_length o.message) (le-leb _ _ o.sent))
    (made_waiting p.waiting o.waiting)

pub sixteen_when : SixteenWhen
sixteen_when p = (told_ours p, made_ours p)

-- a slot of a message under way
pub under_way_lem : (p : Port) → valid_port p ≡ true → p.message.at < p.message.len → slot_of p ≡ send_from p p.message.at
unfolding slot_of
under_way_lem p v h = cond_yes _ _ v ∙ cond_yes _ _ (lt-ltb _ _ h)

pub rate_when : RateWhen
unfolding send_from moved_if
rate_when = record {
  last_byte = λ p v e.
      ap (λ (x : Slotted). x.port.source.modes.rate) (under_way_lem p v (omega arith))
      ∙ ap (λ (s : Source). s.modes.rate) (cond_yes _ _ (eq-eqb (p.message.at + 1) p.message.len e));
  before = λ p v h.
      ap (λ (x : Slotted). x.port.source) (under_way_lem p v (omega arith))
      ∙ cond_no _ _ (ne_eqb (p.message.at + 1) p.message.len (omega arith));
}
