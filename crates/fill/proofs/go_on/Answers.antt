-- `fill::go_on` meets its contract: as many slots as there is message and room for send the next bytes of the message. Assumes nothing.
use Prim.Native.Nat.{ℕ, ◌+◌, ◌-◌, ◌≤◌, ◌<◌}
use mathlib.Core.Bool.{true}
use mathlib.Core.List.{[]}
use mathlib.Core.Path.{◌≡◌, sym, ap, subst, ◌∙◌}
use native.Mathlib.Omega.{arith}
use borrow.Author.Rules.{rules}
use borrow.Author.Tests.{leb-true}
use lib.Dec.{leb}
use lib.ListN.{length, take, drop}
use Rattle.laws.specs.Over.{over}
use Rattle.laws.proofs.OverLaws.{over_none}
use Rattle.laws.proofs.Tests.{and_right}
use Rattle.state.specs.State.{message_length, valid_message}
use Rattle.port.specs.declared.Port.{Port}
use Rattle.port.specs.Port.{valid_port}
use Rattle.port.proofs.Valid.{message_valid, message_low}
use Rattle.fill.specs.Fill.{Sends}
use Rattle.fill.proofs.Laws.{none_sends, goes_on}
use Rattle.fill.proofs.go_on.Goals as goal

-- the counts of a valid port's message
placed : (p : Port) → valid_port p ≡ true → (p.message.at ≤ p.message.len) × (p.message.len ≤ message_length)
unfolding valid_message
placed p v = (
  leb-true _ _ (and_right (leb p.message.len message_length) (leb p.message.at p.message.len) (message_valid p v)),
  message_low p.message (message_valid p v),
)

pub overflow_sub-port : goal.overflow_sub-port
overflow_sub-port c = (placed c.args.port c.requires.0).0

pub returns-then-count-eq0 : goal.returns-then-count-eq0
returns-then-count-eq0 c =
    let low = placed c.args.port c.requires.0 in
    record {
      sent = [];
      sends = none_sends c.args.port c.requires.0;
      fits = omega (arith, c.requires.1);
      leaves = sym (over_none c.args.out.now c.args.from c.requires.1);
      ended = λ h. omega arith;
    }

pub overflow_add-end : goal.overflow_add-end
overflow_add-end c = let low = placed c.args.port c.requires.0 in omega arith

pub slice_bounds-put_text-end : goal.slice_bounds-put_text-end
slice_bounds-put_text-end c =
    let low = placed c.args.port c.requires.0 in
    let long : length c.args.port.message.bytes ≡ message_length = search rules in
    omega arith

pub returns : goal.returns
returns c =
    let p = c.args.port in
    let at = p.message.at in
    let n = c.min-count.result in
    let low = placed p c.requires.0 in
    let long : length p.message.bytes ≡ message_length = search rules in
    let some : 0 < n = omega (arith, c.if-count-eq0.false) in
    let within : at + n ≤ p.message.len = omega arith in
    let same : at + n - at ≡ n = omega arith in
    let e = c.sent_up_to.ensures in
    record {
      sent = take n (drop at p.message.bytes);
      sends = subst (λ (t : Port). Sends p n (take n (drop at p.message.bytes)) t) (sym e) (goes_on n p some c.requires.0 long within);
      fits = omega (arith, c.requires.1);
      leaves = c.put_text.ensures ∙ ap (λ (k : ℕ). over c.args.out.now c.args.from (take k (drop at p.message.bytes))) same;
      ended = λ h.
          let whole : at + n ≡ p.message.len = omega (arith, c.requires.1) in
          ap (λ (t : Port). t.message.at) e ∙ whole ∙ sym (ap (λ (t : Port). t.message.len) e);
    }
