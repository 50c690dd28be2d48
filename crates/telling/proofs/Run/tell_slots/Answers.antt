-- `telling::Run::tell_slots` meets its contract: the text is three bytes a slot. Assumes nothing.
use Prim.Native.Nat.{ℕ, ◌+◌, ◌*◌}
use mathlib.Core.Logic.{⊎_elim}
use mathlib.Core.Path.{refl, sym, ap, ap₂, ◌∙◌}
use native.Mathlib.Omega.{arith}
use Rattle.std.specs.Prelude.{Ok}
use Rattle.laws.specs.Over.{over}
use Rattle.port.specs.declared.Port.{Port}
use Rattle.capture.specs.declared.Event.TheVariants as event
use Rattle.printed.specs.Printed.{slots_text, after_slots}
use Rattle.telling.specs.Telling.{tells}
use Rattle.printed.proofs.Laws.{length_slots, prints_short, prints_whole}
use Rattle.telling.proofs.Laws.{told_by_lem, slots_fit}
use Rattle.telling.proofs.Run.tell_slots.Goals as goal

pub returns-then-out-need : goal.returns-then-out-need
unfolding tells
returns-then-out-need c =
    let a = c.args in
    let k = c.slots_left-count.ensures in
    told_by_lem (tells a.self (event.Slots a.n)) a.self a.out.now
    (prints_short _ a.out.now (length_slots _ _ ∙ ap (λ (j : ℕ). 3 * j) (sym k)) c.if-out-need.true) refl

pub overflow_add-run : goal.overflow_add-run
overflow_add-run c =
    let a = c.args in
    let k = c.slots_left-count.ensures in
    ⊎_elim (λ z. record { fits = omega arith }) (λ z. record { fits = omega arith }) (slots_fit a.self a.n)

pub returns : goal.returns
unfolding tells
returns c =
    let a = c.args in
    let k = c.slots_left-count.ensures in
    let u = c.put_slots.ensures in
    told_by_lem (tells a.self (event.Slots a.n)) a.self a.out.now
    (prints_whole _ a.out.now (length_slots _ _ ∙ ap (λ (j : ℕ). 3 * j) (sym k)) c.if-out-need.false
    (u.text ∙ ap (λ (j : ℕ). over a.out.now 0 (slots_text j a.self.port)) k))
    (ap₂ (λ (q : Port) (j : ℕ). record { wrote = Ok (3 * c.slots_left-count.result); run = record { port = q; line = a.self.line; slots = a.self.slots + j; stopped = a.self.stopped } }) (u.port ∙ ap (λ (j : ℕ). after_slots j a.self.port) k) k)
