-- `fill::fill` meets its contract: before each turn i slots have been run, and what they sent is written. Assumes nothing.
use Prim.Native.Nat.{ℕ}
use mathlib.Core.Bool.{true}
use mathlib.Core.List.{List}
use mathlib.Core.Path.{◌≡◌, refl, sym, ◌∙◌}
use native.Mathlib.Omega.{arith}
use borrow.Author.Rules.{rules}
use lib.ListN.{length}
use Rattle.std.specs.Prelude.{None, Some, Ok}
use Rattle.laws.specs.Gives.{Gives}
use Rattle.laws.proofs.Tests.{yes, no, never}
use Rattle.port.specs.declared.Port.{Port}
use Rattle.port.specs.Port.{valid_port}
use Rattle.fill.specs.Fill.{fill_of, fill_leaves}
use Rattle.fill.proofs.Laws.{Ends, as_long_lem, less, at_head, full, before_loop, byte_stored, idle_stops}
use Rattle.fill.proofs.fill.Goals as goal

-- a run of a valid port that ended, as the contract says it
done : {l₀ : List ℕ} {p t : Port} {n : ℕ} {l : List ℕ} → valid_port p ≡ true → Ends l₀ p t n l →
    Gives (fill_of p (length l₀)) (fill_leaves p l₀) (record { verdict = Ok tt; count = n; port = t }) l
unfolding fill_of fill_leaves
done v e = record {
  answers = yes _ v (λ i. record { verdict = Ok tt; count = e.count i; port = e.port i });
  leaves = yes _ v e.bytes;
}

pub returns-then-not-is_valid : goal.returns-then-not-is_valid
unfolding fill_of fill_leaves
returns-then-not-is_valid c =
    let v = sym c.is_valid.ensures ∙ c.if-not-is_valid.true in
    record { answers = no _ v refl; leaves = no _ v refl }

pub go_on-under_way-requires : goal.go_on-under_way-requires
go_on-under_way-requires c = (sym c.is_valid.ensures ∙ c.if-not-is_valid.false, omega arith)

pub loop-i-init : goal.loop-i-init
loop-i-init c l p a = record { so_far = a; ended = (before_loop (sym c.is_valid.ensures ∙ c.if-not-is_valid.false) c.go_on-under_way.ensures).ended }

pub go_on-onward-requires : goal.go_on-onward-requires
go_on-onward-requires c =
    let h = c.loop-i.invariant _ _ (before_loop (sym c.is_valid.ensures ∙ c.if-not-is_valid.false) c.go_on-under_way.ensures).so_far in
    let sent : c.choose-slotted.result.sent ≡ Ok (Some c.in-Ok-Some.b) = search rules in
    let b = byte_stored h c.loop-i-test.true c.choose-slotted.ensures sent in
    (b.sends.valid, omega (arith, b.within, as_long_lem b))

pub overflow_add-i-in-loop-i-2 : goal.overflow_add-i-in-loop-i-2
overflow_add-i-in-loop-i-2 c =
    let h = c.loop-i.invariant _ _ (before_loop (sym c.is_valid.ensures ∙ c.if-not-is_valid.false) c.go_on-under_way.ensures).so_far in
    let sent : c.choose-slotted.result.sent ≡ Ok (Some c.in-Ok-Some.b) = search rules in
    let r = at_head (byte_stored h c.loop-i-test.true c.choose-slotted.ensures sent) c.go_on-onward.ensures in
    omega (arith, r.so_far.within, c.well_formed.1.0)

pub loop-i-smaller : goal.loop-i-smaller
loop-i-smaller c =
    let h = c.loop-i.invariant _ _ (before_loop (sym c.is_valid.ensures ∙ c.if-not-is_valid.false) c.go_on-under_way.ensures).so_far in
    let sent : c.choose-slotted.result.sent ≡ Ok (Some c.in-Ok-Some.b) = search rules in
    let r = at_head (byte_stored h c.loop-i-test.true c.choose-slotted.ensures sent) c.go_on-onward.ensures in
    less h.so_far r.so_far (omega arith)

pub loop-i-preserved : goal.loop-i-preserved
loop-i-preserved c l p a =
    let sent : c.choose-slotted.result.sent ≡ Ok (Some c.in-Ok-Some.b) = search rules in
    at_head (byte_stored (c.loop-i.invariant l p a) c.loop-i-test.true c.choose-slotted.ensures sent) c.go_on-onward.ensures

pub returns-in_default : goal.returns-in_default
returns-in_default c =
    let v = sym c.is_valid.ensures ∙ c.if-not-is_valid.false in
    let h = c.loop-i.invariant _ _ (before_loop v c.go_on-under_way.ensures).so_far in
    let sent : c.choose-slotted.result.sent ≡ Ok None = search rules in
    done v (idle_stops h c.loop-i-test.true c.choose-slotted.ensures (λ b e. never cc))

pub returns-in_default-2 : goal.returns-in_default-2
returns-in_default-2 c =
    let v = sym c.is_valid.ensures ∙ c.if-not-is_valid.false in
    let h = c.loop-i.invariant _ _ (before_loop v c.go_on-under_way.ensures).so_far in
    done v (idle_stops h c.loop-i-test.true c.choose-slotted.ensures (λ b e. never cc))

pub returns : goal.returns
returns c =
    let v = sym c.is_valid.ensures ∙ c.if-not-is_valid.false in
    done v (full (c.loop-i.invariant _ _ (before_loop v c.go_on-under_way.ensures).so_far).so_far c.loop-i-test.false)
