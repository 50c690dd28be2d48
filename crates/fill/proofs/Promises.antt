-- The promises of the driver's call, by the run of slots that it is. Assumes nothing.
use Prim.Native.Nat.{ℕ, zero, suc, ◌≤◌}
use mathlib.Core.Bool.{true, false}
use mathlib.Core.List.{List}
use mathlib.Core.Logic.{◌↔◌}
use mathlib.Core.Path.{◌≡◌, sym, ap, subst, ◌∙◌}
use native.Mathlib.Omega.{arith}
use lib.ListN.{length, drop}
use Rattle.std.specs.Prelude.{Err, None, Ok, Option, Some}
use Rattle.laws.proofs.Tests.{cond_yes, cond_no, told, never}
use Rattle.laws.proofs.OverLaws.{drop_over}
use Rattle.refusal.specs.Answer.{Answer}
use Rattle.refusal.specs.declared.Refusal.{Refusal}
use Rattle.refusal.specs.declared.Refusal.TheVariants as refusal
use Rattle.port.specs.declared.Port.{Port}
use Rattle.port.specs.Port.{valid_port, slot_of}
use Rattle.port.proofs.Valid.{slot_fine}
use Rattle.fill.specs.declared.Filled.{Filled}
use Rattle.fill.specs.Fill.{SlotRun, then_run, run_of, fill_of, fill_leaves}
use Rattle.fill.specs.Promises.{Promised}

-- a refused call is one of a port that is not valid
was_invalid : (p : Port) (n : ℕ) (r : Refusal) → (fill_of p n).verdict ≡ Err r → valid_port p ≡ false
unfolding fill_of
was_invalid p n r e =
    told (valid_port p)
    (λ v. let z : (Ok tt) ≡ Err r = sym (ap (λ (x : Filled). x.verdict) (cond_yes _ _ v)) ∙ e in never (cc))
    (λ f. f)

refused_16 : (p : Port) (n : ℕ) → valid_port p ≡ false → (fill_of p n).verdict ≡ Err refusal.State
unfolding fill_of
refused_16 p n f = ap (λ (x : Filled). x.verdict) (cond_no _ _ f)

by_case : (p : Port) (n : ℕ) (r : Refusal) → ((fill_of p n).verdict ≡ Err r) ↔ ((valid_port p ≡ false) × (r ≡ refusal.State))
by_case p n r = (
  λ e.
      let f = was_invalid p n r e in
      let z : Err r ≡ Err refusal.State = sym e ∙ refused_16 p n f in
      (f, cc),
  λ h. refused_16 p n h.0 ∙ ap Err (sym h.1),
)

refused_port : (p : Port) (n : ℕ) (r : Refusal) → (fill_of p n).verdict ≡ Err r → (fill_of p n).port ≡ p
unfolding fill_of
refused_port p n r e = ap (λ (x : Filled). x.port) (cond_no _ _ (was_invalid p n r e))

refused_bytes : (p : Port) (out : List ℕ) (r : Refusal) → (fill_of p (length out)).verdict ≡ Err r → fill_leaves p out ≡ out
unfolding fill_leaves
refused_bytes p out r e = cond_no _ _ (was_invalid p (length out) r e)

then_most : (t : Answer (Option ℕ)) (q : Port) (r : SlotRun) (n : ℕ) → length r.bytes ≤ n → length (then_run t q r).bytes ≤ suc n
then_most (Ok (Some b)) q r n h = omega arith
then_most (Ok None) q r n h = omega arith
then_most (Err x) q r n h = omega arith

pub run_most : (p : Port) (n : ℕ) → length (run_of n p).bytes ≤ n
unfolding run_of
run_most p zero = omega arith
run_most p (suc n) = then_most (slot_of p).sent (slot_of p).port (run_of n (slot_of p).port) n (run_most (slot_of p).port n)

at_most : (p : Port) (n : ℕ) → (fill_of p n).count ≤ n
unfolding fill_of
at_most p n =
    told (valid_port p)
    (λ v. subst (λ (x : Filled). x.count ≤ n) (sym (cond_yes _ _ v)) (run_most p n))
    (λ f. subst (λ (x : Filled). x.count ≤ n) (sym (cond_no _ _ f)) (omega arith))

past_stays : (p : Port) (out : List ℕ) → drop (fill_of p (length out)).count (fill_leaves p out) ≡ drop (fill_of p (length out)).count out
unfolding fill_of fill_leaves
past_stays p out =
    let h = run_most p (length out) in
    told (valid_port p) (λ v. rw v (drop_over out (run_of (length out) p).bytes 0 (length (run_of (length out) p).bytes) (omega arith) (omega arith))) (λ f. rw f)

then_valid : (t : Answer (Option ℕ)) (q : Port) (r : SlotRun) → valid_port q ≡ true → valid_port r.port ≡ true → valid_port (then_run t q r).port ≡ true
then_valid (Ok (Some b)) q r h k = k
then_valid (Ok None) q r h k = h
then_valid (Err x) q r h k = h

run_valid : (n : ℕ) (p : Port) → valid_port p ≡ true → valid_port (run_of n p).port ≡ true
unfolding run_of
run_valid zero p v = v
run_valid (suc n) p v =
    let w = (slot_fine p v).valid in
    then_valid (slot_of p).sent (slot_of p).port (run_of n (slot_of p).port) w (run_valid n (slot_of p).port w)

kept_valid : (p : Port) (n : ℕ) → valid_port p ≡ true → valid_port (fill_of p n).port ≡ true
unfolding fill_of
kept_valid p n v = subst (λ (x : Filled). valid_port x.port ≡ true) (sym (cond_yes _ _ v)) (run_valid n p v)

empty : (p : Port) → (fill_of p 0).port ≡ p
unfolding fill_of run_of
empty p = told (valid_port p) (λ v. ap (λ (x : Filled). x.port) (cond_yes _ _ v)) (λ n. ap (λ (x : Filled). x.port) (cond_no _ _ n))

none : (p : Port) → (fill_of p 0).count ≡ 0
unfolding fill_of run_of
none p = told (valid_port p) (λ v. ap (λ (x : Filled). x.count) (cond_yes _ _ v)) (λ n. ap (λ (x : Filled). x.count) (cond_no _ _ n))

pub promised : Promised
promised = record { by_case = by_case; refused_port = refused_port; refused_bytes = refused_bytes; at_most = at_most; past_stays = past_stays; empty = empty; none = none; kept_valid = kept_valid }
