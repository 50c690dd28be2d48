-- Each entry's contract is the equation that its call is made of; a fill's bytes are those that its run of slots wrote. Assumes nothing.
use Prim.Native.Nat.{ℕ}
use mathlib.Core.Bool.{true}
use mathlib.Core.List.{List}
use mathlib.Core.Path.{◌≡◌, refl, ap, ◌∙◌}
use lib.ListN.{length, take}
use Rattle.laws.proofs.OverLaws.{take_over}
use Rattle.laws.proofs.Tests.{cond_yes}
use Rattle.port.specs.declared.Handed.{Handed}
use Rattle.port.specs.declared.Port.{Port}
use Rattle.port.specs.declared.Received.{Received}
use Rattle.port.specs.declared.Slotted.{Slotted}
use Rattle.port.specs.declared.Started.{Started}
use Rattle.port.specs.Port.{valid_port}
use Rattle.fill.specs.declared.Filled.{Filled}
use Rattle.fill.specs.Clauses.{Fill}
use Rattle.fill.specs.Fill.{run_of, fill_of, fill_leaves}
use Rattle.fill.proofs.Promises.{run_most}
use Rattle.walk.specs.View.{bytes_of}
use Rattle.walk.specs.Entries.{held_with, Entries}
use Rattle.walk.proofs.Calls.{reached}

-- the bytes that a fill of a valid port leaves at the start of the buffer
filled : (p : Port) (out : List ℕ) (r : Filled) (left : List ℕ) → valid_port p ≡ true → Fill p out r left → take r.count left ≡ (run_of (length out) p).bytes
unfolding fill_of fill_leaves
filled p out r left v f =
    let xs = (run_of (length out) p).bytes in
    let count : r.count ≡ length xs = ap (λ (x : Filled). x.count) (f.answers ∙ cond_yes _ _ v) in
    let most = run_most p (length out) in
    ap (λ (n : ℕ). take n left) count
    ∙ ap (take (length xs)) (f.leaves ∙ cond_yes _ _ v)
    ∙ take_over out xs (length xs) refl most

pub entries : Entries
entries = record {
  start = λ old l s m r e. ap (λ (x : Started). held_with x.port x.line) e;
  receive = λ h b r e. ap (λ (x : Received). held_with x.port x.line) e;
  slot = λ h r e. (ap (λ (x : Slotted). held_with x.port h.line) e, ap (λ (x : Slotted). bytes_of x.sent) e);
  measure = λ h m r e. ap (λ (x : Handed). held_with x.port h.line) e;
  fill = λ h out r left s f. (ap (λ (x : Filled). held_with x.port h.line) f.answers, filled h.port out r left (reached s).sound.valid f);
}
