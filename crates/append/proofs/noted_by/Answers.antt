-- `append::noted_by` meets its contract: each arm has its law. Assumes nothing.
use Prim.Native.Nat.{◌-◌, ◌≤◌}
use mathlib.Core.Path.{◌≡◌, sym, ap, ◌∙◌}
use native.Mathlib.Omega.{arith}
use Rattle.std.proofs.lemmas.Grind.{common_steps}
use lib.ListN.{length, get_or}
use Rattle.laws.proofs.ListLaws.{last_part}
use Rattle.append.specs.Append.{set_by}
use Rattle.append.proofs.Laws.{by_short, by_other, by_set, by_more, by_two}
use Rattle.append.proofs.noted_by.Goals as goal
use Rattle.append.proofs.noted_by.Goals.{then-s-lt3+in-79+in-68-1, else-s-lt3+in-79+in-68-1}

pub returns-in-79-2 : goal.returns-in-79-2
returns-in-79-2 c = c.after_o.ensures ∙ sym (by_two _ _ (omega arith) (omega arith) (λ e. omega arith))

pub returns-in-79 : goal.returns-in-79
returns-in-79 c =
    let a = c.args in
    let s = a.s.now in
    let h : (2 ≤ length s) × (get_or s 0 0 ≡ 79) × (get_or s 1 0 ≡ 68) =
    elim c.in-79-1.branch [
      | then-s-lt3+in-79+in-68-1 w ↦ (grind (arith, common_steps), grind (arith, common_steps), grind (arith, common_steps))
      | else-s-lt3+in-79+in-68-1 w ↦ (grind (arith, common_steps), grind (arith, common_steps), grind (arith, common_steps))
    ] in
    c.set_by.ensures ∙ ap (set_by a.note) (last_part 2 (length s - 2) s (omega (arith, h.0))) ∙ sym (by_set a.note s h.0 h.1 h.2)

pub returns-in_default : goal.returns-in_default
returns-in_default c = sym (by_short _ _ (omega arith))

pub returns-in_default-2 : goal.returns-in_default-2
returns-in_default-2 c = sym (by_other _ _ (λ e. omega arith))

pub returns-in_default-3 : goal.returns-in_default-3
returns-in_default-3 c = sym (by_more _ _ (λ e. omega arith) (λ e. omega arith))

pub returns-in_default-4 : goal.returns-in_default-4
returns-in_default-4 c = sym (by_other _ _ (λ e. omega arith))
