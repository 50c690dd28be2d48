-- What is handed back of an event, and a run of ours, as laws over plain values. Assumes nothing.
use Prim.Native.Nat.{ℕ, ◌+◌, ◌-◌, ◌≤◌, ◌<◌}
use mathlib.Core.List.{List, []}
use mathlib.Core.Bool.{true, false, ◌&&◌}
use mathlib.Core.Logic.{◌⊎◌, inl, inr}
use mathlib.Core.Path.{◌≡◌, refl, sym, ap, subst, ◌∙◌}
use native.Mathlib.Omega.{arith}
use borrow.Author.Tests.{le-leb, leb-true, leb-false, ltb-true}
use lib.Dec.{leb, ltb}
use Rattle.std.specs.Prelude.{Err, Ok}
use Rattle.laws.specs.Gives.{Gives}
use Rattle.laws.specs.Over.{over}
use Rattle.laws.proofs.Tests.{yes, no, told, by, cond_yes, cond_no, and_left, and_right, and_both}
use Rattle.refusal.specs.Answer.{Answer}
use Rattle.refusal.specs.declared.Refusal.TheVariants.{State}
use Rattle.line.specs.Line.{valid_line}
use Rattle.port.specs.Port.{valid_port}
use Rattle.capture.specs.declared.Event.{Event}
use Rattle.printed.specs.Printed.{Prints}
use Rattle.printed.proofs.Laws.{prints_none}
use Rattle.telling.specs.Telling.{last_slot, valid_run, is_over, slots_left, Telling, tells, tell_of, handed, told_in, Tells, told_of, told_leaves}
use Rattle.telling.specs.declared.Run.{Run}
use Rattle.telling.specs.declared.Told.{Told}

-- ---- an event

-- what was printed decides which run is handed back
pub told_by_lem : (t : Telling) (old : Run) (out : List ℕ) {after : List ℕ} {w : Answer ℕ} {r : Told} → Prints t.text out w after → r ≡ handed w t.run old →
    Tells t old out r after
told_by_lem t old out p e = record { answers = e ∙ ap (λ (x : Answer ℕ). handed x t.run old) p.answers; leaves = p.leaves }

-- of a run that is none, and of one that is over
module _ (r : Run) (e : Event) (out : List ℕ) where
  pub tell_16 : valid_run r ≡ false → Gives (told_of r e out) (told_leaves r e out) (record { wrote = Err State; run = r }) out
  unfolding told_of told_leaves
  tell_16 v = record { answers = no _ v refl; leaves = no _ v refl }

  pub tell_over : valid_run r ≡ true → is_over r ≡ true → Gives (told_of r e out) (told_leaves r e out) (record { wrote = Ok 0; run = r }) out
  unfolding told_of told_leaves tell_of
  tell_over v o =
      let p = told_by_lem (record { text = []; run = r }) r out (prints_none out) refl in
      record {
        answers = yes _ v (p.answers ∙ ap (λ (t : Telling). told_in t r out) (yes _ o refl));
        leaves = yes _ v (p.leaves ∙ ap (λ (t : Telling). over out 0 t.text) (yes _ o refl));
      }

  pub tell_on : {a : Told} {after : List ℕ} → valid_run r ≡ true → is_over r ≡ false → Tells (tells r e) r out a after →
      Gives (told_of r e out) (told_leaves r e out) a after
  unfolding told_of told_leaves tell_of
  tell_on v o p = record {
    answers = yes _ v (p.answers ∙ ap (λ (t : Telling). told_in t r out) (no _ o refl));
    leaves = yes _ v (p.leaves ∙ ap (λ (t : Telling). over out 0 t.text) (no _ o refl));
  }

-- a run never has more slots than its last
pub slots_fit : (r : Run) (n : ℕ) → (slots_left r n ≡ 0) ⊎ (r.slots + slots_left r n ≤ last_slot)
unfolding slots_left
slots_fit r n =
    told (leb last_slot r.slots)
    (λ e. inl (cond_yes _ _ e))
    (λ e.
    let low : r.slots < last_slot = leb-false _ _ e in
    inr
    (subst (λ (k : ℕ). r.slots + k ≤ last_slot) (sym (cond_no _ _ e))
    (by (λ (k : ℕ). r.slots + k ≤ last_slot) (ltb n (last_slot - r.slots)) n (last_slot - r.slots)
    (λ f. let h : n < last_slot - r.slots = ltb-true _ _ f in omega arith)
    (λ f. omega arith))))

-- ---- a run of ours

pub record Ours (r : Run) : Type 0 where
  pub port : valid_port r.port ≡ true
  pub line : valid_line r.line ≡ true
  pub slots : r.slots ≤ last_slot

pub ours : (r : Run) → valid_run r ≡ true → Ours r
unfolding valid_run
ours r v =
    let p = and_left (valid_port r.port && valid_line r.line) _ v in
    record {
      port = and_left (valid_port r.port) _ p;
      line = and_right (valid_port r.port) _ p;
      slots = leb-true _ _ (and_right (valid_port r.port && valid_line r.line) _ v);
    }

pub is_ours : (r : Run) → Ours r → valid_run r ≡ true
unfolding valid_run
is_ours r o = and_both (and_both o.port o.line) (le-leb _ _ o.slots)
