-- `cutter::Cutter::cut` meets its contract: byte by byte is to look for the end, and to take what stands before it. Assumes nothing.
use Prim.Native.Nat.{ℕ}
use mathlib.Core.Bool.{true}
use mathlib.Core.List.{List}
use mathlib.Core.Path.{◌≡◌, sym, ap, subst, ◌∙◌}
use borrow.Author.Rules.{rules}
use lib.ListN.{length, take}
use lib.Seq.{length-take-le}
use Rattle.std.specs.Prelude.{Some}
use Rattle.laws.specs.Gives.{Gives}
use Rattle.refusal.specs.Answer.{Answer}
use Rattle.cutter.specs.Cutter.{cutter_length, fresh, Cutting, answer_by, left_by_said, has_ended, end_in, whole_left, PutsMessage, cut_answer}
use Rattle.cutter.specs.Clauses.{CutterCut}
use Rattle.cutter.specs.declared.Cutter.{Cutter}
use Rattle.cutter.specs.declared.Cut.{Cut}
use Rattle.cutter.proofs.Cuts.{cut_some, cut_held}
use Rattle.cutter.proofs.Cutter.cut.Goals as goal

abbrev Cuts : Cutting → List ℕ → Cut → List ℕ → Type 0
Cuts t out r after = Gives (cut_answer t out) (left_by_said whole_left t.said out) r after

-- one ends
put : (c : Cutter) (p out : List ℕ) → length c.bytes ≡ cutter_length → (e : ℕ) (w : Answer ℕ) {after : List ℕ} → end_in c p ≡ Some e →
    PutsMessage c (take e p) out w after → CutterCut c p out (record { wrote = w; used = e; ended = true; cutter = fresh }) after
unfolding cut_answer answer_by left_by_said has_ended
put c p out long e w {after} z g =
    subst (λ (t : Cutting). Cuts t out (record { wrote = w; used = e; ended = true; cutter = fresh }) after) (sym (cut_some c p e long z).2)
    (record { answers = ap (λ (x : Answer ℕ). record { wrote = x; used = e; ended = true; cutter = fresh }) g.answers; leaves = g.leaves })

pub returns-in_default : goal.returns-in_default
returns-in_default c =
    let a = c.args in
    let g = cut_held a.self a.piece.now a.out.now (search rules) (sym c.end_in.ensures ∙ c.in_default.is) in
    record { answers = c.hold.ensures ∙ g.answers; leaves = g.leaves }

pub slice_bounds-put_message-end : goal.slice_bounds-put_message-end
slice_bounds-put_message-end c =
    let a = c.args in
    sym (length-take-le c.in-Some.n a.piece.now (cut_some a.self a.piece.now _ (search rules) (sym c.end_in.ensures ∙ c.in-Some.is)).1)

pub returns : goal.returns
returns c =
    let a = c.args in
    let g = put a.self a.piece.now a.out.now (search rules) _ _ (sym c.end_in.ensures ∙ c.in-Some.is) c.put_message.ensures in
    record {
      answers = ap (λ (x : Cutter). record { wrote = c.put_message.result; used = c.in-Some.n; ended = true; cutter = x }) c.fresh.ensures ∙ g.answers;
      leaves = g.leaves;
    }
