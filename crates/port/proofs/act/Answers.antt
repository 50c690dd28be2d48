-- `port::act` meets its contract: rule 2, by whether the command has a reply. Assumes nothing.
use Prim.Native.Nat.{ℕ}
use mathlib.Core.List.{List, [], ◌∷◌}
use mathlib.Core.Path.{◌≡◌, refl, sym, ap, ◌∙◌}
use native.Mathlib.Omega.{arith}
use lib.ListN.{length}
use Rattle.std.specs.Prelude.{None}
use Rattle.line.specs.declared.Line.{Line}
use Rattle.state.specs.declared.Last.{Last}
use Rattle.state.specs.declared.Source.{Source}
use Rattle.state.specs.State.{unsent}
use Rattle.rules.specs.Does.{does, counts}
use Rattle.reply.specs.declared.Acted.{Acted}
use Rattle.reply.specs.Reply.{acted_of}
use Rattle.port.specs.declared.Port.{Port}
use Rattle.port.specs.declared.Slotted.{Slotted}
use Rattle.port.specs.Port.{freed, begun_with, reply_last, rest_of, answers, act_of}
use Rattle.port.proofs.act.Goals as goal

-- no reply: the rest, with the waiting place free
none : (p : Port) (s : Source) (xs : List ℕ) (k : Last) → length xs ≡ 0 → answers p s xs k ≡ rest_of (freed p s)
unfolding answers
none p s [] k e = refl
none p s (b ∷ bs) k e = absurd (omega arith)

-- a reply: it starts
some : (p : Port) (s : Source) (xs : List ℕ) (k : Last) → (length xs ≡ 0 → ⊥) → answers p s xs k ≡ begun_with s (unsent xs) k None
unfolding answers
some p s [] k n = absurd (n refl)
some p s (b ∷ bs) k n = refl

-- what code that called `reply::act` answers, against rule 2
module _ (p : Port) (l : Line) (a : Acted) (e : a ≡ acted_of (does p.source l)) where
  silent : {r : Slotted} → a.message.len ≡ 0 → r ≡ rest_of (freed p a.source) → r ≡ act_of p l
  unfolding act_of
  silent z h =
      let d = does p.source l in
      h ∙ ap (λ (x : Acted). rest_of (freed p x.source)) e ∙ sym (none p d.source d.reply _ (sym (ap (λ (x : Acted). x.message.len) e) ∙ z))

  spoken : {k : Last} {r : Slotted} → (a.message.len ≡ 0 → ⊥) → k ≡ reply_last (counts p.source l) → r ≡ begun_with a.source a.message k None → r ≡ act_of p l
  unfolding act_of
  spoken n g h =
      let d = does p.source l in
      h ∙ (λ i. begun_with (e i).source (e i).message (g i) None) ∙ sym (some p d.source d.reply _ (λ z. n (ap (λ (x : Acted). x.message.len) e ∙ z)))

pub returns-then-acted-eq0 : goal.returns-then-acted-eq0
returns-then-acted-eq0 c = silent c.args.p c.args.line c.act-acted.result c.act-acted.ensures c.if-acted-eq0.true c.rest.ensures

pub returns : goal.returns
returns c =
    spoken c.args.p c.args.line c.act-acted.result c.act-acted.ensures c.if-acted-eq0.false (c.reply_last-last.ensures ∙ ap reply_last c.counts.ensures)
    c.begin.ensures
