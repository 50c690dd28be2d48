-- What a walk that calls `collect` has of it: its contract as a triple, and of its `ensured` the answer and the last value of the reference. Assumes nothing.
use Prim.Native.Nat.{ℕ}
use mathlib.Core.Path.{◌≡◌, subst}
use seplogic.Ra.Ura.{Ura}
use base.Logic.{SProp, ent, sep, guard, emp, via, fst∗, snd∗, ex_e, guard_i}
use base.Fml.{Lft}
use prog.Memory.{Memory}
use prog.Routine.{Routine}
use types.Logic.{Logic, sem}
use types.SemTy.{Body}
use denote.Memory.{mem}
use contract.Monad.{Fun, fact, fact_use}
use denote.Ref.{MutBor}
use denote.Triple.Spec.{triple_of}
use denote.Triple.Statement.{Contract}
use denote.Triple.Clauses.{ensured, lasts}
use Rattle.laws.specs.Gives.{Gives}
use Rattle.line.specs.declared.Line.{Line}
use Rattle.line.specs.contracts.Line as line
use Rattle.collector.specs.Collect.{line_after, collected}
use Rattle.collector.specs.declared.Collected.{Collected}
use Rattle.collector.specs.contracts.collect as collect

module _ {M : Type 1} {𝓤 : Ura M} (𝓛 : Logic 𝓤) (at_mem : Memory → SProp 𝓤) (run : Routine → Fun 𝓤) where
  open 𝓛 use {A}

  abbrev pub Collect : Contract 𝓤
  Collect = triple_of 𝓛 collect.signature (collect.spec 𝓛 at_mem run)

  pub told : (κ : Lft) (x : MutBor Line) (n : ℕ) (k : Collected) →
      ent 𝓤 (ensured 𝓛 collect.ended (collect.clauses 𝓛 at_mem run) (κ, tt) (x, (n, tt)) tt k) (guard 𝓤 (k ≡ collected x.now n) (A.res x.ghost_name ((line.the_row).coded.code (line_after x.now n))))
  told κ x n k = ex_e 𝓤 _ (λ ws.
      let P : SProp 𝓤 = sem 𝓛 (lasts collect.ended (κ, tt) (x, (n, tt)) ws) in
      let G : Type 0 = Gives (collected x.now n) (line_after x.now n) k ws.0 in
      let last : SProp 𝓤 = A.res x.ghost_name ((line.the_row).coded.code ws.0) in
      let bor : SProp 𝓤 = A.bor κ (Body (mem line.the_row) x.ref_ptr.0 x.ref_ptr.1 x.ghost_name) in
      let both : SProp 𝓤 = sep 𝓤 last bor in
      fact_use 𝓤 G (snd∗ 𝓤 P (fact 𝓤 G)) (λ g.
      subst (λ (r : Line). ent 𝓤 (sep 𝓤 P (fact 𝓤 G)) (guard 𝓤 (k ≡ collected x.now n) (A.res x.ghost_name ((line.the_row).coded.code r)))) g.leaves
      (via 𝓤 P (fst∗ 𝓤 P (fact 𝓤 G)) (via 𝓤 last (via 𝓤 both (fst∗ 𝓤 both (sep 𝓤 (emp 𝓤) (emp 𝓤))) (fst∗ 𝓤 last bor)) (guard_i 𝓤 (k ≡ collected x.now n) last g.answers)))))
