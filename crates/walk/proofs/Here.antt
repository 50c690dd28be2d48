-- What is promised from a start, counted from the state that calls have reached. Assumes nothing.
use Prim.Native.Nat.{ℕ, ◌≤◌}
use mathlib.Core.Bool.{true}
use mathlib.Core.List.{List, [], ◌∷◌, ◌++◌, append_assoc, append_cancel_left}
use mathlib.Core.Logic.{◌≢◌}
use mathlib.Core.Option.{Option, none, some}
use mathlib.Core.Path.{◌≡◌, sym, ap, ap₂, subst, ◌∙◌}
use Rattle.machine.specs.Machine.{Kind, State, waiting, underway, modes, line, listed, start, begins, took, dropped, Event, Events, received, slot, slots, next, shows, run, taken_in, taken, acted_in, acted}
use Rattle.machine.specs.Promised.{Promised, ActedBy, RepliedBy, RecordBy, StaysOn, ByRules}
use Rattle.machine.proofs.Use.{run_append, seen_append}
use Rattle.line.specs.declared.Line.{Line}
use Rattle.line.specs.Line.{ends}
use Rattle.state.specs.declared.Source.{Source}
use Rattle.rules.specs.Does.{does}
use Rattle.rules.specs.Lens.{Given, lens}
use Rattle.rules.specs.Promise.{act_by, reply_by, record_by}
use Rattle.walk.specs.Calls.{Held, view_of}
use Rattle.walk.proofs.Calls.{Reached}

pub record Here (x : State lens) : Type 0 where
  -- what waits and is taken is what is acted on and then waits
  pub in_order : (es : Events lens) → listed (waiting x) ++ taken x es ≡ acted x es ++ listed (waiting (run x es))
  pub acted_in_time : (es : Events lens) (e : Event Given) (c : Line) → shows x e ≡ took c → act_by ≤ slots es → ActedBy act_by (next x e) c es
  pub replied_in_time : (es : Events lens) (e : Event Given) (c : Line) → shows x e ≡ took c → reply_by ≤ slots es → (a : ActedBy act_by (next x e) c es) →
      (does (modes (run (next x e) a.mid)) c).reply ≢ [] → RepliedBy reply_by (next x e) c a.mid a.rest
  pub record_in_time : (es : Events lens) → underway x ≡ [] → StaysOn x es → record_by ≤ slots es → RecordBy record_by x es
  pub by_rules : (a : Option Line) (k : Kind) (b : ℕ) (bs : List ℕ) → shows x slot ≡ begins a k b bs → ByRules x a k (b ∷ bs)
  pub taken_if_free : (b : ℕ) → ends (line x) b ≡ true → waiting x ≡ none → shows x (received b) ≡ took (line x)
  pub dropped_if_not : (b : ℕ) (c : Line) → ends (line x) b ≡ true → waiting x ≡ some c → shows x (received b) ≡ dropped
  pub dropped_only : (e : Event Given) → shows x e ≡ dropped → (b : ℕ) × (e ≡ received b) × (ends (line x) b ≡ true) × (c : Line) × (waiting x ≡ some c)

promised_here : (m : Source) (before : Events lens) → Promised lens act_by reply_by record_by m → Here (run (start lens m) before)
promised_here m before p = record {
  in_order = λ es.
      let s = start lens m in
      let x = run s before in
      let A = acted s before in
      append_cancel_left A _ _
      (sym (append_assoc A (listed (waiting x)) (taken x es))
      ∙ ap (λ (l : List Line). l ++ taken x es) (sym (p.in_order before))
      ∙ sym (seen_append taken_in s before es)
      ∙ p.in_order (before ++ es)
      ∙ ap₂ (λ (l : List Line) (y : State lens). l ++ listed (waiting y)) (seen_append acted_in s before es) (run_append s before es)
      ∙ append_assoc A (acted x es) (listed (waiting (run x es))));
  acted_in_time = p.acted_in_time before;
  replied_in_time = p.replied_in_time before;
  record_in_time = p.record_in_time before;
  by_rules = p.by_rules before;
  taken_if_free = p.taken_if_free before;
  dropped_if_not = p.dropped_if_not before;
  dropped_only = p.dropped_only before;
}

pub here : {h : Held} → Reached h → Here (view_of h)
here r = subst Here (sym r.state) (promised_here r.source r.before r.promised)
