-- `Connectors::start` meets its contract: what two starts come to, by their verdicts. Assumes nothing.
use mathlib.Core.Path.{◌≡◌, refl, ap, ◌∙◌}
use Rattle.std.specs.Prelude.{Ok, Err}
use Rattle.std.specs.Result.{result_and}
use Rattle.refusal.specs.Answer.{Verdict}
use Rattle.fixed.specs.declared.Settings.{Settings}
use Rattle.units.specs.declared.Measurement.{Measurement}
use Rattle.port.specs.declared.Port.{Port}
use Rattle.port.specs.declared.Started.{Started}
use Rattle.port.specs.Port.{handed, start_verdict, started_port, start_of}
use Rattle.connectors.specs.declared.Connectors.{Connectors}
use Rattle.connectors.specs.declared.Lines.{Lines}
use Rattle.connectors.specs.declared.Side.TheVariants.{Camera, External}
use Rattle.connectors.specs.declared.StartedBoth.{StartedBoth}
use Rattle.connectors.specs.Connectors.{own_of, with_port, first_refused, both_verdict, started_by, start_both}
use Rattle.connectors.proofs.Connectors.start.Goals as goal

first_is : (v w : Verdict) → result_and v w ≡ first_refused v w
first_is (Ok tt) w = refl
first_is (Err r) w = refl

module _ (old : Connectors) (lines : Lines) where
  -- what two starts hand back, put together
  by_verdicts : (v w : Verdict) (one two p q : Port) →
      started_by (first_refused (handed v one p).verdict (handed w two q).verdict) (with_port (with_port old Camera (handed v one p).port) External (handed w two q).port) old lines
      ≡ started_by (first_refused v w) (record { settings = two.source.settings; camera = own_of one; external = own_of two }) old lines
  unfolding handed
  by_verdicts (Ok a) (Ok b) one two p q = refl
  by_verdicts (Ok a) (Err r) one two p q = refl
  by_verdicts (Err r) w one two p q = refl

  starts_both : (s : Settings) (m n : Measurement) (p q : Port) {x y : Started} {half new : Connectors} {v : Verdict} {r : StartedBoth} →
      x ≡ start_of p lines.camera s m → y ≡ start_of q lines.external s n →
      half ≡ with_port old Camera x.port → new ≡ with_port half External y.port → v ≡ first_refused x.verdict y.verdict →
      r ≡ started_by v new old lines → r ≡ start_both old lines s m n
  unfolding start_both both_verdict start_of
  starts_both s m n p q {x} {y} e f g h k l =
      l
      ∙ (λ i. started_by (k i) (h i) old lines)
      ∙ ap (λ (b : Connectors). started_by (first_refused x.verdict y.verdict) (with_port b External y.port) old lines) g
      ∙ (λ i. started_by (first_refused (e i).verdict (f i).verdict) (with_port (with_port old Camera (e i).port) External (f i).port) old lines)
      ∙ by_verdicts (start_verdict s m) (start_verdict s n) (started_port s m) (started_port s n) p q

pub returns : goal.returns
returns c =
    let a = c.args in
    starts_both a.old a.lines a.settings a.camera a.external c.port_at.result c.port_at-2.result c.start-first.ensures c.start-second.ensures
    c.with_port-half.ensures c.with_port-new.ensures (c.and-verdict.ensures ∙ first_is c.start-first.result.verdict c.start-second.result.verdict) c.started_by.ensures
