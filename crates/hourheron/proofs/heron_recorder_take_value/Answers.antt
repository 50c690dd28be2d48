-- `hourheron::heron_recorder_take_value` meets its contract: what the recorder made of the piece is laid and handed on. Assumes nothing.
use Prim.Native.Nat.{ℕ}
use mathlib.Core.Path.{ap, ◌∙◌}
use Rattle.refusal.specs.Answer.{Answer}
use Rattle.recorder.specs.Recorder.{take_of}
use Rattle.recorder.specs.declared.Recorded.{Recorded}
use Rattle.hourheron.specs.Host.{answer_of}
use Rattle.hourheron.specs.Takes.{take_with, take_in, take_left}
use Rattle.hourheron.proofs.Takes.{taken_in_lem, taken_left}
use Rattle.hourheron.proofs.heron_recorder_take_value.Goals as goal

pub returns : goal.returns
returns c =
    let a = c.args in
    let out = a.out.now in
    let e = c.lay_taken-answer.ensures in
    let t = c.take-taken.result in
    let is = c.take-taken.ensures in
    record {
      answers =
          (λ i. record {
            number = (e.answers i).number;
            value = (e.answers i).value;
            used = t.used;
            ended = c.has_made.ensures i;
            opening = c.is_opening.ensures i;
            recorder = t.recorder;
          })
          ∙ ap (λ (x : Recorded). take_with (answer_of (take_in x.made out)) x) is
          ∙ ap (λ (x : Answer ℕ). take_with (answer_of x) (take_of a.recorder a.piece.now)) (taken_in_lem a.recorder out a.piece.now);
      leaves = e.leaves ∙ ap (λ (x : Recorded). take_left x.made out) is ∙ taken_left a.recorder out a.piece.now;
    }
