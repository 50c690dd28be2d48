-- `recorder::Recorder::send` meets its contract: its tests are those of `send_of`. Assumes nothing.
use mathlib.Core.Path.{sym, ◌∙◌}
use native.Mathlib.Omega.{arith}
use Rattle.recorder.proofs.Sends.{send_invalid, send_nothing, send_short, send_asking}
use Rattle.recorder.proofs.Recorder.send.Goals as goal

pub returns-then-not-is_valid : goal.returns-then-not-is_valid
returns-then-not-is_valid c =
    let a = c.args in
    send_invalid a.self a.out.now (sym c.is_valid.ensures ∙ c.if-not-is_valid.true)

pub returns-then-self : goal.returns-then-self
returns-then-self c =
    let a = c.args in
    send_nothing a.self a.out.now (sym c.is_valid.ensures ∙ c.if-not-is_valid.false) c.if-self.true

pub returns-then-out-lt2 : goal.returns-then-out-lt2
returns-then-out-lt2 c =
    let a = c.args in
    send_short a.self a.out.now (sym c.is_valid.ensures ∙ c.if-not-is_valid.false) c.if-self.false (omega arith)

pub returns : goal.returns
returns c =
    let a = c.args in
    let g = send_asking a.self a.out.now (sym c.is_valid.ensures ∙ c.if-not-is_valid.false) c.if-self.false (omega arith) in
    record { answers = g.answers; leaves = c.put_pair.ensures ∙ g.leaves }
