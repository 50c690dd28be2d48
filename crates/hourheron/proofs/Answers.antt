-- How an entry that hands on what a crate below answered meets its own definition. Assumes nothing.
use Prim.Native.Nat.{ℕ}
use mathlib.Core.Bool.{Bool}
use mathlib.Core.List.{List}
use mathlib.Core.Path.{◌≡◌, ap, ◌∙◌}
use Rattle.laws.specs.Gives.{Gives}
use Rattle.refusal.specs.Answer.{Answer}
use Rattle.refusal.specs.declared.Refusal.{Refusal}
use Rattle.codec.specs.Codec.{Codec}
use Rattle.frame.specs.Message.{then_write, then_left, WritesMessage}
use Rattle.frame.proofs.Stands.{StandsFor, writes_alike}
use Rattle.hourheron.specs.Host.{answer_of, Writes, Lays}
use Rattle.hourheron.specs.declared.Answer as host

-- ---- a writer: of contents that stand for those handed in

-- what a crate below made, handed on
pub lays_made : {A : Type 0} (bytes : A → List ℕ) (n : ℕ) (made : Answer A) (d : List ℕ) {r : host.Answer} {w : Answer ℕ} {after : List ℕ} →
    Gives (then_write n made d) (then_left bytes made d) w after → r ≡ answer_of w → Lays bytes n made d r after
lays_made bytes n made d p e = record { answers = e ∙ ap answer_of p.answers; leaves = p.leaves }

pub writes_given : {A : Type 0} (form : Codec A) (low : ℕ → Refusal) (checksum : Bool) {f a : A} (d : List ℕ) → StandsFor form f a → {r : host.Answer} {w : Answer ℕ} {after : List ℕ} →
    WritesMessage form low checksum f d w after → r ≡ answer_of w → Writes form low checksum a d r after
writes_given form low checksum {a = a} d stands p e =
    let q = writes_alike form low checksum d stands p in
    record { answers = e ∙ ap answer_of q.answers; leaves = q.leaves }
