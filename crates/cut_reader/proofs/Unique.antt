-- One answer for each contract of this crate. Assumes nothing.
use Prim.Native.Nat.{ℕ}
use mathlib.Core.Bool.{Bool}
use mathlib.Core.List.{List}
use mathlib.Core.Path.{◌≡◌}
use Rattle.laws.proofs.OneAnswer.{one_answer}
use Rattle.record.specs.declared.Record.{Record}
use Rattle.fixed.specs.declared.Fixed.{Fixed}
use Rattle.refusal.specs.Answer.{Answer}
use Rattle.cutter.specs.declared.Cutter.{Cutter}
use Rattle.cut_reader.specs.Clauses.{JudgeText, JudgePacked, JudgeFixed, ReadText, ReadPacked, ReadFixed}

pub one_judge_text : (m : List ℕ) (checksum : Bool) {r r' : Answer Record} → JudgeText m checksum r → JudgeText m checksum r' → r ≡ r'
one_judge_text m checksum = one_answer

pub one_judge_packed : (m : List ℕ) (checksum : Bool) {r r' : Answer Record} → JudgePacked m checksum r → JudgePacked m checksum r' → r ≡ r'
one_judge_packed m checksum = one_answer

pub one_judge_fixed : (m : List ℕ) (checksum : Bool) {r r' : Answer Fixed} → JudgeFixed m checksum r → JudgeFixed m checksum r' → r ≡ r'
one_judge_fixed m checksum = one_answer

pub one_read_text : (cutter : Cutter) (part : List ℕ) (checksum : Bool) {r r' : Answer Record} →
    ReadText cutter part checksum r → ReadText cutter part checksum r' → r ≡ r'
one_read_text cutter part checksum = one_answer

pub one_read_packed : (cutter : Cutter) (part : List ℕ) (checksum : Bool) {r r' : Answer Record} →
    ReadPacked cutter part checksum r → ReadPacked cutter part checksum r' → r ≡ r'
one_read_packed cutter part checksum = one_answer

pub one_read_fixed : (cutter : Cutter) (part : List ℕ) (checksum : Bool) {r r' : Answer Fixed} →
    ReadFixed cutter part checksum r → ReadFixed cutter part checksum r' → r ≡ r'
one_read_fixed cutter part checksum = one_answer
