-- Where the owner's part of an accepted message lies: it fits there, and no byte behind the owner's text is in it. Assumes nothing.
use Prim.Native.Nat.{ℕ, zero, suc, ◌+◌, ◌≤◌}
use mathlib.Core.Bool.{Bool}
use mathlib.Core.List.{List}
use mathlib.Core.Path.{◌≡◌, sym, ap, ◌∙◌, subst}
use native.Mathlib.Omega.{arith}
use denote.Ref.{Bor}
use lib.Dec.{eqb}
use lib.ListN.{length, get_or}
use Rattle.std.specs.Prelude.{Ok}
use Rattle.laws.proofs.Tests.{told}
use Rattle.refusal.specs.Answer.{Answer}
use Rattle.frame.specs.Frame.{ending_width}
use Rattle.frame.specs.Message.{read_of}
use Rattle.frame.proofs.Exactly.{reads_only, messages_long}
use Rattle.fixed.specs.Form.{fixed_form, fixed_length}
use Rattle.fixed.specs.declared.Fixed.{Fixed}
use Rattle.fixed.proofs.Exact.{fixed_form_exact, fixed_form_width, fixed_lowest_lem}
use Rattle.fixed.proofs.Given.{items_long}
use Rattle.nreader.specs.Reader.{unspaced, trimmed, PartBy}

-- a text without its trailing spaces is no longer than the text
pub unspaced_low : (s : List ℕ) (n : ℕ) → unspaced s n ≤ n
unfolding unspaced
unspaced_low s zero = omega arith
unspaced_low s (suc n) =
    let h = unspaced_low s n in
    told (eqb (get_or s n 0) 32) (λ e. rw e (omega arith)) (λ e. rw e (omega arith))

-- the part by the answer that was given
pub part_by : (m : Bor (List ℕ)) {a b : Answer Fixed} {p : Bor (List ℕ)} → a ≡ b → PartBy m b p → PartBy m a p
part_by m {p = p} e = subst (λ (x : Answer Fixed). PartBy m x p) (sym e)

module _ (checksum : Bool) (m : List ℕ) (f : Fixed) (e : read_of fixed_form checksum m ≡ Ok f) where
  accepted_long : length m ≡ fixed_length + ending_width checksum
  accepted_long =
      let p = reads_only fixed_form fixed_form_exact checksum m f e in
      messages_long fixed_form fixed_form_exact checksum m f p.0 p.1 ∙ ap (λ (n : ℕ). n + ending_width checksum) fixed_form_width

  pub owner_fits : 12 + trimmed f.owner ≤ length m
  owner_fits =
      let p = reads_only fixed_form fixed_form_exact checksum m f e in
      let l = (items_long f (sym (fixed_lowest_lem f) ∙ p.0)).thirty_one_lem in
      omega (arith, accepted_long, unspaced_low f.owner (length f.owner))
