-- The one law of every message: a body written at the start of a buffer of zeros, and ended there, is the framed body as a message.
-- Assumes nothing.
use Prim.Native.Nat.{ℕ, ◌+◌, ◌≤◌}
use mathlib.Core.Bool.{Bool, true}
use mathlib.Core.List.{List}
use mathlib.Core.Path.{◌≡◌, sym, ap, ◌∙◌}
use native.Mathlib.Omega.{arith}
use lib.ListN.{length, take}
use Rattle.laws.specs.Over.{over}
use Rattle.laws.proofs.OverLaws.{take_over, over_next}
use Rattle.frame.specs.Frame.{ending, ending_width, framed}
use Rattle.frame.proofs.Exactly.{ending_long, ending_short, framed_long}
use Rattle.state.specs.declared.Message.{Message}
use Rattle.state.specs.State.{message_length, zeros, unsent}
use Rattle.state.proofs.Laws.{zeros_long}
use Rattle.messages.specs.Built.{closed_of}

-- what the ending and its width come to
pub ended : (bytes : List ℕ) (n : ℕ) (checksum : Bool) {b : List ℕ} {w : ℕ} → b ≡ over bytes n (ending checksum (take n bytes)) → w ≡ ending_width checksum →
    record { bytes = b; len = n + w; at = 0 } ≡ closed_of bytes n checksum
unfolding closed_of
ended bytes n checksum p q = λ i. record { bytes = p i; len = n + q i; at = 0 }

module _ (body : List ℕ) (n : ℕ) (l : length body ≡ n) (short : n + ending_width true ≤ message_length) where
  -- the ending behind the body is one write with it
  closes : (checksum : Bool) → over (over zeros 0 body) n (ending checksum (take n (over zeros 0 body))) ≡ over zeros 0 (framed checksum body)
  closes checksum =
      let z = zeros_long in
      let w = ending_long checksum body in
      let k = ending_short checksum in
      rw (take_over zeros body n l (omega arith)) (over_next zeros body (ending checksum body) 0 n (omega arith) (omega arith))

  pub closed_is : (checksum : Bool) {m : Message} {b : List ℕ} → m ≡ closed_of b n checksum → b ≡ over zeros 0 body → m ≡ unsent (framed checksum body)
  unfolding closed_of
  closed_is checksum p q =
      p ∙ ap (λ (x : List ℕ). closed_of x n checksum) q
      ∙ (λ i. record { bytes = closes checksum i; len = sym (framed_long checksum n body l) i; at = 0 })
