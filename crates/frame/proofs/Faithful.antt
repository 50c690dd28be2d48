-- Demand 2 for every exact codec whose range rule is the paper's. Assumes nothing.
use Prim.Native.Nat.{ℕ, ◌+◌}
use mathlib.Core.Bool.{Bool, true, false, cond}
use mathlib.Core.Path.{◌≡◌, refl, sym, ap, ◌∙◌}
use native.Mathlib.Omega.{arith}
use Rattle.refusal.specs.declared.Refusal.{Refusal}
use Rattle.codec.specs.Codec.{Codec}
use Rattle.codec.proofs.Exact.{Exact}
use Rattle.frame.specs.Frame.{ending_width}
use Rattle.frame.specs.Faithful.{Faithful}
use Rattle.frame.proofs.Exactly.{exactly, reads_only, reads_written, one_contents, one_message, messages_long}
use Rattle.frame.proofs.Left.{left_same, left_message}

pub ending_by : (w : ℕ) (checksum : Bool) → w + ending_width checksum ≡ cond checksum (w + 2 + 2) (w + 2)
ending_by w true = omega arith
ending_by w false = refl

pub faithful : {A : Type 0} (c : Codec A) (x : Exact c) (rule : A → ℕ) (low : ℕ → Refusal) (w : ℕ) →
    ((a : A) → c.lowest a ≡ rule a) → c.width ≡ w → Faithful c rule low (w + 2)
faithful {A} c x rule low w same wide =
    let sendable : (a : A) → rule a ≡ 0 → c.lowest a ≡ 0 = λ a h. same a ∙ h in
    record {
      exactly = λ checksum m a.
          let e = exactly c x checksum m a in
          (λ r. let p = e.0 r in (sym (same a) ∙ p.0, p.1), λ h. e.1 (sendable a h.0, h.1));
      reads_written = λ checksum a h. reads_written c x checksum a (sendable a h);
      writes_read = λ checksum m a e o. sym (one_message c x checksum m a o (reads_only c x checksum m a e).1);
      one_contents = λ checksum m a b h k. one_contents c x checksum m a b (sendable a h) (sendable b k);
      long = λ checksum m a h k. messages_long c x checksum m a (sendable a h) k ∙ ap (λ (n : ℕ). n + ending_width checksum) wide ∙ ending_by w checksum;
      refused_same = λ checksum a out r e. left_same c x.long low checksum a out r e;
      writes_message = λ checksum a out n e. left_message c x.long low checksum a out n e;
    }
