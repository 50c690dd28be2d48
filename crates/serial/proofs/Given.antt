-- A record whose serial was copied into nine bytes stands for the one handed in: a serial of another length is out of range, and so is what is left of it.
-- Assumes nothing.
use Prim.Native.Nat.{ℕ}
use mathlib.Core.List.{List}
use mathlib.Core.Path.{◌≡◌, sym, ap, ◌∙◌}
use Rattle.codec.specs.Codec.{Codec, filled}
use Rattle.codec.proofs.Texts.{filled_whole, filled_ok}
use Rattle.frame.proofs.Stands.{StandsFor}
use Rattle.record.specs.Record.{record_lowest}
use Rattle.record.specs.Forms.{with_serial}
use Rattle.record.specs.declared.Figures.{Figures}
use Rattle.record.specs.declared.Record.{Record}
use Rattle.record.proofs.Exact.{serial_long}

nine_lowest : (f : Figures) (s : List ℕ) → record_lowest (with_serial f (filled 9 s)) ≡ record_lowest (with_serial f s)
unfolding record_lowest
nine_lowest f s = rw (filled_ok 8 s)

pub stands_record : (form : Codec Record) (rule : (r : Record) → form.lowest r ≡ record_lowest r) (f : Figures) (s : List ℕ) {r : Record} →
    r ≡ with_serial f (filled 9 s) → StandsFor form r (with_serial f s)
stands_record form rule f s e = record {
  alike = ap (λ (x : Record). form.lowest x) e ∙ rule _ ∙ nine_lowest f s ∙ sym (rule _);
  same = λ z. e ∙ ap (with_serial f) (filled_whole 9 s (serial_long (with_serial f s) (sym (rule _) ∙ z)));
}
