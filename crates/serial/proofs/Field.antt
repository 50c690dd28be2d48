-- The field, by how long it is and by how the code reads it. Assumes nothing.
use Prim.Native.Nat.{ℕ, suc}
use mathlib.Core.List.{List, [], ◌∷◌}
use mathlib.Core.Path.{◌≡◌, ap}
use lib.ListN.{length, drop}
use Rattle.codec.specs.Codec.{passed, text_behind}
use Rattle.codec.proofs.Fields.{text_behind_lem}
use Rattle.record.specs.Forms.{serial}

pub serial_long : (text : List ℕ) → length text ≡ 9 → length (serial.print text) ≡ 10
unfolding serial
serial_long text l = ap suc l

pub serial_read : (s : List ℕ) → serial.parse s ≡ passed (text_behind (83 ∷ []) s) 12 (drop 1 s)
unfolding serial
serial_read s = text_behind_lem (83 ∷ []) 12 9 s
