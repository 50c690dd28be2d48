-- What the owner's part promises, beside document 01: statements only. (What holds of the N message as of every message is in crate `demand2`.)
use Rattle.std.specs.Prelude.{ℕ, ◌+◌, ◌-◌, ◌≤◌, ◌<◌, Bool, List, [], ◌≡◌, length, get_or, take, drop, Err, Ok}
use Rattle.std.specs.Borrow.{Bor}
use Rattle.refusal.specs.declared.Refusal.{Refusal}
use Rattle.frame.specs.Message.{read_of}
use Rattle.fixed.specs.Form.{fixed_form}
use Rattle.fixed.specs.declared.Fixed.{Fixed}
use Rattle.nreader.specs.Reader.{trimmed, owner_at, owner_length}
use Rattle.nreader.specs.Clauses.{OwnerPart}

-- the part of an accepted message holds the owner's name as far as its trailing spaces
abbrev pub OwnersName : Type 0
OwnersName =
    (checksum : Bool) (m : List ℕ) (f : Fixed) → read_of fixed_form checksum m ≡ Ok f →
    take (owner_length (Ok f)) (drop (owner_at (Ok f)) m) ≡ take (trimmed f.owner) f.owner

-- so does what is handed back, and it lies in the message, where the name does
abbrev pub AcceptedPart : Type 0
AcceptedPart =
    (m : Bor (List ℕ)) (checksum : Bool) (f : Fixed) (r : Bor (List ℕ)) → read_of fixed_form checksum m.now ≡ Ok f → OwnerPart m checksum r →
    (r.ref_ptr ≡ (m.ref_ptr.0, 12 + m.ref_ptr.1)) × (r.now ≡ take (trimmed f.owner) f.owner)

-- "the owner's part is empty, at the message's start": of a refused message
abbrev pub RefusedPart : Type 0
RefusedPart =
    (m : Bor (List ℕ)) (checksum : Bool) (x : Refusal) (r : Bor (List ℕ)) → read_of fixed_form checksum m.now ≡ Err x → OwnerPart m checksum r →
    (r.ref_ptr ≡ m.ref_ptr) × (r.now ≡ [])

-- the bytes left out are the spaces at the end, all of them and no others
abbrev pub OnlySpaces : Type 0
OnlySpaces = (s : List ℕ) (i : ℕ) → trimmed s ≤ i → i < length s → get_or s i 0 ≡ 32

abbrev pub AllSpaces : Type 0
AllSpaces = (s : List ℕ) → 0 < trimmed s → get_or s (trimmed s - 1) 0 ≡ 32 → ⊥
