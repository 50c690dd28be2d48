-- The promises of the owner's part, by where the form writes the owner. Assumes nothing.
use Prim.Native.Nat.{ℕ, zero, suc, ◌+◌, ◌-◌, ◌≤◌, ◌<◌}
use mathlib.Core.Bool.{true, false}
use mathlib.Core.List.{List, ◌∷◌, ◌++◌, append_assoc}
use mathlib.Core.Path.{◌≡◌, sym, ap, ◌∙◌}
use native.Mathlib.Nat.{zero-add}
use native.Mathlib.Omega.{arith}
use borrow.Author.Tests.{eqb-true, eqb-false, ltb-true, ltb-false}
use lib.Dec.{eqb, ltb}
use lib.ListN.{length, get_or, take, drop}
use lib.Seq.{take-take, take_at, drop-append-add}
use Rattle.std.specs.Prelude.{Err, Ok}
use Rattle.laws.proofs.Tests.{told}
use Rattle.frame.specs.Frame.{ending}
use Rattle.frame.proofs.Exactly.{reads_only, one_message}
use Rattle.fixed.specs.Form.{serial, owner, lens_items, version, fixed_form}
use Rattle.fixed.specs.declared.Fixed.{Fixed}
use Rattle.fixed.proofs.Exact.{fixed_form_exact, fixed_once, fixed_lowest_lem}
use Rattle.fixed.proofs.Given.{items_long}
use Rattle.nreader.specs.Reader.{unspaced, trimmed, PartBy}
use Rattle.nreader.specs.Promises.{OwnersName, AcceptedPart, RefusedPart, OnlySpaces, AllSpaces}
use Rattle.nreader.proofs.Owner.{unspaced_low, part_by}

-- behind N, S, the serial and O the owner stands
owner_at_lem : (f : Fixed) (r : List ℕ) → length f.serial ≡ 9 → length f.owner ≡ 31 → take 31 (drop 12 (fixed_form.print f ++ r)) ≡ f.owner
unfolding fixed_form serial owner
owner_at_lem f r s o =
    let y = lens_items.print f.lens ++ version.print f.version in
    let z : List ℕ = (79 ∷ (f.owner ++ y)) ++ r in
    ap (λ (x : List ℕ). take 31 (drop 10 x)) (append_assoc f.serial (79 ∷ (f.owner ++ y)) r)
    ∙ ap (λ (n : ℕ). take 31 (drop (n + 1) (f.serial ++ z))) (sym s)
    ∙ ap (take 31) (drop-append-add f.serial z 1 ∙ append_assoc f.owner y r)
    ∙ take_at f.owner (y ++ r) 31 o

pub owners_name : OwnersName
owners_name checksum m f e =
    let p = reads_only fixed_form fixed_form_exact checksum m f e in
    let own = one_message fixed_form fixed_form_exact checksum m f (fixed_once f) p.1 in
    let l = items_long f (sym (fixed_lowest_lem f) ∙ p.0) in
    let n = trimmed f.owner in
    let h : n ≤ 31 = omega (arith, unspaced_low f.owner (length f.owner), l.thirty_one_lem) in
    sym (take-take n 31 (drop 12 m) h)
    ∙ ap (take n) (ap (λ (x : List ℕ). take 31 (drop 12 x)) own ∙ owner_at_lem f (ending checksum (fixed_form.print f)) l.nine l.thirty_one_lem)

pub accepted_part : AcceptedPart
accepted_part m checksum f r e p =
    let q : PartBy m (Ok f) r = part_by m (sym e) p in
    (q.place, q.bytes ∙ owners_name checksum m.now f e)

pub refused_part : RefusedPart
refused_part m checksum x r e p =
    let q : PartBy m (Err x) r = part_by m (sym e) p in
    (q.place ∙ ap (λ (o : ℕ). (m.ref_ptr.0, o)) (zero-add m.ref_ptr.1), q.bytes)

-- one byte more: a space is left out, and any other byte ends the part
step_space : (s : List ℕ) (n : ℕ) → eqb (get_or s n 0) 32 ≡ true → unspaced s (suc n) ≡ unspaced s n
unfolding unspaced
step_space s n e = rw e

step_other : (s : List ℕ) (n : ℕ) → eqb (get_or s n 0) 32 ≡ false → unspaced s (suc n) ≡ suc n
unfolding unspaced
step_other s n e = rw e

only_spaces_in : (s : List ℕ) (n i : ℕ) → unspaced s n ≤ i → i < n → get_or s i 0 ≡ 32
only_spaces_in s zero i h k = absurd (omega arith)
only_spaces_in s (suc n) i h k =
    told (eqb (get_or s n 0) 32)
    (λ e.
    let z = step_space s n e in
    told (ltb i n)
    (λ a. only_spaces_in s n i (omega arith) (ltb-true i n a))
    (λ b.
    let c : i ≡ n = omega (arith, ltb-false i n b) in
    ap (λ (j : ℕ). get_or s j 0) c ∙ eqb-true (get_or s n 0) 32 e))
    (λ e. absurd (omega (arith, step_other s n e)))

pub only_spaces : OnlySpaces
only_spaces s i h k = only_spaces_in s (length s) i h k

all_spaces_in : (s : List ℕ) (n : ℕ) → 0 < unspaced s n → get_or s (unspaced s n - 1) 0 ≡ 32 → ⊥
unfolding unspaced
all_spaces_in s zero h e = omega arith
all_spaces_in s (suc n) h e =
    told (eqb (get_or s n 0) 32)
    (λ y. all_spaces_in s n (rw (step_space s n y) at h) (rw (step_space s n y) at e))
    (λ y.
    let k : unspaced s (suc n) - 1 ≡ n = omega (arith, step_other s n y) in
    eqb-false (get_or s n 0) 32 y (ap (λ (j : ℕ). get_or s j 0) (sym k) ∙ e))

pub all_spaces : AllSpaces
all_spaces s h e = all_spaces_in s (length s) h e
