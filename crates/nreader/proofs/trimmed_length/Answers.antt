-- `nreader::trimmed_length` meets its contract: behind the last byte that is no space there are only spaces. Assumes nothing.
use Prim.Native.Nat.{ℕ, zero, suc, ◌<◌, ◌≤◌, ◌+◌, ◌-◌}
use mathlib.Core.List.{List}
use mathlib.Core.Path.{◌≡◌, sym, ap, ◌∙◌}
use native.Mathlib.Omega.{arith}
use borrow.Author.Rules.{rules}
use borrow.Author.Tests.{eq-eqb, ne_eqb}
use lib.ListN.{length, get_or}
use Rattle.std.proofs.Common.{Option, Some, None, MatchOption}
use Rattle.nreader.specs.Reader.{unspaced}
use Rattle.std.proofs.lemmas.Grind.{common_steps}
use Rattle.nreader.proofs.trimmed_length.Goals as goal

-- only spaces stand behind the first n bytes
spaces_behind : (s : List ℕ) (m n : ℕ) → ((k : ℕ) → n ≤ k → k < n + m → get_or s k 0 ≡ 32) → unspaced s (n + m) ≡ unspaced s n
unfolding unspaced
spaces_behind s zero n spaces = let e : n + 0 ≡ n = omega arith in ap (unspaced s) e
spaces_behind s (suc m) n spaces =
    let e : n + suc m ≡ suc (n + m) = omega arith in
    ap (unspaced s) e ∙ rw (eq-eqb _ _ (spaces (n + m) (omega arith) (omega arith))) (spaces_behind s m n (λ k low high. spaces k low (omega arith)))

-- the last byte that is no space
last_kept : (s : List ℕ) (i : ℕ) → (get_or s i 0 ≡ 32 → ⊥) → unspaced s (suc i) ≡ suc i
unfolding unspaced
last_kept s i k = rw (ne_eqb _ _ k)

-- what was found is told as a length
module _ (s : List ℕ) (r : ℕ) where
  abbrev Found : Option ℕ → Type 0
  Found o =
      MatchOption o ((k : ℕ) → k < length s → get_or s k 0 ≡ 32)
      (λ i. (i < length s) × (get_or s i 0 ≡ 32 → ⊥) × ((k : ℕ) → i < k → k < length s → get_or s k 0 ≡ 32))

  told_length : (o : Option ℕ) → Found o → MatchOption o (r ≡ 0) (λ i. r ≡ i + 1) → r ≡ unspaced s (length s)
  unfolding unspaced
  told_length None spaces e =
      let n : 0 + length s ≡ length s = omega arith in
      e ∙ sym (ap (unspaced s) (sym n) ∙ spaces_behind s (length s) 0 (λ k low high. spaces k (omega arith)))
  told_length (Some i) found e =
      let fits = found.0 in
      let n : suc i + (length s - suc i) ≡ length s = omega arith in
      let more : suc i ≡ r = omega arith in
      sym (ap (unspaced s) (sym n) ∙ spaces_behind s (length s - suc i) (suc i) (λ k low high. found.2 k (omega arith) (omega arith)) ∙ last_kept s i found.1 ∙ more)

pub returns : goal.returns
returns c =
    let s = c.args.s.now in
    let r = c.map_or.result in
    let o = c.rposition.result in
    let found : Found s r o = grind (arith, common_steps) in
    let says : MatchOption o (r ≡ 0) (λ i. r ≡ i + 1) = search rules in
    told_length s r o found says
