-- The letters of a command are that command, and no other line is one; a byte joins what a line holds. Assumes nothing.
use Prim.Native.Nat.{ℕ, suc, ◌+◌, ◌-◌, ◌*◌, ◌/◌, ◌%◌, ◌≤◌, ◌<◌}
use mathlib.Core.Bool.{true, false, ◌&&◌}
use mathlib.Core.List.{List, [], ◌∷◌, ◌++◌}
use mathlib.Core.Logic.{◌⊎◌, inl, inr, ◌≢◌}
use mathlib.Core.Path.{◌≡◌, refl, ap, ◌∙◌}
use native.Mathlib.Omega.{arith}
use native.Mathlib.Nat.{mod-lt, div-add-mod'}
use borrow.Author.Tests.{eqb-true, le-leb, lt-ltb, le-ltb}
use lib.Dec.{leb, eqb}
use lib.ListN.{length, take, set}
use lib.Seq.{take-suc-set}
use Rattle.laws.proofs.Tests.{and_left, and_right, cond_yes, cond_no, by}
use Rattle.laws.proofs.Range.{inside, at_least, at_most}
use Rattle.laws.specs.Within.{within}
use Rattle.line.specs.Line.{line_length, zeros, joined}
use Rattle.line.specs.Command.{one_byte, after_k, two_bytes, after_kb, film_of, after_w, three_bytes, command_in, command_of, InRange}
use Rattle.line.specs.Promises.{letters_of, held_in, Promised}
use Rattle.line.specs.declared.Line.{Line}
use Rattle.line.specs.declared.Command.{Command}
use Rattle.line.specs.declared.Command.TheVariants.{B, C, D, G, H, Ka, Kb, Kc, Kd, K3, K4, N, P, «V», W, X, Y, Unknown}
use Rattle.line.proofs.Laws.{overlong_unknown}

-- ---- the letters of a command

kb_known : (n : ℕ) → n ≤ 7 → after_kb (48 + n) ≡ Kb n
unfolding after_kb
kb_known n h = cond_yes _ _ (inside 48 55 (48 + n) (omega arith) (omega arith)) ∙ ap Kb (omega arith)

w_known : (n : ℕ) → n ≤ 31 → after_w (48 + n / 10) (48 + n % 10) ≡ W n
unfolding after_w film_of
w_known n h =
    let some : 0 < 10 = omega arith in
    let m = mod-lt n some in
    let d = div-add-mod' n 10 in
    let z : (48 + n / 10 - 48) * 10 + (48 + n % 10 - 48) ≡ n = omega arith in
    rw (inside 48 57 (48 + n / 10) (omega arith) (omega arith), inside 48 57 (48 + n % 10) (omega arith) (omega arith), z, le-leb n 31 h)

letters : (c : Command) → InRange c → command_in (letters_of c) ≡ c
unfolding letters_of command_in one_byte two_bytes after_k three_bytes
letters B r = refl
letters C r = refl
letters D r = refl
letters G r = refl
letters H r = refl
letters Ka r = refl
letters Kc r = refl
letters Kd r = refl
letters K3 r = refl
letters K4 r = refl
letters N r = refl
letters P r = refl
letters «V» r = refl
letters X r = refl
letters Y r = refl
letters Unknown r = refl
letters (Kb n) r = kb_known n (r.rate n refl)
letters (W n) r = w_known n (r.film n refl)

-- ---- no other line

-- these bytes are no command, or its letters, or W alone
abbrev Spelt : List ℕ → Command → Type 0
Spelt s c = (c ≡ Unknown) ⊎ (s ≡ letters_of c) ⊎ (s ≡ 87 ∷ [])

one_spelt : (a : ℕ) → Spelt (a ∷ []) (one_byte a)
unfolding one_byte letters_of
one_spelt a =
    let P : Command → Type 0 = Spelt (a ∷ []) in
    by P (eqb a 66) _ _ (λ e. inr (inl (ap (λ (x : ℕ). x ∷ []) (eqb-true a 66 e))))
    (λ n1. by P (eqb a 67) _ _ (λ e. inr (inl (ap (λ (x : ℕ). x ∷ []) (eqb-true a 67 e))))
    (λ n2. by P (eqb a 68) _ _ (λ e. inr (inl (ap (λ (x : ℕ). x ∷ []) (eqb-true a 68 e))))
    (λ n3. by P (eqb a 71) _ _ (λ e. inr (inl (ap (λ (x : ℕ). x ∷ []) (eqb-true a 71 e))))
    (λ n4. by P (eqb a 72) _ _ (λ e. inr (inl (ap (λ (x : ℕ). x ∷ []) (eqb-true a 72 e))))
    (λ n5. by P (eqb a 78) _ _ (λ e. inr (inl (ap (λ (x : ℕ). x ∷ []) (eqb-true a 78 e))))
    (λ n6. by P (eqb a 80) _ _ (λ e. inr (inl (ap (λ (x : ℕ). x ∷ []) (eqb-true a 80 e))))
    (λ n7. by P (eqb a 86) _ _ (λ e. inr (inl (ap (λ (x : ℕ). x ∷ []) (eqb-true a 86 e))))
    (λ n8. by P (eqb a 87) _ _ (λ e. inr (inr (ap (λ (x : ℕ). x ∷ []) (eqb-true a 87 e))))
    (λ n9. by P (eqb a 88) _ _ (λ e. inr (inl (ap (λ (x : ℕ). x ∷ []) (eqb-true a 88 e))))
    (λ n10. by P (eqb a 89) _ _ (λ e. inr (inl (ap (λ (x : ℕ). x ∷ []) (eqb-true a 89 e))))
    (λ n. inl refl)))))))))))

k_spelt : (b : ℕ) → Spelt (75 ∷ b ∷ []) (after_k b)
unfolding after_k letters_of
k_spelt b =
    let P : Command → Type 0 = Spelt (75 ∷ b ∷ []) in
    by P (eqb b 97) _ _ (λ e. inr (inl (ap (λ (x : ℕ). 75 ∷ x ∷ []) (eqb-true b 97 e))))
    (λ n1. by P (eqb b 99) _ _ (λ e. inr (inl (ap (λ (x : ℕ). 75 ∷ x ∷ []) (eqb-true b 99 e))))
    (λ n2. by P (eqb b 100) _ _ (λ e. inr (inl (ap (λ (x : ℕ). 75 ∷ x ∷ []) (eqb-true b 100 e))))
    (λ n3. by P (eqb b 51) _ _ (λ e. inr (inl (ap (λ (x : ℕ). 75 ∷ x ∷ []) (eqb-true b 51 e))))
    (λ n4. by P (eqb b 52) _ _ (λ e. inr (inl (ap (λ (x : ℕ). 75 ∷ x ∷ []) (eqb-true b 52 e))))
    (λ n. inl refl)))))

two_spelt : (a b : ℕ) → Spelt (a ∷ b ∷ []) (two_bytes a b)
unfolding two_bytes
two_spelt a b = by (Spelt (a ∷ b ∷ [])) (eqb a 75) _ _ (λ e. rw (eqb-true a 75 e) (k_spelt b)) (λ n. inl refl)

kb_spelt : (c : ℕ) → Spelt (75 ∷ 98 ∷ c ∷ []) (after_kb c)
unfolding after_kb letters_of
kb_spelt c =
    by (Spelt (75 ∷ 98 ∷ c ∷ [])) (within 48 55 c) _ _
    (λ e. let l = at_least 48 55 c e in inr (inl (ap (λ (x : ℕ). 75 ∷ 98 ∷ x ∷ []) (omega arith))))
    (λ n. inl refl)

w_spelt : (b c : ℕ) → Spelt (87 ∷ b ∷ c ∷ []) (after_w b c)
unfolding after_w film_of letters_of
w_spelt b c =
    let n : ℕ = (b - 48) * 10 + (c - 48) in
    by (Spelt (87 ∷ b ∷ c ∷ [])) (within 48 57 b && within 48 57 c) _ _
    (λ e.
    let x = at_least 48 57 b (and_left _ _ e) in
    let y = and_right (within 48 57 b) _ e in
    let y0 = at_least 48 57 c y in
    let y9 = at_most 48 57 c y in
    let some : 0 < 10 = omega arith in
    let m = mod-lt n some in
    let d = div-add-mod' n 10 in
    let tens : b ≡ 48 + n / 10 = omega arith in
    let ones : c ≡ 48 + n % 10 = omega arith in
    by (Spelt (87 ∷ b ∷ c ∷ [])) (leb n 31) _ _ (λ f. inr (inl (λ i. 87 ∷ tens i ∷ ones i ∷ []))) (λ f. inl refl))
    (λ e. inl refl)

three_spelt : (a b c : ℕ) → Spelt (a ∷ b ∷ c ∷ []) (three_bytes a b c)
unfolding three_bytes
three_spelt a b c =
    let P : Command → Type 0 = Spelt (a ∷ b ∷ c ∷ []) in
    by P (eqb a 75 && eqb b 98) _ _
    (λ e. rw (eqb-true a 75 (and_left _ _ e), eqb-true b 98 (and_right (eqb a 75) _ e)) (kb_spelt c))
    (λ e. by P (eqb a 87) _ _ (λ f. rw (eqb-true a 87 f) (w_spelt b c)) (λ f. inl refl))

spelt : (s : List ℕ) → Spelt s (command_in s)
unfolding command_in
spelt [] = inl refl
spelt (a ∷ []) = one_spelt a
spelt (a ∷ b ∷ []) = two_spelt a b
spelt (a ∷ b ∷ c ∷ []) = three_spelt a b c
spelt (a ∷ b ∷ c ∷ d ∷ s) = inl refl

known_only : {s : List ℕ} {c : Command} → Spelt s c → c ≢ Unknown → (s ≡ letters_of c) ⊎ (s ≡ 87 ∷ [])
known_only (inl e) n = absurd (n e)
known_only (inr h) n = h

-- ---- a line

whole : (l : Line) → l.len ≤ 64 → l.overlong ≡ false → command_of l ≡ command_in (held_in l)
unfolding command_of
whole l h n = cond_no _ _ n ∙ cond_yes _ _ (le-leb l.len line_length h)

joins : (l : Line) (b : ℕ) → length l.bytes ≡ 64 → l.len < 64 → (held_in (joined l b) ≡ held_in l ++ b ∷ []) × ((joined l b).overlong ≡ l.overlong)
unfolding joined
joins l b e h =
    let one : l.len + 1 ≡ suc l.len = omega arith in
    rw (lt-ltb l.len line_length h)
    (ap (λ (n : ℕ). take n (set l.bytes l.len b)) one ∙ take-suc-set l.bytes l.len b (omega arith), refl)

more : (l : Line) (b : ℕ) → 64 ≤ l.len → joined l b ≡ record { bytes = l.bytes; len = l.len; overlong = true }
unfolding joined
more l b h = cond_no _ _ (le-ltb l.len line_length h)

pub promised : Promised
unfolding zeros command_in one_byte
promised = record {
  empty = refl;
  known = letters;
  bare_w = refl;
  only = λ s. known_only (spelt s);
  by_bytes = whole;
  overlong = overlong_unknown;
  joins = joins;
  more = more;
}
