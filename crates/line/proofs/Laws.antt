-- What others use of the definitions: which lines are valid, what numbers a command carries, and which lines are no command.
-- Assumes nothing.
use Prim.Native.Nat.{ℕ, ◌+◌, ◌-◌}
use mathlib.Core.Path.{◌≡◌, refl, sym, ap, ◌∙◌}
use mathlib.Core.Bool.{Bool, true, false, cond}
use mathlib.Core.List.{List, [], ◌∷◌}
use native.Mathlib.Omega.{arith}
use borrow.Author.Tests.{le-leb, leb-true, ltb-true}
use lib.Dec.{leb, ltb}
use Rattle.laws.proofs.Tests.{told, cond_yes}
use Rattle.laws.specs.Within.{within}
use Rattle.laws.proofs.Range.{at_most}
use Rattle.line.specs.Line.{line_length, blank, joined, valid_line}
use Rattle.line.specs.Command.{one_byte, after_k, two_bytes, after_kb, film_of, after_w, three_bytes, command_in, command_of, InRange}
use Rattle.line.specs.declared.Line.{Line}
use Rattle.line.specs.declared.Command.{Command}
use Rattle.line.specs.declared.Command.TheVariants.{B, C, D, G, H, Ka, Kb, Kc, Kd, K3, K4, N, P, «V», W, X, Y, Unknown}

-- the empty line is valid
pub blank_valid : valid_line blank ≡ true
blank_valid = refl

-- a valid line stays valid
pub joined_valid : (l : Line) (b : ℕ) → valid_line l ≡ true → valid_line (joined l b) ≡ true
unfolding joined
joined_valid l b v =
    told (ltb l.len line_length)
    (λ e. let h = ltb-true l.len line_length e in rw e (le-leb (l.len + 1) line_length (omega arith)))
    (λ e. rw e v)

-- the empty line is no command
pub blank_unknown : command_of blank ≡ Unknown
unfolding command_of command_in
blank_unknown = refl

-- an overlong line is no command
pub overlong_unknown : (l : Line) → l.overlong ≡ true → command_of l ≡ Unknown
unfolding command_of
overlong_unknown l e = cond_yes _ _ e

-- the ranges of a command's numbers, as a test
abbrev small : Command → Bool
small B = true
small C = true
small D = true
small G = true
small H = true
small Ka = true
small (Kb n) = leb n 7
small Kc = true
small Kd = true
small K3 = true
small K4 = true
small N = true
small P = true
small «V» = true
small (W n) = leb n 31
small X = true
small Y = true
small Unknown = true

ranged : (c : Command) → small c ≡ true → InRange c
ranged c h = record {
  rate = λ n e. leb-true n 7 (sym (ap small e) ∙ h);
  film = λ n e. leb-true n 31 (sym (ap small e) ∙ h);
}

-- a choice is small where its branches are
small_cond : (b : Bool) (x y : Command) → small (cond b x y) ≡ cond b (small x) (small y)
small_cond true x y = refl
small_cond false x y = refl

cond_same : (b : Bool) → cond b true true ≡ true
cond_same true = refl
cond_same false = refl

-- a command is small where its own test says so
small_if : (b : Bool) (x : Command) → (b ≡ true → small x ≡ true) → small (cond b x Unknown) ≡ true
small_if true x h = h refl
small_if false x h = refl

-- whatever a step of the decision finds is small
small_one : (a : ℕ) → small (one_byte a) ≡ true
unfolding one_byte
small_one a = simp (small_cond, cond_same)

small_k : (b : ℕ) → small (after_k b) ≡ true
unfolding after_k
small_k b = simp (small_cond, cond_same)

small_two : (a b : ℕ) → small (two_bytes a b) ≡ true
unfolding two_bytes
small_two a b = simp (small_cond, small_k, cond_same)

small_kb : (c : ℕ) → small (after_kb c) ≡ true
unfolding after_kb
small_kb c = small_if (within 48 55 c) (Kb (c - 48)) (λ e. let h = at_most 48 55 c e in le-leb (c - 48) 7 (omega arith))

small_film : (n : ℕ) → small (film_of n) ≡ true
unfolding film_of
small_film n = small_if (leb n 31) (W n) (λ e. e)

small_w : (b c : ℕ) → small (after_w b c) ≡ true
unfolding after_w
small_w b c = simp (small_cond, small_film, cond_same)

small_three : (a b c : ℕ) → small (three_bytes a b c) ≡ true
unfolding three_bytes
small_three a b c = simp (small_cond, small_kb, small_w, cond_same)

small_in : (s : List ℕ) → small (command_in s) ≡ true
unfolding command_in
small_in [] = refl
small_in (a ∷ []) = small_one a
small_in (a ∷ b ∷ []) = small_two a b
small_in (a ∷ b ∷ c ∷ []) = small_three a b c
small_in (a ∷ b ∷ c ∷ d ∷ s) = refl

small_command : (l : Line) → small (command_of l) ≡ true
unfolding command_of
small_command l = simp (small_cond, small_in, cond_same)

-- a rate is 0..7, a film 00..31
pub command_range : (l : Line) → InRange (command_of l)
command_range l = ranged (command_of l) (small_command l)
