-- Which command a line is: known by its whole line, to the byte, everything else unknown. Letters stand as their bytes: 66 is B.
use Rattle.std.specs.Prelude.{ℕ, ◌+◌, ◌-◌, ◌*◌, ◌≤◌, cond, ◌&&◌, ◌≡◌, List, [], ◌∷◌, leb, eqb, take}
use Rattle.laws.specs.Within.{within}
use Rattle.line.specs.Line.{valid_line}
use Rattle.line.specs.declared.Line.{Line}
use Rattle.line.specs.declared.Command.{Command}
use Rattle.line.specs.declared.Command.TheVariants.{B, C, D, G, H, Ka, Kb, Kc, Kd, K3, K4, N, P, «V», W, X, Y, Unknown}

-- a letter alone; W without digits is film 01
unfoldable pub one_byte : ℕ → Command
one_byte a =
    cond (eqb a 66) B
    (cond (eqb a 67) C
    (cond (eqb a 68) D
    (cond (eqb a 71) G
    (cond (eqb a 72) H
    (cond (eqb a 78) N
    (cond (eqb a 80) P
    (cond (eqb a 86) «V»
    (cond (eqb a 87) (W 1)
    (cond (eqb a 88) X
    (cond (eqb a 89) Y Unknown))))))))))

-- after K: a, c, d, 3, 4
unfoldable pub after_k : ℕ → Command
after_k b =
    cond (eqb b 97) Ka
    (cond (eqb b 99) Kc
    (cond (eqb b 100) Kd
    (cond (eqb b 51) K3
    (cond (eqb b 52) K4 Unknown))))

-- K (75) and what follows it
unfoldable pub two_bytes : ℕ → ℕ → Command
two_bytes a b = cond (eqb a 75) (after_k b) Unknown

-- after Kb: a digit 0..7 (48 is the digit 0)
unfoldable pub after_kb : ℕ → Command
after_kb c = cond (within 48 55 c) (Kb (c - 48)) Unknown

-- a film is 00..31
unfoldable pub film_of : ℕ → Command
film_of n = cond (leb n 31) (W n) Unknown

-- after W: the two digits of a film
unfoldable pub after_w : ℕ → ℕ → Command
after_w b c = cond (within 48 57 b && within 48 57 c) (film_of ((b - 48) * 10 + (c - 48))) Unknown

-- Kb (75, 98) and a digit, or W (87) and two
unfoldable pub three_bytes : ℕ → ℕ → ℕ → Command
three_bytes a b c = cond (eqb a 75 && eqb b 98) (after_kb c) (cond (eqb a 87) (after_w b c) Unknown)

-- the command that these bytes are, known by all of them
unfoldable pub command_in : List ℕ → Command
command_in [] = Unknown
command_in (a ∷ []) = one_byte a
command_in (a ∷ b ∷ []) = two_bytes a b
command_in (a ∷ b ∷ c ∷ []) = three_bytes a b c
command_in (a ∷ b ∷ c ∷ d ∷ s) = Unknown

-- the command that a line is; a count past the buffer names no bytes, so that such a line is unknown too
unfoldable pub command_of : Line → Command
command_of l = cond l.overlong Unknown (cond (valid_line l) (command_in (take l.len l.bytes)) Unknown)

-- the numbers that a command carries: a rate 0..7, a film 00..31
pub record InRange (c : Command) : Type 0 where
  pub rate : (n : ℕ) → c ≡ Kb n → n ≤ 7
  pub film : (n : ℕ) → c ≡ W n → n ≤ 31
