-- Which lines are which commands, to the letter, and how a line is collected: statements only.
use Rattle.std.specs.Prelude.{ℕ, ◌+◌, ◌/◌, ◌%◌, ◌≤◌, ◌<◌, true, false, List, [], ◌∷◌, ◌++◌, ◌⊎◌, ◌≢◌, ◌≡◌, length, replicate, take}
use Rattle.line.specs.Line.{blank, joined}
use Rattle.line.specs.Command.{command_in, command_of, InRange}
use Rattle.line.specs.declared.Line.{Line}
use Rattle.line.specs.declared.Command.{Command}
use Rattle.line.specs.declared.Command.TheVariants.{B, C, D, G, H, Ka, Kb, Kc, Kd, K3, K4, N, P, «V», W, X, Y, Unknown}

-- the column 'Command': B, C, D, G, H, Ka, Kb n, Kc, Kd, K3, K4, N, P, V, Wnn, X, Y
unfoldable pub letters_of : Command → List ℕ
letters_of B = 0x42 ∷ []
letters_of C = 0x43 ∷ []
letters_of D = 0x44 ∷ []
letters_of G = 0x47 ∷ []
letters_of H = 0x48 ∷ []
letters_of Ka = 0x4B ∷ 0x61 ∷ []
letters_of (Kb n) = 0x4B ∷ 0x62 ∷ (0x30 + n) ∷ []
letters_of Kc = 0x4B ∷ 0x63 ∷ []
letters_of Kd = 0x4B ∷ 0x64 ∷ []
letters_of K3 = 0x4B ∷ 0x33 ∷ []
letters_of K4 = 0x4B ∷ 0x34 ∷ []
letters_of N = 0x4E ∷ []
letters_of P = 0x50 ∷ []
letters_of «V» = 0x56 ∷ []
letters_of (W n) = 0x57 ∷ (0x30 + n / 10) ∷ (0x30 + n % 10) ∷ []
letters_of X = 0x58 ∷ []
letters_of Y = 0x59 ∷ []
letters_of Unknown = []

-- the bytes that a line holds
abbrev pub held_in : Line → List ℕ
held_in l = take l.len l.bytes

pub record Promised : Type 0 where
  -- the empty line, which a driver keeps at first: all zero
  pub empty : blank ≡ record { bytes = replicate 64 0; len = 0; overlong = false }
  -- the letters of a command are that command, "n 0..7", "nn 00..31"
  pub known : (c : Command) → InRange c → command_in (letters_of c) ≡ c
  -- W alone is film 01
  pub bare_w : command_in (0x57 ∷ []) ≡ W 1
  -- and every other line is unknown
  pub only : (s : List ℕ) → command_in s ≢ Unknown → (s ≡ letters_of (command_in s)) ⊎ (s ≡ 0x57 ∷ [])
  -- a line is the command that all of its bytes are; an overlong one is unknown
  pub by_bytes : (l : Line) → l.len ≤ 64 → l.overlong ≡ false → command_of l ≡ command_in (held_in l)
  pub overlong : (l : Line) → l.overlong ≡ true → command_of l ≡ Unknown
  -- "joins the line, at most 64; more make the line overlong"
  pub joins : (l : Line) (b : ℕ) → length l.bytes ≡ 64 → l.len < 64 → (held_in (joined l b) ≡ held_in l ++ b ∷ []) × ((joined l b).overlong ≡ l.overlong)
  pub more : (l : Line) (b : ℕ) → 64 ≤ l.len → joined l b ≡ record { bytes = l.bytes; len = l.len; overlong = true }
