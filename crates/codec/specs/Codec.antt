-- A field of a message: how many bytes it takes, which values may be sent, how one is written and else spelt, and what a reader finds.
use Rattle.std.specs.Prelude.{ℕ, zero, suc, ◌+◌, List, [], ◌∷◌, ◌++◌, map, Bool, false, ◌&&◌, cond, length, take, drop, get_or, replicate, leb, eqb, None, Option, Some}
use Rattle.laws.specs.Every.{every}
use Rattle.digits.specs.Digits.{digits, read_field}

-- what a reader finds: the value, or the first wrong field
pub data Got (A : Type 0) : Type 0 where
  got : A → Got A
  wrong : ℕ → Got A

pub record Codec (A : Type 0) : Type 0 where
  pub width : ℕ
  -- the lowest field out of range, 0 where the value may be sent
  pub lowest : A → ℕ
  pub print : A → List ℕ
  -- the bytes that are read as the value besides those that are written
  pub also : A → List (List ℕ)
  pub parse : List ℕ → Got A

-- how a value is spelt: as it is written, and as it is read besides
abbrev pub spellings : {A : Type 0} → Codec A → A → List (List ℕ)
spellings c a = c.print a ∷ c.also a

-- the spellings of each of them
abbrev pub all_spelt : {A : Type 0} → Codec A → List A → List (List ℕ)
all_spelt c [] = []
all_spelt c (a ∷ l) = spellings c a ++ all_spelt c l

-- each of the first before each of the second
abbrev pub each : List (List ℕ) → List (List ℕ) → List (List ℕ)
each [] ts = []
each (s ∷ ss) ts = map (λ t. s ++ t) ts ++ each ss ts

-- the value, where the test holds; else field i is wrong
unfoldable pub passed : {A : Type 0} → Bool → ℕ → A → Got A
passed ok i a = cond ok (got a) (wrong i)

-- field i, where the test fails
unfoldable pub failing : Bool → ℕ → ℕ
failing ok i = cond ok 0 i

-- the first of two that is not 0
unfoldable pub first : ℕ → ℕ → ℕ
first zero j = j
first (suc i) j = suc i

-- the lowest field or item out of range, as the code answers it: 0 is none
unfoldable pub lowest_named : ℕ → Option ℕ
lowest_named zero = None
lowest_named (suc i) = Some (suc i)

unfoldable pub both : {A B : Type 0} → Got A → Got B → Got (A × B)
both (wrong i) q = wrong i
both (got a) (wrong j) = wrong j
both (got a) (got b) = got (a, b)

unfoldable pub mapped : {A B : Type 0} → (A → B) → Got A → Got B
mapped f (wrong i) = wrong i
mapped f (got a) = got (f a)

unfoldable pub chained : {A B : Type 0} → (A → Got B) → Got A → Got B
chained f (wrong i) = wrong i
chained f (got a) = f a

-- what a reader of numbers says of field i
unfoldable pub field_says : ℕ → Option ℕ → Got ℕ
field_says i (Some n) = got n
field_says i None = wrong i

-- field i, a number of at most top as w digits
abbrev pub number : ℕ → ℕ → ℕ → ℕ → ℕ → Codec ℕ
number i b off w top = record {
  width = w;
  lowest = λ n. failing (leb n top) i;
  print = λ n. digits b off w n;
  also = λ n. [];
  parse = λ s. field_says i (read_field b off top s);
}

-- the bytes that a text holds: 20 to 7E hex
abbrev pub printable : List ℕ → Bool
printable s = every (λ x. leb 32 x && leb x 126) s

-- a text of n bytes; one of another length is out of range
unfoldable pub text_ok : ℕ → List ℕ → Bool
text_ok n s = eqb (length s) n && printable s

-- field i, a text of w bytes
abbrev pub text : ℕ → ℕ → Codec (List ℕ)
text i w = record {
  width = w;
  lowest = λ s. failing (text_ok w s) i;
  print = λ s. s;
  also = λ s. [];
  parse = λ s. passed (printable s) i s;
}

-- a text over the whole of an item; one of another length is not written
abbrev pub over_whole : List ℕ → List ℕ → List ℕ
over_whole item s = cond (eqb (length s) (length item)) s item

-- a text as an item of n bytes: zeros where it has another length
abbrev pub filled : ℕ → List ℕ → List ℕ
filled n s = over_whole (replicate n 0) s

-- field i, one byte that passes a test
abbrev pub letter : ℕ → (ℕ → Bool) → Codec ℕ
letter i ok = record {
  width = 1;
  lowest = λ x. failing (ok x) i;
  print = λ x. x ∷ [];
  also = λ x. [];
  parse = λ s. passed (ok (get_or s 0 0)) i (get_or s 0 0);
}

-- s begins with t
abbrev pub starts_with : ℕ → List ℕ → Bool
starts_with t [] = false
starts_with t (x ∷ s) = eqb x t

-- a tag before it, which counts to field i
abbrev pub tagged : {A : Type 0} → ℕ → ℕ → Codec A → Codec A
tagged t i c = record {
  width = suc c.width;
  lowest = c.lowest;
  print = λ a. t ∷ c.print a;
  also = λ a. map (λ s. t ∷ s) (c.also a);
  parse = λ s. cond (starts_with t s) (c.parse (drop 1 s)) (wrong i);
}

-- one after the other: spelt otherwise where either is, or both
infixr 60 ◌⊗◌
abbrev pub ◌⊗◌ : {A B : Type 0} → Codec A → Codec B → Codec (A × B)
c ⊗ d = record {
  width = c.width + d.width;
  lowest = λ p. first (c.lowest p.0) (d.lowest p.1);
  print = λ p. c.print p.0 ++ d.print p.1;
  also = λ p. map (λ t. c.print p.0 ++ t) (d.also p.1) ++ each (c.also p.0) (spellings d p.1);
  parse = λ s. both (c.parse (take c.width s)) (d.parse (drop c.width s));
}

-- the same bytes for another type of value
abbrev pub via_iso : {A B : Type 0} → (A → B) → (B → A) → Codec A → Codec B
via_iso f g c = record {
  width = c.width;
  lowest = λ b. c.lowest (g b);
  print = λ b. c.print (g b);
  also = λ b. c.also (g b);
  parse = λ s. mapped f (c.parse s);
}

-- field i, a value that is sent as its code: enc gives the code, dec takes it back or refuses, and more are the other codes that it takes for the value
abbrev pub through : {A B : Type 0} → ℕ → (B → Bool) → (B → A) → (B → List A) → (A → Got B) → Codec A → Codec B
through i ok enc more dec c = record {
  width = c.width;
  lowest = λ b. failing (ok b) i;
  print = λ b. c.print (enc b);
  also = λ b. c.also (enc b) ++ all_spelt c (more b);
  parse = λ s. chained dec (c.parse s);
}

-- ---- what the code's readers answer

-- a tag, and what is read behind it
unfoldable pub read_tagged : ℕ → (List ℕ → Option ℕ) → List ℕ → Option ℕ
read_tagged t read s = cond (starts_with t s) (read (drop 1 s)) None

-- a text behind tags
unfoldable pub text_behind : List ℕ → List ℕ → Bool
text_behind [] s = printable s
text_behind (t ∷ ts) s = starts_with t s && text_behind ts (drop 1 s)

-- bytes of exactly w; of another number they are no value
unfoldable pub read_whole : ℕ → (List ℕ → Option ℕ) → List ℕ → Option ℕ
read_whole w read s = cond (eqb (length s) w) (read s) None

-- the same of a codec: of another number than it takes, field i, its first, is wrong
unfoldable pub parsed : {A : Type 0} → Codec A → ℕ → List ℕ → Got A
parsed c i s = cond (eqb (length s) c.width) (c.parse s) (wrong i)
