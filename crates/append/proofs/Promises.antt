-- What OC, OD and OH do is what is promised: each shape of a line by computing it. Assumes nothing.
use Prim.Native.Nat.{ℕ, ◌≤◌}
use mathlib.Core.Bool.{true, false, false≢true}
use mathlib.Core.List.{List, [], ◌∷◌}
use mathlib.Core.Logic.{◌≢◌, ◌↔◌, ◌⊎◌, inl, inr}
use mathlib.Core.Path.{◌≡◌, refl, sym, ap, subst, ◌∙◌}
use native.Mathlib.Omega.{arith}
use borrow.Author.Tests.{eqb-true, eqb-false, le-leb, leb-true, leb-false}
use lib.Dec.{leb, eqb}
use lib.ListN.{length, take}
use Rattle.std.specs.Prelude.{Option, None, Some}
use Rattle.laws.specs.Every.{every}
use Rattle.laws.proofs.Tests.{told, never, cond_yes, cond_no, and_left}
use Rattle.laws.proofs.OverLaws.{take_over}
use Rattle.note.specs.Note.{longest_note, note_ok}
use Rattle.line.specs.Line.{line_length, valid_line}
use Rattle.line.specs.Command.{two_bytes, three_bytes, command_in, command_of}
use Rattle.line.specs.declared.Line.{Line}
use Rattle.line.specs.declared.Command.{Command}
use Rattle.line.specs.declared.Command.TheVariants.{Unknown}
use Rattle.append.specs.Append.{appended, zeros, empty, holding, valid_note, set_by, after_o, noted_by, note_after}
use Rattle.append.specs.declared.Note.{Note}
use Rattle.append.specs.Promises.{Asks, opens, sets, closes, Ours, Promised}
use Rattle.append.proofs.Laws.{zeros_long, valid_none, valid_by, invalid_closed, invalid_past, set_does, set_closed, set_not, by_short, by_other, by_set, by_more, by_two}

-- ---- the bytes

at_od : (n : Note) (s : List ℕ) → noted_by n (79 ∷ 68 ∷ s) ≡ set_by n s
at_od n s = by_set n (79 ∷ 68 ∷ s) (omega arith) refl refl

asked : (n : Note) (s : List ℕ) (m : Note) → Asks n s m → noted_by n s ≡ Some m
unfolding noted_by after_o
asked n _ _ opens = refl
asked n _ _ (sets s o h) = at_od n s ∙ set_does n s o h
asked n _ _ closes = refl

-- one of the three, or left
abbrev Only : Note → List ℕ → Type 0
Only n s = (noted_by n s ≡ None) ⊎ ((m : Note) × Asks n s m × (noted_by n s ≡ Some m))

only_od : (n : Note) (s : List ℕ) → Only n (79 ∷ 68 ∷ s)
only_od n s =
    told n.opened
    (λ o.
    told (note_ok s)
    (λ h. inr (holding s, sets s o h, at_od n s ∙ set_does n s o h))
    (λ h. inl (at_od n s ∙ set_not n s h)))
    (λ o. inl (at_od n s ∙ set_closed n s o))

neither : (b : ℕ) → eqb b 67 ≡ false → eqb b 72 ≡ false → after_o b ≡ None
unfolding after_o
neither b e f = cond_no _ _ e ∙ cond_no _ _ f

only_two : (n : Note) (b : ℕ) → b ≢ 68 → Only n (79 ∷ b ∷ [])
only_two n b d =
    told (eqb b 67)
    (λ e. subst (λ (x : ℕ). Only n (79 ∷ x ∷ [])) (sym (eqb-true b 67 e)) (inr (empty true, opens, asked n _ _ opens)))
    (λ e.
    told (eqb b 72)
    (λ f. subst (λ (x : ℕ). Only n (79 ∷ x ∷ [])) (sym (eqb-true b 72 f)) (inr (empty false, closes, asked n _ _ closes)))
    (λ f. inl (by_two n (79 ∷ b ∷ []) refl refl d ∙ neither b e f)))

only_more : (n : Note) (a b : ℕ) (s : List ℕ) → Only n (a ∷ b ∷ s)
only_more n a b s =
    told (eqb a 79)
    (λ e.
    subst (λ (x : ℕ). Only n (x ∷ b ∷ s)) (sym (eqb-true a 79 e))
    (told (eqb b 68)
    (λ f. subst (λ (x : ℕ). Only n (79 ∷ x ∷ s)) (sym (eqb-true b 68 f)) (only_od n s))
    (λ f. short s (eqb-false b 68 f))))
    (λ e. inl (by_other n (a ∷ b ∷ s) (eqb-false a 79 e)))
  where
    short : (t : List ℕ) → b ≢ 68 → Only n (79 ∷ b ∷ t)
    short [] d = only_two n b d
    short (c ∷ t) d = inl (by_more n (79 ∷ b ∷ c ∷ t) (λ h. omega arith) d)

only : (n : Note) (s : List ℕ) → Only n s
only n [] = inl (by_short n [] (omega arith))
only n (a ∷ []) = inl (by_short n (a ∷ []) (omega arith))
only n (a ∷ b ∷ s) = only_more n a b s

-- ---- what is appended

note_short : (s : List ℕ) → note_ok s ≡ true → length s ≤ longest_note
note_short s h = leb-true (length s) longest_note (and_left (leb (length s) longest_note) (every (λ x. leb 32 x) s) h)

set_whole : (s : List ℕ) → note_ok s ≡ true → appended (holding s) ≡ s
set_whole s h = take_over zeros s (length s) refl (omega (arith, zeros_long, note_short s h))

told_ours : (n : Note) → valid_note n ≡ true → Ours n
unfolding every
told_ours n v =
    told (eqb n.len 0)
    (λ e.
    let z = eqb-true n.len 0 e in
    let none : appended n ≡ [] = ap (λ (k : ℕ). take k n.bytes) z in
    record { count = omega arith; bytes = ap note_ok none; closed = λ o. z })
    (λ e.
    let z = eqb-false n.len 0 e in
    told n.opened
    (λ o.
    told (leb n.len longest_note)
    (λ h.
    let k = leb-true n.len longest_note h in
    record { count = k; bytes = sym (valid_by n z o k) ∙ v; closed = λ c. absurd (false≢true (sym c ∙ o)) })
    (λ h. absurd (false≢true (sym (invalid_past n z o (leb-false n.len longest_note h)) ∙ v))))
    (λ o. absurd (false≢true (sym (invalid_closed n z o) ∙ v))))

made_ours : (n : Note) → Ours n → valid_note n ≡ true
made_ours n o =
    told (eqb n.len 0)
    (λ e. valid_none n (eqb-true n.len 0 e))
    (λ e.
    let z = eqb-false n.len 0 e in
    told n.opened (λ p. valid_by n z p o.count ∙ o.bytes) (λ p. absurd (z (o.closed p))))

pub valid_when : (n : Note) → (valid_note n ≡ true) ↔ Ours n
valid_when n = (told_ours n, made_ours n)

-- so it is at most 60 bytes
pub appended_short : (n : Note) → valid_note n ≡ true → length (appended n) ≤ longest_note
appended_short n v = note_short (appended n) (told_ours n v).bytes

pub holding_valid : (s : List ℕ) → note_ok s ≡ true → valid_note (holding s) ≡ true
holding_valid s h =
    told (eqb (length s) 0)
    (λ e. valid_none (holding s) (eqb-true (length s) 0 e))
    (λ e. valid_by (holding s) (eqb-false (length s) 0 e) refl (note_short s h) ∙ ap note_ok (set_whole s h) ∙ h)

-- ---- the line

asks_valid : (n : Note) (s : List ℕ) (m : Note) → Asks n s m → valid_note m ≡ true
asks_valid n _ _ opens = valid_none (empty true) refl
asks_valid n _ _ (sets s o h) = holding_valid s h
asks_valid n _ _ closes = valid_none (empty false) refl

by_valid : (n m : Note) (s : List ℕ) → noted_by n s ≡ Some m → valid_note m ≡ true
by_valid n m s e = go (only n s)
  where
    go : Only n s → valid_note m ≡ true
    go (inl f) = never (cc)
    go (inr p) = let q : p.0 ≡ m = cc in ap valid_note (sym q) ∙ asks_valid n s p.0 p.1

pub stays_valid : (n m : Note) (l : Line) → note_after n l ≡ Some m → valid_note m ≡ true
unfolding note_after
stays_valid n m l e =
    told l.overlong
    (λ f. let q : note_after n l ≡ None = cond_yes _ _ f in never (cc))
    (λ f.
    told (valid_line l)
    (λ v. by_valid n m (take l.len l.bytes) (sym (cond_no _ _ f ∙ cond_yes _ _ v) ∙ e))
    (λ v. let q : note_after n l ≡ None = cond_no _ _ f ∙ cond_no _ _ v in never (cc)))

-- the table of letters has no command that begins with O
no_letter : (n : Note) (s : List ℕ) (m : Note) → Asks n s m → command_in s ≡ Unknown
unfolding command_in two_bytes three_bytes
no_letter n _ _ opens = refl
no_letter n _ _ (sets [] o h) = refl
no_letter n _ _ (sets (a ∷ []) o h) = refl
no_letter n _ _ (sets (a ∷ b ∷ s) o h) = refl
no_letter n _ _ closes = refl

-- a line leaves the note, or sets it and is none of the table's
abbrev pub Either : Note → Line → Type 0
Either n l = (note_after n l ≡ None) ⊎ ((m : Note) × (note_after n l ≡ Some m) × (command_of l ≡ Unknown))

pub either : (n : Note) (l : Line) → Either n l
unfolding note_after command_of
either n l =
    told l.overlong
    (λ e. inl (cond_yes _ _ e))
    (λ e.
    told (valid_line l)
    (λ f. go (cond_no _ _ e ∙ cond_yes _ _ f) (cond_no _ _ e ∙ cond_yes _ _ f) (only n (take l.len l.bytes)))
    (λ f. inl (cond_no _ _ e ∙ cond_no _ _ f)))
  where
    go : {a : Option Note} {c : Command} → a ≡ noted_by n (take l.len l.bytes) → c ≡ command_in (take l.len l.bytes) →
        Only n (take l.len l.bytes) → (a ≡ None) ⊎ ((m : Note) × (a ≡ Some m) × (c ≡ Unknown))
    go p q (inl e) = inl (p ∙ e)
    go p q (inr k) = inr (k.0, p ∙ k.2, q ∙ no_letter n _ k.0 k.1)

pub no_row : (n : Note) (l : Line) → command_of l ≢ Unknown → note_after n l ≡ None
no_row n l u = go (either n l)
  where
    go : Either n l → note_after n l ≡ None
    go (inl e) = e
    go (inr p) = absurd (u p.2)

-- what sets the note has no row
pub did_unknown : (n : Note) (l : Line) (m : Note) → note_after n l ≡ Some m → command_of l ≡ Unknown
did_unknown n l m e = go (either n l)
  where
    go : Either n l → command_of l ≡ Unknown
    go (inl f) = never (cc)
    go (inr p) = p.2

pub promised : Promised
unfolding note_after
promised = record {
  asked = asked;
  only = only;
  not_open = λ n s o. at_od n s ∙ set_closed n s o;
  not_a_note = λ n s h. at_od n s ∙ set_not n s h;
  set_whole = set_whole;
  empty_none = λ o. refl;
  by_bytes = λ n l h e. cond_no _ _ e ∙ cond_yes _ _ (le-leb l.len line_length h);
  overlong = λ n l e. cond_yes _ _ e;
  no_row = no_row;
  valid_when = valid_when;
  stays_valid = stays_valid;
}
