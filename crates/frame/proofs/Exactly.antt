-- A reader accepts exactly the spellings of sendable contents, each under its own checksum: once, for every exact codec. Assumes nothing.
use Prim.Native.Nat.{ℕ, ◌+◌, ◌-◌, ◌≤◌, ◌<◌}
use mathlib.Core.List.{List, [], ◌∷◌, ◌++◌, map}
use mathlib.Core.Bool.{Bool, true, false}
use mathlib.Core.Path.{◌≡◌, refl, sym, ap, ap₂, ◌∙◌, subst}
use mathlib.Core.Logic.{◌↔◌, inl}
use native.Mathlib.Nat.{add-zero}
use native.Mathlib.Omega.{arith}
use borrow.Author.Tests.{eqb-true, eq-eqb}
use lib.ListN.{length, take, drop, get_or, length-append, length-take, length-drop, take-append-drop}
use lib.Seq.{take_at, get_or-drop, get_or-append-add, drop-drop}
use lib.Dec.{eqb}
use Rattle.std.specs.Prelude.{Err, Ok}
use Rattle.laws.specs.Member.{◌∈◌}
use Rattle.laws.proofs.MemberLaws.{as_member, the_only, map_in, in_map}
use Rattle.laws.proofs.Tests.{and_left, and_right, and_both, told, never}
use Rattle.laws.proofs.ListLaws.{two_is}
use Rattle.refusal.specs.Answer.{Answer, Verdict}
use Rattle.codec.specs.Codec.{Got, got, wrong, Codec, spellings}
use Rattle.codec.proofs.Exact.{Exact, spelt_read}
use Rattle.frame.specs.Frame.{sum_of, ending, ending_width, framed, is_ended, sums, opening}
use Rattle.frame.specs.Message.{found, afterwards, read_of, message_of, messages_of}

-- ---- what the small words say

afterwards_is : {A : Type 0} (v : Verdict) (k : Answer A) (a : A) → afterwards v k ≡ Ok a → (v ≡ Ok tt) × (k ≡ Ok a)
unfolding afterwards
afterwards_is (Ok tt) k a e = (refl, e)
afterwards_is (Err r) k a e = never (cc)

found_is : {A : Type 0} (q : Got A) (a : A) → found q ≡ Ok a → q ≡ got a
unfolding found
found_is (got b) a e = cc
found_is (wrong i) a e = never (cc)

-- a message opens where its length, its end and its checksum are right
pub record Opens (checksum : Bool) (w : ℕ) (m : List ℕ) : Type 0 where
  pub long : length m ≡ w + ending_width checksum
  pub ended : is_ended m ≡ true
  pub summed : checksum ≡ true → sums w m ≡ true

pub opens : (checksum : Bool) (w : ℕ) (m : List ℕ) → opening checksum w m ≡ Ok tt → Opens checksum w m
unfolding opening
opens checksum w m e =
    told (eqb (length m) (w + ending_width checksum))
    (λ l.
    told (is_ended m)
    (λ n. record {
      long = eqb-true _ _ l;
      ended = n;
      summed = λ on. told (sums w m) (λ s. s) (λ s. never (cc (rw (l, n, on, s) at e)));
    })
    (λ n. never (cc (rw (l, n) at e))))
    (λ l. never (cc (rw l at e)))

pub opened : (checksum : Bool) (w : ℕ) (m : List ℕ) → Opens checksum w m → opening checksum w m ≡ Ok tt
unfolding opening
opened true w m o = rw (eq-eqb _ _ o.long, o.ended, o.summed refl)
opened false w m o = rw (eq-eqb _ _ o.long, o.ended)

-- ---- the ending of a message that opens is the ending of its contents

four_is : (s : List ℕ) → length s ≡ 4 → s ≡ get_or s 0 0 ∷ get_or s 1 0 ∷ drop 2 s
four_is [] l = absurd (omega arith)
four_is (a ∷ []) l = absurd (omega arith)
four_is (a ∷ b ∷ s) l = refl

at : (m : List ℕ) (w k j v : ℕ) → w + k ≡ j → eqb (get_or m j 0) v ≡ true → get_or (drop w m) k 0 ≡ v
at m w k j v e h = get_or-drop w m k 0 ∙ ap (λ (x : ℕ). get_or m x 0) e ∙ eqb-true (get_or m j 0) v h

-- LF CR, k bytes behind the contents
ended_at : (m : List ℕ) (w k : ℕ) → length m ≡ w + (k + 2) → is_ended m ≡ true → drop (w + k) m ≡ 10 ∷ 13 ∷ []
unfolding is_ended
ended_at m w k l e =
    let p = and_left (eqb (get_or m (length m - 2) 0) 10) (eqb (get_or m (length m - 1) 0) 13) e in
    let q = and_right (eqb (get_or m (length m - 2) 0) 10) (eqb (get_or m (length m - 1) 0) 13) e in
    two_is (drop (w + k) m) (simp length-drop (omega arith))
    ∙ ap₂ (λ (x y : ℕ). x ∷ y ∷ []) (at m (w + k) 0 (length m - 2) 10 (omega arith) p) (at m (w + k) 1 (length m - 1) 13 (omega arith) q)

pub ending_is : (checksum : Bool) (w : ℕ) (m : List ℕ) → Opens checksum w m → drop w m ≡ ending checksum (take w m)
unfolding sums ending
ending_is false w m o = ap (λ (x : ℕ). drop x m) (sym (add-zero w)) ∙ ended_at m w 0 o.long o.ended
ending_is true w m o =
    let s = sum_of (take w m) in
    let p = and_left (eqb (get_or m w 0) s.high) (eqb (get_or m (w + 1) 0) s.low) (o.summed refl) in
    let q = and_right (eqb (get_or m w 0) s.high) (eqb (get_or m (w + 1) 0) s.low) (o.summed refl) in
    let n : length (drop w m) ≡ 4 = simp length-drop (omega (arith, o.long)) in
    four_is (drop w m) n
    ∙ rw (
      at m w 0 w s.high (omega arith) p,
      at m w 1 (w + 1) s.low (omega arith) q,
      drop-drop 2 w m,
      ended_at m w 2 o.long o.ended,
    )

-- ---- and what is framed opens

pub ending_long : (checksum : Bool) (s : List ℕ) → length (ending checksum s) ≡ ending_width checksum
unfolding ending
ending_long true s = refl
ending_long false s = refl

-- and is short, and never empty
pub ending_short : (checksum : Bool) → ending_width checksum ≤ ending_width true
ending_short true = omega arith
ending_short false = omega arith

pub ending_some : (checksum : Bool) → 0 < ending_width checksum
ending_some true = omega arith
ending_some false = omega arith

test_at : (b t : List ℕ) (w k j v : ℕ) → length b ≡ w → w + k ≡ j → get_or t k 0 ≡ v → eqb (get_or (b ++ t) j 0) v ≡ true
test_at b t w k j v l e h =
    eq-eqb (get_or (b ++ t) j 0) v (ap (λ (x : ℕ). get_or (b ++ t) x 0) (sym e ∙ ap (λ (x : ℕ). x + k) (sym l)) ∙ get_or-append-add b t k 0 ∙ h)

pub framed_long : (checksum : Bool) (w : ℕ) (b : List ℕ) → length b ≡ w → length (framed checksum b) ≡ w + ending_width checksum
framed_long checksum w b l = length-append b (ending checksum b) ∙ ap₂ ◌+◌ l (ending_long checksum b)

pub framed_ends : (checksum : Bool) (w : ℕ) (b : List ℕ) → length b ≡ w → is_ended (framed checksum b) ≡ true
unfolding is_ended ending
framed_ends true w b l =
    let n = framed_long true w b l in
    and_both
    (test_at b (ending true b) w 2 (length (framed true b) - 2) 10 l (omega arith) refl)
    (test_at b (ending true b) w 3 (length (framed true b) - 1) 13 l (omega arith) refl)
framed_ends false w b l =
    let n = framed_long false w b l in
    and_both
    (test_at b (ending false b) w 0 (length (framed false b) - 2) 10 l (omega arith) refl)
    (test_at b (ending false b) w 1 (length (framed false b) - 1) 13 l (omega arith) refl)

framed_sums : (w : ℕ) (b : List ℕ) → length b ≡ w → sums w (framed true b) ≡ true
unfolding sums ending
framed_sums w b l =
    rw (take_at b (ending true b) w l)
    (and_both
    (test_at b (ending true b) w 0 w (sum_of b).high l (omega arith) refl)
    (test_at b (ending true b) w 1 (w + 1) (sum_of b).low l (omega arith) refl))

pub framed_opens : (checksum : Bool) (w : ℕ) (b : List ℕ) → length b ≡ w → Opens checksum w (framed checksum b)
framed_opens checksum w b l = record {
  long = framed_long checksum w b l;
  ended = framed_ends checksum w b l;
  summed = λ on. subst (λ (c : Bool). sums w (framed c b) ≡ true) (sym on) (framed_sums w b l);
}

-- ---- the theorem

module _ {A : Type 0} (c : Codec A) (x : Exact c) (checksum : Bool) where
  -- reading a spelling of sendable contents gives them back
  reads_spelt : (a : A) (s : List ℕ) → c.lowest a ≡ 0 → s ∈ spellings c a → read_of c checksum (framed checksum s) ≡ Ok a
  unfolding read_of afterwards found
  reads_spelt a s h k =
      let r = spelt_read x a s h k in
      rw (opened checksum c.width (framed checksum s) (framed_opens checksum c.width s r.0), take_at s (ending checksum s) c.width r.0, r.1)

  -- so does reading what was written
  pub reads_written : (a : A) → c.lowest a ≡ 0 → read_of c checksum (message_of c checksum a) ≡ Ok a
  reads_written a h = reads_spelt a (c.print a) h (inl refl)

  -- what is read is a spelling
  pub reads_only : (m : List ℕ) (a : A) → read_of c checksum m ≡ Ok a → (c.lowest a ≡ 0) × (m ∈ messages_of c checksum a)
  unfolding read_of
  reads_only m a e =
      let p = afterwards_is (opening checksum c.width m) _ a e in
      let o = opens checksum c.width m p.0 in
      let t = take c.width m in
      let s = x.sound t a (simp length-take (omega (arith, o.long))) (found_is (c.parse t) a p.1) in (
        s.0,
        as_member (messages_of c checksum a) (sym (take-append-drop c.width m) ∙ ap (λ (r : List ℕ). t ++ r) (ending_is checksum c.width m o))
            (map_in (framed checksum) (spellings c a) t s.1),
      )

  -- accepted with these contents exactly where they are sendable and the message is one of their spellings, under its own checksum
  pub exactly : (m : List ℕ) (a : A) → (read_of c checksum m ≡ Ok a) ↔ ((c.lowest a ≡ 0) × (m ∈ messages_of c checksum a))
  exactly m a = (reads_only m a, λ h. let s = in_map (framed checksum) (spellings c a) h.1 in ap (read_of c checksum) s.2 ∙ reads_spelt a s.0 h.0 s.1)

  -- no two contents share a message
  pub one_contents : (m : List ℕ) (a b : A) → c.lowest a ≡ 0 → c.lowest b ≡ 0 → m ∈ messages_of c checksum a → m ∈ messages_of c checksum b → a ≡ b
  one_contents m a b h k e f =
      let p : Ok a ≡ Ok b = sym ((exactly m a).1 (h, e)) ∙ (exactly m b).1 (k, f) in
      cc

  -- contents that are spelt in one way have the writer's message only
  pub one_message : (m : List ℕ) (a : A) → c.also a ≡ [] → m ∈ messages_of c checksum a → m ≡ message_of c checksum a
  one_message m a e k = the_only (subst (λ (l : List (List ℕ)). m ∈ map (framed checksum) (c.print a ∷ l)) e k)

  -- and each spelling has the message's length
  pub messages_long : (m : List ℕ) (a : A) → c.lowest a ≡ 0 → m ∈ messages_of c checksum a → length m ≡ c.width + ending_width checksum
  messages_long m a h k =
      let s = in_map (framed checksum) (spellings c a) k in
      ap length s.2 ∙ framed_long checksum c.width s.0 (spelt_read x a s.0 h s.1).0
