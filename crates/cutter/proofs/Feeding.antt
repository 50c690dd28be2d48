-- An input, however it is handed in: its calls say and leave what byte by byte does, to one reader or to one named in each call. Assumes nothing.
use Prim.Native.Nat.{ℕ, zero, suc, ◌-◌, ◌+◌, ◌≤◌, ◌<◌}
use mathlib.Core.Bool.{true}
use mathlib.Core.List.{List, [], ◌∷◌, ◌++◌, append-nil}
use mathlib.Core.Path.{◌≡◌, refl, sym, ap, ap₂, ◌∙◌, subst}
use native.Mathlib.Omega.{arith}
use borrow.Author.Tests.{ltb-true, ltb-false, le-leb, lt-leb, ne_eqb}
use lib.Dec.{leb, ltb, eqb}
use lib.ListN.{length, take, drop, get_or, length-append, length-drop}
use lib.Seq.{get_or-take}
use Rattle.std.specs.Prelude.{Ok}
use Rattle.laws.proofs.Tests.{told, cond_yes, cond_no}
use Rattle.refusal.specs.Answer.{Answer, unless}
use Rattle.cutter.specs.Cutter.{cutter_length, after_lf, fresh, valid_cutter, held_from, Said, invalid, nothing, ended, then_read, cut_of}
use Rattle.cutter.specs.Stream.{last_of, messages_from, messages, tail, judged, judged_all, said_by, Fed, said_to, FedTo}
use Rattle.cutter.specs.Promises.{Has, Run, Judges}
use Rattle.cutter.specs.declared.Cutter.{Cutter}
use Rattle.cutter.proofs.Holds.{Holds, holds_fresh}
use Rattle.cutter.proofs.Run.{ended_from, left_from, ended_judged, left_held, fresh_held}
use Rattle.cutter.proofs.Calls.{ended_in, call}

-- ---- a call and what follows

module _ (c : Cutter) (p t s : List ℕ) (v : valid_cutter c ≡ true) (e : s ≡ p ++ t) where
  abbrev rest : List ℕ
  rest = drop (cut_of c p).used p ++ t

  go : (cut_of c p).used - 0 ≡ (cut_of c p).used
  go = omega arith

  next_valid : valid_cutter (cut_of c p).cutter ≡ true
  next_valid = (call c p v).valid v

  next_ended : ended_in (cut_of c p).said ++ ended_from (cut_of c p).cutter rest ≡ ended_from c s
  next_ended =
      ap (λ (j : ℕ). ended_in (cut_of c p).said ++ ended_from (cut_of c p).cutter (drop j p ++ t)) (sym go)
      ∙ (call c p v).says t
      ∙ sym (ap (ended_from c) e)

  next_left : left_from (cut_of c p).cutter rest ≡ left_from c s
  next_left = ap (λ (j : ℕ). left_from (cut_of c p).cutter (drop j p ++ t)) (sym go) ∙ (call c p v).leaves t ∙ sym (ap (left_from c) e)

-- what a reader answers of 9 or a message, as judged
pub read_judged : {A : Type 0} (read : List ℕ → Answer A) (m : List ℕ) → then_read read (judged Ok m) ≡ judged read m
unfolding then_read judged unless
read_judged read m = told (leb (length m) cutter_length) (λ e. rw e) (λ e. rw e)

-- ---- a cutter that has some bytes

last_get : (b : ℕ) (s : List ℕ) → last_of b s ≡ get_or (b ∷ s) (length s) 0
unfolding last_of
last_get b [] = refl
last_get b (d ∷ s) = last_get d s

few_lf : (x : List ℕ) (c : Cutter) → length x ≤ cutter_length → c.len ≡ length x → take (length x) c.bytes ≡ x → after_lf c ≡ eqb (last_of 0 x) 10
unfolding after_lf last_of
few_lf [] c h l t = rw l
few_lf (b ∷ s) c h l t =
    let k : c.len - 1 ≡ length s = omega arith in
    cond_no _ _ (ne_eqb c.len 0 (λ z. omega arith))
    ∙ cond_yes _ _ (le-leb c.len cutter_length (omega arith))
    ∙ ap (λ (j : ℕ). eqb j 10)
    (ap (λ (j : ℕ). get_or c.bytes j 0) k
    ∙ sym (get_or-take (suc (length s)) c.bytes (length s) 0 (omega arith))
    ∙ ap (λ (y : List ℕ). get_or y (length s) 0) t
    ∙ sym (last_get b s))

many_lf : (x : List ℕ) (c : Cutter) → c.len ≡ 161 → get_or c.bytes 159 0 ≡ last_of 0 x → after_lf c ≡ eqb (last_of 0 x) 10
unfolding after_lf
many_lf x c l t =
    cond_no _ _ (ne_eqb c.len 0 (λ z. omega arith))
    ∙ cond_no _ _ (lt-leb c.len cutter_length (omega arith))
    ∙ ap (λ (j : ℕ). eqb j 10) t

module _ (x : List ℕ) (c : Cutter) (h : Has x c) where
  has_holds : Holds x c
  has_holds = record {
    long = h.long;
    small = λ k. (h.few k).0;
    big = λ k. (h.many k).0;
    lf =
        told (ltb cutter_length (length x))
        (λ e. let q = h.many (ltb-true cutter_length (length x) e) in many_lf x c q.0 q.1)
        (λ e. let k = ltb-false cutter_length (length x) e in let q = h.few k in few_lf x c k q.0 q.1);
    held = λ k. (h.few k).1;
  }

  has_valid : valid_cutter c ≡ true
  has_valid =
      told (ltb cutter_length (length x))
      (λ e. let q = (h.many (ltb-true cutter_length (length x) e)).0 in le-leb c.len (cutter_length + 1) (omega arith))
      (λ e. let k = ltb-false cutter_length (length x) e in let q = (h.few k).0 in le-leb c.len (cutter_length + 1) (omega arith))

-- ---- one reader

module _ {A : Type 0} (read : List ℕ → Answer A) where
  unfoldable read_all : List (Answer (List ℕ)) → List (Answer A)
  read_all [] = []
  read_all (m ∷ ms) = then_read read m ∷ read_all ms

  read_said : (x : Said) (ms : List (Answer (List ℕ))) → said_by read x ++ read_all ms ≡ read_all (ended_in x ++ ms)
  unfolding said_by read_all ended_in
  read_said invalid ms = refl
  read_said nothing ms = refl
  read_said (ended m) ms = refl

  read_all_lem : (ms : List (List ℕ)) → read_all (judged_all Ok ms) ≡ judged_all read ms
  unfolding read_all judged_all
  read_all_lem [] = refl
  read_all_lem (m ∷ ms) = ap₂ ◌∷◌ (read_judged read m) (read_all_lem ms)

  fed_said : {c d : Cutter} {s : List ℕ} {js : List (Answer A)} → valid_cutter c ≡ true → Fed read c s js d →
      (js ≡ read_all (ended_from c s)) × (d ≡ left_from c s)
  unfolding read_all ended_from left_from
  fed_said v (Fed.none c) = (refl, refl)
  fed_said v (Fed.handed c d p t s js ks e f g) =
      let i = fed_said (next_valid c p t s v e) g in
      let x = (cut_of c p).said in (
        f ∙ ap (λ (y : List (Answer A)). said_by read x ++ y) i.0 ∙ read_said x _ ∙ ap read_all (next_ended c p t s v e),
        i.1 ∙ next_left c p t s v e,
      )

  pub resumed : (x : List ℕ) (c : Cutter) (s : List ℕ) (js : List (Answer A)) (d : Cutter) → Has x c → Fed read c s js d →
      js ≡ judged_all read (messages_from x s)
  resumed x c s js d h f =
      (fed_said (has_valid x c h) f).0 ∙ ap read_all (ended_judged s x c (has_holds x c h)) ∙ read_all_lem (messages_from x s)

  pub answers : (s : List ℕ) (js : List (Answer A)) (d : Cutter) → Fed read fresh s js d → js ≡ judged_all read (messages s)
  answers s js d f = (fed_said refl f).0 ∙ ap read_all (ended_judged s [] fresh holds_fresh) ∙ read_all_lem (messages s)

  pub left : (s : List ℕ) (js : List (Answer A)) (d : Cutter) → Fed read fresh s js d → d ≡ held_from fresh (tail s)
  left s js d f = (fed_said refl f).1 ∙ left_held s [] fresh holds_fresh fresh_held

  pub elsewhere : (c : Cutter) (s : List ℕ) (js ks : List (Answer A)) (d e : Cutter) → valid_cutter c ≡ true →
      Fed read c s js d → Fed read c s ks e → (js ≡ ks) × (d ≡ e)
  elsewhere c s js ks d e v f g =
      let a = fed_said v f in
      let b = fed_said v g in
      (a.0 ∙ sym b.0, a.1 ∙ sym b.1)

-- ---- a reader named in each call

module _ {N A : Type 0} (read : N → List ℕ → Answer A) where
  -- each answer is that of some reader
  unfoldable Named : List (N × Answer A) → List (Answer (List ℕ)) → Type 0
  Named js [] = js ≡ []
  Named js (m ∷ ms) = (n : N) × (ks : List (N × Answer A)) × (js ≡ (n, then_read (read n) m) ∷ ks) × Named ks ms

  named_said : (n : N) (x : Said) (js : List (N × Answer A)) (ms : List (Answer (List ℕ))) → Named js ms →
      Named (said_to read n x ++ js) (ended_in x ++ ms)
  unfolding said_to ended_in Named
  named_said n invalid js ms h = h
  named_said n nothing js ms h = h
  named_said n (ended m) js ms h = (n, js, refl, h)

  named_all : (ms : List (List ℕ)) (js : List (N × Answer A)) → Named js (judged_all Ok ms) → Judges read js ms
  unfolding Named judged_all
  named_all [] js h = subst (λ (y : List (N × Answer A)). Judges read y []) (sym h) Judges.no_more
  named_all (m ∷ ms) js h =
      let n = h.0 in
      let ks = h.1 in
      let q : (n, judged (read n) m) ∷ ks ≡ js = sym (h.2 ∙ ap (λ (y : Answer A). (n, y) ∷ ks) (read_judged (read n) m)) in
      subst (λ (y : List (N × Answer A)). Judges read y (m ∷ ms)) q (Judges.next n m ks ms (named_all ms ks h.3))

  named_fed : {c d : Cutter} {s : List ℕ} {js : List (N × Answer A)} → valid_cutter c ≡ true → FedTo read c s js d →
      Named js (ended_from c s) × (d ≡ left_from c s)
  unfolding Named ended_from left_from
  named_fed v (FedTo.none c) = (refl, refl)
  named_fed v (FedTo.handed c d n p t s js ks e f g) =
      let i = named_fed (next_valid c p t s v e) g in
      let x = (cut_of c p).said in (
        subst (λ (y : List (N × Answer A)). Named y (ended_from c s)) (sym f)
            (subst (Named (said_to read n x ++ js)) (next_ended c p t s v e) (named_said n x js _ i.0)),
        i.1 ∙ next_left c p t s v e,
      )

  pub named : (s : List ℕ) (js : List (N × Answer A)) (d : Cutter) → FedTo read fresh s js d →
      Judges read js (messages s) × (d ≡ held_from fresh (tail s))
  named s js d f =
      let i = named_fed refl f in
      (named_all (messages s) js (subst (Named js) (ended_judged s [] fresh holds_fresh) i.0), i.1 ∙ left_held s [] fresh holds_fresh fresh_held)

-- ---- the whole rest with each call

module _ {A : Type 0} (read : List ℕ → Answer A) where
  empty : (c : Cutter) (s : List ℕ) → length s ≤ 0 → Run read c s
  empty c [] h = record { said = []; left = c; fed = Fed.none c }
  empty c (b ∷ s) h = absurd (omega arith)

  once : (c : Cutter) (p : List ℕ) (n : ℕ) → valid_cutter c ≡ true → 0 < length p → length p ≤ suc n →
      ((d : Cutter) (t : List ℕ) → valid_cutter d ≡ true → length t ≤ n → Run read d t) → Run read c p
  once c p n v some h go =
      let r = cut_of c p in
      let u : 0 < r.used = (call c p v).some some in
      let k : length (drop r.used p ++ []) ≤ n = simp (length-append, length-drop) (omega arith) in
      let i = go r.cutter (drop r.used p ++ []) ((call c p v).valid v) k in
      record {
        said = said_by read r.said ++ i.said;
        left = i.left;
        fed = Fed.handed c i.left p [] p i.said (said_by read r.said ++ i.said) (sym (append-nil p)) refl i.fed;
      }

  run : (n : ℕ) (c : Cutter) (s : List ℕ) → valid_cutter c ≡ true → length s ≤ n → Run read c s
  run zero c s v h = empty c s h
  run (suc n) c s v h = told (ltb 0 (length s)) (λ e. once c s n v (ltb-true _ _ e) h (run n)) (λ e. empty c s (ltb-false _ _ e))

  pub runs : (c : Cutter) (s : List ℕ) → valid_cutter c ≡ true → Run read c s
  runs c s v = run (length s) c s v (omega arith)
