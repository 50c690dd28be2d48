-- A call refuses with 16 a state that is none of ours, with 2 a text that is longer than the lent memory, and else prints: one law for `tell` and `count`.
-- Assumes nothing.
use Prim.Native.Nat.{ℕ, ◌≤◌, ◌<◌}
use mathlib.Core.Bool.{Bool, true, false, cond}
use mathlib.Core.List.{List}
use mathlib.Core.Logic.{◌↔◌, ◌⊎◌, inl, inr}
use mathlib.Core.Path.{◌≡◌, refl, sym, ap, ◌∙◌}
use native.Mathlib.Omega.{arith}
use borrow.Author.Tests.{leb-true, leb-false}
use lib.Dec.{leb}
use lib.ListN.{length}
use Rattle.std.specs.Prelude.{Err, Ok}
use Rattle.laws.specs.Over.{over}
use Rattle.laws.proofs.Tests.{cond_yes, cond_no, told, by, never}
use Rattle.refusal.specs.Answer.{Answer}
use Rattle.refusal.specs.declared.Refusal.{Refusal}
use Rattle.refusal.specs.declared.Refusal.TheVariants.{Room, State}
use Rattle.line.specs.Line.{valid_line}
use Rattle.port.specs.Port.{valid_port}
use Rattle.capture.specs.declared.Event.{Event}
use Rattle.printed.specs.Printed.{printed_in}
use Rattle.telling.specs.Telling.{valid_run, tell_of, handed, told_of}
use Rattle.telling.specs.declared.Run.{Run}
use Rattle.telling.specs.declared.Told.{Told}
use Rattle.printed.proofs.Laws.{prints_short, prints_whole}
use Rattle.telling.proofs.Laws.{Ours, ours, is_ours}

-- ---- a run that is none of ours

abbrev Foreign : Run → Type 0
Foreign r = (valid_port r.port ≡ false) ⊎ (valid_line r.line ≡ false) ⊎ (100000 < r.slots)

pub foreign : (r : Run) → valid_run r ≡ false → Foreign r
foreign r n =
    told (valid_port r.port)
    (λ p.
    told (valid_line r.line)
    (λ l.
    told (leb r.slots 100000)
    (λ s. never (cc (is_ours r (record { port = p; line = l; slots = leb-true _ _ s }))))
    (λ s. inr (inr (leb-false _ _ s))))
    (λ l. inr (inl l)))
    (λ p. inl p)

not_both : (r : Run) → Ours r → Foreign r → ⊥
not_both r o (inl p) = never (cc o.port)
not_both r o (inr (inl l)) = never (cc o.line)
not_both r o (inr (inr s)) = let h = o.slots in omega arith

pub is_foreign : (r : Run) → Foreign r → valid_run r ≡ false
is_foreign r f = told (valid_run r) (λ v. absurd (not_both r (ours r v) f)) (λ n. n)

-- ---- a text, of a state that is ours or not

module _ (valid : Bool) (text out : List ℕ) where
  -- what the call answers, and what it leaves in the lent memory
  abbrev pub wrote_in : Answer ℕ
  wrote_in = cond valid (printed_in text out) (Err State)

  abbrev left_in : List ℕ
  left_in = cond valid (over out 0 text) out

  pub call_done : valid ≡ true → length text ≤ length out → (wrote_in ≡ Ok (length text)) × (left_in ≡ over out 0 text)
  call_done v h = (cond_yes _ _ v ∙ sym (prints_whole text out refl h refl).answers, cond_yes _ _ v)

  -- which of the three it is
  by_call : {C : Type 0} → (valid ≡ false → wrote_in ≡ Err State → C) →
      (valid ≡ true → length out < length text → wrote_in ≡ Err (Room (length text)) → C) →
      (valid ≡ true → length text ≤ length out → wrote_in ≡ Ok (length text) → C) → C
  by_call f g h =
      told valid
      (λ v.
      told (leb (length text) (length out))
      (λ y. let k = leb-true _ _ y in h v k (call_done v k).0)
      (λ n. let k = leb-false _ _ n in g v k (cond_yes _ _ v ∙ sym (prints_short text out refl k).answers)))
      (λ n. f n (cond_no _ _ n))

  pub call_16 : (wrote_in ≡ Err State) ↔ (valid ≡ false)
  call_16 = (
    λ e. by_call (λ n a. n) (λ v k a. never (cc)) (λ v k a. never (cc)),
    λ n. cond_no _ _ n,
  )

  pub call_2 : (n : ℕ) → (wrote_in ≡ Err (Room n)) ↔ ((valid ≡ true) × (length out < length text) × (n ≡ length text))
  call_2 n = (
    λ e. by_call (λ f a. never (cc)) (λ v k a. (v, k, cc)) (λ v k a. never (cc)),
    λ h. cond_yes _ _ h.0 ∙ sym (prints_short text out (sym h.2) (omega (arith, h.1, h.2))).answers,
  )

  pub call_same : (x : Refusal) → wrote_in ≡ Err x → left_in ≡ out
  call_same x e =
      by_call (λ n a. cond_no _ _ n) (λ v k a. cond_yes _ _ v ∙ sym (prints_short text out refl k).leaves) (λ v k a. never (cc))

-- ---- an event

handed_wrote : (w : Answer ℕ) (new old : Run) → (handed w new old).wrote ≡ w
handed_wrote (Ok n) new old = refl
handed_wrote (Err x) new old = refl

handed_same : (w : Answer ℕ) (new old : Run) (x : Refusal) → (handed w new old).wrote ≡ Err x → (handed w new old).run ≡ old
handed_same (Ok n) new old x e = never (cc)
handed_same (Err y) new old x e = refl

module _ (r : Run) (e : Event) (out : List ℕ) where
  pub told_wrote : (told_of r e out).wrote ≡ wrote_in (valid_run r) (tell_of r e).text out
  unfolding told_of
  told_wrote =
      told (valid_run r)
      (λ v. ap (λ (t : Told). t.wrote) (cond_yes _ _ v) ∙ handed_wrote (printed_in (tell_of r e).text out) (tell_of r e).run r ∙ sym (cond_yes _ _ v))
      (λ n. ap (λ (t : Told). t.wrote) (cond_no _ _ n) ∙ sym (cond_no _ _ n))

  pub told_same : (x : Refusal) → (told_of r e out).wrote ≡ Err x → (told_of r e out).run ≡ r
  unfolding told_of
  told_same x =
      by (λ (t : Told). t.wrote ≡ Err x → t.run ≡ r) (valid_run r) _ _
      (λ v. handed_same (printed_in (tell_of r e).text out) (tell_of r e).run r x)
      (λ n h. refl)

  -- 16 exactly for a run that is none of ours
  pub told_16 : ((told_of r e out).wrote ≡ Err State) ↔ (valid_run r ≡ false)
  told_16 =
      let c = call_16 (valid_run r) (tell_of r e).text out in
      (λ h. c.0 (sym told_wrote ∙ h), λ n. told_wrote ∙ c.1 n)
