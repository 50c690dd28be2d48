-- The promises of the readers of a stream, once for any codec: a message that fits is read as demand 2 says. Assumes nothing.
use Prim.Native.Nat.{ℕ, ◌+◌, ◌≤◌, ◌<◌}
use mathlib.Core.Bool.{Bool}
use mathlib.Core.List.{List}
use mathlib.Core.Logic.{◌⊎◌, inl, inr}
use mathlib.Core.Path.{◌≡◌, sym, ap, ◌∙◌}
use native.Mathlib.Omega.{arith}
use borrow.Author.Tests.{leb-true, leb-false}
use lib.Dec.{leb}
use lib.ListN.{length}
use Rattle.std.specs.Prelude.{Err, Ok}
use Rattle.laws.specs.Member.{◌∈◌}
use Rattle.laws.proofs.Tests.{told, cond_yes, cond_no, never}
use Rattle.refusal.specs.Answer.{Answer}
use Rattle.refusal.specs.declared.Refusal.{Refusal}
use Rattle.refusal.specs.declared.Refusal.TheVariants.{End, TooLong}
use Rattle.codec.specs.Codec.{Codec, spellings}
use Rattle.codec.specs.Places.{Place}
use Rattle.frame.specs.Faithful.{Faithful}
use Rattle.frame.specs.Message.{messages_of, read_of}
use Rattle.frame.specs.Refuses.{ReadWhen, Refuses}
use Rattle.demand2.proofs.Proved.{demand2}
use Rattle.cutter.specs.Cutter.{cutter_length, ended, cut_of, then_read}
use Rattle.cutter.specs.Stream.{judged}
use Rattle.cutter.specs.declared.Cutter.{Cutter}
use Rattle.cutter.proofs.Promises as cuts
use Rattle.cutter.proofs.Nine.{only_9}
use Rattle.cut_reader.specs.Promises.{ReadsCut, Promised}
use Rattle.cut_reader.proofs.Cut.{judged_fits, judged_long}

module _ {A : Type 0} (form : Codec A) (rule : A → ℕ) (low : ℕ → Refusal) (plain : ℕ) (places : List Place) (short : plain + 2 ≤ cutter_length)
    (faithful : Faithful form rule low plain) (exact : Refuses form rule low plain places) where
  module _ (checksum : Bool) (m : List ℕ) where
    abbrev read : List ℕ → Answer A
    read = read_of form checksum

    abbrev Case : Refusal → Type 0
    Case r = ((cutter_length < length m) × (r ≡ TooLong)) ⊎ ((length m ≤ cutter_length) × ReadWhen rule (spellings form) places plain checksum m r)

    -- what is accepted is as long as the writer's message
    fits : (a : A) → rule a ≡ 0 → m ∈ messages_of form checksum a → length m ≤ cutter_length
    fits a z k =
        let l = faithful.long checksum m a z k in
        told checksum (λ y. let c = cond_yes (plain + 2) plain y in omega arith) (λ n. let c = cond_no (plain + 2) plain n in omega arith)

    accepts : (a : A) → judged read m ≡ Ok a → (rule a ≡ 0) × (m ∈ messages_of form checksum a)
    accepts a e =
        told (leb (length m) cutter_length)
        (λ y. (faithful.exactly checksum m a).0 (sym (judged_fits read m (leb-true _ _ y)) ∙ e))
        (λ n. let k = judged_long read m (leb-false _ _ n) in never (cc))

    has_case : (r : Refusal) → judged read m ≡ Err r → Case r
    has_case r e =
        told (leb (length m) cutter_length)
        (λ y. let h = leb-true _ _ y in inr (h, (exact.read_when checksum m r).0 (sym (judged_fits read m h) ∙ e)))
        (λ n. let h = leb-false _ _ n in let k = judged_long read m h in inl (h, cc))

    of_case : (r : Refusal) → Case r → judged read m ≡ Err r
    of_case r (inl (h, e)) = judged_long read m h ∙ ap Err (sym e)
    of_case r (inr (h, w)) = judged_fits read m h ∙ (exact.read_when checksum m r).1 w

  never_4 : (checksum : Bool) (c : Cutter) (p : List ℕ) (m : Answer (List ℕ)) → length c.bytes ≡ cutter_length → (cut_of c p).said ≡ ended m →
      then_read (read_of form checksum) m ≡ Err End → ⊥
  unfolding then_read
  never_4 checksum c p (Ok m) long s e = ((exact.read_when checksum m End).0 e).1 ((cuts.promised).each_call.ends_lf_cr c p m long s).0
  never_4 checksum c p (Err r) long s e = let k = only_9 c p r s in never (cc)

  reads_cut : ReadsCut form rule plain places
  reads_cut = record {
    exactly = λ checksum m a. (
      accepts checksum m a,
      λ p. judged_fits (read_of form checksum) m (fits checksum m a p.0 p.1) ∙ (faithful.exactly checksum m a).1 p,
    );
    refuses = λ checksum m r. (has_case checksum m r, of_case checksum m r);
    never_4 = never_4;
  }

pub promised : Promised
promised = record {
  text = reads_cut _ _ _ _ _ (omega arith) demand2.text demand2.text_refuses;
  packed = reads_cut _ _ _ _ _ (omega arith) demand2.packed demand2.packed_refuses;
  fixed = reads_cut _ _ _ _ _ (omega arith) demand2.fixed demand2.fixed_refuses;
}
