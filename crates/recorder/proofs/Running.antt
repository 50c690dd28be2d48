-- Any calls over an input feed the recorder's cutter: what they make known is what the recorder makes of its messages. Assumes nothing.
use Prim.Native.Nat.{ℕ}
use mathlib.Core.Bool.{Bool, true, false}
use mathlib.Core.List.{List, [], ◌∷◌, ◌++◌}
use mathlib.Core.Path.{◌≡◌, refl, sym, ap, subst, ◌∙◌}
use lib.ListN.{drop}
use Rattle.std.specs.Prelude.{Err, Ok}
use Rattle.refusal.specs.Answer.{Answer}
use Rattle.cutter.specs.Cutter.{fresh, held_from, Said, invalid, nothing, ended, cut_of, then_read}
use Rattle.cutter.specs.Stream.{messages, tail, judged_all, said_by, Fed}
use Rattle.cutter.specs.declared.Cutter.{Cutter}
use Rattle.cutter.proofs.Promises as cutter
use Rattle.recorder.specs.Recorder.{start_of, valid_recorder, after_send, send_of, reading_of, opens_by, take_by, take_of}
use Rattle.recorder.specs.Messages.{reading_for, readings_from, open_from, made_by, Ran}
use Rattle.recorder.specs.Promises.{Run}
use Rattle.recorder.specs.declared.Setup.{Setup}
use Rattle.recorder.specs.declared.Recorder.{Recorder}
use Rattle.recorder.specs.declared.Reading.{Reading}

-- ---- the messages as the cutter says them

module _ (s : Setup) where
  unfoldable readings_over : Bool → List (Answer (List ℕ)) → List Reading
  readings_over o [] = []
  readings_over o (m ∷ ms) = reading_of s o m ∷ readings_over (opens_by o (reading_of s o m)) ms

  unfoldable open_over : Bool → List (Answer (List ℕ)) → Bool
  open_over o [] = o
  open_over o (m ∷ ms) = open_over (opens_by o (reading_of s o m)) ms

  readings_over_lem : (o : Bool) (ms : List (List ℕ)) → readings_over o (judged_all Ok ms) ≡ readings_from s o ms
  unfolding readings_over readings_from judged_all
  readings_over_lem o [] = refl
  readings_over_lem o (m ∷ ms) = ap (λ (x : List Reading). reading_for s o m ∷ x) (readings_over_lem (opens_by o (reading_for s o m)) ms)

  open_over_lem : (o : Bool) (ms : List (List ℕ)) → open_over o (judged_all Ok ms) ≡ open_from s o ms
  unfolding open_over open_from judged_all
  open_over_lem o [] = refl
  open_over_lem o (m ∷ ms) = open_over_lem (opens_by o (reading_for s o m)) ms

-- ---- one call

-- what is made known of these messages, and whether it is open after them
abbrev Shows : Setup → Bool → List (Answer (List ℕ)) → List Reading → Bool → Type 0
Shows s o js xs end = (xs ≡ readings_over s o js) × (end ≡ open_over s o js)

module _ (r : Recorder) (used : ℕ) (c : Cutter) where
  taken_used : (x : Said) → (take_by r x used c).used ≡ used
  unfolding take_by
  taken_used invalid = refl
  taken_used nothing = refl
  taken_used (ended m) = refl

  taken_cutter : (x : Said) → (take_by r x used c).recorder.cutter ≡ c
  unfolding take_by
  taken_cutter invalid = refl
  taken_cutter nothing = refl
  taken_cutter (ended m) = refl

  taken_setup : (x : Said) → (take_by r x used c).recorder.setup ≡ r.setup
  unfolding take_by
  taken_setup invalid = refl
  taken_setup nothing = refl
  taken_setup (ended m) = refl

  taken_sent : (x : Said) → (take_by r x used c).recorder.sent ≡ r.sent
  unfolding take_by
  taken_sent invalid = refl
  taken_sent nothing = refl
  taken_sent (ended m) = refl

  -- the message that ended comes before those that follow
  taken_shows : (x : Said) (js : List (Answer (List ℕ))) (xs : List Reading) (end : Bool) →
      Shows r.setup (take_by r x used c).recorder.opened js xs end →
      Shows r.setup r.opened (said_by Ok x ++ js) (made_by (take_by r x used c).made ++ xs) end
  unfolding take_by said_by then_read made_by readings_over open_over
  taken_shows invalid js xs end h = h
  taken_shows nothing js xs end h = h
  taken_shows (ended (Ok m)) js xs end h = (ap (λ (y : List Reading). reading_of r.setup r.opened (Ok m) ∷ y) h.0, h.1)
  taken_shows (ended (Err x)) js xs end h = (ap (λ (y : List Reading). reading_of r.setup r.opened (Err x) ∷ y) h.0, h.1)

module _ (r : Recorder) (p : List ℕ) where
  pub take_used : (take_of r p).used ≡ (cut_of r.cutter p).used
  unfolding take_of
  take_used = taken_used r _ _ _

  pub take_cutter : (take_of r p).recorder.cutter ≡ (cut_of r.cutter p).cutter
  unfolding take_of
  take_cutter = taken_cutter r _ _ _

  take_setup : (take_of r p).recorder.setup ≡ r.setup
  unfolding take_of
  take_setup = taken_setup r _ _ _

  pub take_sent : (take_of r p).recorder.sent ≡ r.sent
  unfolding take_of
  take_sent = taken_sent r _ _ _

-- ---- the calls

-- a feeding of the cutter, and what is made known of the messages it says
record Feeds (c : Cutter) (s : Setup) (o : Bool) (i : List ℕ) (xs : List Reading) (q : Recorder) : Type 0 where
  said : List (Answer (List ℕ))
  fed : Fed Ok c i said q.cutter
  shows : Shows s o said xs q.opened
  setup : q.setup ≡ s

-- sending leaves all that matters here as it was
sends_on : (a : Answer ℕ) (r : Recorder) {i : List ℕ} {xs : List Reading} {q : Recorder} →
    Feeds (after_send a r).cutter (after_send a r).setup (after_send a r).opened i xs q → Feeds r.cutter r.setup r.opened i xs q
unfolding after_send
sends_on (Ok n) r h = h
sends_on (Err x) r h = h

feeds : {r q : Recorder} {i : List ℕ} {xs : List Reading} → Ran r i xs q → Feeds r.cutter r.setup r.opened i xs q
unfolding send_of take_of readings_over open_over
feeds (Ran.none r) = record { said = []; fed = Fed.none r.cutter; shows = (refl, refl); setup = refl }
feeds (Ran.sends r q out s xs g) = sends_on _ r (feeds g)
feeds (Ran.takes r q p t s xs ys e f g) =
    let h = feeds g in
    let x = cut_of r.cutter p in
    let on = subst (λ (d : Setup). Shows d (take_of r p).recorder.opened h.said xs q.opened) (take_setup r p) h.shows in
    let k = taken_shows r x.used x.cutter x.said h.said xs q.opened on in
    let w = subst (λ (n : ℕ). Fed Ok (take_of r p).recorder.cutter (drop n p ++ t) h.said q.cutter) (take_used r p) h.fed in
    let u = subst (λ (d : Cutter). Fed Ok d (drop x.used p ++ t) h.said q.cutter) (take_cutter r p) w in
    record {
      said = said_by Ok x.said ++ h.said;
      fed = Fed.handed r.cutter q.cutter p t s h.said _ e refl u;
      shows = (f ∙ k.0, k.1);
      setup = h.setup ∙ take_setup r p;
    }

module _ (s : Setup) (i : List ℕ) (xs : List Reading) (q : Recorder) (g : Ran (start_of s) i xs q) where
  pub readings : xs ≡ readings_from s false (messages i)
  readings =
      let h = feeds g in
      let e = (cutter.promised).any_cutting.answers Ok i h.said q.cutter h.fed in
      h.shows.0
      ∙ ap (readings_over s false) e
      ∙ readings_over_lem s false (messages i)

  pub left : (q.cutter ≡ held_from fresh (tail i)) × (q.setup ≡ s) × (q.opened ≡ open_from s false (messages i))
  left =
      let h = feeds g in
      let e = (cutter.promised).any_cutting.answers Ok i h.said q.cutter h.fed in (
        (cutter.promised).any_cutting.left Ok i h.said q.cutter h.fed,
        h.setup,
        h.shows.1 ∙ ap (open_over s false) e ∙ open_over_lem s false (messages i),
      )

pub elsewhere : (r : Recorder) (i : List ℕ) (xs ys : List Reading) (q p : Recorder) → valid_recorder r ≡ true → Ran r i xs q → Ran r i ys p →
    (xs ≡ ys) × (q.cutter ≡ p.cutter) × (q.setup ≡ p.setup) × (q.opened ≡ p.opened)
elsewhere r i xs ys q p v f g =
    let a = feeds f in
    let b = feeds g in
    let e = (cutter.promised).any_cutting.elsewhere Ok r.cutter i a.said b.said q.cutter p.cutter v a.fed b.fed in (
      a.shows.0 ∙ ap (readings_over r.setup r.opened) e.0 ∙ sym b.shows.0,
      e.1,
      a.setup ∙ sym b.setup,
      a.shows.1 ∙ ap (open_over r.setup r.opened) e.0 ∙ sym b.shows.1,
    )

-- a feeding of its cutter is one of the recorder
fed_ran : {c d : Cutter} {s : List ℕ} {js : List (Answer (List ℕ))} → Fed Ok c s js d →
    (r : Recorder) (i : List ℕ) → r.cutter ≡ c → i ≡ s → Run r i
fed_ran (Fed.none c) r i z e = subst (Run r) (sym e) (record { made = []; left = r; ran = Ran.none r })
fed_ran (Fed.handed c d p t s js ks e f g) r i z k =
    let y = take_of r p in
    let cut = take_cutter r p ∙ ap (λ (x : Cutter). (cut_of x p).cutter) z in
    let used = take_used r p ∙ ap (λ (x : Cutter). (cut_of x p).used) z in
    let h = fed_ran g y.recorder (drop y.used p ++ t) cut (ap (λ (n : ℕ). drop n p ++ t) used) in
    record { made = made_by y.made ++ h.made; left = h.left; ran = Ran.takes r h.left p t i h.made (made_by y.made ++ h.made) (k ∙ e) refl h.ran }

pub runs : (r : Recorder) (i : List ℕ) → valid_recorder r ≡ true → Run r i
runs r i v = fed_ran ((cutter.promised).any_cutting.runs Ok r.cutter i v).fed r i refl refl
