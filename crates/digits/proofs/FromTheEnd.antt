-- Digits written from the end on: those of n behind the first `left` are there, m is what those first ones say, and k more of them are written before
-- these. Assumes nothing.
use Rattle.std.proofs.Common.{◌≡◌, ℕ, ◌+◌, ◌-◌, ◌/◌, ◌%◌, ◌^◌, ◌<◌, ◌≤◌, List, [], ◌∷◌, length, set, sym, refl, ap, ◌∙◌, div-one, arith, pow-add}
use native.Mathlib.Nat.{pow-zero, div-div-eq-div-mul, sub_self}
use Rattle.laws.specs.Over.{over}
use Rattle.laws.proofs.OverLaws.{over_short, sets_over, over_before, length_over}
use Rattle.digits.specs.Digits.{digits}
use Rattle.digits.proofs.Laws.{length_digits, digits_one, digits_split}

abbrev pub Written : ℕ → ℕ → List ℕ → ℕ → ℕ → ℕ → List ℕ → ℕ → ℕ → Type 0
Written b off d at width n out left m =
    (left ≤ width) × (at + width ≤ length d) × (m ≡ n / b ^ (width - left)) × (out ≡ over d (at + left) (digits b off (width - left) n)) × (length out ≡ length d)

module _ (b off : ℕ) (some : 0 < b) where
  -- too little room, and nothing written
  pub no_room : (d : List ℕ) (a w n : ℕ) → length d < a + w → d ≡ over d a (digits b off w n)
  no_room d a w n h = sym (over_short d (digits b off w n) a (rw (length_digits b off some w n) h))

  -- no digit, and nothing written
  pub none : (d : List ℕ) (a n : ℕ) → a ≤ length d → d ≡ over d a (digits b off 0 n)
  unfolding digits
  none d a n h =
      let room : a + length {A = ℕ} [] ≤ length d = omega arith in
      sets_over d [] a room

  -- one digit stored
  pub one : (d : List ℕ) (a n v : ℕ) → a + 1 ≤ length d → v ≡ off + n % b → set d a v ≡ over d a (digits b off 1 n)
  one d a n v h e =
      let room : a + length (v ∷ []) ≤ length d = h in
      sets_over d (v ∷ []) a room ∙ ap (over d a) (ap (λ (w : ℕ). w ∷ []) e ∙ sym (digits_one b off some n))

  -- the w lowest digits of n, and the k above them before these
  joins : (d : List ℕ) (a k w n : ℕ) → a + (k + w) ≤ length d →
      over (over d (a + k) (digits b off w n)) a (digits b off k (n / b ^ w)) ≡ over d a (digits b off (k + w) n)
  joins d a k w n room =
      let first = length_digits b off some k (n / b ^ w) in
      let rest = length_digits b off some w n in
      over_before d (digits b off k (n / b ^ w)) (digits b off w n) a (a + k) (omega arith) (omega arith)
      ∙ ap (over d a) (sym (digits_split b off some k w n))

  module _ (d : List ℕ) (at width n : ℕ) where
    pub begun : at + width ≤ length d → Written b off d at width n d width n
    begun room = (omega arith, room, rw (sub_self, pow-zero, div-one), rw sub_self (none d (at + width) n room), refl)

    -- what is above the k, and what is there once they are written
    pub goes_on : (out next : List ℕ) (left m k : ℕ) → k ≤ left → Written b off d at width n out left m →
        next ≡ over out (at + (left - k)) (digits b off k m) → Written b off d at width n next (left - k) (m / b ^ k)
    goes_on out next left m k enough h q =
        let within : left ≤ width = h.0 in
        let room : at + width ≤ length d = h.1 in
        let place = at + (left - k) in
        let c : width - left + k ≡ width - (left - k) = omega arith in
        let e : at + left ≡ place + k = omega arith in
        let f : k + (width - left) ≡ width - (left - k) = omega arith in
        let above : m / b ^ k ≡ n / b ^ (width - (left - k)) =
        ap (λ (x : ℕ). x / b ^ k) h.2
        ∙ div-div-eq-div-mul n (b ^ (width - left)) (b ^ k)
        ∙ ap (λ (x : ℕ). n / x) (sym (pow-add b (width - left) k) ∙ ap (λ (j : ℕ). b ^ j) c) in
        let there : next ≡ over d place (digits b off (width - (left - k)) n) =
        q
        ∙ ap (λ (l : List ℕ). over l place (digits b off k m)) (h.3 ∙ ap (λ (a : ℕ). over d a (digits b off (width - left) n)) e)
        ∙ ap (λ (x : ℕ). over (over d (place + k) (digits b off (width - left) n)) place (digits b off k x)) h.2
        ∙ joins d place k (width - left) n (omega arith)
        ∙ ap (λ (w : ℕ). over d place (digits b off w n)) f in
        (omega arith, room, above, there, ap length there ∙ length_over d _ _)

    -- none is left to write
    pub ended : (out : List ℕ) (left m : ℕ) → left ≡ 0 → Written b off d at width n out left m → out ≡ over d at (digits b off width n)
    ended out left m e h =
        let f : at + left ≡ at = omega arith in
        let g : width - left ≡ width = omega arith in
        h.3 ∙ rw (f, g)
