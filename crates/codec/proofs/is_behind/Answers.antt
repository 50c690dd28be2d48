-- `codec::is_behind` meets its contract: a text behind tags is the tags in front, and a text behind them. Assumes nothing.
use Rattle.std.proofs.Common.{◌≡◌, ◌+◌, ℕ, Bool, true, false, ◌&&◌, List, [], ◌∷◌, length, take, drop, nat_eq, refl, sym, ap, ◌∙◌, Option, None, Some, Bor}
use Rattle.std.specs.Option.{MatchOption}
use lib.Pointwise.{pointwise}
use Rattle.laws.proofs.Tests.{told}
use Rattle.codec.specs.Codec.{text_behind, printable}
use Rattle.codec.proofs.is_behind.Goals as goal

abbrev front : List ℕ → List ℕ → Bool
front tags s = pointwise nat_eq (take (length tags) s) tags

in_two : (tags s : List ℕ) → text_behind tags s ≡ (front tags s && printable (drop (length tags) s))
unfolding text_behind
in_two [] s = refl
in_two (t ∷ ts) [] = refl
in_two (t ∷ ts) (x ∷ s) = told (nat_eq x t) (λ e. rw e (in_two ts s)) (λ e. rw e)

answered : (tags s : List ℕ) (r : Option (Bor (List ℕ))) (b : Bool) →
    MatchOption r (front tags s ≡ false) (λ x. (front tags s ≡ true) × (x.now ≡ drop (length tags) s) × (length x.now + length tags ≡ length s)) →
    MatchOption r (b ≡ false) (λ x. b ≡ printable x.now) → b ≡ text_behind tags s
answered tags s None b h k = k ∙ sym (in_two tags s ∙ rw h)
answered tags s (Some x) b h k = k ∙ ap printable h.1 ∙ sym (in_two tags s ∙ rw h.0)

pub returns : goal.returns
returns c = answered _ _ _ _ c.strip_prefix.ensures.cases c.is_some_and.ensures
