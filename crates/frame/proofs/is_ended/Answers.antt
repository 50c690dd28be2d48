-- `frame::is_ended` meets its contract: the two bytes that are left of it. Assumes nothing.
use Rattle.std.proofs.Common.{◌≡◌, ◌+◌, ◌-◌, ◌≤◌, ℕ, eqb, List, [], ◌∷◌, length, drop, get_or, sym, ◌∙◌, arith}
use Rattle.std.proofs.Math.Bool.{and-true}
use borrow.Author.Tests.{eq-eqb, ne_eqb, eqb-true, eqb-false}
use lib.ListN.{drop_of_length-le}
use Rattle.laws.proofs.Tests.{told}
use Rattle.frame.specs.Frame.{is_ended}
use Rattle.frame.proofs.Pair.{pair_at}
use Rattle.frame.proofs.is_ended.Goals as goal

turned : (a b : ℕ) → eqb a b ≡ eqb b a
turned a b = told (eqb b a) (λ y. eq-eqb a b (sym (eqb-true b a y)) ∙ sym y) (λ n. ne_eqb a b (λ q. eqb-false b a n (sym q)) ∙ sym n)

last : (m : List ℕ) → 2 ≤ length m → drop (length m - 2) m ≡ get_or m (length m - 2) 0 ∷ get_or m (length m - 1) 0 ∷ []
last m h =
    let one : length m - 2 + 1 ≡ length m - 1 = omega arith in
    let none : length m ≤ length m - 2 + 2 = omega arith in
    pair_at m (length m - 2) (omega arith) ∙ rw (one, drop_of_length-le m none)

pub returns : goal.returns
unfolding is_ended
returns c = c.ends_with.ensures.value ∙ rw (last c.args.m.now c.requires, turned 10 (get_or c.args.m.now (length c.args.m.now - 2) 0), turned 13 (get_or c.args.m.now (length c.args.m.now - 1) 0), and-true)
