-- Where the other port turns the letter in neither run, this port's answers and all that it is are the same. Assumes nothing.
use mathlib.Core.Bool.{cond}
use mathlib.Core.List.{List, [], ◌∷◌, ◌++◌}
use mathlib.Core.Logic.{inl, inr}
use mathlib.Core.Option.{Option, none, some}
use mathlib.Core.Path.{◌≡◌, refl, sym, ap, ap₂, ◌∙◌}
use native.Mathlib.Omega.{arith}
use Rattle.std.specs.Prelude as std
use Rattle.std.specs.Prelude.{None, Some}
use Rattle.laws.proofs.Tests.{cond_yes, cond_no, never}
use Rattle.laws.specs.Member.{◌∈◌}
use Rattle.machine.specs.Machine.{listed}
use Rattle.line.specs.declared.Line.{Line}
use Rattle.line.specs.Command.{command_of}
use Rattle.state.specs.declared.State.{State}
use Rattle.state.specs.declared.State.TheVariants.{Ready, Running}
use Rattle.rules.specs.Lens.{Turn}
use Rattle.walk.specs.Calls.{Held}
use Rattle.walk.specs.Calls as one
use Rattle.walk.specs.InCalls.{acted_by}
use Rattle.connectors.specs.declared.Side.{Side}
use Rattle.connectors.specs.declared.Side.TheVariants.{Camera, External}
use Rattle.connectors.specs.Connectors.{side_of}
use Rattle.connectors.specs.Promises.{opposite}
use Rattle.isolation.specs.Turns.{turn_of, turns_in, turned_by}
use Rattle.isolation.specs.Calls.{Both, held_at, is_at, Asked, asks, Call, restart, on, after, after_all, own_calls, slots_at, taken_at, acted_in, acted_at, turn_on, turns_for, turns_from, turns_at}
use Rattle.isolation.specs.Answers.{Answer, started, answered, answers_at}
use Rattle.isolation.specs.Isolated.{Words, NoTurn}
use Rattle.isolation.proofs.Turns.{no_turn}
use Rattle.isolation.proofs.Sees.{settled_as}
use Rattle.isolation.proofs.TwoRuns.{turn_at, turn_in, Allowed, Pairwise, none_left, and_more, Kept, two_runs}

-- no turn of the letter at all
abbrev pub Still : Option Turn → Type 0
Still t = t ≡ none

-- ---- a port that acts on neither X nor Y turns nothing

none_turns : (k : State) (l : Line) → NoTurn (l ∷ []) → turns_in k l ≡ none
unfolding turns_in
none_turns Ready l n = refl
none_turns Running l n = let m = n l (inl refl) in no_turn (command_of l) m.0 m.1

unturned : (h : Held) (ls : List Line) → NoTurn ls → turn_on h ls ≡ none
unturned h [] n = refl
unturned h (l ∷ ls) n = none_turns h.port.source.modes.state l (λ x m. n x (once x m))
  where
    once : (x : Line) → x ∈ (l ∷ []) → x ∈ (l ∷ ls)
    once x (inl e) = inl e
    once x (inr e) = absurd e

first_part : (ls ms : List Line) → NoTurn (ls ++ ms) → NoTurn ls
first_part [] ms n x m = absurd m
first_part (l ∷ ls) ms n x (inl e) = n x (inl e)
first_part (l ∷ ls) ms n x (inr m) = first_part ls ms (λ y k. n y (inr k)) x m

second_part : (ls ms : List Line) → NoTurn (ls ++ ms) → NoTurn ms
second_part [] ms n = n
second_part (l ∷ ls) ms n = second_part ls ms (λ y k. n y (inr k))

call_still : (a : Side) (h : Both) (m : std.Option Side) (q : Asked) → NoTurn (cond (is_at (opposite a) m) (acted_by (held_at h (opposite a)) (asks q)) []) → turn_at a h m q ≡ none
call_still a h None q n = refl
call_still Camera h (Some Camera) q n = refl
call_still External h (Some External) q n = refl
call_still Camera h (Some External) q n = unturned (held_at h External) (acted_by (held_at h External) (asks q)) n
call_still External h (Some Camera) q n = unturned (held_at h Camera) (acted_by (held_at h Camera) (asks q)) n

in_still : (a : Side) (h : Both) (c : Call) → NoTurn (acted_in (opposite a) h c) → turn_in a h c ≡ none
in_still a h (restart s camera external) n = refl
in_still a h (on m q) n = call_still a h (side_of m) q n

pub still : (a : Side) (h : Both) (cs : List Call) → NoTurn (acted_at (opposite a) h cs) → Allowed Still a h cs
unfolding Allowed acted_at
still a h [] n = tt
still a h (c ∷ cs) n =
    let ls = acted_in (opposite a) h c in
    let ms = acted_at (opposite a) (after h c) cs in
    (in_still a h c (first_part ls ms n), still a (after h c) cs (second_part ls ms n))

-- ---- turns, call by call

turns_are : (a : Side) (h : Both) (m : std.Option Side) (q : Asked) → turns_for a h m q ≡ listed (turn_at a h m q)
turns_are a h None q = refl
turns_are Camera h (Some Camera) q = refl
turns_are External h (Some External) q = refl
turns_are Camera h (Some External) q = refl
turns_are External h (Some Camera) q = refl

from_are : (a : Side) (h : Both) (c : Call) → turns_from a h c ≡ listed (turn_in a h c)
from_are a h (restart s camera external) = refl
from_are a h (on n q) = turns_are a h (side_of n) q

none_listed : (t : Option Turn) (ts : List Turn) → listed t ++ ts ≡ [] → (t ≡ none) × (ts ≡ [])
none_listed none ts e = (refl, e)
none_listed (some t) ts e = never (cc)

allowed : (a : Side) (h : Both) (cs : List Call) → turns_at a h cs ≡ [] → Allowed Still a h cs
unfolding Allowed turns_at
allowed a h [] e = tt
allowed a h (c ∷ cs) e =
    let n = none_listed (turn_in a h c) (turns_at a (after h c) cs) (ap (λ (x : List Turn). x ++ turns_at a (after h c) cs) (sym (from_are a h c)) ∙ e) in
    (n.0, allowed a (after h c) cs n.1)

neither : (a : Side) (h : Both) (cs : List Call) → Allowed Still a h cs → turns_at a h cs ≡ []
unfolding Allowed turns_at
neither a h [] w = refl
neither a h (c ∷ cs) w = ap₂ (λ (x y : List Turn). x ++ y) (from_are a h c ∙ ap listed w.0) (neither a (after h c) cs w.1)

pub words : Words
unfolding own_calls slots_at taken_at acted_at turn_of turns_in
words = record {
  restart_own = λ a s camera external cs. refl;
  asked_own = λ a n q cs e. ap (λ (x : List Call). x ++ own_calls a cs) (cond_yes _ _ e);
  others_free = λ a n q cs e. ap (λ (x : List Call). x ++ own_calls a cs) (cond_no _ _ e);
  restart_runs = λ a h s camera external cs. omega arith;
  restart_takes = λ a h s camera external cs. refl;
  restart_acts = λ a h s camera external cs. refl;
  no_turn = λ ls f l m. (
    λ e. let z = sym (ap turn_of e) ∙ f l m in never (cc),
    λ e. let z = sym (ap turn_of e) ∙ f l m in never (cc),
  );
  neither = λ a h cs n. neither a h cs (still a h cs n);
  ready_turns = λ l. refl;
}

-- ---- equal, and equal after

equals : Kept (λ (x y : Held). x ≡ y) (λ (x y : Answer). x ≡ y) Still
equals = record {
  same = λ x. refl;
  answers = λ x y q e. ap (λ (z : Held). answered z q) e;
  after = λ x y q e. ap (λ (z : Held). one.after z (asks q)) e;
  restarts = λ v x y e. ap (started v) e;
  turn_left = λ t x y s e. ap (λ (u : Option Turn). settled_as x (turned_by u x.port.source.settings)) s ∙ e;
  turn_right = λ t x y s e. e ∙ sym (ap (λ (u : Option Turn). settled_as y (turned_by u y.port.source.settings)) s);
}

all_equal : {xs ys : List Answer} → Pairwise (λ (x y : Answer). x ≡ y) xs ys → xs ≡ ys
all_equal none_left = refl
all_equal (and_more e p) = ap₂ (λ (x : Answer) (l : List Answer). x ∷ l) e (all_equal p)

module _ (a : Side) (h k : Both) (cs ds : List Call) (e : held_at h a ≡ held_at k a) (o : own_calls a cs ≡ own_calls a ds)
    (n : turns_at a h cs ≡ []) (m : turns_at a k ds ≡ []) where
  pub same : answers_at a h cs ≡ answers_at a k ds
  same = all_equal (two_runs equals a h k cs ds e (allowed a h cs n) (allowed a k ds m) o).0

  pub same_port : held_at (after_all h cs) a ≡ held_at (after_all k ds) a
  same_port = (two_runs equals a h k cs ds e (allowed a h cs n) (allowed a k ds m) o).1
