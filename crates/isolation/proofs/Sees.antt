-- The calls of the box as a port of it sees them: its own calls, and turns of the letter. Assumes nothing.
use Prim.Native.Nat.{ℕ, ◌+◌}
use mathlib.Core.Bool.{cond}
use mathlib.Core.List.{List, [], ◌∷◌, ◌++◌, append-nil, append_assoc}
use mathlib.Core.Option.{Option, none, some}
use mathlib.Core.Path.{◌≡◌, refl, sym, ap, ap₂, subst, ◌∙◌}
use native.Mathlib.Omega.{arith}
use Rattle.std.specs.Prelude as std
use Rattle.std.specs.Prelude.{None, Some}
use Rattle.fixed.specs.declared.Settings.{Settings}
use Rattle.line.specs.declared.Line.{Line}
use Rattle.rules.specs.Lens.{Turn}
use Rattle.walk.specs.Calls.{Held}
use Rattle.walk.specs.Calls as one
use Rattle.walk.specs.InCalls.{slots_in, slots_run, taken_by, taken_all, acted_by, acted_all}
use Rattle.walk.proofs.BySlots.{after_append, bytes_append}
use Rattle.connectors.specs.declared.Side.{Side}
use Rattle.connectors.specs.declared.Side.TheVariants.{Camera, External}
use Rattle.connectors.specs.Connectors.{side_of}
use Rattle.isolation.specs.Turns.{turned_by}
use Rattle.isolation.specs.Calls.{Both, held_at, is_at, Asked, asks, Call, restart, on, after_in, after_all, bytes_at, slots_at, taken_at, acted_at, turn_by, turn_calls, seen_in, seen_at}
use Rattle.isolation.specs.EachPort.{Unrestarted}
use Rattle.isolation.proofs.Acts.{call_turns, none_left}

-- from x, the base's calls leave y, send these bytes, run so many slots, take these lines and act on those
pub record Sees (x y : Held) (bs : List ℕ) (n : ℕ) (ts ls : List Line) (cs : List one.Call) : Type 0 where
  pub leaves : y ≡ one.after_all x cs
  pub sends : bs ≡ one.bytes_all x cs
  pub runs : n ≡ slots_run x cs
  pub takes : ts ≡ taken_all x cs
  pub acts : ls ≡ acted_all x cs

none_sees : (x : Held) → Sees x x [] 0 [] [] []
unfolding one.after_all one.bytes_all slots_run taken_all acted_all
none_sees x = record { leaves = refl; sends = refl; runs = refl; takes = refl; acts = refl }

-- one after the other
slots_append : (x : Held) (cs ds : List one.Call) → slots_run x (cs ++ ds) ≡ slots_run x cs + slots_run (one.after_all x cs) ds
unfolding slots_run one.after_all
slots_append x [] ds = omega arith
slots_append x (c ∷ cs) ds = let e = slots_append (one.after x c) cs ds in omega (arith, e)

taken_append : (x : Held) (cs ds : List one.Call) → taken_all x (cs ++ ds) ≡ taken_all x cs ++ taken_all (one.after_all x cs) ds
unfolding taken_all one.after_all
taken_append x [] ds = refl
taken_append x (c ∷ cs) ds = ap (λ (y : List Line). taken_by x c ++ y) (taken_append (one.after x c) cs ds) ∙ sym (append_assoc (taken_by x c) _ _)

acted_append : (x : Held) (cs ds : List one.Call) → acted_all x (cs ++ ds) ≡ acted_all x cs ++ acted_all (one.after_all x cs) ds
unfolding acted_all one.after_all
acted_append x [] ds = refl
acted_append x (c ∷ cs) ds = ap (λ (y : List Line). acted_by x c ++ y) (acted_append (one.after x c) cs ds) ∙ sym (append_assoc (acted_by x c) _ _)

then : {x y z : Held} {bs bs' : List ℕ} {n n' : ℕ} {ts ts' ls ls' : List Line} {cs ds : List one.Call} →
    Sees x y bs n ts ls cs → Sees y z bs' n' ts' ls' ds → Sees x z (bs ++ bs') (n + n') (ts ++ ts') (ls ++ ls') (cs ++ ds)
then {x} {cs = cs} {ds} f g =
    let e = f.leaves in
    record {
      leaves = g.leaves ∙ ap (λ (k : Held). one.after_all k ds) e ∙ sym (after_append x cs ds);
      sends = ap₂ (λ (k l : List ℕ). k ++ l) f.sends (g.sends ∙ ap (λ (k : Held). one.bytes_all k ds) e) ∙ sym (bytes_append x cs ds);
      runs = ap₂ (λ (k l : ℕ). k + l) f.runs (g.runs ∙ ap (λ (k : Held). slots_run k ds) e) ∙ sym (slots_append x cs ds);
      takes = ap₂ (λ (k l : List Line). k ++ l) f.takes (g.takes ∙ ap (λ (k : Held). taken_all k ds) e) ∙ sym (taken_append x cs ds);
      acts = ap₂ (λ (k l : List Line). k ++ l) f.acts (g.acts ∙ ap (λ (k : Held). acted_all k ds) e) ∙ sym (acted_append x cs ds);
    }

-- ---- a call of its own, and a turn of the letter

own_sees : (x : Held) (c : one.Call) → Sees x (one.after x c) (one.bytes x c) (slots_in x c) (taken_by x c) (acted_by x c) (c ∷ [])
unfolding one.after_all one.bytes_all slots_run taken_all acted_all
own_sees x c = record { leaves = refl; sends = sym (append-nil _); runs = omega arith; takes = sym (append-nil _); acts = sym (append-nil _) }

-- a port with these settings
abbrev pub settled_as : Held → Settings → Held
settled_as x s = record {
  port = record {
    source = record { settings = s; measurement = x.port.source.measurement; modes = x.port.source.modes };
    message = x.port.message;
    last = x.port.last;
    waiting = x.port.waiting;
  };
  line = x.line;
}

turn_sees : (x : Held) (t : Option Turn) → Sees x (settled_as x (turned_by t x.port.source.settings)) [] 0 [] [] (turn_calls t)
unfolding one.after_all one.bytes_all slots_run taken_all acted_all
turn_sees x none = none_sees x
turn_sees x (some t) = record { leaves = refl; sends = refl; runs = refl; takes = refl; acts = sym (append-nil _ ∙ none_left x.port.waiting) }

-- the other port's call leaves this one the settings that it turned
other_sees : (x y : Held) (q : Asked) → y.port.source.settings ≡ x.port.source.settings →
    Sees x (settled_as x (one.after y (asks q)).port.source.settings) [] 0 [] [] (turn_calls (turn_by y q))
other_sees x y q e =
    subst (λ (s : Settings). Sees x (settled_as x s) [] 0 [] [] (turn_calls (turn_by y q)))
    (sym (call_turns y q ∙ ap (turned_by (turn_by y q)) e))
    (turn_sees x (turn_by y q))

call_sees : (a : Side) (h : Both) (m : std.Option Side) (q : Asked) →
    let x = held_at h a in
    Sees x (held_at (after_in h m q) a) (cond (is_at a m) (one.bytes x (asks q)) []) (cond (is_at a m) (slots_in x (asks q)) 0) (cond (is_at a m) (taken_by x (asks q)) []) (cond (is_at a m) (acted_by x (asks q)) [])
    (seen_in a h m q)
call_sees a h None q = none_sees (held_at h a)
call_sees Camera h (Some Camera) q = own_sees (held_at h Camera) (asks q)
call_sees External h (Some External) q = own_sees (held_at h External) (asks q)
call_sees Camera h (Some External) q = other_sees (held_at h Camera) (held_at h External) q refl
call_sees External h (Some Camera) q = other_sees (held_at h External) (held_at h Camera) q refl

-- ---- all calls

pub sees : (a : Side) (h : Both) (cs : List Call) → Unrestarted cs →
    Sees (held_at h a) (held_at (after_all h cs) a) (bytes_at a h cs) (slots_at a h cs) (taken_at a h cs) (acted_at a h cs) (seen_at a h cs)
unfolding after_all bytes_at slots_at taken_at acted_at seen_at
sees a h [] u = none_sees (held_at h a)
sees a h (restart s camera external ∷ cs) u = absurd u
sees a h (on n q ∷ cs) u = then (call_sees a h (side_of n) q) (sees a (after_in h (side_of n) q) cs u)
