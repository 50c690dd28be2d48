-- No bound of demand 3 can be smaller: the checker runs the bench lens from its start, and each bound is met in its last slot. Assumes nothing.
use Prim.Native.Nat.{ℕ, ◌-◌, ◌≤◌}
use native.Mathlib.Omega.{arith}
use mathlib.Core.Bool.{true}
use mathlib.Core.Path.{◌≡◌, refl, sym, ap, ◌∙◌}
use mathlib.Core.Logic.{◌≢◌}
use mathlib.Core.List.{List, [], ◌∷◌, ◌++◌, nil≢cons}
use lib.ListN.{replicate, length, length-append}
use lib.Dec.{leb}
use borrow.Author.Tests.{leb-true, leb-false}
use Rattle.laws.specs.Every.{every}
use Rattle.laws.proofs.Tests.{told, never}
use Rattle.machine.specs.Machine.{Rules, Kind, a_record, a_reply, Events, received, slot, State, modes, Out, grew, took, dropped, noted, sends, begins, idles, next, shows, sent_in, sent, seen, on_slot, begin, rules, rule2, answer, rule3, on_byte, on_return, on_other}
use Rattle.machine.specs.Promised.{Promised, ActedBy, RepliedBy}
use Rattle.machine.proofs.Use.{kinds_in, all_on, acted_first, record_seen, stays_on}
use Rattle.codec.specs.Codec.{failing, first, text_ok}
use Rattle.digits.specs.Digits.{digits}
use Rattle.frame.specs.Frame.{ending}
use Rattle.pointed.specs.Pointed.{pointed}
use Rattle.stop.specs.Stop.{stop_ok, stop_text, stop}
use Rattle.pupil.specs.Pupil.{pupil_text}
use Rattle.record.specs.Forms.{front_text, middle_text, back_text, serial, text_form}
use Rattle.record.specs.Record.{front_lowest, middle_lowest, back_lowest, figures_lowest}
use Rattle.fixed.specs.Fixed.{kind_ok, letter_ok, lens_lowest, fixed_lowest, settings_lowest}
use Rattle.fixed.specs.Form.{serial as fixedSerial, owner, lens_items as fixedLens, version, fixed_form}
use Rattle.units.specs.Units.{by_unit}
use Rattle.units.specs.Measurement.{measurement_lowest, measurement_verdict, shown_distance, shown_pupil, figures_in, record_in}
use Rattle.line.specs.Line.{CR, zeros, ends, joined}
use Rattle.line.specs.Command.{one_byte, command_in, command_of}
use Rattle.state.specs.State.{valid_modes, valid_source}
use Rattle.rules.specs.Does.{replies, runs, is_n, readies, does_in, does, counts_in, counts, record_is, record_message, is_on}
use Rattle.rules.specs.Lens.{lens, Good, longest_reply}
use Rattle.rules.specs.Promise.{act_by, reply_by, record_by}
use Rattle.rules.specs.Tight.{bench, early, second_d, later, Attained, Tight}

-- one slot too few: continuous sending stays on in them after the record, and they start the reply only
abbrev too_few : Events lens
too_few = replicate (record_by - 1) slot

record Between : Type 0 where
  still_on : all_on (later (act_by - 1)) too_few ≡ true
  not_sooner : seen kinds_in (later (act_by - 1)) too_few ≡ a_reply ∷ []

computed : Attained × Between
unfolding on_slot begin rules rule2 answer rule3 on_byte on_return on_other digits ending pointed stop_text stop pupil_text front_text middle_text back_text serial text_form fixedSerial owner fixedLens version fixed_form shown_distance shown_pupil figures_in record_in ends joined zeros one_byte command_in command_of replies runs is_n readies does_in does counts_in counts record_is record_message is_on
computed = (
  record {
    taken = refl;
    none_before = refl;
    acts = refl;
    reply_long = refl;
    reply_left = refl;
    reply_gone = refl;
    record_left = refl;
    record_gone = (refl, refl);
    record_next = (refl, refl);
  },
  record { still_on = refl; not_sooner = refl },
)

pub attained : Attained
attained = computed.0

bench_good : Good bench
unfolding valid_source valid_modes settings_lowest fixed_lowest lens_lowest text_ok kind_ok letter_ok every failing first measurement_verdict measurement_lowest by_unit figures_lowest front_lowest middle_lowest back_lowest stop_ok is_on
bench_good = record { valid = refl; ready_off = λ e. refl }

-- a run sends at most a byte an event
one_byte_lem : {r : Rules} (o : Out r) → length (sent_in o) ≤ 1
one_byte_lem grew = omega arith
one_byte_lem (took c) = omega arith
one_byte_lem dropped = omega arith
one_byte_lem noted = omega arith
one_byte_lem (sends b) = omega arith
one_byte_lem (begins a k b bs) = omega arith
one_byte_lem (idles a) = omega arith

sent_at_most : {r : Rules} (s : State r) (es : Events r) → length (sent s es) ≤ length es
sent_at_most s [] = omega arith
sent_at_most s (e ∷ es) =
    omega (arith, length-append (sent_in (shows s e)) (sent (next s e) es), one_byte_lem (shows s e), sent_at_most (next s e) es)

-- no slot before the last that is promised acts
not_early : (m n k : ℕ) → m ≤ act_by - 1 → Promised lens m n k bench → ⊥
not_early m n k h p =
    let f = acted_first (p.acted_in_time early (replicate (act_by - 1) slot) (received CR) second_d attained.taken h) in
    nil≢cons (sym attained.none_before ∙ f.1)

-- that slot acts, and these are left for the reply: one too few
abbrev left : Events lens
left = replicate (reply_by - 1 - act_by) slot

abbrev acted_then : (n : ℕ) → act_by ≤ n → ActedBy n (later 0) second_d (replicate (reply_by - 1) slot)
acted_then n h = record {
  mid = replicate (act_by - 1) slot;
  rest = left;
  split = refl;
  in_time = h;
  none_before = attained.none_before;
  acts = attained.acts;
}

not_all : RepliedBy (reply_by - 1) (later 0) second_d (replicate (act_by - 1) slot) left → ⊥
not_all r =
    let few : length r.sending ≤ reply_by - 1 - act_by = omega (arith, ap length r.split, length-append r.sending r.later) in
    omega (arith, attained.reply_long, ap length r.whole, sent_at_most (later (act_by - 1)) (slot ∷ r.sending))

some_reply : lens.reply_to (modes (later (act_by - 1))) second_d ≢ []
some_reply e =
    let l : longest_reply ≡ 0 = sym attained.reply_long ∙ ap length e in
    omega arith

not_soon : (n k : ℕ) → act_by ≤ n → Promised lens n (reply_by - 1) k bench → ⊥
not_soon n k h p =
    not_all
    (p.replied_in_time early (replicate (reply_by - 1) slot) (received CR) second_d attained.taken (omega arith) (acted_then n h) some_reply)

-- after the record they send the reply
only_reply : (x y : List Kind) → ◌≡◌ {A = List Kind} (a_reply ∷ []) (x ++ a_record ∷ y) → ⊥
only_reply [] y e = never (cc)
only_reply (k ∷ []) y e = omega (arith, ap length e)
only_reply (k ∷ k' ∷ x) y e = omega (arith, ap length e)

pub tight : Tight
tight = record {
  good = bench_good;
  act_tight = λ n k. not_early (act_by - 1) n k (omega arith);
  reply_tight = λ n k p.
      told (leb n (act_by - 1))
      (λ e. not_early n (reply_by - 1) k (leb-true n (act_by - 1) e) p)
      (λ e. not_soon n k (omega (arith, leb-false n (act_by - 1) e)) p);
  record_tight = λ n k p.
      let before = early ++ received CR ∷ replicate (act_by - 1) slot in
      let f = record_seen (p.record_in_time before too_few attained.record_gone.0 (stays_on (later (act_by - 1)) too_few computed.1.still_on) (omega arith)) in
      only_reply f.0 f.1 (sym computed.1.not_sooner ∙ f.2);
}
