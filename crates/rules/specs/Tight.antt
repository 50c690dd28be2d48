-- No bound of demand 3 is too large: document 01's bench lens, from its start, meets each in its last slot.
use Rattle.std.specs.Prelude.{ℕ, ◌+◌, ◌-◌, true, false, [], ◌∷◌, ◌++◌, ◌≡◌, length, replicate}
use Rattle.machine.specs.Machine.{a_record, a_reply, received, slot, Events, State, modes, underway, last, took, start, next, shows, run, acted_in, acted}
use Rattle.machine.specs.Promised.{Promised}
use Rattle.frame.specs.Frame.{ending_width}
use Rattle.fixed.specs.Form.{fixed_length}
use Rattle.bench_lens.specs.Bench.{bench_settings, bench_measurement}
use Rattle.line.specs.declared.Line.{Line}
use Rattle.line.specs.Line.{CR, blank, joined}
use Rattle.state.specs.declared.Source.{Source}
use Rattle.rules.specs.Lens.{start_modes, greeting, lens, Good, longest_reply, longest_record}
use Rattle.rules.specs.Promise.{act_by, reply_by, record_by}

-- as a start leaves it, imperial
abbrev pub bench : Source
bench = record { settings = bench_settings 0x49; measurement = bench_measurement; modes = start_modes 0x49 }

-- a command of one letter, and its carriage return
abbrev pub issue : ℕ → Events lens
issue b = received b ∷ received CR ∷ []

-- the slots of the reply to N, plain, and of a ! with a checksum
abbrev pub fixed_slots : ℕ
fixed_slots = fixed_length + ending_width false

abbrev pub done_slots : ℕ
done_slots = 1 + ending_width true

-- From the start: N, G, C, each answered, and a first D. Between C's reply and D's a record is sent, and D's reply has sent one byte when the second
-- D has come, all but the carriage return.
abbrev pub early : Events lens
early =
    replicate (length greeting) slot
    ++ (issue 78 ++ replicate fixed_slots slot
    ++ (issue 71 ++ replicate done_slots slot ++ (issue 67 ++ slot ∷ (issue 68 ++ replicate (done_slots + longest_record) slot ++ (received 68 ∷ [])))))

-- the line that its carriage return takes
abbrev pub second_d : Line
second_d = joined blank 68

-- the lens n slots after that carriage return
abbrev pub later : ℕ → State lens
later n = run (next (run (start lens bench) early) (received CR)) (replicate n slot)

-- each bound is met in its last slot
pub record Attained : Type 0 where
  -- the second D is taken; the 156th slot acts on it, and none before it acts on any
  pub taken : shows (run (start lens bench) early) (received CR) ≡ took second_d
  pub none_before : acted (later 0) (replicate (act_by - 1) slot) ≡ []
  pub acts : acted_in (shows (later (act_by - 1)) slot) ≡ second_d ∷ []
  -- its reply is 78 bytes, the last of which leaves in the 233rd
  pub reply_long : length (lens.reply_to (modes (later (act_by - 1))) second_d) ≡ longest_reply
  pub reply_left : length (underway (later (reply_by - 1))) ≡ 1
  pub reply_gone : underway (later reply_by) ≡ []
  -- a record's last byte left in the 155th slot; the first of the next leaves in the 234th, 79 slots later
  pub record_left : length (underway (later (act_by - 2))) ≡ 1
  pub record_gone : (underway (later (act_by - 1)) ≡ []) × (last (later (act_by - 1)) ≡ a_record)
  pub record_next : (last (later (act_by - 1 + record_by - 1)) ≡ a_reply) × (last (later (act_by - 1 + record_by)) ≡ a_record)

-- so that no promise with a smaller number holds of this lens, which demand 3 speaks of
pub record Tight : Type 0 where
  pub good : Good bench
  pub act_tight : (n k : ℕ) → Promised lens (act_by - 1) n k bench → ⊥
  pub reply_tight : (n k : ℕ) → Promised lens n (reply_by - 1) k bench → ⊥
  pub record_tight : (n k : ℕ) → Promised lens n k (record_by - 1) bench → ⊥
