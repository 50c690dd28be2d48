-- What the calls answer from an accepted start, beside the machine: receive answers 7 exactly where the machine drops the line, a slot answers the
-- byte or the idle of the machine's, no call is answered 16, and the calls take and act on the lines and start the messages that the machine does. Statements only.
use Rattle.std.specs.Prelude.{ℕ, suc, ◌<◌, true, List, [], ◌∷◌, ◌↔◌, ◌⊎◌, ◌≢◌, ◌≡◌, is_some, None, Some, Ok, Err}
use Rattle.std.proofs.Math.Option.{Option}
use Rattle.refusal.specs.Answer.{Verdict}
use Rattle.machine.specs.Machine.{Out, grew, took, dropped, noted, sends, begins, idles, received, slot, shows, sent_in, taken, acted_in, acted, started}
use Rattle.refusal.specs.declared.Refusal.{Refusal}
use Rattle.refusal.specs.declared.Refusal.TheVariants as refusal
use Rattle.units.specs.Measurement.{measurement_verdict}
use Rattle.units.specs.declared.Measurement.{Measurement}
use Rattle.line.specs.declared.Line.{Line}
use Rattle.line.specs.Line.{ends}
use Rattle.rules.specs.Lens.{lens}
use Rattle.port.specs.Port.{act_of, slot_of, receive_of, measure_of}
use Rattle.fill.specs.Fill.{fill_of}
use Rattle.walk.specs.Calls.{Call, Held, view_of, ran, events_all, FromStart}
use Rattle.walk.specs.InCalls.{taken_all, acted_all, started_all}

-- the answer to a received byte, by what it shows: 7 for a line dropped, else done
abbrev pub verdict_of : Out lens → Verdict
verdict_of grew = Ok tt
verdict_of (took c) = Ok tt
verdict_of dropped = Err refusal.Dropped
verdict_of noted = Ok tt
verdict_of (sends b) = Ok tt
verdict_of (begins a k b bs) = Ok tt
verdict_of (idles a) = Ok tt

pub record Answers : Type 0 where
  -- a received byte is answered by what the machine shows for it
  pub receive_shows : (h : Held) (b : ℕ) → FromStart h → (receive_of h.port h.line b).verdict ≡ verdict_of (shows (view_of h) (received b))
  -- so 7 exactly where the machine drops the line
  pub receive_7 : (h : Held) (b : ℕ) → FromStart h →
      ((receive_of h.port h.line b).verdict ≡ Err refusal.Dropped) ↔ (shows (view_of h) (received b) ≡ dropped)
  -- and done exactly where the byte joined the line or the line was taken
  pub receive_done : (h : Held) (b : ℕ) → FromStart h →
      ((receive_of h.port h.line b).verdict ≡ Ok tt)
      ↔ ((shows (view_of h) (received b) ≡ grew) ⊎ ((c : Line) × (shows (view_of h) (received b) ≡ took c)))
  -- in the port's words: 7 exactly where the byte ends the line while a command waits
  pub receive_7_where : (h : Held) (b : ℕ) → FromStart h →
      ((receive_of h.port h.line b).verdict ≡ Err refusal.Dropped) ↔ ((ends h.line b ≡ true) × (is_some h.port.waiting ≡ true))
  -- a slot answers the byte that the machine sends, and is idle exactly where the machine is
  pub slot_byte : (h : Held) (b : ℕ) → FromStart h → ((slot_of h.port).sent ≡ Ok (Some b)) ↔ (sent_in (shows (view_of h) slot) ≡ b ∷ [])
  pub slot_idle : (h : Held) → FromStart h → ((slot_of h.port).sent ≡ Ok None) ↔ ((a : Option Line) × (shows (view_of h) slot ≡ idles a))
  -- where the machine's slot acts on a command, that command waits and the port's slot is its rule 2
  pub slot_acts : (h : Held) (c : Line) → FromStart h → acted_in (shows (view_of h) slot) ≡ c ∷ [] →
      (h.port.waiting ≡ Some c) × (slot_of h.port ≡ act_of h.port c)
  -- over every sequence of calls, the lines whose end is answered done are those that the machine takes, and what leaves the waiting place is what it
  -- acts on
  pub taken_is : (h : Held) (cs : List Call) → FromStart h → taken_all h cs ≡ taken (view_of h) (events_all h cs)
  pub acted_is : (h : Held) (cs : List Call) → FromStart h → acted_all h cs ≡ acted (view_of h) (events_all h cs)
  -- and the messages that they start are its
  pub started_is : (h : Held) (cs : List Call) → FromStart h → started_all h cs ≡ started (view_of h) (events_all h cs)
  -- no call is answered 16: not a received byte,
  pub receive_16 : (h : Held) (b : ℕ) → FromStart h → (receive_of h.port h.line b).verdict ≢ Err refusal.State
  -- nor a slot, which is never refused,
  pub slot_16 : (h : Held) (r : Refusal) → FromStart h → (slot_of h.port).sent ≢ Err r
  -- nor a measurement, which is answered by what it holds,
  pub measure_by : (h : Held) (m : Measurement) → FromStart h → (measure_of h.port m).verdict ≡ measurement_verdict m
  pub measure_16 : (h : Held) (m : Measurement) → FromStart h → (measure_of h.port m).verdict ≢ Err refusal.State
  -- nor a fill, which is done
  pub fill_done : (h : Held) (n : ℕ) → FromStart h → (fill_of h.port n).verdict ≡ Ok tt
  -- a fill's count tells the slots that it ran: one a byte, and one more, the idle one, where it did not fill the buffer
  pub fill_full : (h : Held) (n : ℕ) → FromStart h → (fill_of h.port n).count ≡ n → ran n h.port ≡ (fill_of h.port n).count
  pub fill_short : (h : Held) (n : ℕ) → FromStart h → (fill_of h.port n).count < n → ran n h.port ≡ suc (fill_of h.port n).count
