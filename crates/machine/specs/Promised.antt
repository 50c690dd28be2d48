-- What a port promises over every order of events (demand 3), and the sizes of its messages from which the three bounds follow.
use Rattle.std.specs.Prelude.{ℕ, ◌+◌, ◌-◌, ◌≤◌, ◌<◌, ◌≡◌, true, false, ◌≢◌, List, [], ◌∷◌, ◌++◌, length}
use Rattle.std.proofs.Math.Option.{Option, none, some}
use Rattle.laws.specs.Flat.{flat}
use Rattle.machine.specs.Machine.{Rules, Kind, a_record, Event, received, slot, slots, Events, listed, State, took, dropped, begins, idles, modes, waiting, underway, last, line, choice, rules, start, next, shows, run, taken, acted, started, sent, acted_in}

-- What a port shows of its messages. `Good` is what always holds of its modes.
pub record Sizes (r : Rules) (Good : r.Modes → Type 0) (W L R : ℕ) : Type 0 where
  -- L: no reply is longer. R: no record is longer, and none is empty
  pub reply_fits : (m : r.Modes) (c : r.Command) → Good m → length (r.reply_to m c) ≤ L
  pub record_fits : (m : r.Modes) → Good m → length (r.record_of m) ≤ R
  pub record_some : (m : r.Modes) → Good m → 0 < length (r.record_of m)
  -- W: no message is longer; the greeting is shorter, since a start leaves all of it to be sent
  pub reply_in : L ≤ W
  pub record_in_lem : R ≤ W
  pub greeting_fits : length r.greeting < W
  -- a reply that does not count as one leaves continuous sending off, and the end of a message does not switch it
  pub uncounted_off : (m : r.Modes) (c : r.Command) → Good m → r.counts m c ≡ false → r.continuous (r.act m c) ≡ false
  pub ended_same : (m : r.Modes) → Good m → r.continuous (r.ended m) ≡ r.continuous m
  -- whatever changes the modes keeps them good
  pub act_good : (m : r.Modes) (c : r.Command) → Good m → Good (r.act m c)
  pub ended_good : (m : r.Modes) → Good m → Good (r.ended m)
  pub update_good : (m : r.Modes) (x : r.Given) → Good m → Good (r.update m x)

module _ {r : Rules} where
  -- From s, one of the first `limit` slots of `after` acts on the command c, and no event before it acts on any. (The first slot is the 1st.)
  pub record ActedBy (limit : ℕ) (s : State r) (c : r.Command) (after : Events r) : Type 0 where
    pub mid : Events r
    pub rest : Events r
    pub split : after ≡ mid ++ slot ∷ rest
    pub in_time : slots (mid ++ slot ∷ []) ≤ limit
    pub none_before : acted s mid ≡ []
    pub acts : acted_in (shows (run s mid) slot) ≡ c ∷ []

  -- From s, the slot after `mid` acts on c: the bytes sent from it on, to one of the first `limit` slots, are the reply that the rules give there, whole.
  pub record RepliedBy (limit : ℕ) (s : State r) (c : r.Command) (mid rest : Events r) : Type 0 where
    pub sending : Events r
    pub later : Events r
    pub split : rest ≡ sending ++ later
    pub in_time : slots (mid ++ slot ∷ sending) ≤ limit
    pub whole : sent (run s mid) (slot ∷ sending) ≡ r.reply_to (modes (run s mid)) c

  -- From s, one of the first `limit` slots of `after` starts a record: its first byte leaves.
  pub record RecordBy (limit : ℕ) (s : State r) (after : Events r) : Type 0 where
    pub mid : Events r
    pub rest : Events r
    pub split : after ≡ mid ++ slot ∷ rest
    pub in_time : slots (mid ++ slot ∷ []) ≤ limit
    pub acting : Option r.Command
    pub byte : ℕ
    pub others : List ℕ
    pub starts : shows (run s mid) slot ≡ begins acting a_record byte others

  -- Continuous sending is on in s and after each of the events.
  abbrev pub StaysOn : State r → Events r → Type 0
  StaysOn s es = (mid rest : Events r) → es ≡ mid ++ rest → r.continuous (modes (run s mid)) ≡ true

  -- In s no message is under way, and the rules give this one.
  pub record ByRules (s : State r) (a : Option r.Command) (k : Kind) (message : List ℕ) : Type 0 where
    pub none_underway : underway s ≡ []
    pub new_modes : r.Modes
    pub still_waits : Option r.Command
    pub chosen : rules r (modes s) (waiting s) (last s) ≡ choice a new_modes still_waits k message

  -- From s to s' an idle slot: no message was under way, and after it no command waits and continuous sending is off.
  pub record IdleFor (s s' : State r) : Type 0 where
    pub none_underway : underway s ≡ []
    pub none_waits : waiting s' ≡ none
    pub off : r.continuous (modes s') ≡ false

  -- Of the messages, the one under way in s and those that start after it, all but the last are whole: the bytes sent are theirs, end to end,
  -- and then `done`, as much as has left of the last one.
  pub record WholeMessages (s : State r) (es : Events r) : Type 0 where
    pub whole : List (List ℕ)
    pub done : List ℕ
    pub messages : underway s ∷ started s es ≡ whole ++ (done ++ underway (run s es)) ∷ []
    pub bytes : sent s es ≡ flat whole ++ done

module _ (r : Rules) where
  -- "From a start, over every order of received bytes, sending slots and new measurements, with no restart between:"
  pub record Promised (act_by reply-by record_by_lem : ℕ) (m : r.Modes) : Type 0 where
    -- "a command taken is acted on, in the order taken,": those taken are those acted on, each once, and then the one that waits, if one does
    pub in_order : (es : Events r) →
        let s = start r m in
        taken s es ≡ acted s es ++ listed (waiting (run s es))
    -- "at or before the 156th slot after its carriage return," the event e that took it
    pub acted_in_time : (before after : Events r) (e : Event r.Given) (c : r.Command) →
        let s = run (start r m) before in
        shows s e ≡ took c → act_by ≤ slots after → ActedBy act_by (next s e) c after
    -- "and the last byte of its reply, if it has one, leaves at or before the 233rd."
    pub replied_in_time : (before after : Events r) (e : Event r.Given) (c : r.Command) →
        let s = run (start r m) before in
        let s' = next s e in
        shows s e ≡ took c → reply-by ≤ slots after → (a : ActedBy act_by s' c after)
        → r.reply_to (modes (run s' a.mid)) c ≢ [] → RepliedBy reply-by s' c a.mid a.rest
    -- "While continuous sending stays on, a new record's first byte leaves at or before the 79th slot after the last byte of the record before.":
    -- counted from any state s with no message under way, so also from the one that a record's last byte leaves
    pub record_in_time : (before after : Events r) →
        let s = run (start r m) before in
        underway s ≡ [] → StaysOn s after → record_by_lem ≤ slots after → RecordBy record_by_lem s after
    -- "The bytes sent are whole messages end to end,": the greeting and those started; "the last may be unfinished."
    pub whole_messages : (es : Events r) → WholeMessages (start r m) es
    -- "each the one the rules give in the slot it starts;"
    pub by_rules : (es : Events r) (a : Option r.Command) (k : Kind) (b : ℕ) (bs : List ℕ) →
        let s = run (start r m) es in
        shows s slot ≡ begins a k b bs → ByRules s a k (b ∷ bs)
    -- a slot is idle only where nothing is left to send: no message, no command, no record
    pub idle_only : (es : Events r) (a : Option r.Command) →
        let s = run (start r m) es in
        shows s slot ≡ idles a → IdleFor s (next s slot)
    -- a line is taken where it ends, at its carriage return, if no command waits; it is dropped there if one waits, and in no other case
    pub taken_if_free : (es : Events r) (b : ℕ) →
        let s = run (start r m) es in
        r.ends (line s) b ≡ true → waiting s ≡ none → shows s (received b) ≡ took (r.read (line s))
    pub dropped_if_not : (es : Events r) (b : ℕ) (c : r.Command) →
        let s = run (start r m) es in
        r.ends (line s) b ≡ true → waiting s ≡ some c → shows s (received b) ≡ dropped
    pub dropped_only : (es : Events r) (e : Event r.Given) →
        let s = run (start r m) es in
        shows s e ≡ dropped → (b : ℕ) × (e ≡ received b) × (r.ends (line s) b ≡ true) × (c : r.Command) × (waiting s ≡ some c)

-- The theorem: the bounds follow from the sizes, for every port, from a start in good modes. (W = L = R = 78: 156, 233 and 79.)
abbrev pub Theorem : (r : Rules) → (r.Modes → Type 0) → ℕ → ℕ → ℕ → Type 0
Theorem r Good W L R = Sizes r Good W L R → (m : r.Modes) → Good m → Promised r (W + R) (W + R + L - 1) (L + 1) m
