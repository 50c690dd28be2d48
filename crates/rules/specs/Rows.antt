-- Document 01's table of commands, as the requests amend it, by what a camera may rely on: what each row answers, byte by byte, and what it
-- switches, nothing else; and with it the readings of the table that have gone wrong. Statements only.
use Rattle.std.specs.Prelude.{ℕ, ◌+◌, ◌≤◌, ◌<◌, Bool, true, false, List, [], ◌∷◌, ◌≢◌, ◌↔◌, ◌≡◌, pos, negsuc, get_or, Ok}
use Rattle.digits.specs.Digits.{decimal}
use Rattle.frame.specs.Frame.{framed}
use Rattle.record.specs.Forms.{text_form, packed_form}
use Rattle.fixed.specs.Form.{fixed_form}
use Rattle.units.specs.Measurement.{measurement_verdict, record_in}
use Rattle.units.specs.declared.Measurement.{Measurement}
use Rattle.line.specs.declared.Line.{Line}
use Rattle.line.specs.Command.{command_of}
use Rattle.line.specs.declared.Command.{Command}
use Rattle.line.specs.declared.Command.TheVariants.{B, C, D, G, H, Ka, Kb, Kc, Kd, K3, K4, N, P, «V», W, X, Y, Unknown}
use Rattle.state.specs.declared.State.{State}
use Rattle.state.specs.declared.State.TheVariants.{Ready, Running}
use Rattle.state.specs.declared.Sending.{Sending}
use Rattle.state.specs.declared.Sending.TheVariants as sending
use Rattle.state.specs.declared.Source.{Source}
use Rattle.rules.specs.Does.{runs, readies}
use Rattle.rules.specs.Lens.{start_modes, Turn, by_x, by_y, measurement, elsewhere, lens}

-- what no switch touches
pub record Untouched (s t : Source) : Type 0 where
  pub settings : t.settings ≡ s.settings
  pub measurement : t.measurement ≡ s.measurement
  pub film : t.modes.film ≡ s.modes.film
  pub unit : t.modes.unit ≡ s.modes.unit
  pub rate : t.modes.rate ≡ s.modes.rate
  pub next_rate_lem : t.modes.next_rate ≡ s.modes.next_rate

-- what a command may switch: continuous sending, checksum, inhibit, film, unit, the rate to come
abbrev pub Switches : Type 0
Switches = Sending × Bool × Bool × ℕ × ℕ × ℕ

abbrev pub switches : Source → Switches
switches t = (t.modes.sending, t.modes.checksum, t.modes.inhibit, t.modes.film, t.modes.unit, t.modes.next_rate)

-- what none touches in running: the state, the rate number of now, the measurement, and of the settings all but the start-up letter
abbrev pub Others : Type 0
Others = State × ℕ × Measurement × List ℕ × List ℕ × ℕ × ℕ × ℕ × ℕ × List ℕ × List ℕ × List ℕ × List ℕ

abbrev pub others : Source → Others
others t =
    let x = t.settings in
    let f = x.fixed in
    (t.modes.state, t.modes.rate, t.measurement, f.serial, f.owner, f.lens.kind, f.lens.focal, f.lens.maximum, f.lens.transmission, f.version, x.maker, x.type_name, x.blur)

module _ (s : Source) where
  -- a body as it is sent where the command leaves the checksum mode
  abbrev pub said : List ℕ → List ℕ
  said body = framed s.modes.checksum body

  -- the record as text and packed: of the measurement, in the display unit, with item 1 as its serial
  abbrev pub text_now : List ℕ
  text_now = said (text_form.print (record_in s.modes.unit s.measurement s.settings.fixed.serial))

  abbrev pub packed_now : List ℕ
  packed_now = said (packed_form.print (record_in s.modes.unit s.measurement s.settings.fixed.serial))

  -- 0.0 and three digits: item 11's blur circle of this film
  abbrev pub circle : ℕ → List ℕ
  circle n = 0x30 ∷ 0x2E ∷ 0x30 ∷ decimal 3 (get_or s.settings.blur n 0)

  pub record Rows : Type 0 where
    -- ---- the lens
    -- a carriage return ends a line, and no other byte does
    pub ends_at_cr : (l : Line) (b : ℕ) → (lens.ends l b ≡ true) ↔ (b ≡ 13)
    -- a start leaves < to be sent, the lens ready, all modes off, film 00, rate number 6
    pub start_greets : lens.greeting ≡ 0x3C ∷ 0x0A ∷ 0x0D ∷ []
    pub start_ready : (u : ℕ) → (start_modes u).state ≡ Ready
    pub start_off : (u : ℕ) → ((start_modes u).sending ≡ sending.Off) × (((start_modes u).checksum ≡ false) × ((start_modes u).inhibit ≡ false))
    pub start_film : (u : ℕ) → (start_modes u).film ≡ 0
    pub start_rate : (u : ℕ) → ((start_modes u).rate ≡ 6) × ((start_modes u).next_rate ≡ 6)
    -- it acts on a line and answers it by the rows of its state, of the command that the line is
    pub ready_acts : (l : Line) → s.modes.state ≡ Ready → (lens.act s l ≡ (readies s (command_of l)).source) × (lens.reply_to s l ≡ (readies s (command_of l)).reply)
    pub running_acts : (l : Line) → s.modes.state ≡ Running → (lens.act s l ≡ (runs s (command_of l)).source) × (lens.reply_to s l ≡ (runs s (command_of l)).reply)
    -- the end of a message moves the rate number, and changes nothing else
    pub ended_rate : (lens.ended s).modes.rate ≡ s.modes.next_rate
    pub ended_keeps : ((lens.ended s).settings ≡ s.settings) × ((lens.ended s).measurement ≡ s.measurement) × ((lens.ended s).modes.state ≡ s.modes.state)
    pub ended_switches : switches (lens.ended s) ≡ switches s
    -- a new measurement takes the old one's place, where it is in range, and nothing else changes
    pub measures : (m : Measurement) → measurement_verdict m ≡ Ok tt →
        lens.update s (measurement m) ≡ record { settings = s.settings; measurement = m; modes = s.modes }
    -- "X or Y on one port changes a B or b that the other's N shows, and nothing else there": the settings become what X or Y would make of them here
    pub x_elsewhere : (lens.update s (elsewhere by_x)).settings ≡ (runs s X).source.settings
    pub y_elsewhere : (lens.update s (elsewhere by_y)).settings ≡ (runs s Y).source.settings
    pub elsewhere_keeps : (t : Turn) → others (lens.update s (elsewhere t)) ≡ others s
    pub elsewhere_switches : (t : Turn) → switches (lens.update s (elsewhere t)) ≡ switches s
    -- ---- in ready
    -- N answers the fixed data and moves to running, and changes nothing else; everything else answers < and does nothing
    pub ready_n : (readies s N).reply ≡ said (fixed_form.print s.settings.fixed)
    pub ready_wakes : (readies s N).source.modes.state ≡ Running
    pub waking_keeps : Untouched s (readies s N).source
    pub waking_switches : switches (readies s N).source ≡ switches s
    pub ready_answers : (c : Command) → c ≢ N → (readies s c).reply ≡ said (0x3C ∷ [])
    pub ready_stays : (c : Command) → c ≢ N → (readies s c).source ≡ s
    -- ---- in running: what is switched
    pub others_stay : (c : Command) → others (runs s c).source ≡ others s
    -- "continuous text, continuous packed"; "checksum on, error inhibit on"; "continuous, checksum, inhibit off, no other change"
    pub c_switches : let m = s.modes in switches (runs s C).source ≡ (sending.Text, m.checksum, m.inhibit, m.film, m.unit, m.next_rate)
    pub kc_switches : let m = s.modes in switches (runs s Kc).source ≡ (sending.Packed, m.checksum, m.inhibit, m.film, m.unit, m.next_rate)
    pub g_switches : let m = s.modes in switches (runs s G).source ≡ (m.sending, true, m.inhibit, m.film, m.unit, m.next_rate)
    pub ka_switches : let m = s.modes in switches (runs s Ka).source ≡ (m.sending, m.checksum, true, m.film, m.unit, m.next_rate)
    pub h_switches : let m = s.modes in switches (runs s H).source ≡ (sending.Off, false, false, m.film, m.unit, m.next_rate)
    -- "the rate number changes in the slot of its last byte": it is the rate to come; "film 00, 01, nn"; "imperial, metric"
    pub kb_switches : (n : ℕ) → let m = s.modes in switches (runs s (Kb n)).source ≡ (m.sending, m.checksum, m.inhibit, m.film, m.unit, n)
    pub v_switches : let m = s.modes in switches (runs s «V»).source ≡ (m.sending, m.checksum, m.inhibit, 0, m.unit, m.next_rate)
    pub w_switches : (n : ℕ) → let m = s.modes in switches (runs s (W n)).source ≡ (m.sending, m.checksum, m.inhibit, n, m.unit, m.next_rate)
    pub x_switches : let m = s.modes in switches (runs s X).source ≡ (m.sending, m.checksum, m.inhibit, m.film, 0x49, m.next_rate)
    pub y_switches : let m = s.modes in switches (runs s Y).source ≡ (m.sending, m.checksum, m.inhibit, m.film, 0x4D, m.next_rate)
    -- the start-up letter: I and M stay, B or b becomes B by X, b by Y (no other command touches it: Unread)
    pub i_stays : s.settings.fixed.lens.letter ≡ 0x49 → ((runs s X).source.settings.fixed.lens.letter ≡ 0x49) × ((runs s Y).source.settings.fixed.lens.letter ≡ 0x49)
    pub m_stays : s.settings.fixed.lens.letter ≡ 0x4D → ((runs s X).source.settings.fixed.lens.letter ≡ 0x4D) × ((runs s Y).source.settings.fixed.lens.letter ≡ 0x4D)
    pub b_turns : s.settings.fixed.lens.letter ≡ 0x62 → ((runs s X).source.settings.fixed.lens.letter ≡ 0x42) × ((runs s Y).source.settings.fixed.lens.letter ≡ 0x62)
    pub capital_b_turns : s.settings.fixed.lens.letter ≡ 0x42 → ((runs s X).source.settings.fixed.lens.letter ≡ 0x42) × ((runs s Y).source.settings.fixed.lens.letter ≡ 0x62)
    -- what only asks, and an unknown command, changes nothing
    pub b_asks : (runs s B).source ≡ s
    pub d_asks : (runs s D).source ≡ s
    pub kd_asks : (runs s Kd).source ≡ s
    pub k3_asks : (runs s K3).source ≡ s
    pub k4_asks : (runs s K4).source ≡ s
    pub n_asks : (runs s N).source ≡ s
    pub p_asks : (runs s P).source ≡ s
    pub unknown_keeps : (runs s Unknown).source ≡ s
    -- ---- in running: what is answered
    -- under the modes after the command, the checksum not over LF CR: G answers !MN, H plain !
    pub g_answers : (runs s G).reply ≡ 0x21 ∷ 0x4D ∷ 0x4E ∷ 0x0A ∷ 0x0D ∷ []
    pub h_answers : (runs s H).reply ≡ 0x21 ∷ 0x0A ∷ 0x0D ∷ []
    -- "B, space, version"; "`!`"; "one record"; "`Kb`n`!`"; "tag and name"; "fixed data"; "V or W, then 0.0 and three digits"; "X or Y"; "`?`"
    pub b_answers : (runs s B).reply ≡ said (0x42 ∷ 0x20 ∷ s.settings.fixed.version)
    pub c_answers : (runs s C).reply ≡ said (0x21 ∷ [])
    pub kc_answers : (runs s Kc).reply ≡ said (0x21 ∷ [])
    pub ka_answers : (runs s Ka).reply ≡ said (0x21 ∷ [])
    pub d_answers : (runs s D).reply ≡ text_now
    pub kd_answers : (runs s Kd).reply ≡ packed_now
    pub kb_answers : (n : ℕ) → (runs s (Kb n)).reply ≡ said (0x4B ∷ 0x62 ∷ (0x30 + n) ∷ 0x21 ∷ [])
    pub k3_answers : (runs s K3).reply ≡ said (0x4B ∷ 0x33 ∷ s.settings.maker)
    pub k4_answers : (runs s K4).reply ≡ said (0x4B ∷ 0x34 ∷ s.settings.type_name)
    pub n_answers : (runs s N).reply ≡ said (fixed_form.print s.settings.fixed)
    pub v_answers : (runs s «V»).reply ≡ said (0x56 ∷ circle 0)
    pub w_answers : (n : ℕ) → (runs s (W n)).reply ≡ said (0x57 ∷ circle n)
    pub x_answers : (runs s X).reply ≡ said (0x58 ∷ [])
    pub y_answers : (runs s Y).reply ≡ said (0x59 ∷ [])
    pub unknown_answers : s.modes.inhibit ≡ false → (runs s Unknown).reply ≡ said (0x3F ∷ [])
    -- inhibited, an unknown command has no reply
    pub inhibited : s.modes.inhibit ≡ true → (runs s Unknown).reply ≡ []
    -- P and two characters: below 0 the letters FF, else two digits, above 99 those of 99; the checksum covers them
    pub mild : (n : ℕ) → n ≤ 99 → s.measurement.temperature ≡ pos n → (runs s P).reply ≡ said (0x50 ∷ decimal 2 n)
    pub cold : (n : ℕ) → s.measurement.temperature ≡ negsuc n → (runs s P).reply ≡ said (0x50 ∷ 0x46 ∷ 0x46 ∷ [])
    pub hot : (n : ℕ) → 99 < n → s.measurement.temperature ≡ pos n → (runs s P).reply ≡ said (0x50 ∷ 0x39 ∷ 0x39 ∷ [])
    -- ---- records, and what counts
    -- continuous sending is on where it is text or packed, and where it is off it is not
    pub text_on_lem : s.modes.sending ≡ sending.Text → lens.continuous s ≡ true
    pub packed_on : s.modes.sending ≡ sending.Packed → lens.continuous s ≡ true
    pub stays_off : s.modes.sending ≡ sending.Off → lens.continuous s ≡ false
    -- the record that it starts
    pub text_record : s.modes.sending ≡ sending.Text → lens.record_of s ≡ text_now
    pub packed_record_lem : s.modes.sending ≡ sending.Packed → lens.record_of s ≡ packed_now
    -- "`<` counts as neither record nor reply sent last. A record that answers D or Kd counts as a reply": so does each reply but `<`
    pub uncounted : (l : Line) → s.modes.state ≡ Ready → command_of l ≢ N → lens.counts s l ≡ false
    pub waking_counts : (l : Line) → s.modes.state ≡ Ready → command_of l ≡ N → lens.counts s l ≡ true
    pub running_counts : (l : Line) → s.modes.state ≡ Running → lens.counts s l ≡ true
