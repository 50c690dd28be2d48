-- The promises of the box, entry by entry: on a port they are that port's, put back in its place; elsewhere 12 leaves all as it was. Assumes nothing.
use Prim.Native.Nat.{ℕ}
use mathlib.Core.Bool.{true, false, ◌&&◌}
use mathlib.Core.Logic.{◌↔◌, inl, ⊎_elim, ◌≢◌}
use mathlib.Core.Path.{◌≡◌, refl, sym, ap, subst}
use lib.Dec.{eqb}
use lib.ListN.{length}
use Rattle.std.specs.Prelude.{Option, Ok, Err}
use Rattle.laws.proofs.Tests.{told, by, never}
use Rattle.refusal.specs.Answer.{Verdict}
use Rattle.refusal.specs.declared.Refusal.{Refusal}
use Rattle.refusal.specs.declared.Refusal.TheVariants as refusal
use Rattle.fixed.specs.Fixed.{settings_lowest}
use Rattle.fixed.specs.declared.Settings.{Settings}
use Rattle.units.specs.Units.{is_unit}
use Rattle.units.specs.Measurement.{measurement_lowest, measurement_verdict}
use Rattle.units.specs.declared.Measurement.{Measurement}
use Rattle.line.specs.declared.Line.{Line}
use Rattle.line.specs.Line.{blank, valid_line}
use Rattle.port.specs.declared.Port.{Port}
use Rattle.port.specs.Port.{valid_port, slot_of, receive_of, measure_of, unstarted}
use Rattle.port.proofs.Promises as port
use Rattle.port.proofs.Cases.{by_case}
use Rattle.port.proofs.State.{sixteen_when}
use Rattle.fill.specs.Fill.{fill_of}
use Rattle.fill.proofs.Promises as fill
use Rattle.connectors.specs.declared.Side.{Side}
use Rattle.connectors.specs.declared.Side.TheVariants.{Camera, External}
use Rattle.connectors.specs.declared.Connector.{Connector}
use Rattle.connectors.specs.declared.Connectors.{Connectors}
use Rattle.connectors.specs.Connectors.{side_of, port_with, port_at, with_port, unstarted_both, receive_in, slot_in, measure_in, fill_in, fill_leaves_in}
use Rattle.connectors.specs.Promises.{NoSuchPort, UnknownSame, Became, AsThePort, SixteenAt, RefusedSame, BothValid, KeptValid, Promised}
use Rattle.connectors.proofs.Numbers.{named, at_side, each, unknown, unknown_only}
use Rattle.connectors.proofs.Restart.{restart, started_valid}

-- ---- 12 and 16, which no port gives for anything else

-- a measurement is refused with 1 only
only_fields : (m : Measurement) (r : Refusal) → ((i : ℕ) → r ≢ refusal.Field i) → measurement_verdict m ≢ Err r
unfolding measurement_verdict
only_fields m r f =
    let P : Verdict → Type 0 = λ v. v ≢ Err r in
    let wrong : (i : ℕ) → P (Err (refusal.Field i)) = λ i e. f i (cc) in
    by P (is_unit m.unit) _ _ (λ y. by P (eqb (measurement_lowest m) 0) _ _ (λ z e. never (cc)) (λ z. wrong (measurement_lowest m))) (λ n. wrong 0)

module _ (p : Port) where
  receive_not_12 : (l : Line) (x : ℕ) → (receive_of p l x).verdict ≢ Err refusal.NoPort
  receive_not_12 l x e = ⊎_elim (λ h. let z = h.1 in never (cc)) (λ h. let z = h.3 in never (cc)) ((by_case.receive p l x refusal.NoPort).0 e)

  measure_not_12 : (m : Measurement) → (measure_of p m).verdict ≢ Err refusal.NoPort
  measure_not_12 m e =
      ⊎_elim (λ h. let z = h.1 in never (cc)) (λ h. only_fields m refusal.NoPort (λ i z. never (cc)) h.1) ((by_case.measure p m refusal.NoPort).0 e)

  receive_16 : (l : Line) (x : ℕ) → ((receive_of p l x).verdict ≡ Err refusal.State) ↔ (valid_port p && valid_line l ≡ false)
  receive_16 l x = (
    λ e. ⊎_elim (λ h. h.0) (λ h. let z = h.3 in never (cc)) ((by_case.receive p l x refusal.State).0 e),
    λ f. (by_case.receive p l x refusal.State).1 (inl (f, refl)),
  )

  measure_16 : (m : Measurement) → ((measure_of p m).verdict ≡ Err refusal.State) ↔ (valid_port p ≡ false)
  measure_16 m = (
    λ e. ⊎_elim (λ h. h.0) (λ h. absurd (only_fields m refusal.State (λ i z. never (cc)) h.1)) ((by_case.measure p m refusal.State).0 e),
    λ f. (by_case.measure p m refusal.State).1 (inl (f, refl)),
  )

pub no_such_port : NoSuchPort
unfolding receive_in slot_in measure_in fill_in
no_such_port = record {
  receive = λ b n l x. unknown_only (λ (m : Option Side). (receive_in b m l x).verdict ≡ Err refusal.NoPort) (λ a. receive_not_12 (port_at b a) l x) refl n;
  slot = λ b n.
      unknown_only (λ (m : Option Side). (slot_in b m).sent ≡ Err refusal.NoPort)
      (λ a e. let z = ((by_case.slot (port_at b a) refusal.NoPort).0 e).1 in never (cc)) refl n;
  measure = λ b n m. unknown_only (λ (k : Option Side). (measure_in b k m).verdict ≡ Err refusal.NoPort) (λ a. measure_not_12 (port_at b a) m) refl n;
  fill = λ b n room.
      unknown_only (λ (m : Option Side). (fill_in b m room).verdict ≡ Err refusal.NoPort)
      (λ a e. let z = (((fill.promised).by_case (port_at b a) room refusal.NoPort).0 e).1 in never (cc)) refl n;
}

pub unknown_same : UnknownSame
unfolding receive_in slot_in measure_in fill_in fill_leaves_in
unknown_same = record {
  receive = λ b n l x. unknown (λ (m : Option Side). ((receive_in b m l x).connectors ≡ b) × ((receive_in b m l x).line ≡ l)) (refl, refl) n;
  slot = λ b n. unknown (λ (m : Option Side). (slot_in b m).connectors ≡ b) refl n;
  measure = λ b n m. unknown (λ (k : Option Side). (measure_in b k m).connectors ≡ b) refl n;
  fill = λ b n out.
      unknown (λ (m : Option Side). ((fill_in b m (length out)).connectors ≡ b) × ((fill_in b m (length out)).count ≡ 0) × (fill_leaves_in b m out ≡ out)) (refl, refl, refl) n;
}

pub sixteen_at : SixteenAt
unfolding receive_in slot_in measure_in fill_in
sixteen_at = record {
  receive = λ b n a l x e.
      at_side (λ (m : Option Side). ((receive_in b m l x).verdict ≡ Err refusal.State) ↔ (valid_port (port_at b a) && valid_line l ≡ false)) e (receive_16 (port_at b a) l x);
  slot = λ b n a e.
      let c = by_case.slot (port_at b a) refusal.State in
      at_side (λ (m : Option Side). ((slot_in b m).sent ≡ Err refusal.State) ↔ (valid_port (port_at b a) ≡ false)) e (λ r. (c.0 r).0, λ f. c.1 (f, refl));
  measure = λ b n a m e.
      at_side (λ (k : Option Side). ((measure_in b k m).verdict ≡ Err refusal.State) ↔ (valid_port (port_at b a) ≡ false)) e (measure_16 (port_at b a) m);
  fill = λ b n a room e.
      let c = (fill.promised).by_case (port_at b a) room refusal.State in
      at_side (λ (m : Option Side). ((fill_in b m room).verdict ≡ Err refusal.State) ↔ (valid_port (port_at b a) ≡ false)) e (λ r. (c.0 r).0, λ f. c.1 (f, refl));
}

-- ---- a port in its place

pub in_place_lem : (b : Connectors) (a : Side) (p : Port) → Became b a p (with_port b a p)
in_place_lem b Camera p = record { port = refl; settings = refl; other = refl }
in_place_lem b External p = record { port = refl; settings = refl; other = refl }

became : (b : Connectors) (a : Side) (p : Port) {after : Connectors} → after ≡ with_port b a p → Became b a p after
became b a p e = subst (Became b a p) (sym e) (in_place_lem b a p)

-- the port that was there
pub put_back : (b : Connectors) (a : Side) {p : Port} → p ≡ port_at b a → with_port b a p ≡ b
put_back b Camera e = ap (with_port b Camera) e
put_back b External e = ap (with_port b External) e

pub as_the_port : AsThePort
unfolding receive_in slot_in measure_in fill_in fill_leaves_in
as_the_port = record {
  receive = λ b n a l x e. (
    ap (λ (m : Option Side). (receive_in b m l x).verdict) e,
    ap (λ (m : Option Side). (receive_in b m l x).line) e,
    became b a (receive_of (port_at b a) l x).port (ap (λ (m : Option Side). (receive_in b m l x).connectors) e),
  );
  slot = λ b n a e. (
    ap (λ (m : Option Side). (slot_in b m).sent) e,
    became b a (slot_of (port_at b a)).port (ap (λ (m : Option Side). (slot_in b m).connectors) e),
  );
  measure = λ b n a m e. (
    ap (λ (k : Option Side). (measure_in b k m).verdict) e,
    became b a (measure_of (port_at b a) m).port (ap (λ (k : Option Side). (measure_in b k m).connectors) e),
  );
  fill = λ b n a room e. (
    ap (λ (m : Option Side). (fill_in b m room).verdict) e,
    ap (λ (m : Option Side). (fill_in b m room).count) e,
    became b a (fill_of (port_at b a) room).port (ap (λ (m : Option Side). (fill_in b m room).connectors) e),
  );
  fill_bytes = λ b n a out e. ap (λ (m : Option Side). fill_leaves_in b m out) e;
}

pub refused_same : RefusedSame
unfolding receive_in slot_in measure_in fill_in fill_leaves_in
refused_same = record {
  receive = λ b n l x r.
      each (λ (m : Option Side). (receive_in b m l x).verdict ≡ Err r → (receive_in b m l x).connectors ≡ b)
      (λ a e. put_back b a ((port.refused_same).receive (port_at b a) l x r e)) (λ e. refl) (side_of n);
  receive_12 = λ b n l x.
      each (λ (m : Option Side). (receive_in b m l x).verdict ≡ Err refusal.NoPort → (receive_in b m l x).line ≡ l)
      (λ a e. absurd (receive_not_12 (port_at b a) l x e)) (λ e. refl) (side_of n);
  receive_16 = λ b n l x.
      each (λ (m : Option Side). (receive_in b m l x).verdict ≡ Err refusal.State → (receive_in b m l x).line ≡ l)
      (λ a. (port.refused_same).receive_16 (port_at b a) l x) (λ e. refl) (side_of n);
  receive_7 = λ b n l x.
      each (λ (m : Option Side). (receive_in b m l x).verdict ≡ Err refusal.Dropped → (receive_in b m l x).line ≡ blank)
      (λ a. (port.refused_same).receive_7 (port_at b a) l x) (λ e. never (cc)) (side_of n);
  slot = λ b n r.
      each (λ (m : Option Side). (slot_in b m).sent ≡ Err r → (slot_in b m).connectors ≡ b)
      (λ a e. put_back b a ((port.refused_same).slot (port_at b a) r e)) (λ e. refl) (side_of n);
  measure = λ b n m r.
      each (λ (k : Option Side). (measure_in b k m).verdict ≡ Err r → (measure_in b k m).connectors ≡ b)
      (λ a e. put_back b a ((port.refused_same).measure (port_at b a) m r e)) (λ e. refl) (side_of n);
  fill = λ b n room r.
      each (λ (m : Option Side). (fill_in b m room).verdict ≡ Err r → (fill_in b m room).connectors ≡ b)
      (λ a e. put_back b a ((fill.promised).refused_port (port_at b a) room r e)) (λ e. refl) (side_of n);
  fill_bytes = λ b n out r.
      each (λ (m : Option Side). (fill_in b m (length out)).verdict ≡ Err r → fill_leaves_in b m out ≡ out)
      (λ a. (fill.promised).refused_bytes (port_at b a) out r) (λ e. refl) (side_of n);
}

-- ---- validity

-- the other port, over settings that a valid one has
over_settings : (s t : Settings) (c : Connector) → settings_lowest t ≡ 0 → valid_port (port_with s c) ≡ true → valid_port (port_with t c) ≡ true
over_settings s t c z v =
    let o = (sixteen_when (port_with s c)).0 v in
    (sixteen_when (port_with t c)).1
    (record {
      settings = z;
      measurement = o.measurement;
      film = o.film;
      unit = o.unit;
      rate = o.rate;
      next_rate_lem = o.next_rate_lem;
      message = o.message;
      sent = o.sent;
      waiting = o.waiting;
    })

pub both_valid : (b : Connectors) (a : Side) (p : Port) → valid_port p ≡ true → BothValid b → BothValid (with_port b a p)
both_valid b Camera p v w Camera = v
both_valid b Camera p v w External = over_settings b.settings p.source.settings b.external ((sixteen_when p).0 v).settings (w External)
both_valid b External p v w Camera = over_settings b.settings p.source.settings b.camera ((sixteen_when p).0 v).settings (w Camera)
both_valid b External p v w External = v

-- no measurement has a unit of 0
none_valid : valid_port unstarted ≡ false
unfolding measurement_verdict
none_valid =
    told (valid_port unstarted) (λ v. let e : Err (refusal.Field 0) ≡ Ok tt = ((sixteen_when unstarted).0 v).measurement in never (cc)) (λ f. f)

unstarted_none : (a : Side) → valid_port (port_at unstarted_both a) ≡ false
unstarted_none Camera = none_valid
unstarted_none External = none_valid

pub kept_valid : KeptValid
unfolding receive_in slot_in measure_in fill_in
kept_valid = record {
  start = started_valid;
  receive = λ b n l x v.
      each (λ (m : Option Side). BothValid (receive_in b m l x).connectors) (λ a. both_valid b a _ ((port.kept_valid).receive (port_at b a) l x (v a)) v) v (side_of n);
  line = λ b n l x v.
      each (λ (m : Option Side). valid_line (receive_in b m l x).line ≡ true) (λ a. (port.kept_valid).line (port_at b a) l x v) v (side_of n);
  slot = λ b n v. each (λ (m : Option Side). BothValid (slot_in b m).connectors) (λ a. both_valid b a _ ((port.kept_valid).slot (port_at b a) (v a)) v) v (side_of n);
  measure = λ b n m v.
      each (λ (k : Option Side). BothValid (measure_in b k m).connectors) (λ a. both_valid b a _ ((port.kept_valid).measure (port_at b a) m (v a)) v) v (side_of n);
  fill = λ b n room v.
      each (λ (m : Option Side). BothValid (fill_in b m room).connectors) (λ a. both_valid b a _ ((fill.promised).kept_valid (port_at b a) room (v a)) v) v (side_of n);
  unstarted = unstarted_none;
}

pub promised : Promised
promised = record {
  named = named;
  no_such_port = no_such_port;
  unknown_same = unknown_same;
  as_the_port = as_the_port;
  sixteen_at = sixteen_at;
  refused_same = refused_same;
  restart = restart;
  kept_valid = kept_valid;
}
