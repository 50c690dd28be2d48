-- The bytes of a run: a message under way is sent byte by byte, one in each slot, and what is sent is whole messages end to end. By induction on the
-- events, each of which sends nothing, the next byte, or the first byte of a message (`Flow`). Assumes nothing.
use Prim.Native.Nat.{ℕ, ◌≤◌, ◌<◌}
use native.Mathlib.Omega.{arith}
use mathlib.Core.Path.{◌≡◌, refl, ap, ◌∙◌}
use mathlib.Core.List.{List, [], ◌∷◌, ◌++◌, append-nil, append_assoc}
use lib.ListN.{length}
use lib.Seq.{append_snoc}
use Rattle.laws.specs.Flat.{flat}
use Rattle.machine.specs.Machine.{Rules, Event, slots, Events, State, port, underway, next, shows, run, started, sent}
use Rattle.machine.specs.Promised.{Sizes, WholeMessages}
use Rattle.machine.proofs.Step.{Flow, quiet, going, opening, flow, stepped}
use Rattle.machine.proofs.Counts.{Kept, next_kept}
use Rattle.machine.proofs.InTime.{slots_cons}

module _ {r : Rules} where
  open r use {Given}

  -- the first of the events send what is under way, in as many slots as it has bytes
  pub record Sent (s : State r) (es : Events r) : Type 0 where
    pub sending : Events r
    pub later : Events r
    pub split : es ≡ sending ++ later
    pub bytes : sent s sending ≡ underway s
    pub count : slots sending ≡ length (underway s)

  send_none : (s : State r) (es : Events r) → length (underway s) ≤ 0 → Sent s es
  send_none (port m w [] k l) es z = record { sending = []; later = es; split = refl; bytes = refl; count = refl }
  send_none (port m w (b ∷ bs) k l) es z = absurd (omega arith)

  send_step : (s : State r) (e : Event Given) (es : Events r) → Flow s e (next s e) (shows s e) → 0 < length (underway s) → length (underway s) ≤ slots (e ∷ es)
      → (length (underway (next s e)) ≤ slots es → Sent (next s e) es) → Sent s (e ∷ es)
  send_step s e es (quiet z q t u) p n ih =
      let v = ih (omega (arith, z p, ap length u, slots_cons e es)) in
      record {
        sending = e ∷ v.sending;
        later = v.later;
        split = ap (λ x. e ∷ x) v.split;
        bytes = rw q (v.bytes ∙ u);
        count = omega (arith, z p, slots_cons e v.sending, v.count, ap length u);
      }
  send_step s e es (going b z q t u) p n ih =
      let v = ih (omega (arith, ap length u, slots_cons e es)) in
      record {
        sending = e ∷ v.sending;
        later = v.later;
        split = ap (λ x. e ∷ x) v.split;
        bytes = rw (q, v.bytes, u);
        count = omega (arith, slots_cons e v.sending, v.count, ap length u);
      }
  send_step s e es (opening b q t u) p n ih = absurd (omega (arith, ap length u))

  -- the same, where d has already left of the message under way
  record WholeFrom (s : State r) (d : List ℕ) (es : Events r) : Type 0 where
    whole : List (List ℕ)
    done : List ℕ
    messages : (d ++ underway s) ∷ started s es ≡ whole ++ (done ++ underway (run s es)) ∷ []
    bytes : d ++ sent s es ≡ flat whole ++ done

  whole_step : (s : State r) (d : List ℕ) (e : Event Given) (es : Events r) → Flow s e (next s e) (shows s e)
      → ((d' : List ℕ) → WholeFrom (next s e) d' es) → WholeFrom s d (e ∷ es)
  whole_step s d e es (quiet z q t u) ih =
      let v = ih d in
      record { whole = v.whole; done = v.done; messages = rw (t, ← u) v.messages; bytes = rw q v.bytes }
  whole_step s d e es (going b z q t u) ih =
      let v = ih (d ++ (b ∷ [])) in
      record { whole = v.whole; done = v.done; messages = rw (t, u, ← append_snoc d b) v.messages; bytes = rw (q, ← append_snoc d b) v.bytes }
  whole_step s d e es (opening b q t u) ih =
      let v = ih (b ∷ []) in
      record {
        whole = d ∷ v.whole;
        done = v.done;
        messages = rw (t, u, append-nil d) (ap (λ x. d ∷ x) v.messages);
        bytes = rw (q, append_assoc) (ap (λ x. d ++ x) v.bytes);
      }

  module _ {Good : r.Modes → Type 0} {W L R : ℕ} (fits : Sizes r Good W L R) where
    send_case : (s : State r) (e : Event Given) (es : Events r) → Kept Good W s → length (underway s) ≤ slots (e ∷ es)
        → (length (underway (next s e)) ≤ slots es → Sent (next s e) es) → Sent s (e ∷ es)
    send_case (port m w [] k l) e es h n ih = send_none (port m w [] k l) (e ∷ es) (omega arith)
    send_case (port m w (b ∷ bs) k l) e es h n ih =
        let s : State r = port m w (b ∷ bs) k l in
        send_step s e es (flow (stepped fits s e h.good)) (omega arith) n ih

    pub send_all : (s : State r) (es : Events r) → Kept Good W s → length (underway s) ≤ slots es → Sent s es
    send_all s [] h n = send_none s [] n
    send_all s (e ∷ es) h n = send_case s e es h n (send_all (next s e) es (next_kept fits s e h))

    whole_from : (s : State r) (d : List ℕ) (es : Events r) → Kept Good W s → WholeFrom s d es
    whole_from s d [] h = record { whole = []; done = d; messages = refl; bytes = append-nil d }
    whole_from s d (e ∷ es) h = whole_step s d e es (flow (stepped fits s e h.good)) (λ d'. whole_from (next s e) d' es (next_kept fits s e h))

    pub whole_sent : (s : State r) (es : Events r) → Kept Good W s → WholeMessages s es
    whole_sent s es h =
        let v = whole_from s [] es h in
        record { whole = v.whole; done = v.done; messages = v.messages; bytes = v.bytes }
