-- Two runs in which the camera side's bytes differ, in the letter and its checksum, so that 'may differ' is not said of nothing: in the first the external port
-- acts on Y before the camera asks for the fixed data, in the second it is left alone. Statements only.
use Rattle.std.specs.Prelude.{ℕ, true, false, List, ◌∷◌, ◌++◌, ◌≢◌, ◌≡◌, replicate}
use Rattle.bench_lens.specs.Bench.{bench_settings, bench_measurement}
use Rattle.line.specs.Line.{CR}
use Rattle.rules.specs.Does.{fixed_with}
use Rattle.rules.specs.Lens.{greeting}
use Rattle.connectors.specs.declared.Side.TheVariants.{Camera}
use Rattle.isolation.specs.Calls.{Both, receive, slots_once, Call, restart, on, own_calls, bytes_at}
use Rattle.isolation.specs.Isolated.{reply_to_n}

-- a command of one letter on the port of a number, its carriage return, and so many slots
abbrev pub command : ℕ → ℕ → ℕ → List Call
command n letter slots = on n (receive letter) ∷ on n (receive CR) ∷ replicate slots (on n slots_once)

-- the bench lens at both ports, with start-up letter B
abbrev pub begin : Call
begin = restart (bench_settings 0x42) bench_measurement bench_measurement

-- the camera's own: N, whose reply leaves behind the greeting; G; and N once more
abbrev pub own : List Call
own = command 0 0x4E 70 ++ (command 0 0x47 5 ++ command 0 0x4E 69)

-- the external port: N, which wakes it, and Y, which is taken
abbrev pub woken : List Call
woken = command 1 0x4E 70 ++ command 1 0x59 0

-- its next slot acts on Y
abbrev pub first : List Call
first = begin ∷ (woken ++ on 1 slots_once ∷ own)

abbrev pub second : List Call
second = begin ∷ own

-- < / the fixed data / !MN / the fixed data with their checksum, with this letter
abbrev pub saying : ℕ → List ℕ
saying letter =
    let f = fixed_with letter (bench_settings 0x42).fixed in
    greeting ++ (reply_to_n false f ++ (0x21 ∷ 0x4D ∷ 0x4E ∷ 0x0A ∷ 0x0D ∷ reply_to_n true f))

pub record Differs : Type 0 where
  pub own_same : own_calls Camera first ≡ own_calls Camera second
  pub first_says : (h : Both) → bytes_at Camera h first ≡ saying 0x62
  pub second_says : (h : Both) → bytes_at Camera h second ≡ saying 0x42
  pub differ : (h : Both) → bytes_at Camera h first ≢ bytes_at Camera h second
