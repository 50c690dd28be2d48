-- `digits::power` meets its contract: each arm is a power of ten, and the last is left for seven zeros. Assumes nothing.
use Rattle.std.proofs.Common.{◌≡◌, ℕ, ◌^◌, ◌<◌, ◌≤◌, ◌≢◌, refl, arith}
use Rattle.laws.proofs.Tests.{at}
use Rattle.digits.proofs.power.Goals as goal

-- what seven zeros are left by
four : (z : ℕ) → z ≢ 0 → z ≢ 1 → z ≢ 2 → z ≢ 3 → 4 ≤ z
four z a b c d = omega arith

seven : (z : ℕ) → 4 ≤ z → z < 8 → z ≢ 4 → z ≢ 5 → z ≢ 6 → z ≡ 7
seven z h k a b c = omega arith

abbrev power_of : ℕ → ℕ
power_of zeros = 10 ^ zeros

pub returns-in-0 : goal.returns-in-0
returns-in-0 c = at power_of c.in-0.is refl

pub returns-in-1 : goal.returns-in-1
returns-in-1 c = at power_of c.in-1.is refl

pub returns-in-2 : goal.returns-in-2
returns-in-2 c = at power_of c.in-2.is refl

pub returns-in-3 : goal.returns-in-3
returns-in-3 c = at power_of c.in-3.is refl

pub returns-in-4 : goal.returns-in-4
returns-in-4 c = at power_of c.in-4.is refl

pub returns-in-5 : goal.returns-in-5
returns-in-5 c = at power_of c.in-5.is refl

pub returns-in-6 : goal.returns-in-6
returns-in-6 c = at power_of c.in-6.is refl

pub returns-in_default : goal.returns-in_default
returns-in_default c =
    let r = c.in_default.in_default-own.rest in
    let l = r.0.0.0 in
    let low = four _ l.0.0.0.1 l.0.0.1 l.0.1 l.1 in
    at power_of (seven _ low c.requires r.0.0.1 r.0.1 r.1) refl
