-- What flows into a pail in the time for which a line waits.
use Rattle.std.proofs.Common.{◌≡◌, ℕ, zero, suc, ◌+◌, ◌-◌, ◌*◌, ◌/◌, ◌%◌, ◌≤◌, ◌<◌, min, arith}
use Rattle.std.proofs.Math.Nat.{div-add-mod, mod-lt}
use Rattle.std.specs.Int.{div_ceil}

-- a rest that isn't none counts as one more
counts_rest : (r q m : ℕ) → m < r → r * q + m ≤ r * (q + min 1 m)
counts_rest r q zero below = grind arith
counts_rest r q (suc m) below = grind arith

-- as much as was missing, or more
covers : (x r : ℕ) → 0 < r → x ≤ r * div_ceil x r
covers x r flows =
    let whole : r * (x / r) + x % r ≡ x = div-add-mod x r in
    let counted : r * (x / r) + x % r ≤ r * (x / r + min 1 (x % r)) = counts_rest r (x / r) (x % r) (mod-lt x flows) in
    omega (arith, whole, counted)

-- a time after another adds what each of them does
adds : (rate since now more : ℕ) → since ≤ now → rate * (now + more - since) ≡ rate * (now - since) + rate * more
adds rate since now more past =
    let apart : now + more - since ≡ (now - since) + more = omega (arith, past) in
    rw apart (grind arith)

-- so the pail holds a line then
pub line_flows_in : (level rate since most now : ℕ) → 0 < rate → since ≤ now → 0 < most →
    1000 ≤ min (level + rate * (now + div_ceil (1000 - min (level + rate * (now - since)) (1000 * most)) rate - since)) (1000 * most)
line_flows_in level rate since most now flows past holds =
    let missing = 1000 - min (level + rate * (now - since)) (1000 * most) in
    let enough = covers missing rate flows in
    rw (adds rate since now (div_ceil missing rate) past) (omega (arith, enough, holds))
