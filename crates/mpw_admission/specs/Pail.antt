-- How much a pail of lines holds, and how long a line has to wait for it.
use Rattle.std.specs.Prelude.{ℕ, Bool, ◌+◌, ◌-◌, ◌*◌, min, nat_le, if◌then◌else◌}
use Rattle.std.specs.Int.{div_ceil}
use Rattle.mpw_admission.specs.declared.pail.Pail.{Pail}

-- in thousandths of a line: what it held, and what has flowed in since, but never more than it can hold
abbrev pub level_at : Pail → ℕ → ℕ
level_at pail now = min (pail.level + pail.rate * (now - pail.since)) (1000 * pail.most)

-- it holds a whole line
abbrev pub may_read : Pail → ℕ → Bool
may_read pail now = nat_le 1000 (level_at pail now)

-- the time in which the rest of a line flows in, in whole milliseconds
abbrev pub wait_of : Pail → ℕ → ℕ
wait_of pail now = div_ceil (1000 - level_at pail now) pail.rate

-- a line less, if it held one
abbrev pub level_after : Pail → ℕ → ℕ
level_after pail now = if may_read pail now then level_at pail now - 1000 else pail.level

abbrev pub since_after : Pail → ℕ → ℕ
since_after pail now = if may_read pail now then now else pail.since
