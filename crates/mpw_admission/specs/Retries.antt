-- How long a worker waits before a tile, in seconds.
use Rattle.std.specs.Prelude.{ℕ, Bool, false, ◌&&◌, ◌*◌, ◌==◌, min, Option, None, Some, if◌then◌else◌}
use Rattle.mpw_admission.specs.declared.retries.Tried.{Tried}

-- it is the tile that was tried last
abbrev pub is_same : Option Tried → Tried → Bool
is_same None tried = false
is_same (Some last) tried = last.run == tried.run && last.tile == tried.tile

-- the pause before the same tile, and none before another one
abbrev pub pause_of : Bool → ℕ → ℕ
pause_of again next = if again then next else 0

-- then it is twice as long, up to a minute; before another one it begins anew
abbrev pub next_after : Bool → ℕ → ℕ
next_after again next = if again then min (2 * next) 60 else 1
