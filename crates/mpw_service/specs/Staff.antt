-- How many connections a service accepts, and when it ends.
use Rattle.std.specs.Prelude.{ℕ, ◌||◌, Bool, nat_le, if◌then◌else◌}
use Rattle.mpw_service.specs.declared.staff.Staff.{Staff}

-- as many as can be counted if it is ongoing, and else as many as there may be at once
abbrev pub most_of : Staff → ℕ
most_of staff = if staff.is_ongoing then 18446744073709551615 else staff.connections

-- after a connection that was answered that the desk is closed, and when the desk has answered all its calls
abbrev pub is_over : Bool → ℕ → ℕ → Bool
is_over was_closed calls most = was_closed || nat_le most calls
