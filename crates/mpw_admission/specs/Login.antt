-- What a failed login costs its connection, in milliseconds.
use Rattle.std.specs.Prelude.{ℕ, Bool, ◌&&◌, if◌then◌else◌}

abbrev pub login_delay : Bool → Bool → ℕ
login_delay is_login is_denied = if is_login && is_denied then 1000 else 0
