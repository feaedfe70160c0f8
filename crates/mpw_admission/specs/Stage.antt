-- What a connection is read for.
use Rattle.std.specs.Prelude.{ℕ, Bool, true, false, ◌+◌, ◌==◌, if◌then◌else◌}
use Rattle.std.specs.Io.Iter.{u64_saturate}
use Rattle.mpw_admission.specs.declared.stage.Stage.{Stage}
use Rattle.mpw_admission.specs.declared.stage.Stage.TheVariants.{Rest, Line, Payload}

-- a line feed ends a line, and what follows is its payload
abbrev pub stage_after : Stage → ℕ → Stage
stage_after Rest byte = if byte == 10 then Payload 0 else Line
stage_after Line byte = if byte == 10 then Payload 0 else Line
stage_after (Payload bytes) byte = Payload (u64_saturate (bytes + 1))

-- so many more bytes of a payload are counted
abbrev pub stage_with : Stage → ℕ → Stage
stage_with Rest more = Rest
stage_with Line more = Line
stage_with (Payload bytes) more = Payload (u64_saturate (bytes + more))

abbrev pub is_rest : Stage → Bool
is_rest Rest = true
is_rest Line = false
is_rest (Payload bytes) = false

abbrev pub is_line : Stage → Bool
is_line Rest = false
is_line Line = true
is_line (Payload bytes) = false

abbrev pub is_payload : Stage → Bool
is_payload Rest = false
is_payload Line = false
is_payload (Payload bytes) = true
