-- How long the next byte of a connection may take, in milliseconds.
use Rattle.std.specs.Prelude.{ℕ, ◌+◌, ◌-◌, ◌/◌, min, if◌then◌else◌}
use Rattle.mpw_admission.specs.declared.stage.Stage.{Stage}
use Rattle.mpw_admission.specs.declared.stage.Stage.TheVariants.{Rest, Line, Payload}
use Rattle.mpw_admission.specs.declared.visit.Times.{Times}
use Rattle.mpw_admission.specs.declared.visit.Visit.{Visit}

-- between two lines as long as it may be idle; a line takes half a minute, and a payload comes at 16 bytes a millisecond after ten
-- seconds
abbrev pub stage_patience : Visit → Times → ℕ → Stage → ℕ
stage_patience visit times now Rest = times.idle - (now - visit.rested)
stage_patience visit times now Line = 30000 - (now - visit.since)
stage_patience visit times now (Payload bytes) = 10000 + bytes / 16 - (now - visit.since)

-- a stranger sends a whole line in each half minute
abbrev pub line_patience : Visit → ℕ → Stage → ℕ → ℕ
line_patience visit now Rest patience = min patience (30000 - (now - visit.rested))
line_patience visit now Line patience = min patience (30000 - (now - visit.rested))
line_patience visit now (Payload bytes) patience = patience

-- and stays no longer than its limit
abbrev pub stranger_patience : Visit → Times → ℕ → ℕ
stranger_patience visit times now =
    line_patience visit now visit.stage
    (min (stage_patience visit times now visit.stage) (times.login - (now - visit.begun)))

abbrev pub patience_of : Visit → Times → ℕ → ℕ
patience_of visit times now =
    if visit.is_stranger then stranger_patience visit times now else stage_patience visit times now visit.stage
