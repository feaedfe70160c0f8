-- Answers to the goals of `replay_in` in `src/answering.rt`.
use Rattle.sqlite.specs.Held.{state}
use Rattle.mpw_auditor.proofs.AnsweringLemmas.{full, sound, uncounted}
use Rattle.mpw_auditor.proofs.answering.replay_in.Goals as goal

pub returns-in-Ok-clause-sound : goal.returns-in-Ok-clause-sound
returns-in-Ok-clause-sound g c clean open_ =
    sound (state g.S.Store c.args.conn.now) c.in-Ok.replayed c.going_on.result c.going_on.ensures
    (c.in-Ok.ensures.ok clean open_)

pub returns-in-Ok-clause-cause : goal.returns-in-Ok-clause-cause
returns-in-Ok-clause-cause g c clean open_ =
    full g.S.Store (state g.S.Store c.args.conn.now) (state g.S.Store c.replay.new.conn) c.in-Ok.replayed
    c.going_on.result c.going_on.ensures (c.in-Ok.ensures.ok clean open_)

pub returns-in-Err-clause-cause : goal.returns-in-Err-clause-cause
returns-in-Err-clause-cause g c clean open_ =
    uncounted g.S.Store (state g.S.Store c.args.conn.now) (state g.S.Store c.replay.new.conn)
    c.in-Err.fault c.checked.result c.checked.ensures.fault (c.in-Err.ensures.cause clean open_)
