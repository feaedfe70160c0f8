-- Answers to the goals of `run_stored_script` in `src/program.rt`.
use Rattle.mpw_stored_desk.proofs.EndingLemmas.{ends_opened}
use Rattle.mpw_stored_desk.proofs.program.run_stored_script.Goals as goal

pub run_opened-conn-requires-after_bounds : goal.run_opened-conn-requires-after_bounds
run_opened-conn-requires-after_bounds g c κs within = c.open_announced-store.ensures.idle

pub returns-in-Some : goal.returns-in-Some
returns-in-Some g c = ends_opened _ _ _ _ _ _ _ c.run_opened-conn.ensures.unopened
    c.run_opened-conn.ensures.unbuffered c.run_opened-conn.ensures.served
    c.buffered-io.ensures.memory c.buffered-io.ensures.reads c.buffered-io.ensures.writes

pub returns-in_default : goal.returns-in_default
returns-in_default g c = ends_opened _ _ _ _ _ _ _ c.run_opened-conn.ensures.unopened
    c.run_opened-conn.ensures.unbuffered c.run_opened-conn.ensures.served
    c.buffered-io.ensures.memory c.buffered-io.ensures.reads c.buffered-io.ensures.writes
