-- Answers to the goals of `clean_wafers_may_start` in `src/laws.rt`.
use Rattle.mpw_events.specs.History.{state_of}
use Rattle.mpw_secrecy.proofs.Started.{may_start}
use Rattle.mpw_secrecy.proofs.laws.clean_wafers_may_start.Goals as goal

pub returns : goal.returns
returns c = λ connection kept told.
    let core = c.args.core.now in
    may_start (state_of core) c.run_is_sound.ensures.finished
    (c.every_state_has_a_place_for_each_marker.ensures core.officer core.digest core.history)
    (c.every_state_is_signed_apart.ensures core.officer core.digest core.history)
    (c.clean_runs_are_signed_off.ensures (state_of core) connection kept told)
