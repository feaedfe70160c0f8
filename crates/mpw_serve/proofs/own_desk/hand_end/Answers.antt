-- Answers to the goals of `hand_end` in `src/own_desk.rt`.
use Rattle.mpw_serve.proofs.OwnDeskLemmas.{gone_cases}
use Rattle.mpw_serve.proofs.own_desk.hand_end.Goals as goal

pub returns : goal.returns
returns g c = gone_cases _ _ _ c.handle.result _ c.is_ok.ensures.value c.handle.ensures.ok
    c.handle.ensures.err
