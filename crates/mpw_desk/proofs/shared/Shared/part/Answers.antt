-- Answers to the goals of `Shared::part` in `src/shared.rt`.
use Rattle.mpw_desk.proofs.Parting.{parted-by-counts}
use Rattle.mpw_desk.proofs.shared.Shared.part.Goals as goal

pub returns : goal.returns
returns g c = parted-by-counts c.args.pass.now c.gone.new.pass c.gone.result _ _ c.calls.ensures
    c.calls-before.ensures c.gone.ensures.ok c.gone.ensures.err
