-- Answers to the goals of `store_of` in `src/serving.rt`.
use Rattle.mpw_store_keeper.specs.Kept.{failures_of, kept_by}
use Rattle.mpw_server.proofs.StoredLemmas.{ends_unshared}
use Rattle.mpw_server.proofs.serving.store_of.Goals as goal

pub returns : goal.returns
returns g c = λ fault storeless.
    ends_unshared (g.H.Handler.desk c.args.begun.core.value) (kept_by c.args.begun.keeper)
    (failures_of c.args.begun.keeper) c.parts_of.result.1 _ fault storeless c.requires c.parts_of.ensures.told
    c.parts_of.ensures.comes
