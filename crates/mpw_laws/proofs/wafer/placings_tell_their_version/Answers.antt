-- Answers to the goals of `placings_tell_their_version` in `src/wafer.rt`.
use Rattle.mpw_laws.proofs.VersionLemmas.{versions_told}
use Rattle.mpw_laws.proofs.wafer.placings_tell_their_version.Goals as goal

pub returns : goal.returns
returns c = versions_told c.placing_is_undone.ensures.version
