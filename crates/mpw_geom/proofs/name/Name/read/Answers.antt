-- Text that is not UTF-8 is no name.
use Rattle.std.proofs.Common.{refl}
use Rattle.mpw_geom.proofs.NameLemmas.{IsUtf8-from_name}
use Rattle.mpw_geom.proofs.name.Name.read.Goals as goal

pub returns-in_default-clause-bad : goal.returns-in_default-clause-bad
returns-in_default-clause-bad c =
    (λ _ name. c.in_default.ensures.cases.0 (IsUtf8-from_name _ name), λ _. refl)
