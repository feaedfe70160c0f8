-- Answers to the goals of `read_name` in `src/values.rt`.
use Rattle.std.proofs.Common.{Ok, sym, ap, subst, ◌∙◌}
use Rattle.mpw_geom.specs.Name.{IsName}
use Rattle.mpw_records.specs.Records.{raw}
use Rattle.mpw_elements.proofs.Numbers.{named}
use Rattle.mpw_elements.proofs.values.read_name.Goals as goal

pub returns-in-Ok-clause-name : goal.returns-in-Ok-clause-name
returns-in-Ok-clause-name c =
    named (raw c.args.from) (subst IsName c.trim_nuls.ensures c.in-Ok.ensures.is_name)
    ∙ ap Ok (sym (c.in-Ok.ensures.ok ∙ c.trim_nuls.ensures))
