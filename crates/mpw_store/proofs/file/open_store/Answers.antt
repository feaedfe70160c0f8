-- Answers to the goals of `open_store` in `src/file.rt`.
use Rattle.mpw_store.specs.Terms.{MayRefuse}
use Rattle.mpw_store.proofs.FaultLemmas.{handed_on}
use Rattle.mpw_store.proofs.file.open_store.Goals as goal

pub returns-in_err-conn-clause-refused : goal.returns-in_err-conn-clause-refused
returns-in_err-conn-clause-refused c = handed_on c.from_residual-in_err-conn.result _
    (MayRefuse c.args.terms) c.from_residual-in_err-conn.ensures.1
    (c.in_err-conn.ensures.refused c.args.terms)
