-- Answers to the goals of `shelve` in `src/layout.rt`.
use Rattle.std.proofs.Common.{[], refl, subst}
use Rattle.mpw_hier.specs.Outside.{AreExternals}
use Rattle.mpw_check.proofs.AloneLemmas.{none-bound, refused-from-empty}
use Rattle.mpw_check.proofs.layout.shelve.Goals as goal

pub put-requires-clause-bound : goal.put-requires-clause-bound
put-requires-clause-bound c =
    rw (c.new-shelf.ensures, c.in_ok-submission.ensures)
    (none-bound c.args.outline.now.names [] c.requires.whole refl)

pub returns-in-Err-clause-faults : goal.returns-in-Err-clause-faults
returns-in-Err-clause-faults c =
    let whole = subst (λ names. AreExternals c.args.library c.args.top.now names) c.requires.whole
    c.requires.outline.externals in
    refused-from-empty c.new-shelf.result c.in_ok-submission.submission c.args.top.now
    c.args.library c.in-Err.fault
    c.new-shelf.ensures c.in_ok-submission.ensures whole c.in-Err.ensures.faults
