-- Answers to the goals of `outside` in `src/rows.rt`.
use Rattle.std.proofs.Common.{sym, subst}
use Rattle.mpw_replies.specs.Rows.{Told}
use Rattle.mpw_layouts.specs.Layouts.{outside}
use Rattle.mpw_layouts.proofs.LayoutLemmas.{outside-ok, outside-err}
use Rattle.mpw_layouts.proofs.rows.outside.Goals as goal

pub returns-in-Ok-clause-outside : goal.returns-in-Ok-clause-outside
returns-in-Ok-clause-outside c = outside-ok c.reaching_is_decided.ensures.cycles
    c.reaching_is_decided.ensures.externals c.args.library.now c.args.top.now c.in-Ok.outline.names
    c.in-Ok.ensures.ok.externals

pub returns-in-Err-clause-outside : goal.returns-in-Err-clause-outside
returns-in-Err-clause-outside c =
    subst (λ f. Told f (outside c.args.library.now c.args.top.now)) (sym c.fault_of.ensures)
    (outside-err c.reaching_is_decided.ensures.cycles c.args.library.now c.args.top.now
    c.new.result c.in-Err.fault c.in-Err.is c.new.ensures.no_top c.in-Err.ensures.faults)
