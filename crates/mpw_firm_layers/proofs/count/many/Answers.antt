-- Answers to the goals of `many` in `src/count.rt`.
use Rattle.std.proofs.Common.{◌≤◌, length, subst, sym}
use Rattle.mpw_hier.proofs.Shelving.{shelf_few}
use Rattle.mpw_firm_layers.proofs.count.many.Goals as goal

pub returns-clause-few : goal.returns-clause-few
returns-clause-few c =
    subst (λ ss. length ss ≤ 4096) (sym c.submissions.ensures)
    (shelf_few c.args.shelf.now c.is_shelf.ensures)
