-- Answers to the goals of `enter` in `src/table.rt`.
use Rattle.std.proofs.Common.{◌≡◌, ℕ, List, cond, Some, subst}
use Rattle.std.specs.BTreeMap as tree
use Rattle.std.specs.Ordering.{is_eq}
use Rattle.mpw_geom.specs.Names.{name_cmp}
use Rattle.mpw_hier.proofs.table.enter.Goals as goal

pub returns-clause-entered : goal.returns-clause-entered
returns-clause-entered c = subst (λ (name : List ℕ). (q : List ℕ)
    → tree.get name_cmp c.insert.new.self q ≡ cond (is_eq (name_cmp name q))
    (Some c.args.number) (tree.get name_cmp c.args.present.now q)) c.in_ok-copy.ensures
    c.in_ok-insert.ensures.updates.0
