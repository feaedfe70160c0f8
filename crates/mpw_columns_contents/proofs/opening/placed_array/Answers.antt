-- Answers to the goals of `placed_array` in `src/opening.rt`.
use Rattle.std.proofs.Common.{refl, sym}
use Rattle.mpw_walk.proofs.Placings.{then_is}
use Rattle.mpw_columns_contents.proofs.opening.placed_array.Goals as goal

pub returns-clause-placed : goal.returns-clause-placed
returns-clause-placed c =
    let r = c.args.reference.now in
    record {
      first =
          sym (then_is (record { orient = r.orient; by = r.origin }) c.args.placing c.then.result
          c.then.ensures.displacement c.then.ensures.points);
      columns = refl;
      rows = refl;
      column_step = c.apply.ensures.point;
      row_step = c.apply-2.ensures.point;
    }
