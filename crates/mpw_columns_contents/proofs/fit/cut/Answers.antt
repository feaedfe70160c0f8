-- Answers to the goals of `cut` in `src/fit.rt`.
use Rattle.std.proofs.Common.{refl}
use Rattle.mpw_walk.proofs.Placings.{same_placing}
use Rattle.mpw_columns_contents.proofs.Instances.{cut_instance}
use Rattle.mpw_columns_contents.proofs.fit.cut.Goals as goal

pub returns : goal.returns
returns c =
    let a = c.args.array.now in
    record {
      structure = refl;
      node = refl;
      columns_are = refl;
      rows_are = refl;
      instances = λ row column. same_placing _ _ refl
          (cut_instance a c.args.columns c.args.rows c.in_ok-first.first c.in_ok-by.by
          c.in_ok-first.ensures c.in_ok-by.ensures row column);
      near = c.is_in_plane.ensures.0 c.if-not-is_in_plane.false;
    }
