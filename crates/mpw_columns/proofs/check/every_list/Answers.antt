-- Answers to the goals of `every_list` in `src/check.rt`.
use Rattle.std.proofs.Common.{◌∙◌, sym, subst}
use Rattle.std.specs.Prelude.{All}
use Rattle.mpw_columns_keys.specs.declared.column.Column.{Column}
use Rattle.mpw_columns_keys.specs.Columns.{seen_box, upright}
use Rattle.mpw_columns.specs.Internal.Found.{IsUpright}
use Rattle.mpw_columns.proofs.Liked.{own_all}
use Rattle.mpw_columns.proofs.check.every_list.Goals as goal

pub all_lists-requires-clause-batches : goal.all_lists-requires-clause-batches
all_lists-requires-clause-batches g c κs alive =
    let extent = c.args.layout.now.extent in
    let P : Column → Type 0 = λ column. IsUpright (upright (seen_box column.axis extent) column) in record {
      layout = c.requires.layout;
      upright = subst (All P) (sym (c.as_slice-3.ensures.value ∙ c.in_ok-own.ensures))
          (own_all P c.args.columns.now _ c.requires.upright);
      top = c.in_ok-top.ensures;
    }
