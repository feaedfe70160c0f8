-- Answers to the goals of `is_single_met` in `src/fit.rt`.
use Rattle.std.proofs.Common.{sym, ◌∙◌}
use Rattle.mpw_columns_contents.specs.Internal.Fitting.{IsAway, IsFitted}
use Rattle.mpw_columns_contents.proofs.Instances.{single_away, whole_fitted}
use Rattle.mpw_columns_contents.proofs.Read.{decided}
use Rattle.mpw_columns_contents.proofs.fit.is_single_met.Goals as goal

pub returns : goal.returns
returns c =
    let a = c.args.array.now in
    let window = c.args.window.now in
    let extent = c.args.extent in
    decided c.do_meet.result (IsFitted a window extent a) (IsAway a window extent)
    (λ met. whole_fitted a window extent c.requires.first)
    (λ missed. single_away a c.placed_box.result window extent c.placed_box.ensures
    c.requires.columns c.requires.rows (sym c.do_meet.ensures ∙ missed))
