-- Answers to the goals of `Checks::book_with` in `src/phase.rt`.
use Rattle.std.proofs.Common.{List, sym, subst, ap}
use Rattle.mpw_run.specs.Internal.Prepared.{answers_with}
use Rattle.mpw_run.specs.Run.{Tile, Checks}
use Rattle.mpw_run.specs.Stitching.{AreFilled}
use Rattle.mpw_run.proofs.phase.Checks.book_with.Goals as goal

pub book_with-requires-clause-filled : goal.book_with-requires-clause-filled
book_with-requires-clause-filled c =
    subst (λ (xs : List Tile). AreFilled (answers_with c.args.markers.now c.args.tile xs))
    (sym (ap (λ (k : Checks). k.tiles) c.self.view_is)) c.requires.filled
