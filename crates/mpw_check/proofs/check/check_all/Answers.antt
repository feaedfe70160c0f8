-- Answers to the goals of `check_all` in `src/check.rt`.
use Rattle.mpw_check.proofs.ListLemmas.{of_stitched}
use Rattle.mpw_check.proofs.check.check_all.Goals as goal

pub returns : goal.returns
returns g c =
    of_stitched c.tiles_make_the_layout.ensures c.args.snapshot.now c.args.tiles
    c.deref.result.now c.stitch.result c.is_snapshot.ensures c.requires
    (rw c.deref.ensures.value c.in_ok-lists.ensures) c.stitch.ensures
