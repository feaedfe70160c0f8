-- Answers to the goals of `corners_of` in `src/size.rt`.
use Rattle.std.proofs.Common.{rules}
use Rattle.mpw_firm_picture.specs.Sizes.{turned}
use Rattle.mpw_firm_picture.proofs.Turned.{difference, same_corners}
use Rattle.mpw_firm_picture.proofs.size.corners_of.Goals as goal

pub returns : goal.returns
unfolding turned
returns c =
    let w = c.args.window in
    let a = c.args.area in
    same_corners _ _
    (difference a.x0 w.x0 _ _ (search rules) (search rules) c.from.ensures c.from-2.ensures)
    (difference w.y1 a.y1 _ _ (search rules) (search rules) c.from-3.ensures c.from-4.ensures)
    (difference a.x1 w.x0 _ _ (search rules) (search rules) c.from-5.ensures c.from-6.ensures)
    (difference w.y1 a.y0 _ _ (search rules) (search rules) c.from-7.ensures c.from-8.ensures)
