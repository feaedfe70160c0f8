-- Answers to the goals of `placed_box` in `src/placed.rt`.
use Rattle.std.proofs.Common.{rules, w64, refl}
use Rattle.std.proofs.lemmas.Int.{to_z-of_z}
use Rattle.mpw_hier.specs.Boxes.{placed_box}
use Rattle.mpw_walk.proofs.Close.{near_corners, close_in_plane}
use Rattle.mpw_columns_contents.proofs.placed.placed_box.Goals as goal

pub apply-p-requires-clause-point : goal.apply-p-requires-clause-point
apply-p-requires-clause-point c =
    let b = c.args.b in
    rw (to_z-of_z w64 b.x0 (search rules), to_z-of_z w64 b.y0 (search rules))
    (close_in_plane _ (near_corners b c.requires.near).0)

pub apply-q-requires-clause-point : goal.apply-q-requires-clause-point
apply-q-requires-clause-point c =
    let b = c.args.b in
    rw (to_z-of_z w64 b.x1 (search rules), to_z-of_z w64 b.y1 (search rules))
    (close_in_plane _ (near_corners b c.requires.near).1)

pub returns : goal.returns
unfolding placed_box
returns c =
    let b = c.args.b in
    rw (
      c.between.ensures,
      c.apply-p.ensures,
      c.apply-q.ensures,
      to_z-of_z w64 b.x0 (search rules),
      to_z-of_z w64 b.y0 (search rules),
      to_z-of_z w64 b.x1 (search rules),
      to_z-of_z w64 b.y1 (search rules),
    ) refl
