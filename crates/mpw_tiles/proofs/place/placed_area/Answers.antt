-- Answers to the goals of `placed_area` in `src/place.rt`.
use Rattle.std.proofs.Common.{rules, w64, to_z, of_z}
use Rattle.std.proofs.lemmas.Int.{to_z-of_z}
use Rattle.mpw_geom.specs.declared.plane.Point.{Point}
use Rattle.mpw_geom.specs.Placing.{placed_point}
use Rattle.mpw_tiles.proofs.Looking.{area_is_box}
use Rattle.mpw_tiles.proofs.Placed.{area_squares, is_in_plane, is_ordered}
use Rattle.mpw_tiles.proofs.place.placed_area.Goals as goal

pub returns-clause-squares : goal.returns-clause-squares
returns-clause-squares c =
    let b = c.args.b.now in
    λ s k. rw (c.between.ensures, c.placed_point-p.ensures, c.placed_point-q.ensures)
    (area_squares c.args.placing.now b s _ _ _ _ (to_z-of_z w64 b.x0 (search rules))
    (to_z-of_z w64 b.y0 (search rules)) (to_z-of_z w64 b.x1 (search rules))
    (to_z-of_z w64 b.y1 (search rules)) c.requires k)

pub returns-clause-plane : goal.returns-clause-plane
returns-clause-plane c =
    let b = c.args.b.now in
    let p : Point = record { x = to_z w64 (of_z w64 b.x0); y = to_z w64 (of_z w64 b.y0) } in
    let q : Point = record { x = to_z w64 (of_z w64 b.x1); y = to_z w64 (of_z w64 b.y1) } in
    is_in_plane c.between.result (placed_point c.args.placing.now p)
    (placed_point c.args.placing.now q) c.placed_point-p.result c.placed_point-q.result c.between.ensures
    c.placed_point-p.ensures c.placed_point-q.ensures

pub returns-clause-near : goal.returns-clause-near
returns-clause-near c =
    let b = c.args.b.now in
    λ n. rw (c.between.ensures, c.placed_point-p.ensures, c.placed_point-q.ensures)
    (area_is_box c.args.placing.now b _ _ _ _ (to_z-of_z w64 b.x0 (search rules))
    (to_z-of_z w64 b.y0 (search rules)) (to_z-of_z w64 b.x1 (search rules))
    (to_z-of_z w64 b.y1 (search rules)) n)

pub returns-clause-ordered : goal.returns-clause-ordered
returns-clause-ordered c = is_ordered c.between.result _ _ c.between.ensures
