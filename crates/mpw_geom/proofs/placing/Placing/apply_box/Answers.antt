-- Answers to the goals of `Placing::apply_box` in `src/placing.rt`.
use Rattle.std.proofs.Common.{rules, w64}
use Rattle.std.proofs.lemmas.Int.{to_z-of_z}
use Rattle.mpw_geom.proofs.Turns.{placed_points_at, placed_squares_at}
use Rattle.mpw_geom.proofs.placing.Placing.apply_box.Goals as goal

pub returns-clause-points : goal.returns-clause-points
returns-clause-points c =
    let b = c.args.b in
    λ p. rw (c.between.ensures, c.apply-p.ensures, c.apply-q.ensures)
    (placed_points_at c.args.self b p _ _ _ _ (to_z-of_z w64 b.x0 (search rules))
    (to_z-of_z w64 b.y0 (search rules)) (to_z-of_z w64 b.x1 (search rules))
    (to_z-of_z w64 b.y1 (search rules)) c.requires.ordered.x c.requires.ordered.y)

pub returns-clause-squares : goal.returns-clause-squares
returns-clause-squares c =
    let b = c.args.b in
    λ s. rw (c.between.ensures, c.apply-p.ensures, c.apply-q.ensures)
    (placed_squares_at c.args.self b s _ _ _ _ (to_z-of_z w64 b.x0 (search rules))
    (to_z-of_z w64 b.y0 (search rules)) (to_z-of_z w64 b.x1 (search rules))
    (to_z-of_z w64 b.y1 (search rules)) c.requires.ordered.x c.requires.ordered.y)
