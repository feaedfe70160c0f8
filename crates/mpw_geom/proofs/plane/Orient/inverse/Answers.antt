-- Answers to the goals of `Orient::inverse` in `src/placing.rt`.
use Rattle.mpw_geom.proofs.Undone.{undone_point, undone_square, point_undone, square_undone}
use Rattle.mpw_geom.proofs.plane.Orient.inverse.Goals as goal

pub returns-clause-left : goal.returns-clause-left
returns-clause-left c = λ p. rw c.undoing.ensures (undone_point c.args.self p)

pub returns-clause-right : goal.returns-clause-right
returns-clause-right c = λ p. rw c.undoing.ensures (point_undone c.args.self p)

pub returns-clause-left_squares : goal.returns-clause-left_squares
returns-clause-left_squares c = λ s. rw c.undoing.ensures (undone_square c.args.self s)

pub returns-clause-right_squares : goal.returns-clause-right_squares
returns-clause-right_squares c = λ s. rw c.undoing.ensures (square_undone c.args.self s)
