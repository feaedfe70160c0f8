-- Answers to the goals of `solve` in `src/solve.rt`.
use Rattle.std.proofs.Common.{◌∙◌, List, sym, subst, arith}
use Rattle.std.specs.Prelude.{All}
use Rattle.std.proofs.lemmas.Result.{on_ok_weaker}
use Rattle.mpw_markers.specs.declared.marker.Key.{Key}
use Rattle.mpw_columns.specs.Internal.Pieces.{AddsLayoutPieces, IsSolved}
use Rattle.mpw_columns.proofs.Solving.{cut_first, cut_second, cut_upright_first, cut_upright_second, cut_joined}
use Rattle.mpw_columns.proofs.ThingsShown.{things_inside}
use Rattle.mpw_columns.proofs.solve.+solve.Goals as goal

pub things_in-requires-clause-things : goal.things_in-requires-clause-things
things_in-requires-clause-things t c = things_inside c.args.task.now.layout.now c.args.task.now.axis
    c.in-Some.halves.first c.args.work.now.core c.args.work.now.things.now
    (cut_first c.args.work.now.core c.in-Some.halves.first c.in-Some.halves.second c.in-Some.ensures)
    c.requires.things

pub or_all-requires-clause-all : goal.or_all-requires-clause-all
or_all-requires-clause-all t c = things_inside c.args.task.now.layout.now c.args.task.now.axis
    c.in-Some.halves.first c.args.work.now.core c.args.work.now.things.now
    (cut_first c.args.work.now.core c.in-Some.halves.first c.in-Some.halves.second c.in-Some.ensures)
    c.requires.things

pub solve-requires : goal.solve-requires
solve-requires t c = (
  omega (arith, c.decreases, c.if-depth-eq0.false),
  (
    c.requires.layout,
    (
      cut_upright_first c.args.work.now.core c.in-Some.halves.first c.in-Some.halves.second
          c.requires.upright c.in-Some.ensures,
      (c.or_all.ensures, subst (All (IsSolved c.args.task.now.layout.now c.args.task.now.axis)) (sym c.may_cut.ensures.kept) c.requires.solved),
    ),
  ),
)

pub things_in-requires-in-Some-clause-things : goal.things_in-requires-in-Some-clause-things
things_in-requires-in-Some-clause-things t c = things_inside c.args.task.now.layout.now
    c.args.task.now.axis c.in-Some.halves.second c.args.work.now.core c.args.work.now.things.now
    (cut_second c.args.work.now.core c.in-Some.halves.first c.in-Some.halves.second c.in-Some.ensures)
    c.requires.things

pub or_all-requires-in-Some-clause-all : goal.or_all-requires-in-Some-clause-all
or_all-requires-in-Some-clause-all t c = things_inside c.args.task.now.layout.now
    c.args.task.now.axis c.in-Some.halves.second c.args.work.now.core c.args.work.now.things.now
    (cut_second c.args.work.now.core c.in-Some.halves.first c.in-Some.halves.second c.in-Some.ensures)
    c.requires.things

pub solve-requires-in-Some : goal.solve-requires-in-Some
solve-requires-in-Some t c = (
  omega (arith, c.decreases, c.if-depth-eq0.false),
  (
    c.requires.layout,
    (
      cut_upright_second c.args.work.now.core c.in-Some.halves.first c.in-Some.halves.second
          c.requires.upright c.in-Some.ensures,
      (c.or_all-in-Some.ensures, c.in_ok-solve.ensures.solved),
    ),
  ),
)

pub returns-in-Some-clause-pieces : goal.returns-in-Some-clause-pieces
returns-in-Some-clause-pieces t c = on_ok_weaker c.solve-in-Some.result
    (λ h. cut_joined c.args.task.now.layout.now c.args.task.now.axis c.args.work.now.core
    c.in-Some.halves.first c.in-Some.halves.second c.args.solution.now.keys.items
    c.solve.new.solution.keys.items c.solve-in-Some.new.solution.keys.items c.in-Some.ensures
    (subst (λ (ks : List Key). AddsLayoutPieces c.args.task.now.layout.now c.args.task.now.axis
    c.in-Some.halves.first ks c.solve.new.solution.keys.items) c.may_cut.ensures.keys
    c.in_ok-solve.ensures.pieces) h) c.solve-in-Some.ensures.pieces

pub solve-requires-2 : goal.solve-requires-2
solve-requires-2 t c = (
  omega (arith, c.decreases, c.depth_below.ensures),
  (
    c.requires.layout,
    (c.requires.upright, (c.requires.things, c.in_ok-add_kept.ensures.kept)),
  ),
)

pub returns-then-depth-eq0-clause-solved : goal.returns-then-depth-eq0-clause-solved
returns-then-depth-eq0-clause-solved t c = on_ok_weaker c.add_leaf.result
    (λ same. subst (All (IsSolved c.args.task.now.layout.now c.args.task.now.axis))
    (sym same) c.requires.solved) c.add_leaf.ensures.kept

pub returns-then-not-may_cut-clause-solved : goal.returns-then-not-may_cut-clause-solved
returns-then-not-may_cut-clause-solved t c = on_ok_weaker c.add_leaf-then-not-may_cut.result
    (λ same. subst (All (IsSolved c.args.task.now.layout.now c.args.task.now.axis))
    (sym (same ∙ c.may_cut.ensures.kept)) c.requires.solved) c.add_leaf-then-not-may_cut.ensures.kept

pub add_kept-requires-clause-solved : goal.add_kept-requires-clause-solved
add_kept-requires-clause-solved t c =
    subst (All (IsSolved c.args.task.now.layout.now c.args.task.now.axis))
    (sym c.may_cut.ensures.kept) c.requires.solved
