-- Answers to the goals of `along_columns` in `src/cells.rt`.
use Rattle.std.proofs.Common.{◌≡◌, ◌∙◌, List, ap, map, subst}
use mathlib.Core.Path.{fun_ext}
use Rattle.std.specs.Prelude.{◌↔◌}
use Rattle.std.proofs.lemmas.Result.{IfOk-weaker}
use Rattle.mpw_geom.specs.declared.plane.Box2.{Box2}
use Rattle.mpw_region.specs.Squares.{covers}
use Rattle.mpw_region.specs.Exchange.{exchanged_box}
use Rattle.mpw_region.proofs.Sweeping.{covers-exchanged}
use Rattle.mpw_edges.specs.Edges.{Squares, exchanged}
use Rattle.mpw_edges.specs.declared.run.Axis.TheVariants.{V}
use Rattle.mpw_edges.specs.Pieces.{HasStep}
use Rattle.mpw_checks.specs.Strips.{FindsIn}
use Rattle.mpw_checks.proofs.cells.along_columns.Goals as goal

squares_exchanged : (seen made boxes : List Box2) → seen ≡ made → made ≡ map exchanged_box boxes
    → covers seen ≡ exchanged (covers boxes)
squares_exchanged seen made boxes e f =
    fun_ext (λ i. fun_ext (λ j. ap (λ (bs : List Box2). covers bs i j) (e ∙ f)
    ∙ covers-exchanged boxes i j))

pub returns-clause-steps : goal.returns-clause-steps
returns-clause-steps c =
    let first_is = squares_exchanged c.as_slice.result.now c.in_ok-first.first.items
    c.args.first.now c.as_slice.ensures.value c.in_ok-first.ensures in
    let second_is = squares_exchanged c.as_slice-2.result.now c.in_ok-second.second.items
    c.args.second.now c.as_slice-2.ensures.value c.in_ok-second.ensures in
    IfOk-weaker c.along_rows.result _ _
    (λ v h rule le line j.
    let core = subst (λ (b : Box2). FindsIn v.items rule line j
    ↔ HasStep rule (covers c.as_slice.result.now) (covers c.as_slice-2.result.now) b V line.side
    line.first line.second j) c.exchanged_box-core.ensures (h rule le line j) in
    let first = subst (λ (s : Squares). FindsIn v.items rule line j
    ↔ HasStep rule s (covers c.as_slice-2.result.now) (exchanged_box c.args.core) V line.side
    line.first line.second j) first_is core in
    subst (λ (s : Squares). FindsIn v.items rule line j
    ↔ HasStep rule (exchanged (covers c.args.first.now)) s (exchanged_box c.args.core) V
    line.side line.first line.second j) second_is first)
    c.along_rows.ensures.steps

pub along_rows-requires : goal.along_rows-requires
along_rows-requires c = rw c.exchanged_box-core.ensures
    (record { x0 = c.requires.y0; y0 = c.requires.x0; x1 = c.requires.y1; y1 = c.requires.x1 })
