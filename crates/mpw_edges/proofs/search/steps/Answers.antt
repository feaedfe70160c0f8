-- Answers to the goals of `steps` in `src/search.rt`.
use Rattle.std.proofs.Common.{◌≡◌, List, ℤ, sym, subst}
use mathlib.Core.Path.{fun_ext}
use Rattle.std.specs.Prelude.{◌↔◌}
use Rattle.std.proofs.lemmas.Result.{IfOk-weaker}
use Rattle.mpw_geom.specs.declared.plane.Box2.{Box2}
use Rattle.mpw_region.specs.declared.runs.Line.{Line}
use Rattle.mpw_region.specs.declared.runs.Run.{Run}
use Rattle.mpw_region.specs.Runs.{CoversPlace}
use Rattle.mpw_region.specs.Squares.{covers}
use Rattle.mpw_deck.specs.declared.rule.Rule.{Rule}
use Rattle.mpw_edges.specs.declared.run.Axis.{Axis}
use Rattle.mpw_edges.specs.declared.run.Axis.TheVariants.{V}
use Rattle.mpw_edges.specs.Edges.{Squares, exchanged}
use Rattle.mpw_edges.specs.Pieces.{HasStep}
use Rattle.mpw_edges.proofs.search.steps.Goals as goal

-- the runs have exactly the steps
abbrev HoldSteps : Rule → Squares → Squares → Box2 → Axis → List Run → Line → ℤ → Type 0
HoldSteps rule a b core axis runs line j =
    CoversPlace runs line j ↔ HasStep rule a b core axis line.side line.first line.second j

pub returns-in-V-clause-places : goal.returns-in-V-clause-places
returns-in-V-clause-places c =
    IfOk-weaker c.vertical_steps.result _ _
    (λ v h line j.
    let told : HoldSteps c.args.rule.now (covers c.as_slice.result.now)
    (covers c.as_slice-in-V.result.now) c.args.core V v.items line j = h line j in
    let first = subst (λ (bs : List Box2). HoldSteps c.args.rule.now (covers bs)
    (covers c.as_slice-in-V.result.now) c.args.core V v.items line j) c.as_slice.ensures.boxes
    told in
    let both = subst (λ (bs : List Box2). HoldSteps c.args.rule.now (covers c.args.first.now)
    (covers bs) c.args.core V v.items line j) c.as_slice-in-V.ensures.boxes first in
    subst (λ (axis : Axis). HoldSteps c.args.rule.now (covers c.args.first.now)
    (covers c.args.second.now) c.args.core axis v.items line j) (sym c.in-V.is) both)
    c.vertical_steps.ensures.places

pub returns-in-H-clause-places : goal.returns-in-H-clause-places
returns-in-H-clause-places c =
    let first_is : covers c.columns.result.now ≡ exchanged (covers c.args.first.now) =
    fun_ext (λ i. fun_ext (λ j. c.columns.ensures.squares i j)) in
    let second_is : covers c.columns-in-H.result.now ≡ exchanged (covers c.args.second.now) =
    fun_ext (λ i. fun_ext (λ j. c.columns-in-H.ensures.squares i j)) in
    IfOk-weaker c.vertical_steps-in-H.result _ _
    (λ v h line j.
    let told : HoldSteps c.args.rule.now (covers c.columns.result.now)
    (covers c.columns-in-H.result.now) c.exchanged_box-core.result V v.items line j =
    h line j in
    let first = subst (λ (s : Squares). HoldSteps c.args.rule.now s
    (covers c.columns-in-H.result.now) c.exchanged_box-core.result V v.items line j) first_is
    told in
    let both = subst (λ (s : Squares).
    HoldSteps c.args.rule.now (exchanged (covers c.args.first.now)) s
    c.exchanged_box-core.result V v.items line j) second_is first in
    let moved = subst (λ (core : Box2).
    HoldSteps c.args.rule.now (exchanged (covers c.args.first.now))
    (exchanged (covers c.args.second.now)) core V v.items line j) c.exchanged_box-core.ensures
    both in
    subst (λ (axis : Axis). HoldSteps c.args.rule.now (covers c.args.first.now)
    (covers c.args.second.now) c.args.core axis v.items line j) (sym c.in-H.is) moved)
    c.vertical_steps-in-H.ensures.places
