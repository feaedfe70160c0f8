-- Answers to the goals of `pieces_in` in `src/strips.rt`.
use Rattle.std.proofs.Common.{sym, subst}
use Rattle.std.specs.Prelude.{All}
use Rattle.std.proofs.lemmas.Result.{IfOk-weaker}
use Rattle.mpw_edges.specs.declared.run.Axis.TheVariants.{V, H}
use Rattle.mpw_edges.proofs.Maximal.{exact_list, ordered_list}
use Rattle.mpw_checks.specs.Strips.{IsStrip}
use Rattle.mpw_checks.proofs.Halving.{places_of}
use Rattle.mpw_checks.proofs.strips.pieces_in.Goals as goal

pub returns-clause-exact : goal.returns-clause-exact
returns-clause-exact c = λ distance a b core are le.
    IfOk-weaker c.pieces_of.result _ _
    (λ v e p. exact_list c.args.rule.now a b core v.items c.as_slice.result.now
    c.in_ok-vertical.vertical.items c.as_slice-2.result.now c.in_ok-horizontal.horizontal.items e
    c.as_slice.ensures.value c.as_slice-2.ensures.value c.in_ok-vertical.ensures.apart
    c.in_ok-horizontal.ensures.apart
    (places_of c.in_ok-vertical.vertical.items c.rows.result.now c.args.strips.now.rows
    c.args.rule.now a b core V c.rows.ensures.strips c.in_ok-vertical.ensures.places
    (are.rows c.args.rule.now le))
    (places_of c.in_ok-horizontal.horizontal.items c.columns.result.now c.args.strips.now.columns
    c.args.rule.now a b core H c.columns.ensures.strips c.in_ok-horizontal.ensures.places
    (are.columns c.args.rule.now le)) p)
    c.pieces_of.ensures

pub returns-clause-ordered : goal.returns-clause-ordered
returns-clause-ordered c =
    IfOk-weaker c.pieces_of.result _ _
    (λ v e. ordered_list v.items c.as_slice.result.now c.in_ok-vertical.vertical.items
    c.as_slice-2.result.now c.in_ok-horizontal.horizontal.items e c.as_slice.ensures.value
    c.as_slice-2.ensures.value c.in_ok-vertical.ensures.apart c.in_ok-horizontal.ensures.apart)
    c.pieces_of.ensures

pub runs_in-requires : goal.runs_in-requires
runs_in-requires c = subst (All IsStrip) (sym c.rows.ensures.strips) c.rows.ensures.banded

pub runs_in-requires-2 : goal.runs_in-requires-2
runs_in-requires-2 c = subst (All IsStrip) (sym c.columns.ensures.strips) c.columns.ensures.banded
