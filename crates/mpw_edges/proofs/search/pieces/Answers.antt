-- Answers to the goals of `pieces` in `src/search.rt`.
use Rattle.std.proofs.lemmas.Result.{IfOk-weaker}
use Rattle.mpw_region.specs.Squares.{covers}
use Rattle.mpw_edges.proofs.Maximal.{exact_list, ordered_list}
use Rattle.mpw_edges.proofs.search.pieces.Goals as goal

pub returns-clause-exact : goal.returns-clause-exact
returns-clause-exact c =
    IfOk-weaker c.pieces_of.result _ _
    (λ v e p. exact_list c.args.rule.now (covers c.args.first.now) (covers c.args.second.now)
    c.args.core v.items c.as_slice.result.now c.in_ok-vertical.vertical.items
    c.as_slice-2.result.now c.in_ok-horizontal.horizontal.items e c.as_slice.ensures.value
    c.as_slice-2.ensures.value c.in_ok-vertical.ensures.apart c.in_ok-horizontal.ensures.apart
    c.in_ok-vertical.ensures.places c.in_ok-horizontal.ensures.places p)
    c.pieces_of.ensures

pub returns-clause-ordered : goal.returns-clause-ordered
returns-clause-ordered c =
    IfOk-weaker c.pieces_of.result _ _
    (λ v e. ordered_list v.items c.as_slice.result.now c.in_ok-vertical.vertical.items
    c.as_slice-2.result.now c.in_ok-horizontal.horizontal.items e c.as_slice.ensures.value
    c.as_slice-2.ensures.value c.in_ok-vertical.ensures.apart c.in_ok-horizontal.ensures.apart)
    c.pieces_of.ensures
