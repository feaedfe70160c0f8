-- Answers to the goals of `edges_of` in `src/edge.rt`.
use Rattle.std.proofs.Common.{rules}
use Rattle.std.proofs.lemmas.List.Sorted.{All-permutation, answers_always}
use Rattle.mpw_shapes.specs.declared.edge.Edge.{Edge}
use Rattle.mpw_shapes.specs.Internal.Edges.{HasEndsAmong}
use Rattle.mpw_shapes.proofs.Chains.{heights_of}
use Rattle.mpw_shapes.proofs.Order.{first_of_two, from_left_from_sorted}
use Rattle.mpw_shapes.proofs.edge.edges_of.Goals as goal

pub returns-clause-ends : goal.returns-clause-ends
returns-clause-ends c =
    All-permutation (HasEndsAmong (heights_of c.args.corners.now)) _ _
    c.sort_unstable_by_key.ensures.permutation c.in_ok-edges.ensures.ends

pub returns-clause-from_left : goal.returns-clause-from_left
returns-clause-from_left c =
    let sorted = c.sort_unstable_by_key.ensures.sorted (λ (e : Edge). (e.x, e.low))
    (answers_always _ _ _ (λ f a r g h. search rules)) in
    from_left_from_sorted _ (λ k d a b. first_of_two _ _ (sorted k d a b))
