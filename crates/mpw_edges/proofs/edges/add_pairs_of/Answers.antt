-- Answers to the goals of `add_pairs_of` in `src/edges.rt`.
use Rattle.std.proofs.Common.{List, subst, sym, ◌∙◌}
use Rattle.mpw_edges.specs.declared.pair.Edge.{Edge}
use Rattle.mpw_edges.specs.Internal.Pairs.{AreEdges}
use Rattle.mpw_edges.proofs.Bounding.{edges_ordered}
use Rattle.mpw_edges.proofs.edges.add_pairs_of.Goals as goal

pub add_pairs-requires-clause-froms : goal.add_pairs-requires-clause-froms
add_pairs-requires-clause-froms c =
    subst (λ (es : List Edge). AreEdges es) (sym (c.as_slice.ensures.value ∙ c.in_ok-froms.ensures))
    (edges_ordered c.args.from c.args.first.now c.requires.first)

pub add_pairs-requires-clause-tos : goal.add_pairs-requires-clause-tos
add_pairs-requires-clause-tos c =
    subst (λ (es : List Edge). AreEdges es) (sym (c.as_slice-2.ensures.value ∙ c.in_ok-tos.ensures))
    (edges_ordered c.args.to c.args.second.now c.requires.second)
