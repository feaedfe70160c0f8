-- Answers to the goals of `in_order` in `src/stitching.rt`.
use Rattle.std.proofs.Common.{Bor, rules}
use Rattle.std.proofs.lemmas.List.Sorted.{IsPermutation-map}
use Rattle.mpw_markers.specs.declared.marker.Marker.{Marker}
use Rattle.mpw_markers.proofs.Order.{AreInOrder-from_sort_by_key}
use Rattle.mpw_markers.proofs.stitching.in_order.Goals as goal

pub returns-clause-moved : goal.returns-clause-moved
returns-clause-moved c =
    IsPermutation-map (λ (m : Bor Marker). m.now) c.args.markers.items c.sort_by_key.new.self.items
    c.in_ok-sort_by_key.ensures.permutation

pub returns-clause-ordered : goal.returns-clause-ordered
returns-clause-ordered c = AreInOrder-from_sort_by_key c.sort_by_key.new.self.items
    c.in_ok-sort_by_key.ensures.sorted (λ a r q k. search rules)
