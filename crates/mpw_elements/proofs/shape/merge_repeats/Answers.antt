-- Answers to the goals of `merge_repeats` in `src/shape.rt`.
use Rattle.std.proofs.lemmas.List.Filters.{dedup_is}
use Rattle.mpw_structures.specs.Element.{same_point}
use Rattle.mpw_elements.proofs.shape.merge_repeats.Goals as goal

pub returns : goal.returns
returns c = dedup_is same_point c.args.points.items c.dedup.new.self.items c.dedup.ensures.filtered
