-- Answers to the goals of `sort_from_below` in `src/sweep.rt`.
use Rattle.std.proofs.Common.{rules}
use Rattle.mpw_geom.specs.declared.plane.Box2.{Box2}
use Rattle.mpw_region.proofs.Active.{rising_from_sort_by_key}
use Rattle.mpw_region.proofs.sweep.sort_from_below.Goals as goal

pub returns-clause-ordered : goal.returns-clause-ordered
returns-clause-ordered c = rising_from_sort_by_key (λ (b : Box2). b.y0)
    c.sort_unstable_by_key.new.self.items c.sort_unstable_by_key.ensures.sorted
    (λ a r q k. search rules)
