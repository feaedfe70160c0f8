-- Answers to the goals of `sort_from_left` in `src/sweep.rt`.
use Rattle.std.proofs.Common.{rules}
use Rattle.std.proofs.lemmas.Result.{on_ok_weaker}
use Rattle.mpw_geom.specs.declared.plane.Box2.{Box2}
use Rattle.mpw_region.proofs.Active.{rising_from_sort_by_key}
use Rattle.mpw_region.proofs.sweep.sort_from_left.Goals as goal

pub returns-clause-ordered : goal.returns-clause-ordered
returns-clause-ordered c = on_ok_weaker c.sort_by_key.result
    (λ h. rising_from_sort_by_key (λ (b : Box2). b.x0) c.sort_by_key.new.self.items h
    (λ a r q k. search rules)) c.sort_by_key.ensures.sorted
