-- Answers to the goals of `roots_stay_roots` in `src/laws.rt`.
use Rattle.mpw_walk.proofs.Roots.{root_stays, roots_stay}
use Rattle.mpw_walk.proofs.laws.roots_stay_roots.Goals as goal

pub returns : goal.returns
returns c = record {
  roots = root_stays c.earlier_submissions_stay.ensures;
  shapes = roots_stay c.earlier_submissions_stay.ensures;
}
