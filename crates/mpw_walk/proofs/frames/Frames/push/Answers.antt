-- Answers to the goals of `Frames::push` in `src/frames.rt`.
use Rattle.mpw_walk.proofs.Stacked.{is_place, put_behind, all_with}
use Rattle.mpw_walk.proofs.frames.Frames.push.Goals as goal

pub bounds-places-place : goal.bounds-places-place
bounds-places-place c = is_place _ _ _ c.self.invariant c.self.view_is c.requires

pub invariant_of-self : goal.invariant_of-self
invariant_of-self c = all_with _ _ _ c.self.invariant c.self.view_is c.requires c.args.frame

pub returns : goal.returns
returns c = put_behind _ _ _ c.self.invariant c.self.view_is c.requires c.args.frame
