-- Answers to the goals of `nothing_is_told_of_layouts` in `src/laws.rt`.
use Rattle.mpw_denial_laws.proofs.Blind as laws
use Rattle.mpw_denial_laws.proofs.laws.nothing_is_told_of_layouts.Goals as goal

pub returns : goal.returns
returns c = laws.nothing_is_told_of_layouts c.entering_is_by_the_need.ensures.has
