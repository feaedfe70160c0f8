-- The value at the index of the name.
use Rattle.std.proofs.Common.{◌∙◌}
use Rattle.mpw_rbac.proofs.RosterLemmas.{value-at-place, value-nowhere}
use Rattle.mpw_rbac.proofs.roster.Roster.get.Goals as goal

pub returns-in-Some : goal.returns-in-Some
returns-in-Some c = c.at.ensures
    ∙ value-at-place c.args.self.now c.args.user.now c.in-Some.place c.in-Some.ensures.place

pub returns-in-None : goal.returns-in-None
returns-in-None c = value-nowhere c.args.self.now c.args.user.now c.in-None.ensures.place
