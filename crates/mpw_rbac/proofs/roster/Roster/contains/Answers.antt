-- Answers to the goals of `Roster::contains` in `src/roster.rt`.
use Rattle.std.proofs.Common.{◌∙◌, ap, is_some}
use Rattle.mpw_rbac.proofs.RosterLemmas.{key-place}
use Rattle.mpw_rbac.proofs.roster.Roster.contains.Goals as goal

pub returns : goal.returns
returns c = c.is_some.ensures ∙ ap is_some c.place.ensures.place
    ∙ key-place c.args.self.now c.args.user.now
