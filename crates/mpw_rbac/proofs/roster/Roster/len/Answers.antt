-- Answers to the goals of `Roster::len` in `src/roster.rt`.
use Rattle.std.proofs.Common.{◌∙◌}
use Rattle.mpw_rbac.proofs.RosterLemmas.{zip-length}
use Rattle.mpw_rbac.proofs.roster.Roster.len.Goals as goal

pub returns : goal.returns
returns c = rw (← c.self.view_is) (c.len.ensures ∙ c.self.invariant
    ∙ zip-length c.self.inside.names c.self.inside.values.items c.self.invariant)
