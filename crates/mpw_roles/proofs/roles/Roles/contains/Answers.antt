-- Answers to the goals of `Roles::contains` in `src/roles.rt`.
use Rattle.std.proofs.Common.{◌∙◌}
use Rattle.mpw_roles.proofs.roles.Roles.contains.Goals as goal

pub returns : goal.returns
returns c = rw (← c.self.view_is) (c.is_some.ensures ∙ c.place.ensures.found)
