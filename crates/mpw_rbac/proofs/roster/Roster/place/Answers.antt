-- The number of a name is the index of its user.
use Rattle.std.proofs.Common.{◌∙◌, ◌<◌, sym, ap, subst, length}
use Rattle.std.specs.Prelude.{position, IfSome}
use Rattle.mpw_geom.specs.Names.{name_eq}
use Rattle.mpw_rbac.proofs.RosterLemmas.{zip-names, zip-length}
use Rattle.mpw_rbac.proofs.roster.Roster.place.Goals as goal

pub returns-clause-place : goal.returns-clause-place
returns-clause-place c = rw (← c.self.view_is) (c.number.ensures.number
    ∙ ap (position (name_eq c.args.user.now))
    (sym (zip-names c.self.inside.names c.self.inside.values.items c.self.invariant)))

pub returns-clause-within : goal.returns-clause-within
returns-clause-within c = subst (λ n. IfSome c.number.result (λ place. place < n))
    (c.self.invariant ∙ zip-length c.self.inside.names c.self.inside.values.items c.self.invariant
    ∙ ap length c.self.view_is) c.number.ensures.within
