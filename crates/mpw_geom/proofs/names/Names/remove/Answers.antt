-- The closure distinguishes the name from the others.
use Rattle.std.proofs.Common.{rules, not}
use Rattle.std.proofs.lemmas.Fn.{filter_same}
use Rattle.mpw_geom.specs.Names.{name_eq}
use Rattle.mpw_geom.proofs.names.Names.remove.Goals as goal

pub returns : goal.returns
returns c = rw (← c.self.view_is) (filter_same _ (λ other. not (name_eq c.args.name.now other)) _
    (λ x b f call. search rules) _ _ c.retain.ensures.filtered)
