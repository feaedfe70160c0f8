-- Names that occur once also do so without one of them.
use Rattle.std.proofs.Common.{◌∙◌, ap, List}
use Rattle.mpw_geom.specs.Names.{without_name}
use Rattle.mpw_roles.specs.Hierarchy.{Name}
use Rattle.mpw_roles.specs.Order.{are_distinct}
use Rattle.mpw_rbac.proofs.RosterLemmas.{distinct-left}
use Rattle.mpw_rbac.proofs.roster.names_without.Goals as goal

pub of_names-requires : goal.of_names-requires
of_names-requires c =
    let name = c.args.name.now in
    ap are_distinct (c.as_slice.ensures ∙ c.remove.ensures
    ∙ ap (λ (l : List Name). without_name l name) c.in_ok-names.ensures)
    ∙ distinct-left c.args.register.now name c.requires
