-- The slots of fewer grants are there.
use Rattle.std.proofs.Common.{◌≡◌, ◌∙◌, sym, ap, subst, not}
use Rattle.mpw_geom.specs.Names.{name_eq}
use Rattle.mpw_permissions.specs.Internal.Grants.{AreCovered}
use Rattle.mpw_permissions.specs.Grant.{ungranted}
use Rattle.mpw_permissions.specs.declared.permission.Grant.{Grant}
use Rattle.mpw_permissions.proofs.BlockLemmas.{covered-less}
use Rattle.mpw_permissions.proofs.block.Block.without_grants_to.Goals as goal

pub of-requires : goal.of-requires
of-requires c =
    let in' = c.self.inside in
    let role = c.args.role.now in
    let is : c.ungrant.new.grants.items ≡ ungranted in'.grants.value.items role =
    c.ungrant.ensures ∙ ap (λ l. ungranted l role) (c.in_ok-grants.ensures ∙ c.as_slice.ensures
    ∙ sym c.self.view_is) in
    subst (AreCovered in'.objects in'.roles) (sym is)
    (covered-less in'.objects in'.roles (λ (grant : Grant). not (name_eq role grant.role))
    in'.grants.value.items c.self.invariant)
