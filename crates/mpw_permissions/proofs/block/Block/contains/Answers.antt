-- A grant with a slot that isn't there is none of them.
use Rattle.std.proofs.Common.{◌∙◌, sym, ap}
use Rattle.std.specs.List.{list_any}
use Rattle.mpw_roles.specs.Mask.{has}
use Rattle.mpw_permissions.specs.Grant.{grant_eq}
use Rattle.mpw_permissions.proofs.BlockLemmas.{no-object, no-role}
use Rattle.mpw_permissions.proofs.block.Block.contains.Goals as goal

pub returns-then-not-contains : goal.returns-then-not-contains
returns-then-not-contains c =
    let in' = c.self.inside in
    let grant = c.args.grant.now in
    sym (no-object in'.objects in'.grants.value.items grant c.self.invariant.0
    (ap (has in'.objects) (sym c.requires.0) ∙ sym c.contains.ensures ∙ c.if-not-contains.true))
    ∙ ap (list_any (grant_eq grant)) c.self.view_is

pub returns-then-not-contains-2 : goal.returns-then-not-contains-2
returns-then-not-contains-2 c =
    let in' = c.self.inside in
    let grant = c.args.grant.now in
    sym (no-role in'.roles in'.grants.value.items grant c.self.invariant.1
    (ap (has in'.roles) (sym c.requires.1) ∙ sym c.contains-2.ensures
    ∙ c.if-not-contains-2.true))
    ∙ ap (list_any (grant_eq grant)) c.self.view_is
