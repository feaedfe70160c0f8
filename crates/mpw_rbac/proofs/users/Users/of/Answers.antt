-- The values are the roster's.
use Rattle.std.proofs.Common.{◌∙◌, sym, ap, subst}
use Rattle.mpw_rbac.specs.Masked.{AreBelow}
use Rattle.mpw_rbac.specs.Policy.{assigned_lists}
use Rattle.mpw_rbac.proofs.users.Users.of.Goals as goal

pub with_masks-requires : goal.with_masks-requires
with_masks-requires c =
    subst (λ ls. AreBelow c.args.roles.now ls c.in_ok-masks.masks.items)
    (sym c.values.ensures ∙ ap assigned_lists c.deref.ensures) c.in_ok-masks.ensures
