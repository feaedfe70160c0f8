-- The masks of the sessions are right.
use Rattle.std.proofs.Common.{sym, subst, ℕ, List}
use Rattle.mpw_roles.specs.Hierarchy.{Hierarchy}
use Rattle.mpw_roles.specs.declared.mask.Mask.{Mask}
use Rattle.mpw_rbac.specs.Masked.{AreBelow, sessions_in, masks_in}
use Rattle.mpw_rbac.specs.Policy.{active_lists}
use Rattle.mpw_rbac.specs.declared.session.Session.{Session}
use Rattle.mpw_rbac.proofs.policy.Policy.is_broken.Goals as goal

pub breaks_a_session-requires : goal.breaks_a_session-requires
breaks_a_session-requires c =
    let kept = c.self.inside.sessions in
    let es = c.table.result.now in
    subst (λ (h : Hierarchy). AreBelow h (active_lists (sessions_in es)) (masks_in es))
    (sym c.roles-roles.ensures)
    (subst (λ (s : List (ℕ × Session)). AreBelow c.self.inside.permissions.roles (active_lists s)
    (masks_in es)) (sym c.table.ensures.sessions)
    (subst (λ (ms : List Mask). AreBelow c.self.inside.permissions.roles
    (active_lists kept.sessions) ms) (sym c.table.ensures.masks) c.self.invariant.acting))
