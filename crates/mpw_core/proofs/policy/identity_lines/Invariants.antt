-- The invariants of the loops of `identity_lines` in `src/policy.rt`.
use Rattle.std.proofs.Common.{◌≡◌, ◌∷◌, ◌++◌, map, take}
use Rattle.mpw_replies.specs.declared.reply.Line.TheVariants.{User, Active, Authorized}
use Rattle.mpw_core.proofs.policy.identity_lines.Given as goal

abbrev pub invariant-loop-role : goal.invariant-loop-role
invariant-loop-role l =
    l.lines.items ≡ User l.fn.identity.user ∷ map Active (take l.role-index l.role-items)

abbrev pub invariant-loop-role-2 : goal.invariant-loop-role-2
invariant-loop-role-2 l = l.lines.items ≡ User l.fn.identity.user
    ∷ (map Active l.fn.identity.active ++ map Authorized (take l.role-index l.role-items))
