-- The grants of the blocks, and of the last one.
use Rattle.std.proofs.Common.{◌≡◌, sym, subst, []}
use Rattle.std.proofs.lemmas.Result.{IfOk-weaker}
use Rattle.std.specs.List.{flat_map}
use Rattle.mpw_roles.specs.Hierarchy.{role_names}
use Rattle.mpw_permissions.specs.Internal.Holders.{Buckets, IsHeld}
use Rattle.mpw_permissions.proofs.GrantedLemmas.{held-none}
use Rattle.mpw_permissions.proofs.holders.holders_of.Goals as goal

pub returns : goal.returns
returns c =
    let names = role_names c.args.roles.now in
    let operation = c.args.operation in
    let made = c.add_all.new.holders in
    let held : IsHeld names c.args.granted.now operation made =
    subst (λ granted. IsHeld names granted operation made) c.parts.ensures
    (c.in_ok-add_all.ensures (flat_map (λ b. b) c.parts.result.0.now)
    (c.in_ok-add_blocks.ensures []
    (held-none names operation c.in_ok-holders.holders c.in_ok-holders.ensures))) in
    IfOk-weaker c.new-2.result (λ (shared : Buckets). shared ≡ made)
    (IsHeld names c.args.granted.now operation)
    (λ shared is. subst (IsHeld names c.args.granted.now operation) (sym is) held) c.new-2.ensures
