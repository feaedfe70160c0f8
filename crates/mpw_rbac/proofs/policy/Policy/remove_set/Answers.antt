-- The set is removed, and the others stay.
use Rattle.std.proofs.Common.{sym, subst}
use Rattle.mpw_separation.specs.Separation.{sets_of, without_set}
use Rattle.mpw_rbac.specs.Internal.Kinds.{all_sets, kind_sets}
use Rattle.mpw_rbac.specs.Policy.{policy_of}
use Rattle.mpw_rbac.specs.Sound.{Sound}
use Rattle.mpw_rbac.proofs.KeepLemmas.{keep-removed}
use Rattle.mpw_rbac.proofs.KindLemmas.{changed-sets}
use Rattle.mpw_rbac.proofs.RowFacts.{removed-set}
use Rattle.mpw_rbac.proofs.Shown.{shown, with-sets}
use Rattle.mpw_rbac.proofs.policy.Policy.remove_set.Goals as goal

pub invariant_of-self-2 : goal.invariant_of-self-2
invariant_of-self-2 c =
    let p = shown c.self.inside in
    let kind = c.args.kind in
    let name = c.args.name.now in
    let sets = c.remove.new.sets in
    let left = changed-sets kind (all_sets p) sets.sets (without_set (kind_sets kind p) name)
    (removed-set (kind_sets kind p) name (sets_of kind sets.sets) c.in_ok-remove.ensures.ok)
    c.in_ok-remove.ensures.others in
    with-sets c.self.inside c.roles.result.now sets c.self.invariant c.roles.ensures
    c.in_ok-remove.ensures.placed
    (subst Sound (λ i. policy_of p.users p.roles p.granted (sym left i) p.sessions)
    (keep-removed kind p name c.self.invariant.sound))
