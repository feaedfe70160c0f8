-- A pair that breaks no set is accepted, one that would is refused, and an existing one can be
-- removed.
use Rattle.std.proofs.Common.{◌≡◌, true, Ok, Err, None, Some, refl, subst}
use Rattle.mpw_roles.specs.Hierarchy.{Name, Hierarchy, is_immediate, with_pair, without_pair}
use Rattle.mpw_roles.specs.Rows as roles
use Rattle.mpw_separation.specs.Separation.{least_broken}
use Rattle.mpw_rbac.specs.Policy.{Policy, assigned_lists, active_lists, trim}
use Rattle.mpw_rbac.specs.Rows as rows
use Rattle.mpw_rbac.specs.Internal.Pairs.{holding}
use Rattle.mpw_rbac.specs.declared.refusal.PolicyFault.{PolicyFault}
use Rattle.mpw_rbac.specs.declared.refusal.PolicyFault.TheVariants.{Refused, Memory}
use Rattle.mpw_rbac.specs.declared.refusal.Refusal.TheVariants.{Ssd, Dsd}
use Rattle.mpw_rbac.proofs.RowFacts.{inherited-tests, inherited-pair}

pub inherit-ok : (p : Policy) (senior junior : Name) (after : Hierarchy)
    → roles.inherit p.roles senior junior ≡ Ok after
    → least_broken (with_pair p.roles senior junior) p.ssd (assigned_lists p.users) ≡ None
    → least_broken (with_pair p.roles senior junior) p.dsd (active_lists p.sessions) ≡ None
    → rows.inherit p senior junior
    ≡ Ok (record p { roles = with_pair p.roles senior junior })
inherit-ok p senior junior after made static dynamic =
    let t = inherited-tests p.roles senior junior after made in
    rw (t.0, t.1, t.2, static, dynamic)

pub uninherit-ok : (p : Policy) (senior junior : Name) → is_immediate p.roles senior junior ≡ true
    → rows.uninherit p senior junior
    ≡ Ok (trim (record p { roles = without_pair p.roles senior junior }))
uninherit-ok p senior junior there = rw there

-- the refusal names a broken set
pub holding-static : (p : Policy) (h : Hierarchy) (name : Name)
    → least_broken h p.ssd (assigned_lists p.users) ≡ Some name → holding p h ≡ Err (Ssd name)
holding-static p h name some = rw some refl

pub holding-dynamic : (p : Policy) (h : Hierarchy) (name : Name)
    → least_broken h p.ssd (assigned_lists p.users) ≡ None
    → least_broken h p.dsd (active_lists p.sessions) ≡ Some name → holding p h ≡ Err (Dsd name)
holding-dynamic p h name none some = rw (none, some) refl

-- and is the refusal of the decision table
pub inherit-refused : (p : Policy) (senior junior : Name) (after : Hierarchy)
    → roles.inherit p.roles senior junior ≡ Ok after
    → (fault : PolicyFault) → rows.IsFaultOf (holding p after) fault
    → rows.IsFaultOf (rows.inherit p senior junior) fault
inherit-refused p senior junior after made Memory is = tt
inherit-refused p senior junior after made (Refused refusal) is =
    let t = inherited-tests p.roles senior junior after made in
    rw (t.0, t.1, t.2) (subst (λ h. holding p h ≡ Err refusal)
    (inherited-pair p.roles senior junior after made).1 is)
