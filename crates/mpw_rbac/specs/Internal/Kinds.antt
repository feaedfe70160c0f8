-- Definitions for private functions and proofs of separation: the decision tables of a set of either
-- kind.
use Rattle.std.specs.Prelude.{not, List, [], ◌∷◌, ◌++◌, length, nat_lt, Result}
use Rattle.std.specs.List.{list_all}
use Rattle.mpw_roles.specs.Decided.{decided}
use Rattle.mpw_roles.specs.Hierarchy.{Name, is_role}
use Rattle.mpw_separation.specs.declared.set.Kind.{Kind}
use Rattle.mpw_separation.specs.declared.set.Kind.TheVariants.{Static, Dynamic}
use Rattle.mpw_separation.specs.Separation.{Sets, max_sets, sets_of, least_broken, has_set, without_set}
use Rattle.mpw_separation.specs.Set.{SeparationSet}
use Rattle.mpw_rbac.specs.declared.refusal.Refusal.{Refusal}
use Rattle.mpw_rbac.specs.declared.refusal.Refusal.TheVariants.{Ssd, Dsd, Known, Unknown, Full}
use Rattle.mpw_rbac.specs.Policy.{Policy, policy_of, assigned_lists, active_lists}
use Rattle.mpw_rbac.specs.Rows as rows

-- the other kind
abbrev pub other : Kind → Kind
other Static = Dynamic
other Dynamic = Static

-- the sets of both kinds, and those of one
abbrev pub all_sets : Policy → Sets
all_sets policy = record { ssd = policy.ssd; dsd = policy.dsd }

abbrev pub kind_sets : Kind → Policy → List SeparationSet
kind_sets kind policy = sets_of kind (all_sets policy)

-- with other sets of the kind
abbrev pub sets_with : Kind → Sets → List SeparationSet → Sets
sets_with Static sets new = record sets { ssd = new }
sets_with Dynamic sets new = record sets { dsd = new }

abbrev pub with_sets : Kind → Policy → List SeparationSet → Policy
with_sets kind policy new =
    policy_of policy.users policy.roles policy.granted (sets_with kind (all_sets policy) new)
    policy.sessions

-- the lists that the sets of the kind bind: the users' assigned roles, or the sessions' active ones
abbrev pub bound_lists : Kind → Policy → List (List Name)
bound_lists Static policy = assigned_lists policy.users
bound_lists Dynamic policy = active_lists policy.sessions

-- the refusal of a broken set of the kind
abbrev pub set_refusal : Kind → Name → Refusal
set_refusal Static name = Ssd name
set_refusal Dynamic name = Dsd name

-- a set of the kind is made
abbrev pub make_set : Kind → Policy → SeparationSet → Result Policy Refusal
make_set kind policy set =
    let sets = kind_sets kind policy ++ set ∷ [] in
    decided
    ((not (has_set (kind_sets kind policy) set.name), Known)
    ∷ (list_all (is_role policy.roles) set.roles, Unknown)
    ∷ rows.none_broken (set_refusal kind) (least_broken policy.roles sets (bound_lists kind policy))
    ∷ (nat_lt (length (kind_sets kind policy)) max_sets, Full)
    ∷ [])
    (with_sets kind policy sets)

-- a set of the kind is removed
abbrev pub remove_set : Kind → Policy → Name → Result Policy Refusal
remove_set kind policy name =
    decided
    ((has_set (kind_sets kind policy) name, Unknown) ∷ [])
    (with_sets kind policy (without_set (kind_sets kind policy) name))
