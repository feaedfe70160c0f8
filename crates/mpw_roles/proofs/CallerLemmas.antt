-- What callers use of the order.
use Rattle.std.proofs.Common.{◌≡◌, true, ◌||◌, ◌&&◌, List, [], ◌∷◌, sym, ap, ◌∙◌}
use Rattle.mpw_geom.specs.Names.{contains_name}
use Rattle.mpw_roles.specs.Hierarchy.{Name, Hierarchy, role_names, is_role, is_immediate, with_role}
use Rattle.mpw_roles.specs.Order.{at_least, is_below, roles_below}
use Rattle.mpw_geom.proofs.Linked.{some_name, any_name}
use Rattle.mpw_roles.proofs.HierarchyLemmas.{contains-filter}
use Rattle.mpw_roles.proofs.RoleLemmas.{names-with_role, at_least-fewer, contains-append, juniors-with_role}
pub use Rattle.mpw_geom.proofs.Linked.{same_name, name_eq-refl, or_right, or_cases, some_name, any_name}
pub use Rattle.mpw_roles.proofs.HierarchyLemmas.{contains-filter, contains-without, names-with_juniors, pairs-with_pair, pairs-without_pair, pairs-without_role, names-without_role, roles-left}
pub use Rattle.mpw_roles.proofs.RoleLemmas.{contains-append, at_least-fewer, juniors-with_role}
pub use Rattle.mpw_roles.proofs.RoleLemmas.{first_role}
use Rattle.mpw_roles.proofs.BoolLemmas.{and_parts}

-- whether a role is below some seniors, as a test
pub contains-roles_below : (h : Hierarchy) (seniors : List Name) (r : Name)
    → contains_name (roles_below h seniors) r ≡ (is_role h r && is_below h seniors r)
contains-roles_below h seniors r = contains-filter (is_below h seniors) (role_names h) r

-- more roles, pairs and seniors: a role that was below still is
pub roles_below-grows : (h k : Hierarchy) (seniors more : List Name)
    → ((a b : Name) → is_immediate h a b ≡ true → is_immediate k a b ≡ true)
    → ((r : Name) → is_role h r ≡ true → is_role k r ≡ true)
    → ((s : Name) → contains_name seniors s ≡ true → contains_name more s ≡ true) → (r : Name)
    → contains_name (roles_below h seniors) r ≡ true
    → contains_name (roles_below k more) r ≡ true
roles_below-grows h k seniors more pairs roles among r below =
    let parts = and_parts (is_role h r) (is_below h seniors r)
    (sym (contains-roles_below h seniors r) ∙ below) in
    let from = some_name (λ s. at_least h s r) seniors parts.1 in
    contains-roles_below k more r
    ∙ ap (λ b. b && is_below k more r) (roles r parts.0)
    ∙ any_name (λ s. at_least k s r) more from.0 (among from.0 from.1)
    (at_least-fewer h k pairs from.0 r from.2)

-- the pairs and the roles stay if one is added
pub pairs-with_role : (h : Hierarchy) (r a b : Name) → is_immediate h a b ≡ true
    → is_immediate (with_role h r) a b ≡ true
pairs-with_role h r a b pair = ap (λ l. contains_name l b) (juniors-with_role h r a) ∙ pair

pub roles-with_role : (h : Hierarchy) (r q : Name) → is_role h q ≡ true
    → is_role (with_role h r) q ≡ true
roles-with_role h r q there = ap (λ l. contains_name l q) (names-with_role h r)
    ∙ contains-append (role_names h) (r ∷ []) q ∙ ap (λ b. b || contains_name (r ∷ []) q) there
