-- A denial names the least set that would be broken, or the role that the user isn't authorized for.
use Rattle.std.proofs.Common.{[], ◌≡◌, ℕ, true, false, cond, not, ◌&&◌, List, ◌∷◌, ◌++◌, Option, None, Some, Err, refl, subst, true≢false}
use Rattle.std.specs.Prelude.{nat_lt, length}
use Rattle.std.specs.List.{list_all}
use Rattle.mpw_geom.specs.Names.{contains_name}
use Rattle.mpw_roles.specs.Decided.{decided}
use Rattle.mpw_roles.specs.Hierarchy.{Name, is_role, is_immediate}
use Rattle.mpw_roles.specs.Order.{at_least}
use Rattle.mpw_geom.specs.Least.{least_name, IsLeast}
use Rattle.mpw_separation.specs.declared.set.Kind.{Kind}
use Rattle.mpw_separation.specs.declared.set.Kind.TheVariants.{Static, Dynamic}
use Rattle.mpw_separation.specs.Separation.{broken_names, has_set}
use Rattle.mpw_separation.specs.Set.{SeparationSet}
use Rattle.mpw_geom.proofs.LeastLemmas.{least-is}
use Rattle.mpw_rbac.specs.Internal.Kinds.{kind_sets, with_sets, bound_lists, set_refusal, make_set}
use Rattle.mpw_rbac_laws.specs.Laws.{IsLeastStatic, IsLeastDynamic}
use Rattle.mpw_rbac.specs.Policy.{Policy, authorized, assigned_roles, is_user, assigned_lists}
use Rattle.mpw_rbac.specs.Rows as rows
use Rattle.mpw_rbac.specs.declared.refusal.Refusal.{Refusal}
use Rattle.mpw_rbac.specs.declared.refusal.Refusal.TheVariants.{NotAuthorized, Unknown, Known, Full, Loop, Ssd, Dsd}
use Rattle.mpw_rbac.specs.Sound.{sets_hold}
use Rattle.mpw_rbac.proofs.LawLemmas.{static-holds}
use Rattle.mpw_rbac.proofs.RowLemmas.{AllPass}
use Rattle.mpw_rbac.proofs.RowTests as row
use Rattle.mpw_rbac_laws.proofs.Denials.{refused, refusal-same, NoneDenies, none-denied, ssd-plain, dsd-plain, dsd-static, ssd-dynamic, kind-plain, activation-plain, dsd-activation, activation-dynamic}

-- a denial that comes from only one of the tests
told-by : (denial : Refusal) (before : List rows.Test) (t : rows.Test) (later : List rows.Test)
    (next : Policy) → NoneDenies denial before → NoneDenies denial later
    → decided (before ++ t ∷ later) next ≡ refused denial → (t.0 ≡ false) × (t.1 ≡ denial)
told-by denial [] t later next none after is =
    elim t.0 as (λ b. cond b (decided later next) (Err t.1) ≡ refused denial
    → (b ≡ false) × (t.1 ≡ denial)) [
      | true ↦ λ e. absurd (none-denied denial later next after e)
      | false ↦ λ e. (refl, refusal-same t.1 denial e)
    ] is
told-by denial (x ∷ xs) t later next none after is =
    elim x.0 as (λ b. cond b (decided (xs ++ t ∷ later) next) (Err x.1) ≡ refused denial
    → (t.0 ≡ false) × (t.1 ≡ denial)) [
      | true ↦ λ e. told-by denial xs t later next none.1 after e
      | false ↦ λ e. absurd (none.0 (refusal-same x.1 denial e))
    ] is

-- and the tests before it have passed
passed-before : (denial : Refusal) (before later : List rows.Test) (next : Policy)
    → NoneDenies denial before → decided (before ++ later) next ≡ refused denial → AllPass before
passed-before denial [] later next none is = tt
passed-before denial (x ∷ xs) later next none is =
    elim x.0 as (λ b. cond b (decided (xs ++ later) next) (Err x.1) ≡ refused denial
    → (b ≡ true) × AllPass xs) [
      | true ↦ λ e. (refl, passed-before denial xs later next none.1 e)
      | false ↦ λ e. absurd (none.0 (refusal-same x.1 denial e))
    ] is

-- the denial names a broken set of a kind
told-named : (kind : Kind) (o : Option Name) (name : Name)
    → (rows.none_broken (set_refusal kind) o).0 ≡ false
    → (rows.none_broken (set_refusal kind) o).1 ≡ set_refusal kind name → o ≡ Some name
told-named kind None name is told = absurd (true≢false is)
told-named Static (Some n) name is told = cc
told-named Dynamic (Some n) name is told = cc

abbrev kind_names : Kind → Policy → List Name
kind_names kind p = broken_names p.roles (kind_sets kind p) (bound_lists kind p)

least-told : (kind : Kind) (names : List Name) (name : Name)
    → ((rows.none_broken (set_refusal kind) (least_name names)).0 ≡ false)
    × ((rows.none_broken (set_refusal kind) (least_name names)).1 ≡ set_refusal kind name)
    → IsLeast names (Some name)
least-told kind names name told =
    subst (IsLeast names) (told-named kind (least_name names) name told.0 told.1) (least-is names)

pub least-assign : (p : Policy) (user role name : List ℕ)
    → rows.assign p user role ≡ Err (Ssd name) → IsLeastStatic (row.assigned p user role) name
least-assign p user role name is =
    let f = ssd-plain name in
    let before : List rows.Test = (is_user p user && is_role p.roles role, Unknown)
    ∷ (not (contains_name (assigned_roles p user) role), Known) ∷ [] in
    least-told Static (kind_names Static (row.assigned p user role)) name
    (told-by (Ssd name) before (rows.ssd_holds (row.assigned p user role)) []
    (row.assigned p user role) (f.1, (f.0, tt)) tt is)

abbrev inherit-before : Policy → Name → Name → List rows.Test
inherit-before p senior junior =
    (is_role p.roles senior && is_role p.roles junior, Unknown)
    ∷ (not (is_immediate p.roles senior junior), Known)
    ∷ (not (at_least p.roles junior senior), Loop)
    ∷ []

pub least-inherit_static : (p : Policy) (senior junior name : List ℕ)
    → rows.inherit p senior junior ≡ Err (Ssd name)
    → IsLeastStatic (row.inherited p senior junior) name
least-inherit_static p senior junior name is =
    let f = ssd-plain name in
    let next = row.inherited p senior junior in
    least-told Static (kind_names Static next) name
    (told-by (Ssd name) (inherit-before p senior junior) (rows.ssd_holds next)
    (rows.dsd_holds next ∷ []) next (f.1, (f.0, (f.4, tt))) (dsd-static name _, tt) is)

pub least-inherit_dynamic : (p : Policy) (senior junior name : List ℕ)
    → rows.inherit p senior junior ≡ Err (Dsd name)
    → IsLeastDynamic (row.inherited p senior junior) name
least-inherit_dynamic p senior junior name is =
    let f = dsd-plain name in
    let next = row.inherited p senior junior in
    least-told Dynamic (kind_names Dynamic next) name
    (told-by (Dsd name) (inherit-before p senior junior ++ rows.ssd_holds next ∷ [])
    (rows.dsd_holds next) [] next (f.1, (f.0, (f.4, (ssd-dynamic name _, tt)))) tt is)

-- if a denial names a dynamic set, the static ones hold
pub static-first : (p : Policy) (senior junior name : List ℕ)
    → rows.inherit p senior junior ≡ Err (Dsd name)
    → sets_hold (row.inherited p senior junior).roles p.ssd (assigned_lists p.users) ≡ true
static-first p senior junior name is =
    let f = dsd-plain name in
    let next = row.inherited p senior junior in
    let t = passed-before (Dsd name) (inherit-before p senior junior ++ rows.ssd_holds next ∷ [])
    (rows.dsd_holds next ∷ []) next (f.1, (f.0, (f.4, (ssd-dynamic name _, tt)))) is in
    static-holds next t.1.1.1.0

pub least-activate : (p : Policy) (connection : ℕ) (role name : List ℕ)
    → rows.activate p connection role ≡ Err (Dsd name)
    → IsLeastDynamic (row.activated p connection role) name
least-activate p connection role name is =
    let f = dsd-plain name in
    let before : List rows.Test =
    (contains_name (authorized p (rows.user_of p connection)) role, NotAuthorized role)
    ∷ (not (contains_name (rows.active_roles p connection) role), Known) ∷ [] in
    least-told Dynamic (kind_names Dynamic (row.activated p connection role)) name
    (told-by (Dsd name) before (rows.dsd_holds (row.activated p connection role)) []
    (row.activated p connection role) (activation-dynamic role name, (f.0, tt)) tt is)

-- a set that is made
least-made : (kind : Kind) (p : Policy) (set : SeparationSet) (name : Name)
    → make_set kind p set ≡ Err (set_refusal kind name)
    → IsLeast (broken_names p.roles (kind_sets kind p ++ set ∷ []) (bound_lists kind p)) (Some name)
least-made kind p set name is =
    let f = kind-plain kind name in
    let sets = kind_sets kind p ++ set ∷ [] in
    let names = broken_names p.roles sets (bound_lists kind p) in
    let before : List rows.Test = (not (has_set (kind_sets kind p) set.name), Known)
    ∷ (list_all (is_role p.roles) set.roles, Unknown) ∷ [] in
    least-told kind names name
    (told-by (set_refusal kind name) before (rows.none_broken (set_refusal kind) (least_name names))
    ((nat_lt (length (kind_sets kind p)) 64, Full) ∷ []) (with_sets kind p sets)
    (f.0, (f.1, tt)) (f.2, tt) is)

pub least-ssd : (p : Policy) (set : SeparationSet) (name : List ℕ) → rows.ssd p set ≡ Err (Ssd name)
    → IsLeastStatic (row.ssd_made p set) name
least-ssd p set name is = least-made Static p set name is

pub least-dsd : (p : Policy) (set : SeparationSet) (name : List ℕ) → rows.dsd p set ≡ Err (Dsd name)
    → IsLeastDynamic (row.dsd_made p set) name
least-dsd p set name is = least-made Dynamic p set name is

activation-same : (role other : Name) → NotAuthorized role ≡ NotAuthorized other → other ≡ role
activation-same role other e = cc

-- an activation is denied for the requested role
pub denies-activate : (p : Policy) (connection : ℕ) (role other : List ℕ)
    → rows.activate p connection role ≡ Err (NotAuthorized other)
    → (other ≡ role) × (contains_name (authorized p (rows.user_of p connection)) role ≡ false)
denies-activate p connection role other is =
    let f = activation-plain other in
    let told = told-by (NotAuthorized other) []
    (contains_name (authorized p (rows.user_of p connection)) role, NotAuthorized role)
    ((not (contains_name (rows.active_roles p connection) role), Known)
    ∷ rows.dsd_holds (row.activated p connection role) ∷ [])
    (row.activated p connection role) tt (f.0, (dsd-activation other _, tt)) is in
    (activation-same role other told.1, told.0)
