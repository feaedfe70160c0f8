-- Which denials name no set of separation of duty.
use Rattle.std.proofs.Common.{◌≡◌, ℕ, false, List, Err}
use Rattle.mpw_roles.specs.Hierarchy.{Name}
use Rattle.mpw_separation.specs.declared.set.Kind.{Kind}
use Rattle.mpw_rbac_laws.specs.Accepted.{TellsNoStatic, TellsNoDynamic}
use Rattle.mpw_rbac.specs.declared.refusal.Refusal.TheVariants.{Ssd, Dsd}
use Rattle.mpw_rbac.specs.Internal.Kinds.{set_refusal}
use Rattle.mpw_rbac.specs.Policy.{Policy}
use Rattle.mpw_rbac.specs.Rows as rows
use Rattle.mpw_rbac_laws.proofs.Denials.{none-denied, ssd-plain, dsd-plain, dsd-static, activation-static, kind-plain, none-of_kind, none-tells, none-tells-opened, none-tells-dropped, none-tells-activated}
use Rattle.mpw_rbac.proofs.RowTests as row

pub no_sets : (kind : Kind) (request : row.Administration) → row.tests_kind kind request ≡ false
    → (p : Policy) (name : Name) → row.row-of request p ≡ Err (set_refusal kind name) → ⊥
no_sets kind request none p name is =
    none-denied (set_refusal kind name) (row.tests-of request p) (row.next-of request p)
    (none-tells (set_refusal kind name) (kind-plain kind name) request
    (λ other. none-of_kind kind other name request none) p) is

pub no_static-open_session : (connection : ℕ) (user digest : List ℕ)
    → TellsNoStatic (λ p. rows.open_session p connection user digest)
no_static-open_session connection user digest p told is =
    none-tells-opened (Ssd told) (λ e. cc) (λ e. cc) connection user digest p is

pub no_dynamic-open_session : (connection : ℕ) (user digest : List ℕ)
    → TellsNoDynamic (λ p. rows.open_session p connection user digest)
no_dynamic-open_session connection user digest p told is =
    none-tells-opened (Dsd told) (λ e. cc) (λ e. cc) connection user digest p is

pub no_static-activate : (connection : ℕ) (role : List ℕ)
    → TellsNoStatic (λ p. rows.activate p connection role)
no_static-activate connection role p told is =
    none-tells-activated (Ssd told) (ssd-plain told) connection role
    (activation-static role told) (dsd-static told) p is

pub no_static-drop_role : (connection : ℕ) (role : List ℕ)
    → TellsNoStatic (λ p. rows.drop_role p connection role)
no_static-drop_role connection role p told is =
    none-tells-dropped (Ssd told) (ssd-plain told) connection role p is

pub no_dynamic-drop_role : (connection : ℕ) (role : List ℕ)
    → TellsNoDynamic (λ p. rows.drop_role p connection role)
no_dynamic-drop_role connection role p told is =
    none-tells-dropped (Dsd told) (dsd-plain told) connection role p is
