-- What parts of tests deny.
use Rattle.std.proofs.Common.{[], ◌≡◌, ℕ, true, false, cond, List, ◌∷◌, Option, None, Some, Result, Err, refl, sym, ◌∙◌, true≢false}
use Rattle.mpw_roles.specs.Decided.{decided}
use Rattle.mpw_roles.specs.Hierarchy.{Name}
use Rattle.mpw_separation.specs.declared.set.Kind.{Kind}
use Rattle.mpw_separation.specs.declared.set.Kind.TheVariants.{Static, Dynamic}
use Rattle.mpw_rbac.specs.Internal.Kinds.{set_refusal}
use Rattle.mpw_rbac.specs.Policy.{Policy}
use Rattle.mpw_rbac.specs.Rows as rows
use Rattle.mpw_rbac.specs.declared.refusal.Refusal.{Refusal}
use Rattle.mpw_rbac.specs.declared.refusal.Refusal.TheVariants.{Opened, Login, NotAuthorized, Unknown, Known, Full, Used, Loop, Ssd, Dsd}
use Rattle.mpw_rbac.proofs.RowTests as row

abbrev pub refused : Refusal → Result Policy Refusal
refused r = Err r

pub refusal-same : (a b : Refusal) → refused a ≡ refused b → a ≡ b
refusal-same a b e = cc

-- none of the tests denies this
abbrev pub NoneDenies : Refusal → List rows.Test → Type 0
NoneDenies denial [] = Unit {0}
NoneDenies denial (t ∷ ts) = (t.1 ≡ denial → ⊥) × NoneDenies denial ts

pub none-denied : (denial : Refusal) (tests : List rows.Test) (next : Policy)
    → NoneDenies denial tests → decided tests next ≡ refused denial → ⊥
none-denied denial [] next none is = cc
none-denied denial (t ∷ ts) next none is =
    elim t.0 as (λ b. cond b (decided ts next) (Err t.1) ≡ refused denial → ⊥) [
      | true ↦ λ later. none-denied denial ts next none.1 later
      | false ↦ λ here. none.0 (refusal-same t.1 denial here)
    ] is

-- refusals of other kinds
abbrev pub IsPlain : Refusal → Type 0
IsPlain denial = (Known ≡ denial → ⊥) × (Unknown ≡ denial → ⊥) × (Full ≡ denial → ⊥)
    × (Used ≡ denial → ⊥) × (Loop ≡ denial → ⊥)

pub ssd-plain : (name : Name) → IsPlain (Ssd name)
ssd-plain name = (λ e. cc, λ e. cc, λ e. cc, λ e. cc, λ e. cc)

pub dsd-plain : (name : Name) → IsPlain (Dsd name)
dsd-plain name = (λ e. cc, λ e. cc, λ e. cc, λ e. cc, λ e. cc)

pub activation-plain : (role : Name) → IsPlain (NotAuthorized role)
activation-plain role = (λ e. cc, λ e. cc, λ e. cc, λ e. cc, λ e. cc)

pub dsd-static : (name : Name) (o : Option Name) → (rows.none_broken Dsd o).1 ≡ Ssd name → ⊥
dsd-static name None e = cc
dsd-static name (Some n) e = cc

pub ssd-dynamic : (name : Name) (o : Option Name) → (rows.none_broken Ssd o).1 ≡ Dsd name → ⊥
ssd-dynamic name None e = cc
ssd-dynamic name (Some n) e = cc

pub dsd-activation : (role : Name) (o : Option Name)
    → (rows.none_broken Dsd o).1 ≡ NotAuthorized role
    → ⊥
dsd-activation role None e = cc
dsd-activation role (Some n) e = cc

pub activation-static : (role name : Name) → NotAuthorized role ≡ Ssd name → ⊥
activation-static role name e = cc

pub activation-dynamic : (role name : Name) → NotAuthorized role ≡ Dsd name → ⊥
activation-dynamic role name e = cc

-- the refusal of a broken set of a kind
pub kind-plain : (kind : Kind) (name : Name) → IsPlain (set_refusal kind name)
kind-plain Static name = ssd-plain name
kind-plain Dynamic name = dsd-plain name

-- the sets of a kind have no such denial
abbrev pub NoneOfKind : Kind → Refusal → Type 0
NoneOfKind kind denial = (o : Option Name) → (rows.none_broken (set_refusal kind) o).1 ≡ denial → ⊥

-- a request that doesn't test the one kind has no such denial from the other
pub none-of_kind : (told kind : Kind) (name : Name) (request : row.Administration)
    → row.tests_kind told request ≡ false → row.tests_kind kind request ≡ true
    → NoneOfKind kind (set_refusal told name)
none-of_kind Static Static name request none some = absurd (true≢false (sym some ∙ none))
none-of_kind Static Dynamic name request none some = dsd-static name
none-of_kind Dynamic Static name request none some = ssd-dynamic name
none-of_kind Dynamic Dynamic name request none some = absurd (true≢false (sym some ∙ none))

-- an administrative request is denied only for what it tests
pub none-tells : (denial : Refusal) → IsPlain denial → (request : row.Administration)
    → ((kind : Kind) → row.tests_kind kind request ≡ true → NoneOfKind kind denial) → (p : Policy)
    → NoneDenies denial (row.tests-of request p)
none-tells denial f (row.AddUser user digest) sets p = (f.0, (f.2, tt))
none-tells denial f (row.DeleteUser user) sets p = (f.1, tt)
none-tells denial f (row.AddRole role) sets p = (f.0, (f.2, tt))
none-tells denial f (row.DeleteRole role) sets p = (f.1, (f.3, tt))
none-tells denial f (row.Assign user role) sets p = (f.1, (f.0, (sets Static refl _, tt)))
none-tells denial f (row.Deassign user role) sets p = (f.1, tt)
none-tells denial f (row.AddGrant new) sets p = (f.1, (f.0, (f.2, tt)))
none-tells denial f (row.Revoke old) sets p = (f.1, tt)
none-tells denial f (row.Inherit senior junior) sets p =
    (f.1, (f.0, (f.4, (sets Static refl _, (sets Dynamic refl _, tt)))))
none-tells denial f (row.Uninherit senior junior) sets p = (f.1, tt)
none-tells denial f (row.MakeStatic set) sets p = (f.0, (f.1, (sets Static refl _, (f.2, tt))))
none-tells denial f (row.MakeDynamic set) sets p = (f.0, (f.1, (sets Dynamic refl _, (f.2, tt))))
none-tells denial f (row.RemoveStatic name) sets p = (f.1, tt)
none-tells denial f (row.RemoveDynamic name) sets p = (f.1, tt)

-- nor does a request of a session's own roles
pub none-tells-opened : (denial : Refusal) → (Opened ≡ denial → ⊥) → (Login ≡ denial → ⊥)
    → (connection : ℕ) (user digest : List ℕ) (p : Policy)
    → rows.open_session p connection user digest ≡ refused denial → ⊥
none-tells-opened denial opened login connection user digest p is =
    none-denied denial (row.open-tests p connection user digest) (row.opened p connection user)
    (opened, (login, tt)) is

pub none-tells-dropped : (denial : Refusal) → IsPlain denial → (connection : ℕ) (role : Name)
    (p : Policy) → rows.drop_role p connection role ≡ refused denial → ⊥
none-tells-dropped denial f connection role p is =
    none-denied denial (row.drop-tests p connection role) (row.dropped p connection role)
    (f.1, tt) is

pub none-tells-activated : (denial : Refusal) → IsPlain denial → (connection : ℕ) (role : Name)
    → (NotAuthorized role ≡ denial → ⊥)
    → ((o : Option Name) → (rows.none_broken Dsd o).1 ≡ denial → ⊥) → (p : Policy)
    → rows.activate p connection role ≡ refused denial → ⊥
none-tells-activated denial f connection role authorized dynamic p is =
    none-denied denial (row.activate-tests p connection role) (row.activated p connection role)
    (authorized, (f.0, (dynamic _, tt))) is
