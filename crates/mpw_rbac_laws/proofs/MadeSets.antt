-- A new set doesn't forbid having none of its roles, if the connection has a session: its user would break such a set, and so
-- would the session.
use Rattle.std.proofs.Common.{[], ◌≡◌, ℕ, Bool, true, false, not, ◌||◌, ◌==◌, List, ◌∷◌, ◌++◌, length, map, is_some, refl, sym, ap, ◌∙◌, true≢false}
use Rattle.std.specs.Prelude.{nat_lt}
use Rattle.std.specs.List.{list_all}
use Rattle.mpw_geom.specs.Names.{name_eq, contains_name}
use Rattle.mpw_roles.specs.Hierarchy.{Name, Hierarchy, is_role}
use Rattle.mpw_separation.specs.declared.set.Kind.{Kind}
use Rattle.mpw_separation.specs.declared.set.Kind.TheVariants.{Static, Dynamic}
use Rattle.mpw_separation.specs.Separation.{breaks, is_broken, has_set, least_broken}
use Rattle.mpw_separation.specs.Set.{SeparationSet}
use Rattle.mpw_rbac.specs.declared.refusal.Refusal.TheVariants.{Known, Unknown, Full}
use Rattle.mpw_rbac.specs.declared.session.User.{User}
use Rattle.mpw_rbac.specs.declared.session.Session.{Session}
use Rattle.mpw_rbac.specs.Internal.Kinds.{kind_sets, with_sets, bound_lists, set_refusal, make_set}
use Rattle.mpw_rbac.specs.Policy.{Policy, is_user, authorized, session_of}
use Rattle.mpw_rbac.specs.Rows as rows
use Rattle.mpw_rbac.specs.Sound.{is_authorized_session, active_authorized, Sound}
use Rattle.mpw_rbac.specs.Table.{has_key, value_at}
use Rattle.mpw_rbac_laws.specs.Laws.{KeepsInSession}
use Rattle.mpw_rbac.proofs.KeepTrimmed.{roles_of, active_of}
use Rattle.mpw_rbac.proofs.KindLemmas.{sound-made}
use Rattle.mpw_rbac.proofs.RowLemmas.{all-pass}
use Rattle.mpw_rbac.proofs.SeparationLemmas.{parts, not_true, unbroken-positive, all-last, holds-of_none, test-none}

-- a set that holds for somebody doesn't forbid having nothing
somebody-positive : {X : Type 0} (h : Hierarchy) (f : X → List Name) (xs : List X)
    (set : SeparationSet) → (xs ≡ [] → ⊥) → is_broken h (map f xs) set ≡ false
    → nat_lt 0 set.cardinality ≡ true
somebody-positive h f [] set some apart = absurd (some refl)
somebody-positive h f (x ∷ xs) set some apart =
    unbroken-positive h (f x) set (first (breaks h (f x) set) (is_broken h (map f xs) set) apart)
  where
    first : (a b : Bool) → (a || b) ≡ false → a ≡ false
    first true b e = absurd (true≢false e)
    first false b e = refl

some-session : (p : Policy) (connection : ℕ) → is_some (session_of p connection) ≡ true
    → p.sessions ≡ [] → ⊥
some-session p connection is none = true≢false
    (sym is ∙ ap
    (λ (es : List (ℕ × Session)). is_some (value_at (λ a b. a == b) es connection)) none)

some-user : (p : Policy) (connection : ℕ) → is_some (session_of p connection) ≡ true
    → active_authorized p ≡ true → p.users ≡ [] → ⊥
some-user p connection is sound none = by p.sessions is sound
  where
    by : (es : List (ℕ × Session)) → is_some (value_at (λ a b. a == b) es connection) ≡ true
        → list_all (λ (e : ℕ × Session). is_authorized_session p e.1) es ≡ true → ⊥
    by [] there all = true≢false (sym there)
    by (e ∷ es) there all =
        let first = (parts (is_authorized_session p e.1)
        (list_all (λ (x : ℕ × Session). is_authorized_session p x.1) es) all).0 in
        let user = (parts (is_user p e.1.user)
        (list_all (contains_name (authorized p e.1.user)) e.1.active) first).0 in
        true≢false (sym user ∙ ap (λ (us : List (Name × User)). has_key name_eq us e.1.user) none)

positive : (kind : Kind) (p : Policy) (connection : ℕ) (set : SeparationSet)
    → is_some (session_of p connection) ≡ true → Sound p
    → is_broken p.roles (bound_lists kind p) set ≡ false → nat_lt 0 set.cardinality ≡ true
positive Static p connection set there s =
    somebody-positive p.roles roles_of p.users set (some-user p connection there s.sessions)
positive Dynamic p connection set there s =
    somebody-positive p.roles active_of p.sessions set (some-session p connection there)

-- a set that is made in a session
made : (kind : Kind) (connection : ℕ) (set : SeparationSet)
    → KeepsInSession Sound connection (λ p. make_set kind p set)
made kind connection set p q there is s =
    let sets = kind_sets kind p ++ set ∷ [] in
    let broken = least_broken p.roles sets (bound_lists kind p) in
    let t = all-pass ((not (has_set (kind_sets kind p) set.name), Known)
    ∷ (list_all (is_role p.roles) set.roles, Unknown)
    ∷ rows.none_broken (set_refusal kind) broken
    ∷ (nat_lt (length (kind_sets kind p)) 64, Full)
    ∷ []) (with_sets kind p sets) q is in
    let hold = holds-of_none p.roles sets (bound_lists kind p)
    (test-none (set_refusal kind) broken t.1.1.0) in
    let apart = not_true (is_broken p.roles (bound_lists kind p) set)
    (all-last (λ (x : SeparationSet). not (is_broken p.roles (bound_lists kind p) x))
    (kind_sets kind p) set hold) in
    sound-made kind set (positive kind p connection set there s apart) p q is s

pub sound-ssd : (connection : ℕ) (set : SeparationSet)
    → KeepsInSession Sound connection (λ p. rows.ssd p set)
sound-ssd connection set = made Static connection set

pub sound-dsd : (connection : ℕ) (set : SeparationSet)
    → KeepsInSession Sound connection (λ p. rows.dsd p set)
sound-dsd connection set = made Dynamic connection set
