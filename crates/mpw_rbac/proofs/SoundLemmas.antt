-- Each change of the policy preserves that every active role is authorized.
use Rattle.std.proofs.Common.{◌≡◌, ℕ, Bool, true, false, cond, not, ◌||◌, inl, inr, ◌==◌, List, [], ◌∷◌, ◌++◌, filter, None, Some, refl, sym, ap, ◌∙◌, true≢false}
use Rattle.std.specs.List.{list_all}
use Rattle.std.specs.Option.{option_map_or}
use Rattle.mpw_geom.specs.Names.{name_eq, contains_name}
use Rattle.mpw_roles.specs.Hierarchy.{Name, with_role}
use Rattle.mpw_roles.specs.Order.{roles_below}
use Rattle.mpw_roles.proofs.CallerLemmas.{or_right, or_cases, roles_below-grows, pairs-with_role, roles-with_role, contains-append}
use Rattle.mpw_rbac.specs.declared.session.User.{User}
use Rattle.mpw_rbac.specs.declared.session.Session.{Session}
use Rattle.mpw_rbac.specs.Policy.{Policy, is_user, authorized, assigned_roles}
use Rattle.mpw_rbac.specs.Rows as rows
use Rattle.mpw_rbac.specs.Sound.{is_authorized_session, active_authorized}
use Rattle.mpw_rbac.specs.Table.{has_key, value_at, with_value}
use Rattle.mpw_roles.proofs.BoolLemmas.{and_both, and_parts}

all_imply : {X : Type 0} (p q : X → Bool) → ((x : X) → p x ≡ true → q x ≡ true) → (xs : List X)
    → list_all p xs ≡ true → list_all q xs ≡ true
all_imply p q each [] all = refl
all_imply p q each (x ∷ xs) all = let parts = and_parts (p x) (list_all p xs) all in
    and_both (q x) (list_all q xs) (each x parts.0) (all_imply p q each xs parts.1)

all-append : {X : Type 0} (p : X → Bool) (xs ys : List X) → list_all p xs ≡ true
    → list_all p ys ≡ true → list_all p (xs ++ ys) ≡ true
all-append p [] ys a b = b
all-append p (x ∷ xs) ys a b = let parts = and_parts (p x) (list_all p xs) a in
    and_both (p x) _ parts.0 (all-append p xs ys parts.1 b)

all-filter : {X : Type 0} (p keep : X → Bool) (xs : List X) → list_all p xs ≡ true
    → list_all p (filter keep xs) ≡ true
all-filter p keep [] a = refl
all-filter p keep (x ∷ xs) a =
    let parts = and_parts (p x) (list_all p xs) a in
    let rest = all-filter p keep xs parts.1 in
    elim (keep x) as (λ b. list_all p (cond b (x ∷ filter keep xs) (filter keep xs)) ≡ true)
    [ true ↦ and_both (p x) _ parts.0 rest | false ↦ rest ]

-- if each user stays authorized for what it was, and the sessions stay
pub sound-grows : (p q : Policy) → q.sessions ≡ p.sessions
    → ((u : Name) → is_user p u ≡ true → is_user q u ≡ true)
    → ((u r : Name) → contains_name (authorized p u) r ≡ true
    → contains_name (authorized q u) r ≡ true) → active_authorized p ≡ true
    → active_authorized q ≡ true
sound-grows p q same users grows sound =
    ap (list_all (λ (e : ℕ × Session). is_authorized_session q e.1)) same
    ∙ all_imply (λ (e : ℕ × Session). is_authorized_session p e.1)
    (λ (e : ℕ × Session). is_authorized_session q e.1)
    (λ e all.
    let parts = and_parts (is_user p e.1.user)
    (list_all (contains_name (authorized p e.1.user)) e.1.active) all in
    and_both (is_user q e.1.user) _ (users e.1.user parts.0)
    (all_imply (contains_name (authorized p e.1.user)) (contains_name (authorized q e.1.user))
    (grows e.1.user) e.1.active parts.1)) p.sessions sound

has_key-append : (es more : List (Name × User)) (k : Name) → has_key name_eq es k ≡ true
    → has_key name_eq (es ++ more) k ≡ true
has_key-append [] more k there = absurd (true≢false (sym there))
has_key-append (e ∷ es) more k there =
    elim (or_cases (name_eq k e.0) (has_key name_eq es k) there) [
      | inl here ↦ ap (λ b. b || has_key name_eq (es ++ more) k) here
      | inr later ↦ or_right (name_eq k e.0) _ (has_key-append es more k later)
    ]

has_key-with_value : (es : List (Name × User)) (k : Name) (v : User) (q : Name)
    → has_key name_eq (with_value name_eq es k v) q ≡ has_key name_eq es q
has_key-with_value [] k v q = refl
has_key-with_value (e ∷ es) k v q =
    elim (name_eq k e.0) as (λ b. has_key name_eq
    (cond b ((e.0, v) ∷ es) (e ∷ with_value name_eq es k v)) q
    ≡ (name_eq q e.0 || has_key name_eq es q))
    [ true ↦ refl | false ↦ ap (λ b. name_eq q e.0 || b) (has_key-with_value es k v q) ]

-- a user is added, without roles
assigned-new : (users : List (Name × User)) (new : Name) (digest : List ℕ) (u : Name)
    → option_map_or (λ (x : User). x.roles)
    (value_at name_eq (users ++ (new, record { digest = digest; roles = [] }) ∷ []) u) []
    ≡ option_map_or (λ (x : User). x.roles) (value_at name_eq users u) []
assigned-new [] new digest u = elim (name_eq u new) as
    (λ b. option_map_or (λ (x : User). x.roles)
    (cond b (Some (record { digest = digest; roles = [] })) None) [] ≡ [])
    [ true ↦ refl | false ↦ refl ]
assigned-new (e ∷ es) new digest u =
    elim (name_eq u e.0) as (λ b. option_map_or (λ (x : User). x.roles)
    (cond b (Some e.1) (value_at name_eq (es ++ (new, record { digest = digest; roles = [] })
    ∷ []) u)) [] ≡ option_map_or (λ (x : User). x.roles)
    (cond b (Some e.1) (value_at name_eq es u)) []) [
      | true ↦ refl
      | false ↦ assigned-new es new digest u
    ]

pub sound-adduser : (p : Policy) (user : Name) (digest : List ℕ) → active_authorized p ≡ true
    → active_authorized (record p {
      users = p.users
          ++ (user, record { digest = digest; roles = [] }) ∷ [];
    }) ≡ true
sound-adduser p user digest sound =
    sound-grows p (record p {
      users = p.users ++ (user, record { digest = digest; roles = [] })
          ∷ [];
    }) refl
    (λ u is. has_key-append p.users _ u is)
    (λ u r there. ap (λ l. contains_name (roles_below p.roles l) r)
    (assigned-new p.users user digest u) ∙ there) sound

pub sound-addrole : (p : Policy) (role : Name) → active_authorized p ≡ true
    → active_authorized (record p { roles = with_role p.roles role }) ≡ true
sound-addrole p role sound =
    sound-grows p (record p { roles = with_role p.roles role }) refl
    (λ u is. is)
    (λ u r there. roles_below-grows p.roles (with_role p.roles role) (assigned_roles p u)
    (assigned_roles p u) (pairs-with_role p.roles role) (roles-with_role p.roles role)
    (λ s is. is) r there) sound

-- a user is assigned more roles
assigned-more : (users : List (Name × User)) (user : Name) (value : User) (u s : Name)
    → (contains_name (option_map_or (λ (x : User). x.roles) (value_at name_eq users user) []) s
    ≡ true → contains_name value.roles s ≡ true)
    → contains_name (option_map_or (λ (x : User). x.roles) (value_at name_eq users u) []) s ≡ true
    → contains_name (option_map_or (λ (x : User). x.roles)
    (value_at name_eq (with_value name_eq users user value) u) []) s ≡ true
assigned-more [] user value u s grows is = is
assigned-more (e ∷ es) user value u s grows is =
    elim (name_eq user e.0) as (λ t. name_eq user e.0 ≡ t
    → (contains_name (option_map_or (λ (x : User). x.roles)
    (cond t (Some e.1) (value_at name_eq es user)) []) s ≡ true
    → contains_name value.roles s ≡ true)
    → contains_name (option_map_or (λ (x : User). x.roles)
    (value_at name_eq (cond t ((e.0, value) ∷ es) (e ∷ with_value name_eq es user value)) u) [])
    s ≡ true) [
      | true ↦ λ at more. elim (name_eq u e.0) as
          (λ t. contains_name (option_map_or (λ (x : User). x.roles)
          (cond t (Some e.1) (value_at name_eq es u)) []) s ≡ true
          → contains_name (option_map_or (λ (x : User). x.roles)
          (cond t (Some value) (value_at name_eq es u)) []) s ≡ true) [
            | true ↦ λ had. more had
            | false ↦ λ had. had
          ] is
      | false ↦ λ other more. elim (name_eq u e.0) as
          (λ t. contains_name (option_map_or (λ (x : User). x.roles)
          (cond t (Some e.1) (value_at name_eq es u)) []) s ≡ true
          → contains_name (option_map_or (λ (x : User). x.roles)
          (cond t (Some e.1) (value_at name_eq (with_value name_eq es user value) u)) []) s ≡ true) [
            | true ↦ λ had. had
            | false ↦ λ had. assigned-more es user value u s more had
          ] is
    ] refl grows

pub sound-assign : (p : Policy) (user role : Name) → active_authorized p ≡ true
    → active_authorized (rows.with_assigned p user (assigned_roles p user ++ role ∷ [])) ≡ true
sound-assign p user role sound =
    sound-grows p (rows.with_assigned p user (assigned_roles p user ++ role ∷ [])) refl
    (λ u is. has_key-with_value p.users user _ u ∙ is)
    (λ u r there.
    roles_below-grows p.roles p.roles (assigned_roles p u)
    (assigned_roles (rows.with_assigned p user (assigned_roles p user ++ role ∷ [])) u)
    (λ a b is. is) (λ q is. is)
    (λ s is. assigned-more p.users user
    (record { digest = rows.digest_of_user p user; roles = assigned_roles p user ++ role ∷ [] })
    u s (λ had. contains-append (assigned_roles p user) (role ∷ []) s
    ∙ ap (λ b. b || contains_name (role ∷ []) s) had) is)
    r there)
    sound

-- a session begins without active roles, and ends
pub sound-open : (p : Policy) (connection : ℕ) (user : Name) → is_user p user ≡ true
    → active_authorized p ≡ true → active_authorized
    (record p { sessions = p.sessions ++ (connection, record { user = user; active = [] }) ∷ [] })
    ≡ true
sound-open p connection user there sound =
    all-append _ p.sessions ((connection, record { user = user; active = [] }) ∷ []) sound
    (and_both _ true (and_both (is_user p user) true there refl) refl)

pub sound-end : (p : Policy) (connection : ℕ) → active_authorized p ≡ true
    → active_authorized (rows.end_session p connection) ≡ true
sound-end p connection sound =
    all-filter _ (λ (e : ℕ × Session). not (connection == e.0)) p.sessions sound

abbrev is_kept : Policy → ℕ × Session → Bool
is_kept p e = is_authorized_session p e.1

-- an authorized role becomes active
pub sound-activate : (p : Policy) (connection : ℕ) (role : Name)
    → contains_name (authorized p (rows.user_of p connection)) role ≡ true
    → active_authorized p ≡ true
    → active_authorized
    (rows.with_active p connection (rows.active_roles p connection ++ role ∷ [])) ≡ true
sound-activate p connection role is sound = by p.sessions sound is
  where
    by : (es : List (ℕ × Session)) → list_all (is_kept p) es ≡ true
        → contains_name (authorized p (option_map_or (λ (s : Session). s.user)
        (value_at (λ a b. a == b) es connection) [])) role ≡ true
        → list_all (is_kept p) (with_value (λ a b. a == b) es connection
        (record {
          user = option_map_or (λ (s : Session). s.user)
              (value_at (λ a b. a == b) es connection) [];
          active = option_map_or (λ (s : Session). s.active)
              (value_at (λ a b. a == b) es connection) []
              ++ role ∷ [];
        })) ≡ true
    by [] all there = refl
    by (e ∷ es) all there =
        let parts = and_parts (is_kept p e) (list_all (is_kept p) es) all in
        elim (connection == e.0) as (λ t. contains_name
        (authorized p (option_map_or (λ (s : Session). s.user)
        (cond t (Some e.1) (value_at (λ a b. a == b) es connection)) [])) role ≡ true
        → list_all (is_kept p)
        (cond t ((
          e.0,
          record {
            user = option_map_or (λ (s : Session). s.user)
                (cond t (Some e.1) (value_at (λ a b. a == b) es connection)) [];
            active = option_map_or (λ (s : Session). s.active)
                (cond t (Some e.1) (value_at (λ a b. a == b) es connection)) [] ++ role ∷ [];
          },
        ) ∷ es)
        (e ∷ with_value (λ a b. a == b) es connection
        (record {
          user = option_map_or (λ (s : Session). s.user)
              (cond t (Some e.1) (value_at (λ a b. a == b) es connection)) [];
          active = option_map_or (λ (s : Session). s.active)
              (cond t (Some e.1) (value_at (λ a b. a == b) es connection)) [] ++ role ∷ [];
        }))) ≡ true) [
          | true ↦ λ role_ok.
              let session = and_parts (is_user p e.1.user)
              (list_all (contains_name (authorized p e.1.user)) e.1.active) parts.0 in
              and_both _ (list_all (is_kept p) es)
              (and_both (is_user p e.1.user) _ session.0
              (all-append (contains_name (authorized p e.1.user)) e.1.active (role ∷ [])
              session.1 (and_both _ true role_ok refl))) parts.1
          | false ↦ λ later. and_both (is_kept p e) _ parts.0 (by es parts.1 later)
        ] there
