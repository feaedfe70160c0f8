-- The masks of an operation, one grant after another, and what they answer.
use Rattle.std.proofs.Common.{subst, [], ◌≡◌, ℕ, zero, suc, ◌+◌, ◌<◌, Bool, true, false, cond, not, ◌||◌, ◌&&◌, inl, inr, List, ◌∷◌, ◌++◌, length, get_or, eqb, eq-eqb, None, Some, refl, sym, ap, ◌∙◌, true≢false, arith}
use Rattle.std.specs.Prelude.{nat_lt, position}
use Rattle.std.specs.List.{list_any, position_or_len}
use Rattle.std.proofs.lemmas.Bool.{cases_eq, cases_lt, lt-ltb, ltb-true, ne_eqb}
use Rattle.std.proofs.lemmas.List.Quantifiers.{position-Some}
use Rattle.std.proofs.lemmas.List.Sums.{fails_before_first}
use Rattle.mpw_geom.specs.Names.{name_eq, contains_name}
use Rattle.mpw_roles.specs.declared.mask.Mask.{Mask}
use Rattle.mpw_roles.specs.Hierarchy.{Name, Hierarchy, role_names, is_role}
use Rattle.mpw_roles.specs.Mask.{has}
use Rattle.mpw_roles.specs.Order.{is_below, roles_below, are_distinct}
use Rattle.mpw_roles.specs.Places.{name_at, is_place_below}
use Rattle.mpw_roles.proofs.CallerLemmas.{same_name, name_eq-refl, contains-roles_below}
use Rattle.mpw_roles.proofs.MarksLemmas.{length-names}
use Rattle.mpw_permissions.specs.Grant.{operation_index, operation_eq, object_eq, grant_eq, is_granted_to}
use Rattle.mpw_permissions.specs.Internal.Holders.{Buckets, is_grant_of, is_place_granted, holds, grants_after, IsHeld, AreHeld, IsHeldAfter, AreHeldAfter, ArePermissions}
use Rattle.mpw_permissions.specs.Permissions.{AreMoreNames}
use Rattle.mpw_permissions.specs.declared.permission.Grant.{Grant}
use Rattle.mpw_permissions.specs.declared.permission.Object.{Object}
use Rattle.mpw_permissions.specs.declared.permission.Operation.{Operation}
use Rattle.mpw_permissions.proofs.NamedLemmas.{distinct-last, named-none, named-role}
use Rattle.mpw_roles.proofs.BoolLemmas.{refuted, and_both as both, and_parts as parts}
use Rattle.mpw_permissions.proofs.HeldLemmas.{put-more, put-less, held-same, contains-at, strange, place-is, put_in, held-place, place_of, any-found, held-less}
use Rattle.mpw_roles.proofs.BoolLemmas.{and_false, and_true}

pub held-none : (roles : List Name) (operation : ℕ) (table : Buckets)
    → ((object : Object) (place : ℕ) → holds table object place ≡ false)
    → IsHeld roles [] operation table
held-none roles operation table none =
    record {
      exact = λ object place. none object place
          ∙ sym (and_false (nat_lt place (length roles)));
    }

get-first : (xs : List Name) (x : Name) (i : ℕ) → i < length xs
    → get_or xs i [] ≡ get_or (xs ++ x ∷ []) i []
get-first [] x i inside = absurd (omega arith)
get-first (y ∷ ys) x zero inside = refl
get-first (y ∷ ys) x (suc i) inside = get-first ys x i (omega arith)

get-last : (xs : List Name) (x : Name) → get_or (xs ++ x ∷ []) (length xs) [] ≡ x
get-last [] x = refl
get-last (y ∷ ys) x = get-last ys x

length-last : (xs : List Name) (x : Name) → length (xs ++ x ∷ []) ≡ length xs + 1
length-last [] x = refl
length-last (y ∷ ys) x = let rest = length-last ys x in omega (arith, rest)

none-fewer : {X : Type 0} (p q : X → Bool) → ((x : X) → q x ≡ true → p x ≡ true) → (xs : List X)
    → list_any p xs ≡ false → list_any q xs ≡ false
none-fewer p q more xs none = refuted (list_any q xs)
    (λ is. let found = any-found q xs is in
    true≢false (sym (found.2 p (more found.0 found.1)) ∙ none))

-- one more role, without grants
held-role : (roles : List Name) (r : Name) (granted : List Grant) (operation : ℕ) (table : Buckets)
    → list_any (λ (g : Grant). name_eq r g.role) granted ≡ false
    → IsHeld roles granted operation table → IsHeld (roles ++ r ∷ []) granted operation table
held-role roles r granted operation table none held = record {
  exact = λ object place.
      let long = length-last roles r in
      held.exact object place ∙ elim (cases_lt place (length roles)) [
        | inl less ↦
            let inside : place < length (roles ++ r ∷ []) = omega (arith, long, less) in
            λ j. (lt-ltb place (length roles) less
            ∙ sym (lt-ltb place (length (roles ++ r ∷ [])) inside)) j
            && list_any (is_grant_of operation object (get-first roles r place less j)) granted
        | inr far ↦
            let out : nat_lt place (length roles) ≡ false =
            refuted _ (λ is. let less = ltb-true place (length roles) is in
            omega (arith, far, less)) in
            ap (λ b. b && list_any (is_grant_of operation object (get_or roles place [])) granted)
            out
            ∙ elim (cases_eq place (length roles)) [
              | inl same ↦
                  let at : get_or (roles ++ r ∷ []) place [] ≡ r =
                  ap (λ k. get_or (roles ++ r ∷ []) k []) same ∙ get-last roles r in
                  let gone : list_any (is_grant_of operation object r) granted ≡ false =
                  none-fewer (λ (g : Grant). name_eq r g.role) (is_grant_of operation object r)
                  (λ g is. (parts (object_eq object g.object) _
                  (parts (eqb operation (operation_index g.operation)) _ is).1).1) granted
                  none in
                  sym (ap (λ n. nat_lt place (length (roles ++ r ∷ []))
                  && list_any (is_grant_of operation object n) granted) at
                  ∙ ap (λ b. nat_lt place (length (roles ++ r ∷ [])) && b) gone
                  ∙ and_false (nat_lt place (length (roles ++ r ∷ []))))
              | inr past ↦
                  let beyond : nat_lt place (length (roles ++ r ∷ [])) ≡ false =
                  refuted _ (λ is. let less = ltb-true place (length (roles ++ r ∷ [])) is in
                  past (omega (arith, far, less, long))) in
                  sym (ap (λ b. b && list_any (is_grant_of operation object
                  (get_or (roles ++ r ∷ []) place [])) granted) beyond)
            ]
      ];
}

pub all-held-role : (roles : List Name) (r : Name) (granted : List Grant) (tables : List Buckets)
    → list_any (λ (g : Grant). name_eq r g.role) granted ≡ false → AreHeld roles granted tables
    → AreHeld (roles ++ r ∷ []) granted tables
all-held-role roles r granted tables none held = record {
  all = held.all;
  exact = λ operation inside. held-role roles r granted operation (get_or tables operation []) none
      (held.exact operation inside);
}

-- one more role at the end, or none, changes no mask
pub more-names : (old new : List Name) (granted : List Grant) (tables : List Buckets)
    → are_distinct new ≡ true → AreMoreNames old new → ArePermissions old granted tables
    → ArePermissions new granted tables
more-names old new granted tables once (inl same) kept =
    subst (λ l. ArePermissions l granted tables) (sym same) kept
more-names old new granted tables once (inr (role, is)) kept =
    let fresh = distinct-last old role (ap are_distinct (sym is) ∙ once) in
    subst (λ l. ArePermissions l granted tables) (sym is) (
      all-held-role old role granted tables (named-none old role granted fresh kept.1) kept.0,
      named-role old role granted kept.1,
    )

-- a grant of another operation, or to no role, changes no mask
unchanged : (more : Bool) (roles : List Name) (g : Grant) (operation : ℕ) (table : Buckets)
    → ((object : Object) (place : ℕ) → (nat_lt place (length roles)
    && is_grant_of operation object (get_or roles place []) g) ≡ false)
    → IsHeldAfter more roles g operation table table
unchanged true roles g operation table none =
    record { after = λ granted held. held-same roles granted g operation table none held }
unchanged false roles g operation table none = record {
  after = λ granted held.
      held-less roles granted g operation table table
      (λ object place. sym (ap (λ b. holds table object place && not b) (none object place)
      ∙ and_true (holds table object place))) held;
}

pub changed-stranger : (more : Bool) (roles : List Name) (g : Grant) (operation : ℕ)
    (table : Buckets) → contains_name roles g.role ≡ false
    → IsHeldAfter more roles g operation table table
changed-stranger more roles g operation table none =
    unchanged more roles g operation table (strange roles g operation none)

pub changed-other : (more : Bool) (roles : List Name) (g : Grant) (operation : ℕ) (table : Buckets)
    → (operation ≡ operation_index g.operation → ⊥) → IsHeldAfter more roles g operation table table
changed-other more roles g operation table apart = unchanged more roles g operation table
    (λ object place. refuted _ (λ is.
    let inside = parts (nat_lt place (length roles)) _ is in
    let grant = parts (eqb operation (operation_index g.operation)) _ inside.1 in
    true≢false (sym grant.0 ∙ ne_eqb operation (operation_index g.operation) apart)))

-- one index more or less for the grant's object
pub changed-place : (more : Bool) (roles : List Name) → are_distinct roles ≡ true
    → (g : Grant) (operation : ℕ) (old new : Buckets) (i : ℕ) (mask : Mask)
    → operation_index g.operation ≡ operation → Some i ≡ position (name_eq g.role) roles
    → (more ≡ true → (q : ℕ) → has mask q ≡ (holds old g.object q || eqb q i))
    → (more ≡ false → (q : ℕ) → has mask q ≡ (holds old g.object q && not (eqb q i)))
    → ((other : Object) (q : ℕ) → holds new other q ≡ cond (object_eq g.object other) (has mask q)
    (holds old other q))
    → IsHeldAfter more roles g operation old new
changed-place true roles once g operation old new i mask of found joined _ put = record {
  after = λ granted held. held-place roles once granted g operation old new i of found
      (put-more old new mask g.object i (joined refl) put) held;
}
changed-place false roles once g operation old new i mask of found _ left put = record {
  after = λ granted held.
      held-less roles granted g operation old new
      (λ object place.
      put-less old new mask g.object i (left refl) put object place
      ∙ ap (λ b. holds old object place && not b)
      (put_in (nat_lt place (length roles)) (eqb operation (operation_index g.operation))
      (object_eq object g.object) (name_eq (get_or roles place []) g.role) (eqb place i)
      (eq-eqb operation (operation_index g.operation) (sym of))
      (place-is roles once g.role i found place)))
      held;
}

-- the masks of all operations after the change
pub held-after : (more : Bool) (roles : List Name) (granted : List Grant) (g : Grant)
    (old new : List Buckets) → AreHeld roles granted old → AreHeldAfter more roles g old new
    → AreHeld roles (grants_after more granted g) new
held-after more roles granted g old new held changed =
    record {
      all = changed.all;
      exact = λ operation inside. (changed.after operation inside).after
          granted (held.exact operation inside);
    }

-- the same if roles and masks are read through references
pub held-through : (more : Bool) (h here after : Hierarchy) (granted left : List Grant) (g : Grant)
    (old read new : List Buckets) → AreHeld (role_names h) granted old → here ≡ h → read ≡ old
    → AreHeldAfter more (role_names here) g read new → after ≡ h
    → left ≡ grants_after more granted g → AreHeld (role_names after) left new
held-through more h here after granted left g old read new held same all changed kept is =
    subst (λ (k : Hierarchy). AreHeld (role_names k) left new) (sym kept)
    (subst (λ l. AreHeld (role_names h) l new) (sym is)
    (held-after more (role_names h) granted g old new held
    (subst (λ (k : Hierarchy). AreHeldAfter more (role_names k) g old new) same
    (subst (λ l. AreHeldAfter more (role_names here) g l new) all changed))))

-- an index that is below the seniors and has the grant is a grant to a role below them
granted-of-place : (h : Hierarchy) (granted : List Grant) (seniors : List Name)
    (operation : Operation) (object : Object) (q : ℕ)
    → is_place_below h seniors q ≡ true
    → is_place_granted (role_names h) granted (operation_index operation) object q ≡ true
    → list_any (is_granted_to (roles_below h seniors) operation object) granted ≡ true
granted-of-place h granted seniors operation object q below is =
    let under = parts (nat_lt q (length h)) (is_below h seniors (name_at h q)) below in
    let some = parts (nat_lt q (length (role_names h)))
    (list_any (is_grant_of (operation_index operation) object (name_at h q)) granted) is in
    let found =
    any-found (is_grant_of (operation_index operation) object (name_at h q)) granted some.1 in
    let g = found.0 in
    let a = parts (operation_eq operation g.operation)
    (object_eq object g.object && name_eq (name_at h q) g.role) found.1 in
    let b = parts (object_eq object g.object) (name_eq (name_at h q) g.role) a.1 in
    let there : is_role h (name_at h q) ≡ true = contains-at (role_names h) q (name_at h q)
    (let inside = ltb-true q (length h) under.0 in omega (arith, length-names h))
    (name_eq-refl (name_at h q)) in
    let role : contains_name (roles_below h seniors) g.role ≡ true =
    ap (contains_name (roles_below h seniors)) (sym (same_name (name_at h q) g.role b.1))
    ∙ contains-roles_below h seniors (name_at h q)
    ∙ both (is_role h (name_at h q)) (is_below h seniors (name_at h q)) there under.1 in
    found.2 (is_granted_to (roles_below h seniors) operation object)
    (both (operation_eq operation g.operation) _ a.0
    (both (object_eq object g.object) _ b.0 role))

-- and the converse
place-of-granted : (h : Hierarchy) (granted : List Grant) (seniors : List Name)
    (operation : Operation) (object : Object)
    → list_any (is_granted_to (roles_below h seniors) operation object) granted ≡ true
    → (q : ℕ) × (is_place_below h seniors q ≡ true)
    × (is_place_granted (role_names h) granted (operation_index operation) object q ≡ true)
place-of-granted h granted seniors operation object is =
    let found = any-found (is_granted_to (roles_below h seniors) operation object) granted is in
    let g = found.0 in
    let a = parts (operation_eq operation g.operation)
    (object_eq object g.object && contains_name (roles_below h seniors) g.role) found.1 in
    let b = parts (object_eq object g.object) (contains_name (roles_below h seniors) g.role) a.1 in
    let below = parts (is_role h g.role) (is_below h seniors g.role)
    (sym (contains-roles_below h seniors g.role) ∙ b.1) in
    let at = place_of (role_names h) g.role below.0 in
    let q = at.0 in
    let inside : q < length h = let i = at.1 in omega (arith, length-names h) in (
      q,
      both (nat_lt q (length h)) _ (lt-ltb q (length h) inside) (ap (is_below h seniors) at.2
          ∙ below.1),
      both (nat_lt q (length (role_names h))) _ (lt-ltb q (length (role_names h)) at.1)
          (found.2 (is_grant_of (operation_index operation) object (name_at h q))
          (both (operation_eq operation g.operation) _ a.0
          (both (object_eq object g.object) _ b.0 (ap (λ n. name_eq n g.role) at.2
          ∙ name_eq-refl g.role)))),
    )

-- masks with a common index answer the grants
pub meets-granted : (h : Hierarchy) (granted : List Grant) (seniors : List Name)
    (operation : Operation) (object : Object) (acting holding : Mask) (b : Bool)
    → ((q : ℕ) → has acting q ≡ is_place_below h seniors q)
    → ((q : ℕ) → has holding q ≡ is_place_granted (role_names h) granted
    (operation_index operation) object q)
    → (b ≡ true → (q : ℕ) × (has holding q ≡ true) × (has acting q ≡ true))
    → (b ≡ false → (q : ℕ) → (has holding q && has acting q) ≡ false)
    → b ≡ list_any (is_granted_to (roles_below h seniors) operation object) granted
meets-granted h granted seniors operation object acting holding true acts holds_it some none =
    let at = some refl in
    sym (granted-of-place h granted seniors operation object at.0 (sym (acts at.0) ∙ at.2)
    (sym (holds_it at.0) ∙ at.1))
meets-granted h granted seniors operation object acting holding false acts holds_it some none =
    sym (refuted _ (λ is.
    let at = place-of-granted h granted seniors operation object is in
    true≢false (sym (both (has holding at.0) (has acting at.0) (holds_it at.0 ∙ at.2)
    (acts at.0 ∙ at.1)) ∙ none refl at.0)))

-- the bit of a role's index says whether the role has the grant
pub granted-bit : (names : List Name) (granted : List Grant) (g : Grant) (k i : ℕ)
    → k ≡ operation_index g.operation → Some i ≡ position (name_eq g.role) names
    → is_place_granted names granted k g.object i ≡ list_any (grant_eq g) granted
granted-bit names granted g k i of found =
    let at = position-Some (name_eq g.role) names i [] (sym found) in
    ap (λ b. b && list_any (is_grant_of k g.object (get_or names i [])) granted)
    (lt-ltb i (length names) at.0)
    ∙ (λ j. list_any (is_grant_of (of j) g.object
    (sym (same_name g.role (get_or names i []) at.1) j)) granted)

-- a name without an index is none of them
pub unplaced : (names : List Name) (r : Name) → None ≡ position (name_eq r) names
    → contains_name names r ≡ false
unplaced names r none = refuted (contains_name names r) (λ there.
    let at = place_of names r there in
    let past : nat_lt (position_or_len (name_eq r) names) (length names) ≡ false =
    elim (nat_lt (position_or_len (name_eq r) names) (length names)) as
    (λ b. None ≡ cond b (Some (position_or_len (name_eq r) names)) None → b ≡ false)
    [ true ↦ λ e. cc | false ↦ λ _. refl ] none in
    elim (cases_lt (position_or_len (name_eq r) names) (length names)) [
      | inl less ↦ true≢false (sym (lt-ltb _ _ less) ∙ past)
      | inr far ↦ true≢false (sym (ap (name_eq r) at.2 ∙ name_eq-refl r)
          ∙ fails_before_first (name_eq r) names at.0 [] (let inside = at.1 in omega arith))
    ])
