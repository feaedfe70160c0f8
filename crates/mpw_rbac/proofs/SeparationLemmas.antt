-- Sets of separation: fewer roles, pairs and seniors break no more sets.
use Rattle.std.proofs.Common.{◌≡◌, ◌≤◌, ◌<◌, Bool, true, false, cond, not, ◌||◌, ◌&&◌, ◌⊎◌, inl, inr, List, [], ◌∷◌, ◌++◌, length, map, filter, Option, None, Some, refl, sym, ap, subst, ◌∙◌, true≢false, arith}
use Rattle.std.specs.Prelude.{nat_lt, nat_le, count_by}
use Rattle.std.specs.List.{list_any, list_all}
use Rattle.std.proofs.lemmas.Bool.{le-leb, leb-true, lt-leb, leb-false}
use Rattle.std.proofs.lemmas.List.Sums.{length-filter}
use borrow.Author.Tests.{lt-ltb, ltb-true}
use Rattle.mpw_geom.specs.Names.{name_eq, contains_name}
use Rattle.mpw_roles.specs.Hierarchy.{Name, Hierarchy, role_names, is_role, is_immediate, with_role}
use Rattle.mpw_roles.specs.Order.{at_least, is_below, roles_below}
use Rattle.mpw_roles.proofs.CallerLemmas.{or_cases, or_right, name_eq-refl, roles_below-grows, contains-roles_below, pairs-with_role, roles-with_role, juniors-with_role, at_least-fewer}
use Rattle.mpw_geom.specs.Least.{IsLeast}
use Rattle.mpw_separation.specs.Separation.{is_reached, breaks, is_broken, broken_names, least_broken}
use Rattle.mpw_separation.specs.Set.{SeparationSet}
use Rattle.mpw_separation.proofs.BrokenLemmas.{contains-names}
use Rattle.mpw_geom.proofs.LeastLemmas.{least-is}
use Rattle.mpw_rbac.specs.declared.refusal.Refusal.{Refusal}
use Rattle.mpw_rbac.specs.Laws.{IsPart}
use Rattle.mpw_roles.proofs.BoolLemmas.{neither}
pub use Rattle.mpw_roles.proofs.BoolLemmas.{refuted, not_true, and_both as both, and_parts as parts}
use Rattle.mpw_rbac.specs.Rows as rows
use Rattle.mpw_rbac.specs.Sound.{sets_hold, is_proper}

pub not_both : (b : Bool) → b ≡ true → b ≡ false → ⊥
not_both b is other = true≢false (sym is ∙ other)

pub or_none : (a b : Bool) → a ≡ false → b ≡ false → (a || b) ≡ false
or_none a b p q = λ i. (p i) || (q i)

fewer-pass : (p q : Name → Bool) → ((x : Name) → p x ≡ true → q x ≡ true) → (xs : List Name)
    → length (filter p xs) ≤ length (filter q xs)
fewer-pass p q more [] = omega arith
fewer-pass p q more (x ∷ xs) =
    let rest = fewer-pass p q more xs in
    elim (p x) as (λ b. p x ≡ b → length (cond b (x ∷ filter p xs) (filter p xs)) ≤ length
    (cond (q x) (x ∷ filter q xs) (filter q xs))) [
      | true ↦ λ is. let also = more x is in rw also (omega arith)
      | false ↦ λ _. elim (q x) as (λ b. length (filter p xs) ≤ length
          (cond b (x ∷ filter q xs) (filter q xs))) [ true ↦ omega arith | false ↦ rest ]
    ] refl

reached-more : (few many : List Name) (set : SeparationSet) → IsPart few many
    → is_reached few set ≡ true → is_reached many set ≡ true
reached-more few many set part is =
    let more = fewer-pass (contains_name few) (contains_name many) part set.roles in
    let a = length-filter (contains_name few) set.roles in
    let b = length-filter (contains_name many) set.roles in
    let at = leb-true set.cardinality (count_by (contains_name few) set.roles) is in
    le-leb set.cardinality (count_by (contains_name many) set.roles) (omega arith)

pub breaks-more : (h k : Hierarchy) (few many : List Name) (set : SeparationSet)
    → ((a b : Name) → is_immediate h a b ≡ true → is_immediate k a b ≡ true)
    → ((r : Name) → is_role h r ≡ true → is_role k r ≡ true)
    → IsPart few many → breaks h few set ≡ true → breaks k many set ≡ true
breaks-more h k few many set pairs roles part is = reached-more (roles_below h few)
    (roles_below k many) set (roles_below-grows h k few many pairs roles part) is

-- a change that breaks no more sets preserves that they hold
pub holds-less : (h k : Hierarchy) (hs ks : List (List Name))
    → ((set : SeparationSet) → is_broken h hs set ≡ true → is_broken k ks set ≡ true)
    → (sets : List SeparationSet) → sets_hold k sets ks ≡ true → sets_hold h sets hs ≡ true
holds-less h k hs ks less [] holds = refl
holds-less h k hs ks less (x ∷ xs) holds =
    let p = parts (not (is_broken k ks x)) (sets_hold k xs ks) holds in
    both (not (is_broken h hs x)) _ (ap
    not (refuted (is_broken h hs x) (λ is. not_both (is_broken k ks x) (less x is)
    (not_true (is_broken k ks x) p.0)))) (holds-less h k hs ks less xs p.1)

-- if no set is the first broken one, all hold
none-holds : (p : SeparationSet → Bool) (sets : List SeparationSet)
    → ((m : Name) → list_any (λ (set : SeparationSet). p set && name_eq m set.name) sets ≡ false)
    → list_all (λ set. not (p set)) sets ≡ true
none-holds p [] none = refl
none-holds p (x ∷ xs) none =
    let here = neither (p x && name_eq x.name x.name)
    (list_any (λ (set : SeparationSet). p set && name_eq x.name set.name) xs) (none x.name) in
    let apart : p x ≡ false = refuted (p x)
    (λ is. not_both (p x && name_eq x.name x.name)
    (both (p x) (name_eq x.name x.name) is (name_eq-refl x.name)) here.0) in
    both (not (p x)) _ (ap not apart) (none-holds p xs
    (λ m. (neither (p x && name_eq m x.name)
    (list_any (λ (set : SeparationSet). p set && name_eq m set.name) xs) (none m)).1))

pub holds-of_none : (h : Hierarchy) (sets : List SeparationSet) (holders : List (List Name))
    → least_broken h sets holders ≡ None → sets_hold h sets holders ≡ true
holds-of_none h sets holders none =
    let least = subst (IsLeast (broken_names h sets holders)) none
    (least-is (broken_names h sets holders)) in
    none-holds (is_broken h holders) sets (λ m. sym (contains-names (is_broken h holders) sets m)
    ∙ least m)

-- a test that passes has found no broken set
pub test-none : (told : Name → Refusal) (o : Option Name) → (rows.none_broken told o).0 ≡ true
    → o ≡ None
test-none told None e = refl
test-none told (Some n) e = absurd (true≢false (sym e))

pub any-map : {A B : Type 0} (f : A → B) (p : B → Bool) (xs : List A)
    → list_any p (map f xs) ≡ list_any (λ x. p (f x)) xs
any-map f p [] = refl
any-map f p (x ∷ xs) = ap (λ b. p (f x) || b) (any-map f p xs)

pub any-more : {X : Type 0} (p q : X → Bool) → ((x : X) → p x ≡ true → q x ≡ true) → (xs : List X)
    → list_any p xs ≡ true → list_any q xs ≡ true
any-more p q more [] is = is
any-more p q more (x ∷ xs) is = elim (or_cases (p x) (list_any p xs) is) [
  | inl here ↦ ap (λ b. b || list_any q xs) (more x here)
  | inr later ↦ or_right (q x) (list_any q xs) (any-more p q more xs later)
]

pub any-filter : {X : Type 0} (p keep : X → Bool) (xs : List X) → list_any p (filter keep xs) ≡ true
    → list_any p xs ≡ true
any-filter p keep [] is = is
any-filter p keep (x ∷ xs) is = elim (keep x) as
    (λ b. list_any p (cond b (x ∷ filter keep xs) (filter keep xs)) ≡ true
    → (p x || list_any p xs) ≡ true) [
      | true ↦ λ e. elim (or_cases (p x) (list_any p (filter keep xs)) e) [
        | inl here ↦ ap (λ b. b || list_any p xs) here
        | inr later ↦ or_right (p x) (list_any p xs) (any-filter p keep xs later)
      ]
      | false ↦ λ e. or_right (p x) (list_any p xs) (any-filter p keep xs e)
    ] is

pub any-append : {X : Type 0} (p : X → Bool) (xs : List X) (y : X)
    → list_any p (xs ++ y ∷ []) ≡ true → (list_any p xs ≡ true) ⊎ (p y ≡ true)
any-append p [] y is =
    elim (or_cases (p y) false is) [ inl here ↦ inr here | inr e ↦ absurd (true≢false (sym e)) ]
any-append p (x ∷ xs) y is = elim (or_cases (p x) (list_any p (xs ++ y ∷ [])) is) [
  | inl here ↦ inl (ap (λ b. b || list_any p xs) here)
  | inr later ↦ elim (any-append p xs y later) [
    | inl among ↦ inl (or_right (p x) (list_any p xs) among)
    | inr last ↦ inr last
  ]
]

-- nobody without roles breaks a proper set
none-below : (h : Hierarchy) (names : List Name) (r : Name)
    → contains_name (filter (is_below h []) names) r ≡ false
none-below h [] r = refl
none-below h (n ∷ ns) r = none-below h ns r

none-pass : (p : Name → Bool) → ((x : Name) → p x ≡ false) → (xs : List Name)
    → length (filter p xs) ≡ 0
none-pass p none [] = refl
none-pass p none (x ∷ xs) = rw (none x) (none-pass p none xs)

pub nobody-breaks : (h : Hierarchy) (set : SeparationSet) → is_proper h set ≡ true
    → breaks h [] set ≡ false
nobody-breaks h set proper =
    let some : nat_lt 0 set.cardinality ≡ true =
    (parts (nat_lt 0 set.cardinality) (list_all (is_role h) set.roles) proper).0 in
    let positive : 0 < set.cardinality = ltb-true 0 set.cardinality some in
    let counted = length-filter (contains_name (roles_below h [])) set.roles in
    let zero_pass =
    none-pass (contains_name (roles_below h [])) (none-below h (role_names h)) set.roles in
    lt-leb set.cardinality (count_by (contains_name (roles_below h [])) set.roles) (omega arith)

-- a set that somebody doesn't break has a cardinality above 0
pub unbroken-positive : (h : Hierarchy) (seniors : List Name) (set : SeparationSet)
    → breaks h seniors set ≡ false → nat_lt 0 set.cardinality ≡ true
unbroken-positive h seniors set apart =
    let above = leb-false set.cardinality
    (count_by (contains_name (roles_below h seniors)) set.roles) apart in
    lt-ltb 0 set.cardinality (omega arith)

-- a new role without pairs changes nothing for the roles that were there
same_order : (h : Hierarchy) (r a b : Name) → at_least (with_role h r) a b ≡ at_least h a b
same_order h r a b = either (at_least (with_role h r) a b) (at_least h a b)
    (at_least-fewer (with_role h r) h (λ c d pair. ap (λ l. contains_name l d)
    (sym (juniors-with_role h r c)) ∙ pair) a b)
    (at_least-fewer h (with_role h r) (pairs-with_role h r) a b)
  where
    either : (s t : Bool) → (s ≡ true → t ≡ true) → (t ≡ true → s ≡ true) → s ≡ t
    either true t f g = sym (f refl)
    either false true f g = g refl
    either false false f g = refl

same_below : (h : Hierarchy) (r : Name) (seniors : List Name) (b : Name)
    → is_below (with_role h r) seniors b ≡ is_below h seniors b
same_below h r [] b = refl
same_below h r (s ∷ ss) b = λ i. same_order h r s b i || same_below h r ss b i

same_pass : (p q there : Name → Bool) → ((x : Name) → there x ≡ true → p x ≡ q x) → (xs : List Name)
    → list_all there xs ≡ true → filter p xs ≡ filter q xs
same_pass p q there same [] all = refl
same_pass p q there same (x ∷ xs) all =
    let s = parts (there x) (list_all there xs) all in
    λ i. cond (same x s.0 i) (x ∷ same_pass p q there same xs s.1 i)
    (same_pass p q there same xs s.1 i)

pub breaks-with_role : (h : Hierarchy) (r : Name) (seniors : List Name) (set : SeparationSet)
    → is_proper h set ≡ true → breaks (with_role h r) seniors set ≡ breaks h seniors set
breaks-with_role h r seniors set proper =
    let all = (parts (nat_lt 0 set.cardinality) (list_all (is_role h) set.roles) proper).1 in
    let before = contains_name (roles_below h seniors) in
    let after = contains_name (roles_below (with_role h r) seniors) in
    let same : (x : Name) → is_role h x ≡ true → after x ≡ before x = λ x there.
    contains-roles_below (with_role h r) seniors x
    ∙ (λ i. (roles-with_role h r x there ∙ sym there) i && same_below h r seniors x i)
    ∙ sym (contains-roles_below h seniors x) in
    ap (nat_le set.cardinality) (sym (length-filter after set.roles)
    ∙ ap length (same_pass after before (is_role h) same set.roles all)
    ∙ length-filter before set.roles)

pub all-same : {X : Type 0} (p q there : X → Bool)
    → ((x : X) → there x ≡ true → p x ≡ true → q x ≡ true) → (xs : List X)
    → list_all there xs ≡ true → list_all p xs ≡ true → list_all q xs ≡ true
all-same p q there same [] t all = refl
all-same p q there same (x ∷ xs) t all =
    let s = parts (there x) (list_all there xs) t in
    let a = parts (p x) (list_all p xs) all in
    both (q x) _ (same x s.0 a.0) (all-same p q there same xs s.1 a.1)

pub all-append : {X : Type 0} (p : X → Bool) (xs ys : List X) → list_all p xs ≡ true
    → list_all p ys ≡ true → list_all p (xs ++ ys) ≡ true
all-append p [] ys a b = b
all-append p (x ∷ xs) ys a b =
    let s = parts (p x) (list_all p xs) a in both (p x) _ s.0 (all-append p xs ys s.1 b)

pub all-filter : {X : Type 0} (p keep : X → Bool) (xs : List X) → list_all p xs ≡ true
    → list_all p (filter keep xs) ≡ true
all-filter p keep [] a = refl
all-filter p keep (x ∷ xs) a =
    let s = parts (p x) (list_all p xs) a in
    let rest = all-filter p keep xs s.1 in
    elim (keep x) as (λ b. list_all p (cond b (x ∷ filter keep xs) (filter keep xs)) ≡ true)
    [ true ↦ both (p x) _ s.0 rest | false ↦ rest ]

pub all-last : {X : Type 0} (p : X → Bool) (xs : List X) (y : X) → list_all p (xs ++ y ∷ []) ≡ true
    → p y ≡ true
all-last p [] y a = (parts (p y) true a).0
all-last p (x ∷ xs) y a = all-last p xs y (parts (p x) (list_all p (xs ++ y ∷ [])) a).1

pub all_imply : {X : Type 0} (p q : X → Bool) → ((x : X) → p x ≡ true → q x ≡ true) → (xs : List X)
    → list_all p xs ≡ true → list_all q xs ≡ true
all_imply p q each [] all = refl
all_imply p q each (x ∷ xs) all = let s = parts (p x) (list_all p xs) all in
    both (q x) (list_all q xs) (each x s.0) (all_imply p q each xs s.1)

pub all-filter_self : {X : Type 0} (p : X → Bool) (xs : List X) → list_all p (filter p xs) ≡ true
all-filter_self p [] = refl
all-filter_self p (x ∷ xs) =
    elim (p x) as (λ b. p x ≡ b → list_all p (cond b (x ∷ filter p xs) (filter p xs)) ≡ true) [
      | true ↦ λ is. both (p x) _ is (all-filter_self p xs)
      | false ↦ λ _. all-filter_self p xs
    ] refl

-- proper sets that are no longer broken hold
pub holds-proper : (h k : Hierarchy) (hs ks : List (List Name)) (sets : List SeparationSet)
    → ((set : SeparationSet) → is_proper k set ≡ true → is_broken h hs set ≡ true
    → is_broken k ks set ≡ true)
    → list_all (is_proper k) sets ≡ true → sets_hold k sets ks ≡ true → sets_hold h sets hs ≡ true
holds-proper h k hs ks sets less proper holds =
    all-same (λ (set : SeparationSet). not (is_broken k ks set))
    (λ (set : SeparationSet). not (is_broken h hs set)) (is_proper k)
    (λ set is apart. ap not (refuted (is_broken h hs set)
    (λ broken. not_both (is_broken k ks set) (less set is broken)
    (not_true (is_broken k ks set) apart))))
    sets proper holds

-- sets of roles that stay are proper
pub proper-more : (h k : Hierarchy) → ((r : Name) → is_role h r ≡ true → is_role k r ≡ true)
    → (sets : List SeparationSet) → list_all (is_proper h) sets ≡ true
    → list_all (is_proper k) sets ≡ true
proper-more h k roles sets proper =
    all_imply (is_proper h) (is_proper k)
    (λ set is. let s = parts (nat_lt 0 set.cardinality) (list_all (is_role h) set.roles) is in
    both (nat_lt 0 set.cardinality) _ s.0
    (all_imply (is_role h) (is_role k) roles set.roles s.1))
    sets proper
