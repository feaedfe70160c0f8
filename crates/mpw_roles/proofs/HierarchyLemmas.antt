-- Each change of a hierarchy leaves a hierarchy.
use Rattle.std.proofs.Common.{[], ◌≡◌, suc, ◌≤◌, Bool, true, false, cond, not, ◌||◌, ◌&&◌, ◌⊎◌, inl, inr, List, ◌∷◌, ◌++◌, length, map, filter, refl, sym, ap, subst, ◌∙◌, true≢false, arith}
use Rattle.std.proofs.lemmas.List.{length-map}
use Rattle.std.specs.Cmp.Lexicographic.{bytes_decides}
use Rattle.mpw_geom.specs.Names.{name_eq, contains_name, without_name}
use Rattle.mpw_roles.specs.Hierarchy.{Name, Hierarchy, role_names, is_role, is_immediate, immediate_juniors, with_juniors, entries_without, without_role, with_pair, without_pair}
use Rattle.mpw_roles.specs.Order.{at_least, are_distinct, IsAtLeast, IsHierarchy}
use Rattle.mpw_geom.specs.Links.{same, chain}
use Rattle.mpw_geom.proofs.Linked.{same_name, or_right, or_cases, leads-sound, leads-complete, chain-trans, weaken_link, linked-without_same, linked-without_other}
use Rattle.mpw_roles.proofs.RoleLemmas.{acyclic-fewer, contains-append, distinct-append}
use Rattle.mpw_roles.proofs.BoolLemmas.{refuted, or_left, and_parts, and_both, not_true}

-- other juniors of one role
pub names-with_juniors : (h : Hierarchy) (r : Name) (js : List Name)
    → role_names (with_juniors h r js) ≡ role_names h
names-with_juniors [] r js = refl
names-with_juniors (e ∷ es) r js = elim (name_eq r e.0) as
    (λ b. role_names (cond b ((e.0, js) ∷ es) (e ∷ with_juniors es r js)) ≡ e.0 ∷ role_names es)
    [ true ↦ refl | false ↦ ap (λ l. e.0 ∷ l) (names-with_juniors es r js) ]

pub length-with_juniors : (h : Hierarchy) (r : Name) (js : List Name)
    → length (with_juniors h r js) ≡ length h
length-with_juniors [] r js = refl
length-with_juniors (e ∷ es) r js =
    elim (name_eq r e.0) as (λ b. length (cond b ((e.0, js) ∷ es) (e ∷ with_juniors es r js))
    ≡ suc (length es)) [ true ↦ refl | false ↦ ap suc (length-with_juniors es r js) ]

pub juniors-with_juniors : (h : Hierarchy) (r : Name) (js : List Name) (c : Name)
    → is_role h r ≡ true → immediate_juniors (with_juniors h r js) c ≡ cond (name_eq c r) js
    (immediate_juniors h c)
juniors-with_juniors [] r js c there = absurd (true≢false (sym there))
juniors-with_juniors (e ∷ es) r js c there =
    elim (name_eq r e.0) as (λ b. name_eq r e.0 ≡ b → (b || is_role es r) ≡ true
    → immediate_juniors (cond b ((e.0, js) ∷ es) (e ∷ with_juniors es r js)) c
    ≡ cond (name_eq c r) js (cond (name_eq c e.0) e.1 (immediate_juniors es c))) [
      | true ↦ λ at _. elim (name_eq c e.0) as (λ b. name_eq c e.0 ≡ b
          → cond b js (immediate_juniors es c) ≡ cond (name_eq c r) js
          (cond b e.1 (immediate_juniors es c))) [
            | true ↦ λ here. ap (λ b. cond b js e.1)
                (sym ((bytes_decides c r).1 (same_name c e.0 here ∙ sym (same_name r e.0 at))))
            | false ↦ λ other. ap (λ b. cond b js (immediate_juniors es c))
                (sym (differs c r e.0 at other))
          ] refl
      | false ↦ λ apart later. elim (name_eq c e.0) as (λ b. name_eq c e.0 ≡ b
          → cond b e.1 (immediate_juniors (with_juniors es r js) c) ≡ cond (name_eq c r) js
          (cond b e.1 (immediate_juniors es c))) [
            | true ↦ λ here. ap (λ b. cond b js e.1) (sym (apart_from c r e.0 here apart))
            | false ↦ λ _. juniors-with_juniors es r js c later
          ] refl
    ] refl there
  where
    differs : (c r k : Name) → name_eq r k ≡ true → name_eq c k ≡ false → name_eq c r ≡ false
    differs c r k at other = elim (name_eq c r) as (λ b. name_eq c r ≡ b → b ≡ false) [
      | true ↦ λ also. absurd (true≢false
          (sym ((bytes_decides c k).1 (same_name c r also ∙ same_name r k at)) ∙ other))
      | false ↦ λ _. refl
    ] refl

    apart_from : (c r k : Name) → name_eq c k ≡ true → name_eq r k ≡ false → name_eq c r ≡ false
    apart_from c r k here apart = elim (name_eq c r) as (λ b. name_eq c r ≡ b → b ≡ false) [
      | true ↦ λ also. absurd (true≢false
          (sym ((bytes_decides r k).1 (sym (same_name c r also) ∙ same_name c k here)) ∙ apart))
      | false ↦ λ _. refl
    ] refl

-- a pair after `with_pair` is that pair or was there before
pub with_pair-back : (h : Hierarchy) (s j : Name) → is_role h s ≡ true → (a b : Name)
    → is_immediate (with_pair h s j) a b ≡ true → (is_immediate h a b ≡ true) ⊎ ((a ≡ s) × (b ≡ j))
with_pair-back h s j there a b pair =
    let now : contains_name (cond (name_eq a s) (immediate_juniors h s ++ j ∷ [])
    (immediate_juniors h a)) b ≡ true = ap (λ l. contains_name l b)
    (sym (juniors-with_juniors h s _ a there)) ∙ pair in
    elim (name_eq a s) as (λ t. name_eq a s ≡ t
    → contains_name (cond t (immediate_juniors h s ++ j ∷ []) (immediate_juniors h a)) b ≡ true
    → (is_immediate h a b ≡ true) ⊎ ((a ≡ s) × (b ≡ j))) [
      | true ↦ λ at is. elim (or_cases _ _ (sym (contains-append (immediate_juniors h s) (j ∷ []) b)
          ∙ is)) [
            | inl old ↦ inl (ap (λ k. is_immediate h k b) (same_name a s at) ∙ old)
            | inr new ↦ inr (
              same_name a s at,
              same_name b j (elim (or_cases _ _ new)
                  [ inl e ↦ e | inr e ↦ absurd (true≢false (sym e)) ]),
            )
          ]
      | false ↦ λ _ is. inl is
    ] refl now

pub pairs-with_pair : (h : Hierarchy) (s j : Name) → is_role h s ≡ true → (a b : Name)
    → is_immediate h a b ≡ true → is_immediate (with_pair h s j) a b ≡ true
pairs-with_pair h s j there a b pair =
    ap (λ l. contains_name l b) (juniors-with_juniors h s _ a there)
    ∙ elim (name_eq a s) as (λ t. name_eq a s ≡ t
    → contains_name (cond t (immediate_juniors h s ++ j ∷ []) (immediate_juniors h a)) b ≡ true) [
      | true ↦ λ at. contains-append (immediate_juniors h s) (j ∷ []) b
          ∙ or_left _ _ (ap (λ k. is_immediate h k b) (sym (same_name a s at)) ∙ pair)
      | false ↦ λ _. pair
    ] refl

pub with_pair-chains : (h : Hierarchy) (s j : Name) → is_role h s ≡ true → (a b : Name)
    → IsAtLeast (with_pair h s j) a b → IsAtLeast h a b ⊎ (IsAtLeast h a s × IsAtLeast h j b)
with_pair-chains h s j there a b same = inl same
with_pair-chains h s j there a b (chain {middle = m} pair rest) =
    elim (with_pair-back h s j there a m pair) [
      | inl old ↦ elim (with_pair-chains h s j there m b rest) [
        | inl below ↦ inl (chain old below)
        | inr through ↦ inr (chain old through.0, through.1)
      ]
      | inr new ↦ elim (with_pair-chains h s j there m b rest) [
        | inl below ↦ inr (
          subst (λ k. IsAtLeast h k s) (sym new.0) same,
          subst (λ k. IsAtLeast h k b) new.1 below,
        )
        | inr through ↦ inr (subst (λ k. IsAtLeast h k s) (sym new.0) same, through.1)
      ]
    ]

pub IsHierarchy-with_pair : (h : Hierarchy) (s j : Name) → is_role h s ≡ true → is_role h j ≡ true
    → is_immediate h s j ≡ false → at_least h j s ≡ false → IsHierarchy h
    → IsHierarchy (with_pair h s j)
IsHierarchy-with_pair h s j senior junior new apart is = record {
  small = let same = length-with_juniors h s (immediate_juniors h s ++ j ∷ []) in let before =
      is.small in omega arith;
  pairs_of_roles = λ a b pair. ap (λ l. contains_name l b) (names-with_juniors h s _)
      ∙ elim (with_pair-back h s j senior a b pair) [
        | inl old ↦ is.pairs_of_roles a b old
        | inr new ↦ ap (is_role h) new.1 ∙ junior
      ];
  roles_once = ap are_distinct (names-with_juniors h s _) ∙ is.roles_once;
  pairs_once = λ a. ap are_distinct (juniors-with_juniors h s _ a senior)
      ∙ elim (name_eq a s) as (λ t. are_distinct
      (cond t (immediate_juniors h s ++ j ∷ []) (immediate_juniors h a)) ≡ true) [
        | true ↦ distinct-append (immediate_juniors h s) j (is.pairs_once s) new
        | false ↦ is.pairs_once a
      ];
  acyclic = λ a b pair. refuted (at_least (with_pair h s j) b a)
      (λ up. turns a b (with_pair-back h s j senior a b pair)
      (with_pair-chains h s j senior b a (leads-sound _ b a up)));
}
  where
    closed : IsAtLeast h j s → ⊥
    closed down = true≢false (sym (leads-complete h j s down) ∙ apart)

    turns : (a b : Name) → (is_immediate h a b ≡ true) ⊎ ((a ≡ s) × (b ≡ j))
        → IsAtLeast h b a ⊎ (IsAtLeast h b s × IsAtLeast h j a) → ⊥
    turns a b (inl old) (inl up) = true≢false (sym (leads-complete h b a up) ∙ is.acyclic a b old)
    turns a b (inl old) (inr through) = closed (chain-trans h j a s through.1 (chain old through.0))
    turns a b (inr new_pair) (inl up) =
        closed (subst (λ k. IsAtLeast h j k) new_pair.0
        (subst (λ k. IsAtLeast h k a) new_pair.1 up))
    turns a b (inr new_pair) (inr through) =
        closed (subst (λ k. IsAtLeast h k s) new_pair.1 through.0)

pub contains-without : (xs : List Name) (r b : Name) → contains_name (without_name xs r) b ≡ true
    → (contains_name xs b ≡ true) × (name_eq r b ≡ false)
contains-without [] r b is = absurd (true≢false (sym is))
contains-without (x ∷ xs) r b is =
    elim (name_eq r x) as (λ t. name_eq r x ≡ t
    → contains_name (cond (not t) (x ∷ without_name xs r) (without_name xs r)) b ≡ true
    → ((name_eq b x || contains_name xs b) ≡ true) × (name_eq r b ≡ false)) [
      | true ↦ λ _ later. let rest = contains-without xs r b later in
          (or_right (name_eq b x) (contains_name xs b) rest.0, rest.1)
      | false ↦ λ other kept. elim (or_cases (name_eq b x) (contains_name (without_name xs r) b)
          kept) [
            | inl here ↦ (
              or_left (name_eq b x) (contains_name xs b) here,
              ap (name_eq r) (same_name b x here) ∙ other,
            )
            | inr later ↦ let rest = contains-without xs r b later in
                (or_right (name_eq b x) (contains_name xs b) rest.0, rest.1)
          ]
    ] refl is

distinct-without : (xs : List Name) (r : Name) → are_distinct xs ≡ true
    → are_distinct (without_name xs r) ≡ true
distinct-without [] r once = refl
distinct-without (x ∷ xs) r once =
    let parts = and_parts (not (contains_name xs x)) (are_distinct xs) once in
    let rest = distinct-without xs r parts.1 in
    let first : contains_name (without_name xs r) x ≡ false =
    refuted (contains_name (without_name xs r) x)
    (λ is. true≢false (sym (contains-without xs r x is).0
    ∙ not_true (contains_name xs x) parts.0)) in
    elim (name_eq r x) as (λ t. are_distinct
    (cond (not t) (x ∷ without_name xs r) (without_name xs r)) ≡ true) [
      | true ↦ rest
      | false ↦ and_both (not (contains_name (without_name xs r) x)) _ (ap not first) rest
    ]

pub pairs-without_pair : (h : Hierarchy) (s j : Name) → is_role h s ≡ true → (a b : Name)
    → is_immediate (without_pair h s j) a b ≡ true → is_immediate h a b ≡ true
pairs-without_pair h s j there a b pair = elim (name_eq a s) as (λ t. name_eq a s ≡ t
    → contains_name (cond t (without_name (immediate_juniors h s) j) (immediate_juniors h a)) b
    ≡ true → is_immediate h a b ≡ true) [
      | true ↦ λ at kept. ap (λ k. is_immediate h k b) (same_name a s at)
          ∙ (contains-without _ j b kept).0
      | false ↦ λ _ kept. kept
    ] refl (ap (λ l. contains_name l b) (sym (juniors-with_juniors h s _ a there)) ∙ pair)

pub IsHierarchy-without_pair : (h : Hierarchy) (s j : Name) → is_role h s ≡ true → IsHierarchy h
    → IsHierarchy (without_pair h s j)
IsHierarchy-without_pair h s j there is = record {
  small = let same = length-with_juniors h s (without_name (immediate_juniors h s) j) in
      let before = is.small in omega arith;
  roles_once = ap are_distinct (names-with_juniors h s _) ∙ is.roles_once;
  pairs_once = λ a. ap are_distinct (juniors-with_juniors h s _ a there)
      ∙ elim (name_eq a s) as (λ t. are_distinct
      (cond t (without_name (immediate_juniors h s) j) (immediate_juniors h a)) ≡ true) [
        | true ↦ distinct-without (immediate_juniors h s) j (is.pairs_once s)
        | false ↦ is.pairs_once a
      ];
  pairs_of_roles = λ a b pair. ap (λ l. contains_name l b) (names-with_juniors h s _)
      ∙ is.pairs_of_roles a b (fewer a b pair);
  acyclic = acyclic-fewer (without_pair h s j) h fewer is.acyclic;
}
  where
    fewer : (a b : Name) → is_immediate (without_pair h s j) a b ≡ true → is_immediate h a b ≡ true
    fewer = pairs-without_pair h s j there

juniors-without : (es : Hierarchy) (r c : Name)
    → immediate_juniors (map (λ (e : Name × List Name). (e.0, without_name e.1 r)) es) c
    ≡ without_name (immediate_juniors es c) r
juniors-without [] r c = refl
juniors-without (e ∷ es) r c = elim (name_eq c e.0) as
    (λ b. cond b (without_name e.1 r) (immediate_juniors
    (map (λ (x : Name × List Name). (x.0, without_name x.1 r)) es) c) ≡ without_name
    (cond b e.1 (immediate_juniors es c)) r) [ true ↦ refl | false ↦ juniors-without es r c ]

names-map : (es : Hierarchy) (r : Name)
    → role_names (map (λ (e : Name × List Name). (e.0, without_name e.1 r)) es) ≡ role_names es
names-map [] r = refl
names-map (e ∷ es) r = ap (λ l. e.0 ∷ l) (names-map es r)

role-without : (h : Hierarchy) (r b : Name) → is_role h b ≡ true → name_eq r b ≡ false
    → is_role (entries_without h r) b ≡ true
role-without [] r b there other = there
role-without (e ∷ es) r b there other =
    elim (name_eq r e.0) as (λ t. name_eq r e.0 ≡ t
    → is_role (cond (not t) (e ∷ entries_without es r) (entries_without es r)) b ≡ true) [
      | true ↦ λ at. elim (or_cases (name_eq b e.0) (is_role es b) there) [
        | inl here
            ↦
            absurd (true≢false (sym ((bytes_decides r b).1
            (same_name r e.0 at ∙ sym (same_name b e.0 here))) ∙ other))
        | inr later ↦ role-without es r b later other
      ]
      | false ↦ λ _. elim (or_cases (name_eq b e.0) (is_role es b) there) [
        | inl here ↦ or_left (name_eq b e.0) (is_role (entries_without es r) b) here
        | inr later ↦ or_right (name_eq b e.0) (is_role (entries_without es r) b)
            (role-without es r b later other)
      ]
    ] refl

names-entries_without : (h : Hierarchy) (r : Name)
    → role_names (entries_without h r) ≡ without_name (role_names h) r
names-entries_without [] r = refl
names-entries_without (e ∷ es) r =
    elim (name_eq r e.0) as (λ t. role_names
    (cond (not t) (e ∷ entries_without es r) (entries_without es r)) ≡ cond (not t)
    (e.0 ∷ without_name (role_names es) r) (without_name (role_names es) r)) [
      | true ↦ names-entries_without es r
      | false ↦ ap (λ l. e.0 ∷ l) (names-entries_without es r)
    ]

no_longer : (h : Hierarchy) (r : Name) → length (entries_without h r) ≤ length h
no_longer [] r = omega arith
no_longer (e ∷ es) r =
    let rest = no_longer es r in
    elim (name_eq r e.0) as (λ b. length
    (cond (not b) (e ∷ entries_without es r) (entries_without es r)) ≤ suc (length es))
    [ true ↦ omega arith | false ↦ omega arith ]

pub shrinks : (h : Hierarchy) (r : Name) → length (without_role h r) ≤ length h
shrinks h r =
    let kept = no_longer h r in
    let mapped : length (without_role h r) ≡ length (entries_without h r) =
    length-map (entries_without h r) (λ (e : Name × List Name). (e.0, without_name e.1 r)) in
    omega arith

juniors-left : (h : Hierarchy) (r a b : Name) → is_immediate (without_role h r) a b ≡ true
    → contains_name (without_name (immediate_juniors (entries_without h r) a) r) b ≡ true
juniors-left h r a b pair =
    ap (λ l. contains_name l b) (sym (juniors-without (entries_without h r) r a)) ∙ pair

pub pairs-without_role : (h : Hierarchy) (r a b : Name) → is_immediate (without_role h r) a b ≡ true
    → is_immediate h a b ≡ true
pairs-without_role h r a b pair =
    weaken_link h r a b (contains-without _ r b (juniors-left h r a b pair)).0

pub names-without_role : (h : Hierarchy) (r : Name)
    → role_names (without_role h r) ≡ without_name (role_names h) r
names-without_role h r = names-map (entries_without h r) r ∙ names-entries_without h r

pub roles-left : (h : Hierarchy) (r b : Name) → is_role h b ≡ true → name_eq r b ≡ false
    → is_role (without_role h r) b ≡ true
roles-left h r b there other =
    ap (λ l. contains_name l b) (names-map (entries_without h r) r) ∙ role-without h r b there other

pub IsHierarchy-without_role : (h : Hierarchy) (r : Name) → IsHierarchy h
    → IsHierarchy (without_role h r)
IsHierarchy-without_role h r is = record {
  small = let fewer_roles = shrinks h r in let before = is.small in omega arith;
  roles_once = ap are_distinct (names-map (entries_without h r) r ∙ names-entries_without h r)
      ∙ distinct-without (role_names h) r is.roles_once;
  pairs_once = λ a. ap are_distinct (juniors-without (entries_without h r) r a)
      ∙ distinct-without (immediate_juniors (entries_without h r) a) r (left_once a);
  pairs_of_roles = λ a b pair.
      ap (λ l. contains_name l b) (names-map (entries_without h r) r)
      ∙ role-without h r b (is.pairs_of_roles a b (fewer a b pair))
      (contains-without _ r b (juniors-left h r a b pair)).1;
  acyclic = acyclic-fewer (without_role h r) h fewer is.acyclic;
}
  where
    left_once : (a : Name) → are_distinct (immediate_juniors (entries_without h r) a) ≡ true
    left_once a = elim (name_eq r a) as (λ t. name_eq r a ≡ t
        → are_distinct (immediate_juniors (entries_without h r) a) ≡ true) [
          | true ↦ λ at. ap (λ k. are_distinct (immediate_juniors (entries_without h r) k))
              (sym (same_name r a at)) ∙ ap are_distinct (linked-without_same h r)
          | false ↦ λ apart. ap are_distinct (linked-without_other h r a apart) ∙ is.pairs_once a
        ] refl

    fewer : (a b : Name) → is_immediate (without_role h r) a b ≡ true → is_immediate h a b ≡ true
    fewer = pairs-without_role h r

-- a chain between two roles ends with a pair, so what it leads down to is a role
pub junior_role : (h : Hierarchy) → IsHierarchy h → (a b : Name) → IsAtLeast h a b
    → (a ≡ b) ⊎ (is_role h b ≡ true)
junior_role h is a b same = inl refl
junior_role h is a b (chain {middle = m} pair rest) = elim (junior_role h is m b rest) [
  | inl end ↦ inr (ap (is_role h) (sym end) ∙ is.pairs_of_roles a m pair)
  | inr role ↦ inr role
]

pub contains-filter : (p : Name → Bool) (xs : List Name) (b : Name)
    → contains_name (filter p xs) b ≡ (contains_name xs b && p b)
contains-filter p [] b = refl
contains-filter p (x ∷ xs) b =
    elim (p x) as (λ t. p x ≡ t → contains_name (cond t (x ∷ filter p xs) (filter p xs)) b
    ≡ ((name_eq b x || contains_name xs b) && p b)) [
      | true ↦ λ passes. elim (name_eq b x) as (λ t. name_eq b x ≡ t
          → (t || contains_name (filter p xs) b) ≡ ((t || contains_name xs b) && p b)) [
            | true ↦ λ here. sym passes ∙ ap p (sym (same_name b x here))
            | false ↦ λ _. contains-filter p xs b
          ] refl
      | false ↦ λ fails. elim (name_eq b x) as (λ t. name_eq b x ≡ t
          → contains_name (filter p xs) b ≡ ((t || contains_name xs b) && p b)) [
            | true ↦ λ here.
                let none : p b ≡ false = ap p (same_name b x here) ∙ fails in
                contains-filter p xs b ∙ ap (λ t. contains_name xs b && t) none
                ∙ and_false (contains_name xs b) ∙ sym none
            | false ↦ λ _. contains-filter p xs b
          ] refl
    ] refl
  where
    and_false : (t : Bool) → (t && false) ≡ false
    and_false true = refl
    and_false false = refl
