-- Roles of a hierarchy, and chains of its pairs.
use Rattle.std.proofs.Common.{[], ◌≡◌, ◌<◌, true, false, cond, not, ◌||◌, List, ◌∷◌, ◌++◌, length, refl, sym, ap, ◌∙◌, true≢false, arith, length-append}
use Rattle.std.specs.Cmp.Lexicographic.{bytes_decides}
use Rattle.mpw_geom.specs.Names.{name_eq, contains_name}
use Rattle.mpw_roles.specs.Hierarchy.{Name, Hierarchy, role_names, is_role, is_immediate, immediate_juniors, with_role}
use Rattle.mpw_roles.specs.Order.{at_least, are_distinct, IsAtLeast, IsHierarchy}
use Rattle.mpw_geom.specs.Links.{same, chain}
use Rattle.mpw_geom.proofs.Linked.{same_name, leads-sound, leads-complete, chain-trans}
use Rattle.mpw_roles.proofs.BoolLemmas.{refuted, not_true, and_parts, and_both, or_left, or_assoc, neither}

-- fewer pairs, fewer chains
pub chains-fewer : (h k : Hierarchy)
    → ((a b : Name) → is_immediate h a b ≡ true → is_immediate k a b ≡ true) → (a b : Name)
    → IsAtLeast h a b → IsAtLeast k a b
chains-fewer h k fewer a b same = same
chains-fewer h k fewer a b (chain {middle = m} pair rest) =
    chain (fewer a m pair) (chains-fewer h k fewer m b rest)

pub at_least-fewer : (h k : Hierarchy)
    → ((a b : Name) → is_immediate h a b ≡ true → is_immediate k a b ≡ true) → (a b : Name)
    → at_least h a b ≡ true → at_least k a b ≡ true
at_least-fewer h k fewer a b is =
    leads-complete k a b (chains-fewer h k fewer a b (leads-sound h a b is))

-- no pair's junior is at least its senior
abbrev IsAcyclic : Hierarchy → Type 0
IsAcyclic h = (a b : Name) → is_immediate h a b ≡ true → at_least h b a ≡ false

pub acyclic-fewer : (h k : Hierarchy) → ((a b : Name) → is_immediate h a b ≡ true
    → is_immediate k a b ≡ true) → IsAcyclic k → IsAcyclic h
acyclic-fewer h k fewer acyclic a b pair =
    refuted (at_least h b a) (λ up. true≢false (sym (at_least-fewer h k fewer b a up)
    ∙ acyclic a b (fewer a b pair)))

chains-antisymmetric : (h : Hierarchy) → IsAcyclic h → (a b : Name) → IsAtLeast h a b
    → IsAtLeast h b a → a ≡ b
chains-antisymmetric h acyclic a b same up = refl
chains-antisymmetric h acyclic a b (chain {middle = m} pair rest) up =
    absurd (true≢false (sym (leads-complete h m a (chain-trans h m b a rest up))
    ∙ acyclic a m pair))

-- no two roles are at least each other
pub antisymmetric : (h : Hierarchy) → IsHierarchy h → (a b : Name) → at_least h a b ≡ true
    → at_least h b a ≡ true → a ≡ b
antisymmetric h is a b down up =
    chains-antisymmetric h is.acyclic a b (leads-sound h a b down) (leads-sound h b a up)

pub contains-append : (xs ys : List Name) (n : Name)
    → contains_name (xs ++ ys) n ≡ (contains_name xs n || contains_name ys n)
contains-append [] ys n = refl
contains-append (x ∷ xs) ys n =
    ap (λ b. name_eq n x || b) (contains-append xs ys n) ∙ or_assoc (name_eq n x) _ _

-- a new role
pub names-with_role : (h : Hierarchy) (r : Name) → role_names (with_role h r) ≡ role_names h ++ r
    ∷ []
names-with_role [] r = refl
names-with_role (e ∷ es) r = ap (λ l. e.0 ∷ l) (names-with_role es r)

pub juniors-with_role : (h : Hierarchy) (r c : Name)
    → immediate_juniors (with_role h r) c ≡ immediate_juniors h c
juniors-with_role [] r c = elim (name_eq c r) as (λ b. cond b [] (immediate_juniors [] c) ≡ [])
    [ true ↦ refl | false ↦ refl ]
juniors-with_role (e ∷ es) r c = ap (cond (name_eq c e.0) e.1) (juniors-with_role es r c)

pub IsHierarchy-empty : IsHierarchy []
IsHierarchy-empty = record {
  small = omega arith;
  roles_once = refl;
  pairs_once = λ a. refl;
  pairs_of_roles = λ a b is. absurd (true≢false (sym is));
  acyclic = λ a b is. absurd (true≢false (sym is));
}

-- lists of distinct names
pub name_eq-apart : (a b : Name) → name_eq a b ≡ false → name_eq b a ≡ false
name_eq-apart a b apart = refuted (name_eq b a)
    (λ is. true≢false (sym ((bytes_decides a b).1 (sym (same_name b a is))) ∙ apart))

pub distinct-append : (xs : List Name) (n : Name) → are_distinct xs ≡ true
    → contains_name xs n ≡ false
    → are_distinct (xs ++ n ∷ []) ≡ true
distinct-append [] n once new = refl
distinct-append (x ∷ xs) n once new =
    let parts = and_parts (not (contains_name xs x)) (are_distinct xs) once in
    let apart = neither (name_eq n x) (contains_name xs n) new in
    let first : contains_name xs x ≡ false = not_true (contains_name xs x) parts.0 in
    let other : name_eq x n ≡ false = name_eq-apart n x apart.0 in
    and_both (not (contains_name (xs ++ n ∷ []) x)) _
    (ap not (contains-append xs (n ∷ []) x ∙ (λ i. first i || (other i || false))))
    (distinct-append xs n parts.1 apart.1)

pub IsHierarchy-with_role : (h : Hierarchy) (r : Name) → length h < 512 → is_role h r ≡ false
    → IsHierarchy h → IsHierarchy (with_role h r)
IsHierarchy-with_role h r room new is = record {
  small = omega (arith, length-append h ((r, []) ∷ []));
  roles_once =
      ap are_distinct (names-with_role h r) ∙ distinct-append (role_names h) r is.roles_once new;
  pairs_once = λ a. ap are_distinct (juniors-with_role h r a) ∙ is.pairs_once a;
  pairs_of_roles = λ a b pair.
      ap (λ l. contains_name l b) (names-with_role h r) ∙ contains-append (role_names h) (r ∷ []) b
      ∙ or_left _ _ (is.pairs_of_roles a b (fewer a b pair));
  acyclic = acyclic-fewer (with_role h r) h fewer is.acyclic;
}
  where
    fewer : (a b : Name) → is_immediate (with_role h r) a b ≡ true → is_immediate h a b ≡ true
    fewer a b pair = ap (λ l. contains_name l b) (sym (juniors-with_role h r a)) ∙ pair

-- the senior of a pair is a role
pub first_role : (h : Hierarchy) (c d : Name) → is_immediate h c d ≡ true → is_role h c ≡ true
first_role [] c d p = absurd (true≢false (sym p))
first_role (e ∷ es) c d p = elim (name_eq c e.0) as
    (λ b. contains_name (cond b e.1 (immediate_juniors es c)) d ≡ true → (b || is_role es c) ≡ true)
    [ true ↦ λ _. refl | false ↦ λ q. first_role es c d q ] p
