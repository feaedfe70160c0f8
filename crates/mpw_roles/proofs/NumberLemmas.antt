-- Names and their numbers, and numbers in an order.
use Rattle.std.proofs.Common.{◌≡◌, ℕ, zero, suc, ◌<◌, Bool, true, false, cond, not, ◌||◌, ◌&&◌, inl, inr, List, [], ◌∷◌, ◌++◌, length, map, filter, eqb, eq-eqb, None, Some, is_some, refl, sym, ap, ◌∙◌, true≢false, arith}
use Rattle.std.specs.Prelude.{position, slice_get}
use Rattle.std.specs.Option.{option_map}
use Rattle.std.proofs.lemmas.Bool.{cases_eq, cases_lt, ne_eqb}
use Rattle.std.proofs.lemmas.List.Quantifiers.{position-Some}
use Rattle.mpw_geom.specs.Names.{name_eq, contains_name}
use Rattle.mpw_geom.proofs.Linked.{same_name, name_eq-refl}
use Rattle.mpw_roles.specs.Hierarchy.{Name}
use Rattle.mpw_roles.specs.Order.{are_distinct}
use Rattle.mpw_roles.specs.Internal.Table.{name_of, has_number, are_once}
use Rattle.mpw_roles.proofs.MarksLemmas.{distinct-first}
use Rattle.mpw_roles.proofs.NamedLemmas.{names-apart}
use Rattle.mpw_roles.proofs.PositionLemmas.{position-cons, position-any, position-at}
use Rattle.mpw_roles.proofs.BoolLemmas.{refuted, and_parts, and_both, not_true, neither, or_false, or_assoc}

pub or_later : (a b : Bool) → b ≡ true → (a || b) ≡ true
or_later true b e = refl
or_later false b e = e

pub eqb-same : (n : ℕ) → eqb n n ≡ true
eqb-same n = eq-eqb n n refl

pub eqb-back : (n m : ℕ) → eqb n m ≡ true → n ≡ m
eqb-back n m is = elim (cases_eq n m) [
  | inl same ↦ same
  | inr other ↦ absurd (true≢false (sym is ∙ ne_eqb n m other))
]

-- a number at an index is one of all
pub number-there : (os : List ℕ) (i n : ℕ) → slice_get os i ≡ Some n → has_number os n ≡ true
number-there [] i n at = cc
number-there (o ∷ os) zero n at =
    let same : o ≡ n = cc in
    ap (λ b. b || has_number os n) (eq-eqb n o (sym same))
number-there (o ∷ os) (suc i) n at = or_later (eqb n o) _ (number-there os i n at)

-- a number that occurs once is at its only index
pub position-once : (os : List ℕ) (i n : ℕ) → are_once os ≡ true → slice_get os i ≡ Some n
    → Some i ≡ position (λ m. eqb n m) os
position-once [] i n once at = cc
position-once (o ∷ os) zero n once at =
    let same : o ≡ n = cc in
    sym (position-cons (λ m. eqb n m) o os
    ∙ ap (λ b. cond b (Some 0) (option_map suc (position (λ m. eqb n m) os)))
    (eq-eqb n o (sym same)))
position-once (o ∷ os) (suc i) n once at =
    let p = and_parts (not (has_number os o)) (are_once os) once in
    let there = number-there os i n at in
    let apart : eqb n o ≡ false = refuted (eqb n o) (λ is. true≢false
    (sym there ∙ ap (has_number os) (eqb-back n o is) ∙ not_true (has_number os o) p.0)) in
    sym (position-cons (λ m. eqb n m) o os
    ∙ (λ t. cond (apart t) (Some 0) (option_map suc (sym (position-once os i n p.1 at) t))))

name-there : (ns : List Name) (k : ℕ) → k < length ns → contains_name ns (name_of ns k) ≡ true
name-there [] k inside = absurd (omega arith)
name-there (n ∷ ns) zero inside = ap (λ b. b || contains_name ns n) (name_eq-refl n)
name-there (n ∷ ns) (suc k) inside = or_later (name_eq (name_of ns k) n) _
    (name-there ns k (omega arith))

-- the name with a number is that of no other
pub name-number : (ns : List Name) → are_distinct ns ≡ true → (r : Name) (n : ℕ)
    → Some n ≡ position (name_eq r) ns → (k : ℕ) → k < length ns
    → name_eq r (name_of ns k) ≡ eqb n k
name-number ns once r n found k inside =
    let at = position-Some (name_eq r) ns n [] (sym found) in
    let apart = names-apart ns once in
    let is : r ≡ name_of ns n = same_name r (name_of ns n) at.1 in
    elim (cases_eq n k) [
      | inl same ↦ ap (λ m. name_eq r (name_of ns m)) (sym same) ∙ at.1 ∙ sym (eq-eqb n k same)
      | inr other ↦
          elim (cases_lt n k) [
            | inl before ↦ refuted (name_eq r (name_of ns k)) (λ equal.
                let also : name_of ns k ≡ name_of ns n =
                sym (same_name r (name_of ns k) equal) ∙ is in
                true≢false (sym (ap (name_eq (name_of ns k)) (sym also)
                ∙ name_eq-refl (name_of ns k)) ∙ distinct-first ns apart k n inside before))
            | inr after ↦ refuted (name_eq r (name_of ns k)) (λ equal.
                let also : name_of ns k ≡ name_of ns n =
                sym (same_name r (name_of ns k) equal) ∙ is in
                true≢false (sym (ap (name_eq (name_of ns n)) also ∙ name_eq-refl (name_of ns n))
                ∙ distinct-first ns apart n k at.0 (omega arith)))
          ]
          ∙ sym (ne_eqb n k other)
    ]

-- a name without a number is no name
pub name-unnumbered : (ns : List Name) (r : Name) → position (name_eq r) ns ≡ None → (k : ℕ)
    → k < length ns → name_eq r (name_of ns k) ≡ false
name-unnumbered ns r none k inside = refuted (name_eq r (name_of ns k)) (λ equal.
    true≢false (sym (name-there ns k inside)
    ∙ ap (contains_name ns) (sym (same_name r (name_of ns k) equal))
    ∙ sym (position-any (name_eq r) ns) ∙ ap is_some none))

-- the index of a name among those with some numbers
pub place-number : (ns : List Name) (os : List ℕ)
    → ((k : ℕ) → has_number os k ≡ true → k < length ns) → are_distinct ns ≡ true
    → (r : Name) (n : ℕ) → Some n ≡ position (name_eq r) ns
    → position (λ m. eqb n m) os ≡ position (name_eq r) (map (name_of ns) os)
place-number ns [] known once r n found = refl
place-number ns (o ∷ os) known once r n found =
    position-cons (λ m. eqb n m) o os
    ∙ (λ t. cond
    (sym (name-number ns once r n found o
    (known o (ap (λ b. b || has_number os o) (eqb-same o)))) t)
    (Some 0) (option_map suc (place-number ns os
    (λ k there. known k (or_later (eqb k o) _ there)) once r n found t)))
    ∙ sym (position-cons (name_eq r) (name_of ns o) (map (name_of ns) os))

pub place-unnumbered : (ns : List Name) (os : List ℕ)
    → ((k : ℕ) → has_number os k ≡ true → k < length ns)
    → (r : Name) → position (name_eq r) ns ≡ None
    → position (name_eq r) (map (name_of ns) os) ≡ None
place-unnumbered ns [] known r none = refl
place-unnumbered ns (o ∷ os) known r none =
    position-cons (name_eq r) (name_of ns o) (map (name_of ns) os)
    ∙ (λ t. cond
    (name-unnumbered ns r none o (known o (ap (λ b. b || has_number os o) (eqb-same o))) t)
    (Some 0) (option_map suc (place-unnumbered ns os
    (λ k there. known k (or_later (eqb k o) _ there)) r none t)))

-- each name has its own number
pub own-number : (ns : List Name) → are_distinct ns ≡ true → (k : ℕ) → k < length ns
    → Some k ≡ position (name_eq (name_of ns k)) ns
own-number ns once k inside =
    position-at (name_eq (name_of ns k)) ns k [] inside (name_eq-refl (name_of ns k))
    (λ i below. distinct-first ns (names-apart ns once) k i inside below)

-- whether a name is one of those with some numbers
pub contains-number : (ns : List Name) (os : List ℕ)
    → ((k : ℕ) → has_number os k ≡ true → k < length ns) → are_distinct ns ≡ true
    → (r : Name) (n : ℕ) → Some n ≡ position (name_eq r) ns
    → contains_name (map (name_of ns) os) r ≡ has_number os n
contains-number ns [] known once r n found = refl
contains-number ns (o ∷ os) known once r n found = λ t.
    name-number ns once r n found o (known o (ap (λ b. b || has_number os o) (eqb-same o))) t
    || contains-number ns os (λ k there. known k (or_later (eqb k o) _ there)) once r n found t

pub contains-unnumbered : (ns : List Name) (os : List ℕ)
    → ((k : ℕ) → has_number os k ≡ true → k < length ns) → (r : Name)
    → position (name_eq r) ns ≡ None → contains_name (map (name_of ns) os) r ≡ false
contains-unnumbered ns [] known r none = refl
contains-unnumbered ns (o ∷ os) known r none = λ t.
    name-unnumbered ns r none o (known o (ap (λ b. b || has_number os o) (eqb-same o))) t
    || contains-unnumbered ns os (λ k there. known k (or_later (eqb k o) _ there)) r none t

-- numbers that occur once have names that do
pub distinct-numbered : (ns : List Name) (os : List ℕ)
    → ((k : ℕ) → has_number os k ≡ true → k < length ns) → are_distinct ns ≡ true
    → are_once os ≡ true → are_distinct (map (name_of ns) os) ≡ true
distinct-numbered ns [] known names once = refl
distinct-numbered ns (o ∷ os) known names once =
    let p = and_parts (not (has_number os o)) (are_once os) once in
    let later = λ (k : ℕ) (there : has_number os k ≡ true). known k (or_later (eqb k o) _ there) in
    let own = own-number ns names o (known o (ap (λ b. b || has_number os o) (eqb-same o))) in
    and_both (not (contains_name (map (name_of ns) os) (name_of ns o))) _
    (ap not (contains-number ns os later names (name_of ns o) o own) ∙ p.0)
    (distinct-numbered ns os later names p.1)

-- more numbers and fewer
pub has-more : (os : List ℕ) (n k : ℕ) → has_number (os ++ n ∷ []) k ≡ (has_number os k || eqb k n)
has-more [] n k = or_false (eqb k n)
has-more (o ∷ os) n k =
    ap (λ b. eqb k o || b) (has-more os n k) ∙ or_assoc (eqb k o) (has_number os k) (eqb k n)

pub once-more : (os : List ℕ) (n : ℕ) → are_once os ≡ true → has_number os n ≡ false
    → are_once (os ++ n ∷ []) ≡ true
once-more [] n once new = refl
once-more (o ∷ os) n once new =
    let p = and_parts (not (has_number os o)) (are_once os) once in
    let q = neither (eqb n o) (has_number os n) new in
    let other : eqb o n ≡ false = refuted (eqb o n) (λ is.
    true≢false (sym (eq-eqb n o (sym (eqb-back o n is))) ∙ q.0)) in
    and_both (not (has_number (os ++ n ∷ []) o)) _
    (ap not (has-more os n o ∙ (λ t. not_true (has_number os o) p.0 t || other t)))
    (once-more os n p.1 q.1)

pub has-filter : (n : ℕ) (os : List ℕ) (k : ℕ)
    → has_number (filter (λ o. not (eqb n o)) os) k ≡ (has_number os k && not (eqb n k))
has-filter n [] k = refl
has-filter n (o ∷ os) k = elim (eqb n o) as (λ b. eqb n o ≡ b
    → has_number (cond (not b) (o ∷ filter (λ m. not (eqb n m)) os)
    (filter (λ m. not (eqb n m)) os)) k
    ≡ ((eqb k o || has_number os k) && not (eqb n k))) [
      | true ↦ λ gone. elim (eqb k o) as (λ b. eqb k o ≡ b
          → has_number (filter (λ m. not (eqb n m)) os) k
          ≡ ((b || has_number os k) && not (eqb n k))) [
            | true ↦ λ here.
                let also : eqb n k ≡ true = ap (eqb n) (eqb-back k o here) ∙ gone in
                has-filter n os k ∙ ap (λ t. has_number os k && not t) also
                ∙ and_false (has_number os k) ∙ sym (ap not also)
            | false ↦ λ _. has-filter n os k
          ] refl
      | false ↦ λ kept. elim (eqb k o) as (λ b. eqb k o ≡ b
          → (b || has_number (filter (λ m. not (eqb n m)) os) k)
          ≡ ((b || has_number os k) && not (eqb n k))) [
            | true ↦ λ here. sym (ap not (ap (eqb n) (eqb-back k o here) ∙ kept))
            | false ↦ λ _. has-filter n os k
          ] refl
    ] refl
  where
    and_false : (t : Bool) → (t && false) ≡ false
    and_false true = refl
    and_false false = refl

pub once-filter : (n : ℕ) (os : List ℕ) → are_once os ≡ true
    → are_once (filter (λ o. not (eqb n o)) os) ≡ true
once-filter n [] once = refl
once-filter n (o ∷ os) once =
    let p = and_parts (not (has_number os o)) (are_once os) once in
    let rest = once-filter n os p.1 in
    elim (eqb n o) as (λ b. are_once
    (cond (not b) (o ∷ filter (λ m. not (eqb n m)) os) (filter (λ m. not (eqb n m)) os)) ≡ true) [
      | true ↦ rest
      | false ↦ and_both (not (has_number (filter (λ m. not (eqb n m)) os) o)) _
          (ap not (has-filter n os o
          ∙ ap (λ b. b && not (eqb n o)) (not_true (has_number os o) p.0))) rest
    ]

-- the name with a name's number is that name
pub name-numbered : (ns : List Name) (r : Name) (n : ℕ) → Some n ≡ position (name_eq r) ns
    → r ≡ name_of ns n
name-numbered ns r n found = let at = position-Some (name_eq r) ns n [] (sym found) in
    same_name r (name_of ns n) at.1

pub number-within : (ns : List Name) (r : Name) (n : ℕ) → Some n ≡ position (name_eq r) ns
    → n < length ns
number-within ns r n found = (position-Some (name_eq r) ns n [] (sym found)).0
