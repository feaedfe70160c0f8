-- Indexes of roles, and the masks of each change of a hierarchy.
use Rattle.std.proofs.Common.{[], ◌≡◌, ℕ, zero, suc, ◌+◌, ◌<◌, ◌≤◌, Bool, true, false, cond, ◌||◌, ◌&&◌, ◌⊎◌, inl, inr, List, ◌∷◌, ◌++◌, length, get_or, eqb, eq-eqb, Some, refl, sym, ap, ◌∙◌, true≢false, arith, length-append, add-one, drop, take}
use Rattle.std.specs.Prelude.{nat_lt, position}
use Rattle.std.specs.Cmp.{both_ways}
use Rattle.std.proofs.lemmas.List.{take_all}
use Rattle.std.proofs.lemmas.Bool.{cases_eq, cases_lt, lt-ltb, le-ltb, ne_eqb, and_right}
use Rattle.mpw_geom.specs.Names.{name_eq, contains_name}
use Rattle.mpw_geom.specs.Links.{chain}
use Rattle.mpw_geom.proofs.Linked.{same_name, name_eq-refl, leads-sound, leads-complete, chain-trans}
use Rattle.mpw_roles.specs.declared.mask.Mask.{Mask}
use Rattle.mpw_roles.specs.Hierarchy.{Name, Hierarchy, role_names, is_role, is_immediate, immediate_juniors, with_role, with_pair}
use Rattle.mpw_roles.specs.Marks.{marked_names}
use Rattle.mpw_roles.specs.Mask.{has}
use Rattle.mpw_roles.specs.Order.{at_least, is_below, roles_below, IsHierarchy}
use Rattle.mpw_roles.specs.Places.{name_at, is_place_under, is_place_below, marks_from, mask_at, IsMasked}
use Rattle.mpw_roles.proofs.HierarchyLemmas.{names-with_juniors, length-with_juniors, pairs-with_pair, with_pair-chains, juniors-with_juniors}
use Rattle.mpw_roles.proofs.RoleLemmas.{juniors-with_role, at_least-fewer, chains-fewer, contains-append}
use Rattle.mpw_roles.proofs.BoolLemmas.{refuted, and_or, or_assoc}
use Rattle.mpw_roles.proofs.BitLemmas.{length-marks_from, mark-at, marked_names-places, name-found, name-is_role, stranger-above, stranger-below, mask-none}

-- one more senior: it is joined, or is no role
pub below-cons : (h : Hierarchy) (s : Name) (rest : List Name) (p : ℕ)
    → is_place_below h (s ∷ rest) p ≡ (is_place_under h s p || is_place_below h rest p)
below-cons h s rest p =
    and_or (nat_lt p (length h)) (at_least h s (name_at h p)) (is_below h rest (name_at h p))

pub turn-role : (h : Hierarchy) (s : Name) (rest : List Name) (p : ℕ) (old new : Bool)
    → new ≡ (old || is_place_under h s p)
    → (new || is_place_below h rest p) ≡ (old || is_place_below h (s ∷ rest) p)
turn-role h s rest p old new is = ap (λ t. t || is_place_below h rest p) is ∙ sym (or_assoc old _ _)
    ∙ ap (λ t. old || t) (sym (below-cons h s rest p))

pub turn-none : (h : Hierarchy) (s : Name) (rest : List Name) (p : ℕ) (old : Bool)
    → is_role h s ≡ false → (old || is_place_below h rest p)
    ≡ (old || is_place_below h (s ∷ rest) p)
turn-none h s rest p old none = ap (λ t. old || t)
    (ap (λ t. t || is_place_below h rest p) (mask-none h s p none) ∙ sym (below-cons h s rest p))

pub mask-found : (h : Hierarchy) (ms : List Mask) → IsMasked h ms → (a : Name) (i : ℕ)
    → Some i ≡ position (name_eq a) (role_names h) → (p : ℕ)
    → has (mask_at ms i) p ≡ is_place_under h a p
mask-found h ms masked a i at p = let above = name-found h a i at in masked.exact i above.0 p
    ∙ ap (λ k. is_place_under h k p) above.1

name-kept : (h : Hierarchy) (r : Name) (p : ℕ) → p < length h
    → name_at (with_role h r) p ≡ name_at h p
name-kept [] r p inside = absurd (omega arith)
name-kept (e ∷ es) r zero inside = refl
name-kept (e ∷ es) r (suc p) inside = name-kept es r p (omega arith)

name-new : (h : Hierarchy) (r : Name) → name_at (with_role h r) (length h) ≡ r
name-new [] r = refl
name-new (e ∷ es) r = name-new es r

order-with_role : (h : Hierarchy) (r a b : Name) → at_least (with_role h r) a b ≡ at_least h a b
order-with_role h r a b = both_ways _ _
    (at_least-fewer (with_role h r) h (λ x y pair. ap (λ l. contains_name l y)
    (sym (juniors-with_role h r x)) ∙ pair) a b)
    (at_least-fewer h (with_role h r) (λ x y pair. ap (λ l. contains_name l y)
    (juniors-with_role h r x) ∙ pair) a b)

-- the indexes of one more role
under-with_role : (h : Hierarchy) (r a : Name) (q : ℕ) → IsHierarchy h → is_role h r ≡ false
    → is_role h a ≡ true → is_place_under h a q ≡ is_place_under (with_role h r) a q
under-with_role h r a q is none there =
    let long : length (with_role h r) ≡ length h + 1 = length-append h ((r, []) ∷ []) in
    elim (cases_lt q (length h)) [
      | inl inside ↦
          (λ i. lt-ltb q (length h) inside i && at_least h a (name_at h q))
          ∙ ap (at_least h a) (sym (name-kept h r q inside))
          ∙ sym (order-with_role h r a (name_at (with_role h r) q))
          ∙ ap (λ b. b && at_least (with_role h r) a (name_at (with_role h r) q))
          (sym (lt-ltb q (length (with_role h r)) (omega arith)))
      | inr past ↦
          ap (λ b. b && at_least h a (name_at h q)) (le-ltb q (length h) past)
          ∙ elim (cases_eq q (length h)) [
            | inl last ↦
                let apart : at_least h a r ≡ false = sym (stranger-below h is a r none)
                ∙ refuted (name_eq a r) (λ equal. true≢false
                (sym there ∙ ap (is_role h) (same_name a r equal) ∙ none)) in
                sym (and_right (nat_lt q (length (with_role h r))) _
                (order-with_role h r a (name_at (with_role h r) q)
                ∙ ap (λ k. at_least h a (name_at (with_role h r) k)) last
                ∙ ap (at_least h a) (name-new h r) ∙ apart))
            | inr more ↦ ap (λ b. b && at_least (with_role h r) a (name_at (with_role h r) q))
                (sym (le-ltb q (length (with_role h r)) (omega arith)))
          ]
    ]

-- the indexes of a role without pairs
own-with_role : (h : Hierarchy) (r : Name) (q : ℕ) → is_role h r ≡ false
    → eqb q (length h) ≡ is_place_under (with_role h r) r q
own-with_role h r q none =
    let long : length (with_role h r) ≡ length h + 1 = length-append h ((r, []) ∷ []) in
    let order : at_least (with_role h r) r (name_at (with_role h r) q)
    ≡ name_eq r (name_at (with_role h r) q) = order-with_role h r r (name_at (with_role h r) q)
    ∙ sym (stranger-above h r (name_at (with_role h r) q) none) in
    elim (cases_eq q (length h)) [
      | inl last ↦
          eq-eqb q (length h) last
          ∙ sym ((λ i. lt-ltb q (length (with_role h r)) (omega arith) i && order i)
          ∙ ap (λ k. name_eq r (name_at (with_role h r) k)) last ∙ ap (name_eq r) (name-new h r)
          ∙ name_eq-refl r)
      | inr other ↦
          ne_eqb q (length h) other
          ∙ elim (cases_lt q (length h)) [
            | inl inside ↦ sym (and_right (nat_lt q (length (with_role h r))) _
                (order ∙ ap (name_eq r) (name-kept h r q inside) ∙ refuted (name_eq r (name_at h q))
                (λ equal. true≢false (sym (name-is_role h q inside)
                ∙ ap (is_role h) (sym (same_name r (name_at h q) equal)) ∙ none))))
            | inr past ↦ ap (λ b. b && at_least (with_role h r) r (name_at (with_role h r) q))
                (sym (le-ltb q (length (with_role h r)) (omega arith)))
          ]
    ]

-- one more role: its mask is its own index
pub IsMasked-with_role : (h : Hierarchy) (r : Name) (old new : List Mask) → is_role h r ≡ false
    → IsHierarchy h → IsMasked h old → length h < length new
    → ((p : ℕ) → p < length h → mask_at new p ≡ mask_at old p)
    → ((q : ℕ) → has (mask_at new (length h)) q ≡ eqb q (length h))
    → IsMasked (with_role h r) new
IsMasked-with_role h r old new none is masked long others own =
    let size : length (with_role h r) ≡ length h + 1 = length-append h ((r, []) ∷ []) in
    record {
      long = omega arith;
      exact = λ p inside q. elim (cases_eq p (length h)) [
        | inl last ↦
            ap (λ k. has (mask_at new k) q) last
            ∙ own q
            ∙ own-with_role h r q none
            ∙ ap (λ n. is_place_under (with_role h r) n q)
            (sym (ap (name_at (with_role h r)) last ∙ name-new h r))
        | inr other ↦
            let before : p < length h = omega arith in
            ap (λ m. has m q) (others p before)
            ∙ masked.exact p before q
            ∙ under-with_role h r (name_at h p) q is none (name-is_role h p before)
            ∙ ap (λ n. is_place_under (with_role h r) n q) (sym (name-kept h r p before))
      ];
    }

with_pair-there : (h : Hierarchy) (s j : Name) → is_role h s ≡ true
    → is_immediate (with_pair h s j) s j ≡ true
with_pair-there h s j there =
    ap (λ l. contains_name l j) (juniors-with_juniors h s _ s there
    ∙ ap (λ b. cond b (immediate_juniors h s ++ j ∷ []) (immediate_juniors h s))
    (name_eq-refl s))
    ∙ contains-append (immediate_juniors h s) (j ∷ []) j
    ∙ or_later (contains_name (immediate_juniors h s) j) (contains_name (j ∷ []) j)
    (ap (λ b. b || false) (name_eq-refl j))
  where
    or_later : (a b : Bool) → b ≡ true → (a || b) ≡ true
    or_later true b e = refl
    or_later false b e = e

-- one more pair: a role that is at least its senior is at least what its junior is at least
pub order-with_pair : (h : Hierarchy) (s j : Name) → is_role h s ≡ true → (a b : Name)
    → at_least (with_pair h s j) a b ≡ (at_least h a b || (at_least h a s && at_least h j b))
order-with_pair h s j there a b = both_ways _ _
    (λ down. elim (with_pair-chains h s j there a b (leads-sound _ a b down)) [
      | inl old ↦ ap (λ t. t || (at_least h a s && at_least h j b)) (leads-complete h a b old)
      | inr through ↦ or_later (at_least h a b) _
          (both (at_least h a s) (at_least h j b) (leads-complete h a s through.0)
          (leads-complete h j b through.1))
    ])
    (λ is. elim (parts (at_least h a b) (at_least h a s) (at_least h j b) is) [
      | inl old ↦ at_least-fewer h (with_pair h s j) (pairs-with_pair h s j there) a b old
      | inr through ↦ leads-complete (with_pair h s j) a b
          (chain-trans (with_pair h s j) a s b
          (chains-fewer h (with_pair h s j) (pairs-with_pair h s j there) a s
          (leads-sound h a s through.0))
          (chain (with_pair-there h s j there)
          (chains-fewer h (with_pair h s j) (pairs-with_pair h s j there) j b
          (leads-sound h j b through.1))))
    ])
  where
    or_later : (x y : Bool) → y ≡ true → (x || y) ≡ true
    or_later true y e = refl
    or_later false y e = e

    both : (x y : Bool) → x ≡ true → y ≡ true → (x && y) ≡ true
    both true y p q = q
    both false y p q = p

    parts : (x y z : Bool) → (x || (y && z)) ≡ true → (x ≡ true) ⊎ ((y ≡ true) × (z ≡ true))
    parts true y z e = inl refl
    parts false true z e = inr (refl, e)
    parts false false z e = inr (e, absurd (true≢false (sym e)))

pub joined-bits : (f x y z : Bool) → ((f && x) || (y && (f && z))) ≡ (f && (x || (y && z)))
joined-bits true x y z = refl
joined-bits false x true z = refl
joined-bits false x false z = refl

pub IsMasked-with_pair : (h : Hierarchy) (s j : Name) (i k : ℕ) (old new : List Mask)
    → is_role h s ≡ true → Some i ≡ position (name_eq s) (role_names h)
    → Some k ≡ position (name_eq j) (role_names h) → IsMasked h old → length new ≡ length old
    → ((p : ℕ) → p < length old → (q : ℕ)
    → has (mask_at new p) q ≡ (has (mask_at old p) q
    || (has (mask_at old p) i && has (mask_at old k) q))) → IsMasked (with_pair h s j) new
IsMasked-with_pair h s j i k old new there at_s at_j masked long joined =
    let size : length (with_pair h s j) ≡ length h = length-with_juniors h s _ in
    let room = masked.long in
    let above = name-found h s i at_s in
    let names = names-with_juniors h s (immediate_juniors h s ++ j ∷ []) in
    record {
      long = omega arith;
      exact = λ p inside q.
          let before : p < length h = omega arith in
          let a = name_at h p in
          let b = name_at h q in
          let senior : has (mask_at old p) i ≡ at_least h a s = masked.exact p before i
          ∙ ap (λ t. t && at_least h a (name_at h i)) (lt-ltb i (length h) above.0)
          ∙ ap (at_least h a) above.1 in
          joined p (omega arith) q
          ∙ (λ t. masked.exact p before q t || (senior t && mask-found h old masked j k at_j q t))
          ∙ joined-bits (nat_lt q (length h)) (at_least h a b) (at_least h a s) (at_least h j b)
          ∙ ap (λ t. nat_lt q (length h) && t) (sym (order-with_pair h s j there a b))
          ∙ (λ t. nat_lt q (sym size t) && at_least (with_pair h s j) (get_or (sym names t) p [])
          (get_or (sym names t) q []));
    }

-- what is left from an index on begins with the item there
pub item-cons : (xs : List Name) (i : ℕ) (x : Name) → i < length xs → x ≡ get_or xs i x
    → drop i xs ≡ x ∷ drop (i + 1) xs
item-cons [] i x inside at = absurd (omega arith)
item-cons (y ∷ ys) zero x inside at = ap (λ z. z ∷ ys) (sym at)
item-cons (y ∷ ys) (suc i) x inside at =
    rw add-one (item-cons ys i x (omega arith) at ∙ rw add-one refl)

-- what holds of the items so far, and of those left, with the next one apart
pub next-item : (xs : List Name) (i : ℕ) (x : Name) → i < length xs → x ≡ get_or xs i x
    → (is_told : List Name → Bool) (so_far all : Bool) → (so_far || is_told (drop i xs)) ≡ all
    → (so_far || is_told (x ∷ drop (i + 1) xs)) ≡ all
next-item xs i x inside at is_told so_far all is =
    ap (λ l. so_far || is_told l) (sym (item-cons xs i x inside at)) ∙ is

pub same-role : (h k : Hierarchy) (r : Name) → role_names h ≡ role_names k
    → is_role h r ≡ is_role k r
same-role h k r names = ap (λ l. contains_name l r) names

-- an item that is there is the one at its index, whatever the default is
pub mask-there : (ms : List Mask) (i : ℕ) (m : Mask) → i < length ms → get_or ms i m ≡ mask_at ms i
mask-there [] i m inside = absurd (omega arith)
mask-there (x ∷ xs) zero m inside = refl
mask-there (x ∷ xs) (suc i) m inside = mask-there xs i m (omega arith)

-- the names at the indexes of a mask
pub below-places : (h : Hierarchy) (seniors : List Name) (m : Mask)
    → ((q : ℕ) → has m q ≡ is_place_below h seniors q)
    → marked_names h (marks_from 0 (length h) m) ≡ roles_below h seniors
below-places h seniors m is =
    let long = length-marks_from 0 (length h) m in
    marked_names-places (is_below h seniors) h (marks_from 0 (length h) m) (omega arith)
    (λ i inside. mark-at (length h) m i inside ∙ is i
    ∙ ap (λ b. b && is_below h seniors (name_at h i)) (lt-ltb i (length h) inside))

-- masks written through a slice of a `Vec`
pub written-back : (new items : List Mask) (n : ℕ) → length new ≡ length items → n ≡ length items
    → take n (new ++ drop (length new) items) ≡ new
written-back new items n long is =
    let none : drop (length new) items ≡ [] = drop_past items (length new) (omega arith) in
    ap (λ l. take n (new ++ l)) none ∙ ap (take n) (append-nil new) ∙ take_all n new (omega arith)
  where
    drop_past : (xs : List Mask) (k : ℕ) → length xs ≤ k → drop k xs ≡ []
    drop_past [] k past = drop_nil k
      where
        drop_nil : (j : ℕ) → drop {A = Mask} j [] ≡ []
        drop_nil zero = refl
        drop_nil (suc j) = refl
    drop_past (x ∷ xs) zero past = absurd (omega arith)
    drop_past (x ∷ xs) (suc k) past = drop_past xs k (omega arith)

    append-nil : (xs : List Mask) → xs ++ [] ≡ xs
    append-nil [] = refl
    append-nil (x ∷ xs) = ap (λ l. x ∷ l) (append-nil xs)
