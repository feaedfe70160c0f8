-- What is read has the properties of elements.
use Rattle.std.proofs.Common.{◌≡◌, ℕ, zero, suc, ◌+◌, ◌-◌, ◌*◌, ◌/◌, ◌%◌, ◌^◌, ◌<◌, ◌≤◌, Bool, true, false, cond, not, ◌&&◌, ltb, leb, eqb, ℤ, pos, negsuc}
use Rattle.std.proofs.Common.{List, [], ◌∷◌, length, take, drop, map, Ok, Err, refl, sym, ap, subst, ◌∙◌, inl, inr, arith, length-take}
use Rattle.std.specs.Prelude.{unsigned_abs, int_div}
use Rattle.std.specs.List.{dedup, dedup_from, range_with_len, AllByRecursion}
use Rattle.std.specs.Ordering.{int_eq}
use Rattle.std.proofs.lemmas.Cmp.{int_eq_equiv}
use Rattle.std.proofs.lemmas.Bool.{ltb-false, eqb-true}
use Rattle.std.proofs.lemmas.Bool.Decides.{leb_tells}
use mir.Syntax.{w64}
use mir.Val.{SFits, of_z, to_z}
use Rattle.std.proofs.lemmas.Int.{ints, to_z-of_z, fits_signed_from_abs}
use Rattle.std.proofs.lemmas.List.Elements.{All-from_recursion}
use Rattle.std.proofs.lemmas.List.FromFn.{length-map-range_with_len}
use Rattle.mpw_geom.specs.declared.plane.Point.{Point}
use Rattle.mpw_structures.specs.Element.{IsWithinReach, IsPointWithinReach, same_point, is_manhattan_step, is_segment, each_step, closed, IsCount}
use Rattle.mpw_records.specs.declared.fault.Code.TheVariants.{NotManhattan, PointPath, OddWidth}
use Rattle.mpw_records.specs.declared.fault.ReadFault.{ReadFault}
use Rattle.mpw_records.specs.Records.{RawRecord}
use Rattle.mpw_elements.specs.Internal.Element.{IsRing, IsLine, IsWidth}
use Rattle.mpw_elements.specs.Reading.{fault_at}
use Rattle.mpw_structures.specs.Coordinates.{scaled, no_point}
use Rattle.mpw_elements.specs.Values.{point_at, points_of, is_closing, without_closing, corners_of, centre_of, width_of, is_count}
use Rattle.mpw_elements.specs.Internal.Values.{IsNear}
use Rattle.mpw_structures.proofs.TextPoints.{scaled_bound}

pub near_reach : (z : ℤ) → unsigned_abs z < 2 ^ 47 → IsWithinReach z
near_reach (pos n) h = record { above = omega (arith, ints); below = omega (arith, ints) }
near_reach (negsuc n) h = record { above = omega (arith, ints); below = omega (arith, ints) }

scaled_reach : (unit : ℕ) (bytes : List ℕ) → unit ≤ 1000 → IsWithinReach (scaled unit bytes)
scaled_reach unit bytes h =
    let b = scaled_bound unit bytes h in near_reach (scaled unit bytes) (omega (arith, b))

point_reach : (unit : ℕ) (bytes : List ℕ) (i : ℕ) → unit ≤ 1000
    → IsPointWithinReach (point_at unit bytes i)
point_reach unit bytes i h = record {
  x = scaled_reach unit (drop (8 * i) bytes) h;
  y = scaled_reach unit (drop (8 * i + 4) bytes) h;
}

map_all : {X : Type 0} (P : X → Type 0) (f : ℕ → X) → ((i : ℕ) → P (f i)) → (a n : ℕ)
    → AllByRecursion P (map f (range_with_len a n))
map_all P f h a zero = tt
map_all P f h a (suc n) = (h a, map_all P f h (a + 1) n)

take_all : {X : Type 0} (P : X → Type 0) (n : ℕ) (xs : List X) → AllByRecursion P xs
    → AllByRecursion P (take n xs)
take_all P zero xs h = tt
take_all P (suc n) [] h = tt
take_all P (suc n) (x ∷ xs) h = (h.0, take_all P n xs h.1)

dedup_all_from : {X : Type 0} (P : X → Type 0) (same : X → X → Bool) (k : X) (xs : List X) → P k
    → AllByRecursion P xs → AllByRecursion P (dedup_from same k xs)
dedup_all_from P same k [] p h = (p, tt)
dedup_all_from P same k (x ∷ xs) p h =
    elim (same x k) as (λ b. AllByRecursion P
    (cond b (dedup_from same k xs) (k ∷ dedup_from same x xs))) [
      | true ↦ dedup_all_from P same k xs p h.1
      | false ↦ (p, dedup_all_from P same x xs h.0 h.1)
    ]

dedup_all : {X : Type 0} (P : X → Type 0) (same : X → X → Bool) (xs : List X) → AllByRecursion P xs
    → AllByRecursion P (dedup same xs)
dedup_all P same [] h = tt
dedup_all P same (x ∷ xs) h = dedup_all_from P same x xs h.0 h.1

points_all : (unit : ℕ) (bytes : List ℕ) → unit ≤ 1000
    → AllByRecursion IsPointWithinReach (points_of unit bytes)
unfolding points_of
points_all unit bytes h = map_all IsPointWithinReach (point_at unit bytes)
    (λ i. point_reach unit bytes i h) 0 (length bytes / 8)

points_length : (unit : ℕ) (bytes : List ℕ) → length (points_of unit bytes) ≡ length bytes / 8
unfolding points_of
points_length unit bytes = length-map-range_with_len (point_at unit bytes) 0 (length bytes / 8)

without_all : (ps : List Point) → AllByRecursion IsPointWithinReach ps
    → AllByRecursion IsPointWithinReach (without_closing ps)
unfolding without_closing
without_all ps h = go (is_closing ps)
  where
    go : (b : Bool) → AllByRecursion IsPointWithinReach (cond b (take (length ps - 1) ps) ps)
    go true = take_all IsPointWithinReach (length ps - 1) ps h
    go false = h

long_if_closing : (ps : List Point) → is_closing ps ≡ true → 2 ≤ length ps
unfolding is_closing
long_if_closing ps e = elim (leb_tells 2 (length ps))
    [ inl p ↦ p.1 | inr p ↦ absurd (let q = left _ _ e in let r = sym p.0 ∙ q in cc) ]
  where
    left : (a b : Bool) → (a && b) ≡ true → a ≡ true
    left true b e = refl
    left false b e = e

without_length : (ps : List Point) → 1 ≤ length ps → 1 ≤ length (without_closing ps)
unfolding without_closing
without_length ps h = go (is_closing ps) (long_if_closing ps)
  where
    go : (b : Bool) → (b ≡ true → 2 ≤ length ps) → 1 ≤ length (cond b (take (length ps - 1) ps) ps)
    go true long = let l = long refl in omega (arith, length-take (length ps - 1) ps)
    go false long = h

chosen : {A : Type 0} (b : Bool) (x y : A) (f : ReadFault) → cond b (Ok x) (Err f) ≡ Ok y
    → (b ≡ true) × (x ≡ y)
chosen true x y f e = (refl, cc)
chosen false x y f e = absurd cc

pub corners_ring : (unit : ℕ) (r : RawRecord) (ps : List Point) → unit ≤ 1000 → 8 ≤ length r.bytes
    → corners_of unit r ≡ Ok ps → IsRing ps
unfolding corners_of
corners_ring unit r ps u h e =
    let all = points_of unit r.bytes in
    let c = chosen (each_step is_manhattan_step (closed (without_closing all)))
    (without_closing all) ps (fault_at NotManhattan r) e in
    let some : 1 ≤ length all = omega (arith, points_length unit r.bytes) in
    subst IsRing c.1 (record {
      corners = without_length all some;
      manhattan = c.0;
      within_reach = All-from_recursion IsPointWithinReach (without_closing all)
          (without_all all (points_all unit r.bytes u));
    })

-- the steps of the points from p on, none of which is p again
abbrev differ : Point → Point → Bool
differ p q = not (same_point q p)

first_is : (p : Point) (ps : List Point) → (rest : List Point)
    × (dedup_from same_point p ps ≡ p ∷ rest)
first_is p [] = ([], refl)
first_is p (q ∷ ps) =
    elim (same_point q p) as (λ b. (rest : List Point)
    × (cond b (dedup_from same_point p ps) (p ∷ dedup_from same_point q ps) ≡ p ∷ rest)) [
      | true ↦ first_is p ps
      | false ↦ (dedup_from same_point q ps, refl)
    ]

step_then : (p q : Point) (ps : List Point) (h : (rest : List Point) × (ps ≡ q ∷ rest))
    → same_point q p ≡ false → each_step differ ps ≡ true → each_step differ (p ∷ ps) ≡ true
step_then p q ps h e steps = rw (h.1, e) (rw h.1 at steps)

apart : (p : Point) (ps : List Point) → each_step differ (dedup_from same_point p ps) ≡ true
apart p [] = refl
apart p (q ∷ ps) =
    elim (same_point q p) as (λ b. same_point q p ≡ b
    → each_step differ (cond b (dedup_from same_point p ps) (p ∷ dedup_from same_point q ps))
    ≡ true) [
      | true ↦ λ e. apart p ps
      | false ↦ λ e. step_then p q (dedup_from same_point q ps) (first_is q ps) e (apart q ps)
    ] refl

apart_all : (ps : List Point) → each_step differ (dedup same_point ps) ≡ true
apart_all [] = refl
apart_all (p ∷ ps) = apart p ps

and_both : (a b : Bool) → (a && b) ≡ true → (a ≡ true) × (b ≡ true)
and_both true b e = (refl, e)
and_both false b e = absurd cc

-- equality of points is symmetric
turned : (p q : Point) → same_point q p ≡ same_point p q
turned p q = ap (λ b. b && int_eq q.y p.y) (int_eq_equiv.symm q.x p.x)
    ∙ ap (λ b. int_eq p.x q.x && b) (int_eq_equiv.symm q.y p.y)

joined_steps : (ps : List Point) → each_step is_manhattan_step ps ≡ true
    → each_step differ ps ≡ true → each_step is_segment ps ≡ true
joined_steps [] a b = refl
joined_steps (p ∷ []) a b = refl
joined_steps (p ∷ q ∷ ps) a b =
    let x = and_both (is_manhattan_step p q) (each_step is_manhattan_step (q ∷ ps)) a in
    let y = and_both (differ p q) (each_step differ (q ∷ ps)) b in
    let z : not (same_point p q) ≡ true = ap not (sym (turned p q)) ∙ y.0 in
    rw (x.0, z, joined_steps (q ∷ ps) x.1 y.1) refl

long_enough : {A : Type 0} (short level : Bool) (f g : ReadFault) (x y : A)
    → cond short (Err f) (cond level (Ok x) (Err g)) ≡ Ok y → (short ≡ false) × (level ≡ true)
    × (x ≡ y)
long_enough true level f g x y e = absurd cc
long_enough false true f g x y e = (refl, refl, cc)
long_enough false false f g x y e = absurd cc

pub centre_line : (unit : ℕ) (r : RawRecord) (ps : List Point) → unit ≤ 1000
    → centre_of unit r ≡ Ok ps → IsLine ps
unfolding centre_of
centre_line unit r ps u e =
    let line = dedup same_point (points_of unit r.bytes) in
    let c = long_enough (ltb (length line) 2) (each_step is_manhattan_step line)
    (fault_at PointPath r) (fault_at NotManhattan r) line ps e in
    subst IsLine c.2 (record {
      points = ltb-false _ _ c.0;
      segments = joined_steps line c.1 (apart_all (points_of unit r.bytes));
      within_reach = All-from_recursion IsPointWithinReach line
          (dedup_all IsPointWithinReach same_point (points_of unit r.bytes)
          (points_all unit r.bytes u));
    })

-- ---- the other values

pub near_point : (p : Point) → IsNear p → IsPointWithinReach p
near_point p h =
    record { x = near_reach p.x (omega (arith, h.x)); y = near_reach p.y (omega (arith, h.y)) }

pub zero_reach : IsWithinReach (pos 0)
zero_reach = near_reach (pos 0) (omega arith)

pub no_step : IsPointWithinReach no_point
no_step = record { x = zero_reach; y = zero_reach }

even : (n : ℕ) → eqb (n % 2) 0 ≡ true → n ≡ 2 * (n / 2)
even n e = let h = eqb-true (n % 2) 0 e in omega (arith, h)

pub width_is : (unit : ℕ) (r : RawRecord) (z : ℤ) → unit ≤ 1000 → width_of unit r ≡ Ok z → IsWidth z
unfolding width_of
width_is unit r z u e =
    let w = unsigned_abs (scaled unit r.bytes) in
    let c = chosen (eqb (w % 2) 0) (pos w) z (fault_at OddWidth r) e in
    let b = scaled_bound unit r.bytes u in
    subst IsWidth c.1 (record {
      half = w / 2;
      value = ap pos (even w c.0);
      within_reach = near_reach (pos w) (omega (arith, b));
    })

pub no_width : IsWidth (pos 0)
no_width = record { half = 0; value = refl; within_reach = zero_reach }

half_reach : (half : ℕ) (w : ℤ) → w ≡ pos (2 * half) → IsWithinReach w
    → IsWithinReach (int_div w (pos 2))
half_reach half w e h = rw e (let b = rw e at h.below in
    record { above = omega (arith, ints); below = omega (arith, ints, b) })

-- a value within reach is the same in the code
pub kept : (P : ℤ → Type 0) (z : ℤ) → IsWithinReach z → P z → P (to_z w64 (of_z w64 z))
kept P z h p =
    let fits : SFits w64 z = fits_signed_from_abs w64 z (omega (arith, ints, h.above, h.below)) in
    rw (to_z-of_z w64 z fits) p

-- ---- references

count_is : (n : ℕ) → is_count n ≡ true → IsCount n
count_is n e =
    let c = and_both (leb 1 n) (leb n 32767) e in
    record { least = leb-true c.0; most = leb-true c.1 }
  where
    leb-true : {a b : ℕ} → leb a b ≡ true → a ≤ b
    leb-true {a} {b} e = elim (leb_tells a b)
        [ inl p ↦ p.1 | inr p ↦ absurd (let q = sym p.0 ∙ e in cc) ]
