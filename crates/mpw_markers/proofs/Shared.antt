-- Boxes that share points.
use Rattle.std.proofs.Common.{◌≡◌, ℕ, ◌+◌, ◌<◌, ◌≤◌, ℤ, pos, ◌+ℤ◌, ◌-ℤ◌, ◌≤ℤ◌, ◌<ℤ◌, true, Ok, Err, Result, List, [], ◌∷◌, ◌++◌, length, get_or, take, ◌⊎◌, inl, inr, sym, subst, arith}
use Rattle.std.specs.Prelude.{Contains, All, IfOk, ◌↔◌}
use Rattle.std.proofs.lemmas.Int.{ints, by_lt_z}
use Rattle.std.proofs.lemmas.List.{take_more, take_all}
use Rattle.std.proofs.lemmas.List.Elements.{All-contains, Contains-append_left, Contains-push, Contains-push_cases}
use Rattle.mpw_geom.specs.declared.plane.Box2.{Box2}
use Rattle.mpw_geom.specs.declared.plane.Point.{Point}
use Rattle.mpw_geom.specs.Plane.{IsOrdered, HasArea, Square, has_point, has_square, closed_square}
use Rattle.mpw_geom.proofs.Tests.{PointIn, PointIn-from_test, test_from_PointIn, SquareIn-from_test, test_from_SquareIn}
use Rattle.mpw_markers.specs.Met.{IsAscending}
use Rattle.mpw_geom.specs.Meeting.{IsMet}
use Rattle.mpw_markers.specs.declared.search.Rectangle.{Rectangle}
use Rattle.mpw_markers.specs.Origins.{OriginHasSquare}
use Rattle.mpw_markers.specs.Internal.Search.{SharePoint, IsMetBy, IsAnswer, Answers, IsWithin, AreAlikeIn}

-- ---- squares and points

in_square : (s : Square) (p : Point) → has_point (closed_square s) p ≡ true
    → PointIn (record { x0 = s.column; y0 = s.row; x1 = s.column +ℤ pos 1; y1 = s.row +ℤ pos 1 }) p
unfolding closed_square
in_square s p t = PointIn-from_test
    (record { x0 = s.column; y0 = s.row; x1 = s.column +ℤ pos 1; y1 = s.row +ℤ pos 1 }) p t

from_square : (s : Square) (p : Point)
    → PointIn (record { x0 = s.column; y0 = s.row; x1 = s.column +ℤ pos 1; y1 = s.row +ℤ pos 1 }) p
    → has_point (closed_square s) p ≡ true
unfolding closed_square
from_square s p i = test_from_PointIn
    (record { x0 = s.column; y0 = s.row; x1 = s.column +ℤ pos 1; y1 = s.row +ℤ pos 1 }) p i

-- a position of a closed interval lies in one of its unit steps
step_of : (from to z : ℤ) → from <ℤ to → from ≤ℤ z → z ≤ℤ to → (i : ℤ) × (from ≤ℤ i) × (i <ℤ to)
    × (i ≤ℤ z) × (z ≤ℤ (i +ℤ pos 1))
step_of from to z f l u = by_lt_z z to
    (λ less. (z, l, less, omega (arith, ints), omega (arith, ints)))
    (λ more. (
      to -ℤ pos 1,
      omega (arith, ints, f),
      omega (arith, ints),
      omega (arith, ints, more),
      omega (arith, ints, u),
    ))

-- a point of a box with area is one of a closed unit square of it
square_at : (area : Box2) (p : Point) → HasArea area → has_point area p ≡ true
    → (s : Square) × (has_square area s ≡ true) × (has_point (closed_square s) p ≡ true)
square_at area p h t =
    let i = PointIn-from_test area p t in
    let x = step_of area.x0 area.x1 p.x h.width i.left i.right in
    let y = step_of area.y0 area.y1 p.y h.height i.bottom i.top in
    let s : Square = record { column = x.0; row = y.0 } in (
      s,
      test_from_SquareIn area s (record { left = x.1; right = x.2; bottom = y.1; top = y.2 }),
      from_square s p (record { left = x.3; right = x.4; bottom = y.3; top = y.4 }),
    )

-- a point of a closed unit square of a box is one of the closed box
point_of : (area : Box2) (s : Square) (p : Point) → has_square area s ≡ true
    → has_point (closed_square s) p ≡ true → has_point area p ≡ true
point_of area s p t u =
    let i = SquareIn-from_test area s t in
    let j = in_square s p u in
    test_from_PointIn area p (record {
      left = (let a = i.left in let b = j.left in omega (arith, ints));
      right = (let a = i.right in let b = j.right in omega (arith, ints));
      bottom = (let a = i.bottom in let b = j.bottom in omega (arith, ints));
      top = (let a = i.top in let b = j.top in omega (arith, ints));
    })

-- touching a box by closed unit squares, and by closed areas, is the same
pub met_is : (rectangles : List Rectangle) (b : Box2) (origin : ℕ)
    → All (λ (r : Rectangle). HasArea r.area) rectangles → IsMetBy rectangles b origin
    ↔ IsMet (OriginHasSquare rectangles) b origin
met_is rectangles b origin h = (
  λ m.
      let q = square_at m.0.area m.3.0 (All-contains (λ (r : Rectangle). HasArea r.area) rectangles
      m.0 h m.1) m.3.1 in
      (q.0, (m.0, m.1, m.2, q.1), (m.3.0, q.2, m.3.2)),
  λ m. (m.1.0, m.1.1, m.1.2, (m.2.0, point_of m.1.0.area m.0 m.2.0 m.1.3 m.2.1, m.2.2)),
)

-- ---- rectangles and a hull

-- a box that contains the hull touches each box in it
pub around : (area hull b : Box2) → IsWithin hull area → IsOrdered b → IsWithin b hull
    → SharePoint area b
around area hull b f o g =
    let p : Point = record { x = b.x0; y = b.y0 } in
    let ox = o.x in
    let oy = o.y in (
      p,
      test_from_PointIn area p (record {
        left = (let a = f.left in let c = g.left in omega (arith, ints));
        right = (let a = f.right in let c = g.right in omega (arith, ints));
        bottom = (let a = f.bottom in let c = g.bottom in omega (arith, ints));
        top = (let a = f.top in let c = g.top in omega (arith, ints));
      }),
      test_from_PointIn b p (record {
        left = omega (arith, ints);
        right = omega (arith, ints);
        bottom = omega (arith, ints);
        top = omega (arith, ints);
      }),
    )

-- what touches a box in the hull touches the hull
pub meets_hull : (area hull b : Box2) → IsWithin b hull → SharePoint area b → SharePoint area hull
meets_hull area hull b g s =
    let i = PointIn-from_test b s.0 s.2 in (
      s.0,
      s.1,
      test_from_PointIn hull s.0 (record {
        left = (let a = i.left in let c = g.left in omega (arith, ints));
        right = (let a = i.right in let c = g.right in omega (arith, ints));
        bottom = (let a = i.bottom in let c = g.bottom in omega (arith, ints));
        top = (let a = i.top in let c = g.top in omega (arith, ints));
      }),
    )

-- ---- one rectangle more

abbrev Met : Box2 → ℕ → Rectangle → Type 0
Met b origin r = (r.origin ≡ origin) × SharePoint r.area b

met_left : (rs : List Rectangle) (r : Rectangle) (b : Box2) (origin : ℕ) → IsMetBy rs b origin
    → IsMetBy (rs ++ r ∷ []) b origin
met_left rs r b origin m = (m.0, Contains-append_left rs (r ∷ []) m.0 m.1, m.2, m.3)

met_new : (rs : List Rectangle) (r : Rectangle) (b : Box2) (origin : ℕ) → Met b origin r
    → IsMetBy (rs ++ r ∷ []) b origin
met_new rs r b origin m = (r, Contains-push rs r, m.0, m.1)

met_cases : (rs : List Rectangle) (r : Rectangle) (b : Box2) (origin : ℕ)
    → IsMetBy (rs ++ r ∷ []) b origin → IsMetBy rs b origin ⊎ Met b origin r
met_cases rs r b origin m = elim (Contains-push_cases rs r m.0 m.1) [
  | inl c ↦ inl (m.0, c, m.2, m.3)
  | inr e ↦ inr (subst (Met b origin) (sym e) (m.2, m.3))
]

-- the rectangle contains the hull: its origin is common
pub alike_common : (hull : Box2) (common found : List ℕ) (done some : List Rectangle)
    (r : Rectangle) → AreAlikeIn hull common found done some → IsWithin hull r.area
    → AreAlikeIn hull common (found ++ r.origin ∷ []) (done ++ r ∷ []) some
alike_common hull common found done some r h w b origin o i = (to, from)
  where
    old : IsAnswer common done b origin → IsAnswer common (done ++ r ∷ []) b origin
    old (inl c) = inl c
    old (inr m) = inr (met_left done r b origin m)

    to : IsAnswer (found ++ r.origin ∷ []) some b origin → IsAnswer common (done ++ r ∷ []) b origin
    to (inl c) = elim (Contains-push_cases found r.origin origin c) [
      | inl d ↦ old ((h b origin o i).0 (inl d))
      | inr e ↦ inr (met_new done r b origin (e, around r.area hull b w o i))
    ]
    to (inr m) = old ((h b origin o i).0 (inr m))

    longer : IsAnswer found some b origin → IsAnswer (found ++ r.origin ∷ []) some b origin
    longer (inl c) = inl (Contains-append_left found (r.origin ∷ []) origin c)
    longer (inr m) = inr m

    from : IsAnswer common (done ++ r ∷ []) b origin
        → IsAnswer (found ++ r.origin ∷ []) some b origin
    from (inl c) = longer ((h b origin o i).1 (inl c))
    from (inr m) = elim (met_cases done r b origin m) [
      | inl l ↦ longer ((h b origin o i).1 (inr l))
      | inr n ↦ inl (subst (λ (k : ℕ). Contains (found ++ r.origin ∷ []) k) n.0
          (Contains-push found r.origin))
    ]

-- the rectangle may touch some: it stays
pub alike_some : (hull : Box2) (common found : List ℕ) (done some : List Rectangle) (r : Rectangle)
    → AreAlikeIn hull common found done some
    → AreAlikeIn hull common found (done ++ r ∷ []) (some ++ r ∷ [])
alike_some hull common found done some r h b origin o i = (to, from)
  where
    old : IsAnswer common done b origin → IsAnswer common (done ++ r ∷ []) b origin
    old (inl c) = inl c
    old (inr m) = inr (met_left done r b origin m)

    to : IsAnswer found (some ++ r ∷ []) b origin → IsAnswer common (done ++ r ∷ []) b origin
    to (inl c) = old ((h b origin o i).0 (inl c))
    to (inr m) = elim (met_cases some r b origin m) [
      | inl l ↦ old ((h b origin o i).0 (inr l))
      | inr n ↦ inr (met_new done r b origin n)
    ]

    longer : IsAnswer found some b origin → IsAnswer found (some ++ r ∷ []) b origin
    longer (inl c) = inl c
    longer (inr m) = inr (met_left some r b origin m)

    from : IsAnswer common (done ++ r ∷ []) b origin → IsAnswer found (some ++ r ∷ []) b origin
    from (inl c) = longer ((h b origin o i).1 (inl c))
    from (inr m) = elim (met_cases done r b origin m) [
      | inl l ↦ longer ((h b origin o i).1 (inr l))
      | inr n ↦ inr (met_new some r b origin n)
    ]

-- the rectangle touches none: it is left out
pub alike_none : (hull : Box2) (common found : List ℕ) (done some : List Rectangle) (r : Rectangle)
    → AreAlikeIn hull common found done some → (SharePoint r.area hull → ⊥)
    → AreAlikeIn hull common found (done ++ r ∷ []) some
alike_none hull common found done some r h apart b origin o i = (to, from)
  where
    to : IsAnswer found some b origin → IsAnswer common (done ++ r ∷ []) b origin
    to a = elim ((h b origin o i).0 a) [ inl c ↦ inl c | inr m ↦ inr (met_left done r b origin m) ]

    from : IsAnswer common (done ++ r ∷ []) b origin → IsAnswer found some b origin
    from (inl c) = (h b origin o i).1 (inl c)
    from (inr m) = elim (met_cases done r b origin m) [
      | inl l ↦ (h b origin o i).1 (inr l)
      | inr n
          ↦ absurd (apart (meets_hull r.area hull b i n.1))
    ]

-- ---- the numbers of one box

-- the numbers so far are those of the rectangles so far
pub record Collects (common : List ℕ) (done : List Rectangle) (b : Box2) (numbers : List ℕ) :
    Type 0 where
  pub exact : (origin : ℕ) → Contains numbers origin ↔ IsAnswer common done b origin

pub Collects-met : (common : List ℕ) (done : List Rectangle) (b : Box2) (numbers : List ℕ)
    (r : Rectangle) → Collects common done b numbers → SharePoint r.area b
    → Collects common (done ++ r ∷ []) b (numbers ++ r.origin ∷ [])
Collects-met common done b numbers r h s = record { exact = λ origin. (to origin, from origin) }
  where
    to : (origin : ℕ) → Contains (numbers ++ r.origin ∷ []) origin
        → IsAnswer common (done ++ r ∷ []) b origin
    to origin c = elim (Contains-push_cases numbers r.origin origin c) [
      | inl d ↦ elim ((h.exact origin).0 d)
          [ inl k ↦ inl k | inr m ↦ inr (met_left done r b origin m) ]
      | inr e ↦ inr (met_new done r b origin (e, s))
    ]

    from : (origin : ℕ) → IsAnswer common (done ++ r ∷ []) b origin
        → Contains (numbers ++ r.origin ∷ []) origin
    from origin (inl c) = Contains-append_left numbers (r.origin ∷ []) origin
        ((h.exact origin).1 (inl c))
    from origin (inr m) = elim (met_cases done r b origin m) [
      | inl l ↦ Contains-append_left numbers (r.origin ∷ []) origin ((h.exact origin).1 (inr l))
      | inr n ↦ subst (λ (k : ℕ). Contains (numbers ++ r.origin ∷ []) k) n.0
          (Contains-push numbers r.origin)
    ]

-- a rectangle whose origin is there already, if it touches the box
Collects-kept : (common : List ℕ) (done : List Rectangle) (b : Box2) (numbers : List ℕ)
    (r : Rectangle) → Collects common done b numbers
    → (SharePoint r.area b → Contains numbers r.origin) → Collects common (done ++ r ∷ []) b numbers
Collects-kept common done b numbers r h told =
    record { exact = λ origin. (λ c. to origin ((h.exact origin).0 c), from origin) }
  where
    to : (origin : ℕ) → IsAnswer common done b origin → IsAnswer common (done ++ r ∷ []) b origin
    to origin (inl c) = inl c
    to origin (inr m) = inr (met_left done r b origin m)

    from : (origin : ℕ) → IsAnswer common (done ++ r ∷ []) b origin → Contains numbers origin
    from origin (inl c) = (h.exact origin).1 (inl c)
    from origin (inr m) = elim (met_cases done r b origin m) [
      | inl l ↦ (h.exact origin).1 (inr l)
      | inr n ↦ subst (λ (k : ℕ). Contains numbers k) n.0 (told n.1)
    ]

pub Collects-apart : (common : List ℕ) (done : List Rectangle) (b : Box2) (numbers : List ℕ)
    (r : Rectangle) → Collects common done b numbers → (SharePoint r.area b → ⊥)
    → Collects common (done ++ r ∷ []) b numbers
Collects-apart common done b numbers r h apart =
    Collects-kept common done b numbers r h (λ s. absurd (apart s))

pub Collects-told : (common : List ℕ) (done : List Rectangle) (b : Box2) (numbers : List ℕ)
    (r : Rectangle) → Collects common done b numbers → Contains numbers r.origin
    → Collects common (done ++ r ∷ []) b numbers
Collects-told common done b numbers r h told =
    Collects-kept common done b numbers r h (λ s. told)

-- ---- along the code's list

abbrev pub no_rectangle : Rectangle
no_rectangle =
    record { area = record { x0 = pos 0; y0 = pos 0; x1 = pos 0; y1 = pos 0 }; origin = 0 }

abbrev pub rectangle_at : List Rectangle → ℕ → Rectangle
rectangle_at rs n = get_or rs n no_rectangle

pub near_common : (hull : Box2) (common found new : List ℕ) (rs : List Rectangle) (n : ℕ)
    (some other : List Rectangle) → n < length rs → AreAlikeIn hull common found (take n rs) some
    → IsWithin hull (rectangle_at rs n).area → new ≡ found ++ (rectangle_at rs n).origin ∷ []
    → other ≡ some → AreAlikeIn hull common new (take (n + 1) rs) other
near_common hull common found new rs n some other l h w e f =
    subst (λ (xs : List ℕ). AreAlikeIn hull common xs (take (n + 1) rs) other) (sym e)
    (subst (λ (ys : List Rectangle). AreAlikeIn hull common (found ++ (rectangle_at rs n).origin
    ∷ []) (take (n + 1) rs) ys) (sym f)
    (subst (λ (ys : List Rectangle). AreAlikeIn hull common (found ++ (rectangle_at rs n).origin
    ∷ []) ys some) (sym (take_more rs n no_rectangle l))
    (alike_common hull common found (take n rs) some (rectangle_at rs n) h w)))

pub near_some : (hull : Box2) (common found new : List ℕ) (rs : List Rectangle) (n : ℕ)
    (some other : List Rectangle) → n < length rs → AreAlikeIn hull common found (take n rs) some
    → new ≡ found → other ≡ some ++ rectangle_at rs n ∷ []
    → AreAlikeIn hull common new (take (n + 1) rs) other
near_some hull common found new rs n some other l h e f =
    subst (λ (xs : List ℕ). AreAlikeIn hull common xs (take (n + 1) rs) other) (sym e)
    (subst (λ (ys : List Rectangle). AreAlikeIn hull common found (take (n + 1) rs) ys) (sym f)
    (subst (λ (ys : List Rectangle). AreAlikeIn hull common found ys
    (some ++ rectangle_at rs n ∷ [])) (sym (take_more rs n no_rectangle l))
    (alike_some hull common found (take n rs) some (rectangle_at rs n) h)))

pub near_none : (hull : Box2) (common found new : List ℕ) (rs : List Rectangle) (n : ℕ)
    (some other : List Rectangle) → n < length rs → AreAlikeIn hull common found (take n rs) some
    → (SharePoint (rectangle_at rs n).area hull → ⊥) → new ≡ found → other ≡ some
    → AreAlikeIn hull common new (take (n + 1) rs) other
near_none hull common found new rs n some other l h a e f =
    subst (λ (xs : List ℕ). AreAlikeIn hull common xs (take (n + 1) rs) other) (sym e)
    (subst (λ (ys : List Rectangle). AreAlikeIn hull common found (take (n + 1) rs) ys) (sym f)
    (subst (λ (ys : List Rectangle). AreAlikeIn hull common found ys some)
    (sym (take_more rs n no_rectangle l))
    (alike_none hull common found (take n rs) some (rectangle_at rs n) h a)))

pub near_end : (hull : Box2) (common found : List ℕ) (rs : List Rectangle) (n : ℕ)
    (some : List Rectangle) → length rs ≤ n → AreAlikeIn hull common found (take n rs) some
    → AreAlikeIn hull common found rs some
near_end hull common found rs n some l h =
    subst (λ (ys : List Rectangle). AreAlikeIn hull common found ys some) (take_all n rs l) h

pub collects_met : (common : List ℕ) (rs : List Rectangle) (n : ℕ) (b : Box2) (numbers new : List ℕ)
    → n < length rs → Collects common (take n rs) b numbers → SharePoint (rectangle_at rs n).area b
    → new ≡ numbers ++ (rectangle_at rs n).origin ∷ [] → Collects common (take (n + 1) rs) b new
collects_met common rs n b numbers new l h s e =
    subst (Collects common (take (n + 1) rs) b) (sym e)
    (subst (λ (ys : List Rectangle). Collects common ys b (numbers ++ (rectangle_at rs n).origin
    ∷ [])) (sym (take_more rs n no_rectangle l))
    (Collects-met common (take n rs) b numbers (rectangle_at rs n) h s))

pub collects_apart : (common : List ℕ) (rs : List Rectangle) (n : ℕ) (b : Box2)
    (numbers new : List ℕ) → n < length rs → Collects common (take n rs) b numbers
    → (SharePoint (rectangle_at rs n).area b → ⊥) → new ≡ numbers
    → Collects common (take (n + 1) rs) b new
collects_apart common rs n b numbers new l h s e =
    subst (Collects common (take (n + 1) rs) b) (sym e)
    (subst (λ (ys : List Rectangle). Collects common ys b numbers)
    (sym (take_more rs n no_rectangle l))
    (Collects-apart common (take n rs) b numbers (rectangle_at rs n) h s))

pub collects_passed : (common : List ℕ) (rs : List Rectangle) (n : ℕ) (b : Box2)
    (numbers seen new : List ℕ) → n < length rs → Collects common (take n rs) b numbers
    → seen ≡ numbers
    → Contains seen (rectangle_at rs n).origin ⊎ (SharePoint (rectangle_at rs n).area b → ⊥)
    → new ≡ numbers → Collects common (take (n + 1) rs) b new
collects_passed common rs n b numbers seen new l h same (inl told) e =
    subst (Collects common (take (n + 1) rs) b) (sym e)
    (subst (λ (ys : List Rectangle). Collects common ys b numbers)
    (sym (take_more rs n no_rectangle l))
    (Collects-told common (take n rs) b numbers (rectangle_at rs n) h
    (subst (λ (ns : List ℕ). Contains ns (rectangle_at rs n).origin) same told)))
collects_passed common rs n b numbers seen new l h same (inr apart) e =
    collects_apart common rs n b numbers new l h apart e

pub collects_end : (common : List ℕ) (rs : List Rectangle) (n : ℕ) (b : Box2) (numbers : List ℕ)
    → length rs ≤ n → Collects common (take n rs) b numbers → Collects common rs b numbers
collects_end common rs n b numbers l h =
    subst (λ (ys : List Rectangle). Collects common ys b numbers) (take_all n rs l) h

-- the sorted numbers
pub answered : {E : Type 0} (common : List ℕ) (rs : List Rectangle) (b : Box2) (numbers : List ℕ)
    (r : Result (List ℕ) E) → Collects common rs b numbers → IfOk r (λ met. IsAscending met)
    → IfOk r (λ met. (n : ℕ) → Contains met n ↔ Contains numbers n)
    → IfOk r (λ met. Answers common rs b met)
answered common rs b numbers (Ok met) h a s =
    record {
      ascending = a;
      exact = λ o. (
        λ c. (h.exact o).0 ((s o).0 c),
        λ c. (s o).1 ((h.exact o).1 c),
      );
    }
answered common rs b numbers (Err e) h a s = tt

-- the same origins, each once
pub near_same : (hull : Box2) (common found met : List ℕ) (rs some : List Rectangle)
    → AreAlikeIn hull common found rs some → ((n : ℕ) → Contains met n ↔ Contains found n)
    → AreAlikeIn hull common met rs some
near_same hull common found met rs some h same b origin o i = (to, from)
  where
    to : IsAnswer met some b origin → IsAnswer common rs b origin
    to (inl c) = (h b origin o i).0 (inl ((same origin).0 c))
    to (inr m) = (h b origin o i).0 (inr m)

    from : IsAnswer common rs b origin → IsAnswer met some b origin
    from a = elim ((h b origin o i).1 a) [ inl c ↦ inl ((same origin).1 c) | inr m ↦ inr m ]
