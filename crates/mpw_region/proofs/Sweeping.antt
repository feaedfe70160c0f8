-- The bands of a sweep have the squares of the boxes.
use Rattle.std.proofs.Common.{◌≡◌, ℤ, ◌≤ℤ◌, ◌<ℤ◌, List, [], drop, map, ◌⊎◌, inl, inr, subst, sym, ap, arith}
use Rattle.std.specs.Prelude.{◌↔◌, All, AllPairs, Contains}
use Rattle.std.specs.List.Sorted.{IsPermutation}
use Rattle.std.proofs.lemmas.Int.{ints, by_lt_z}
use Rattle.std.proofs.lemmas.List.Elements.{All-nil, All-contains}
use Rattle.std.proofs.lemmas.List.Sorted.{Contains-permutation, IsPermutation-sym}
use Rattle.mpw_geom.specs.declared.plane.Box2.{Box2}
use Rattle.mpw_geom.specs.Plane.{HasArea}
use Rattle.mpw_geom.proofs.Tests.{same_squares}
use Rattle.mpw_geom.proofs.Squares.{SquareInSome, any_has_square-same, any_has_square-map}
use Rattle.mpw_region.specs.declared.merge.Rows.{Rows}
use Rattle.mpw_region.specs.declared.sweep.Sweep.{Sweep}
use Rattle.mpw_region.specs.Squares.{covers}
use Rattle.mpw_region.specs.Exchange.{exchanged_box}
use Rattle.mpw_region.specs.Internal.Sweep.{HasRow, HoldsJust, BeginsLeft, IsSweep}
use Rattle.mpw_region.specs.Internal.Swept.{HoldsSquare, IsCovered, IsInBand, HasNoBorderWithin, AddsBand, IsSweptTo, SweepsUp}
use Rattle.mpw_region.proofs.Held.{Held-nil}

-- ---- one band more

-- a box that has one row between two borders has them all
row_between : (rows : Rows) (b : Box2) (j : ℤ) → HasNoBorderWithin rows b → rows.y0 ≤ℤ j
    → j <ℤ rows.y1 → b.y0 ≤ℤ j → j <ℤ b.y1 → (b.y0 ≤ℤ rows.y0) × (rows.y1 ≤ℤ b.y1)
row_between rows b j n l u low high = (
  elim n.0 [ inl e ↦ e | inr e ↦ absurd (omega (arith, ints, e, u, low)) ],
  elim n.1 [ inl e ↦ absurd (omega (arith, ints, e, l, high)) | inr e ↦ e ],
)

pub IsSweptTo-more : (boxes active out new : List Box2) (rows : Rows) → rows.y0 <ℤ rows.y1
    → All (HasNoBorderWithin rows) boxes → HoldsJust boxes (λ b. HasRow b rows.y0) active
    → IsSweptTo boxes out rows.y0 → AddsBand out new active rows → IsSweptTo boxes new rows.y1
IsSweptTo-more boxes active out new rows up between just h added = record {
  squares = λ i j. (λ c. to i j ((added.squares i j).0 c), λ s. (added.squares i j).1 (from i j s));
  banded = added.banded;
  below = added.below;
}
  where
    of : (b : Box2) → Contains boxes b → HasNoBorderWithin rows b
    of b c = All-contains (HasNoBorderWithin rows) boxes b between c

    to : (i j : ℤ) → IsCovered out i j ⊎ IsInBand rows active i j → IsCovered boxes i j
        × (j <ℤ rows.y1)
    to i j (inl c) = let s = (h.squares i j).0 c in (s.0, omega (arith, ints, s.1, up))
    to i j (inr w) =
        let s = just.sound w.1.0 w.1.1 in
        let rest =
        row_between rows w.1.0 rows.y0 (of w.1.0 s.0) (omega (arith, ints)) up s.1.0 s.1.1 in (
          (
            w.1.0,
            s.0,
            (
              w.1.2.0,
              w.1.2.1,
              omega (arith, ints, rest.0, w.0.0),
              omega (arith, ints, rest.1, w.0.1),
            ),
          ),
          w.0.1,
        )

    from : (i j : ℤ) → IsCovered boxes i j × (j <ℤ rows.y1)
        → IsCovered out i j ⊎ IsInBand rows active i j
    from i j s =
        by_lt_z j rows.y0
        (λ l. inl ((h.squares i j).1 (s.0, l)))
        (λ l.
        let rest = row_between rows s.0.0 j (of s.0.0 s.0.1) l s.1 s.0.2.2 s.0.2.3 in
        inr (
          (l, s.1),
          (
            s.0.0,
            just.complete s.0.0 s.0.1 (rest.0, omega (arith, ints, rest.1, up)),
            (s.0.2.0, s.0.2.1),
          ),
        ))

-- ---- the whole sweep

-- a step up to a row, and its effect on the sweep
pub record StepsTo (old s : Sweep) (at : ℤ) : Type 0 where
  pub sweep : IsSweep s
  pub row : s.row ≡ at
  pub boxes : s.boxes ≡ old.boxes
  pub ahead : All (λ b. at <ℤ b.y0) (drop s.next old.boxes.items)
  pub exact : HoldsJust old.boxes.items (λ b. HasRow b at) s.active.items
  pub ordered : AllPairs BeginsLeft s.active.items

swept_up : (old s : Sweep) (out : List Box2) (at : ℤ) → StepsTo old s at
    → All HasArea old.boxes.items → IsSweptTo old.boxes.items out at → SweepsUp s out
swept_up old s out at h filled swept = record {
  sweeps = h.sweep;
  ahead = subst (λ (z : ℤ). All (λ b. z <ℤ b.y0) (drop s.next s.boxes.items)) row
      (subst (λ (bs : List Box2). All (λ b. at <ℤ b.y0) (drop s.next bs)) items h.ahead);
  exact = subst (λ (z : ℤ). HoldsJust s.boxes.items (λ b. HasRow b z) s.active.items) row
      (subst (λ (bs : List Box2). HoldsJust bs (λ b. HasRow b at) s.active.items) items h.exact);
  ordered = h.ordered;
  filled = subst (λ (bs : List Box2). All HasArea bs) items filled;
  swept = subst (λ (z : ℤ). IsSweptTo s.boxes.items out z) row
      (subst (λ (bs : List Box2). IsSweptTo bs out at) items swept);
}
  where
    row : at ≡ s.row
    row = sym h.row

    items : old.boxes.items ≡ s.boxes.items
    items = ap (λ v. v.items) (sym h.boxes)

-- before the first band
pub SweepsUp-start : (old s : Sweep) (at : ℤ) → StepsTo old s at → All HasArea old.boxes.items
    → All (λ b. at ≤ℤ b.y0) old.boxes.items → SweepsUp s []
SweepsUp-start old s at h filled least = swept_up old s [] at h filled (record {
  squares =
      λ i j. (λ c. absurd (Held-nil (λ b. HoldsSquare b i j) c), λ p. absurd (below i j p.0 p.1));
  banded = record { filled = All-nil HasArea; ordered = λ i j d l b. absurd (omega arith) };
  below = All-nil (λ b. b.y1 ≤ℤ at);
})
  where
    below : (i j : ℤ) → IsCovered old.boxes.items i j → j <ℤ at → ⊥
    below i j c l =
        let f = All-contains (λ (b : Box2). at ≤ℤ b.y0) old.boxes.items c.0 least c.1 in
        omega (arith, ints, f, l, c.2.2)

-- the next band
pub SweepsUp-more : (old s : Sweep) (out new : List Box2) (at : ℤ) → SweepsUp old out
    → old.row <ℤ at → All (HasNoBorderWithin (record { y0 = old.row; y1 = at })) old.boxes.items
    → AddsBand out new old.active.items (record { y0 = old.row; y1 = at }) → StepsTo old s at
    → SweepsUp s new
SweepsUp-more old s out new at up l between added h = swept_up old s new at h up.filled
    (IsSweptTo-more old.boxes.items old.active.items out new (record { y0 = old.row; y1 = at }) l
    between up.exact up.swept added)

-- if all boxes have ended
pub SweepsUp-end : (boxes out : List Box2) (s : Sweep) → IsPermutation boxes s.boxes.items
    → SweepsUp s out → All (λ b. b.y1 ≤ℤ s.row) s.boxes.items → (i j : ℤ)
    → IsCovered out i j ↔ IsCovered boxes i j
SweepsUp-end boxes out s m up ended i j = (
  λ c. moved ((up.swept.squares i j).0 c).0,
  λ c. (up.swept.squares i j).1
      (back c, below (back c)),
)
  where
    moved : IsCovered s.boxes.items i j → IsCovered boxes i j
    moved c = (
      c.0,
      Contains-permutation s.boxes.items boxes c.0 (IsPermutation-sym boxes s.boxes.items m) c.1,
      c.2,
    )

    back : IsCovered boxes i j → IsCovered s.boxes.items i j
    back c = (c.0, Contains-permutation boxes s.boxes.items c.0 m c.1, c.2)

    below : IsCovered s.boxes.items i j → j <ℤ s.row
    below c =
        let f = All-contains (λ (b : Box2). b.y1 ≤ℤ s.row) s.boxes.items c.0 ended c.1 in
        omega (arith, ints, f, c.2.3)

-- ---- coverage as a test

pub in_some : (boxes : List Box2) (i j : ℤ) → IsCovered boxes i j
    → SquareInSome boxes (record { column = i; row = j })
in_some boxes i j c =
    (c.0, c.1, record { left = c.2.0; right = c.2.1; bottom = c.2.2; top = c.2.3 })

pub from_some : (boxes : List Box2) (i j : ℤ) → SquareInSome boxes (record { column = i; row = j })
    → IsCovered boxes i j
from_some boxes i j c = (c.0, c.1, (c.2.left, c.2.right, c.2.bottom, c.2.top))

pub covers-same : (xs ys : List Box2) → ((i j : ℤ) → IsCovered xs i j ↔ IsCovered ys i j)
    → (i j : ℤ) → covers xs i j ≡ covers ys i j
covers-same xs ys h i j =
    any_has_square-same xs ys (record { column = i; row = j }) (record { column = i; row = j })
    (λ s. in_some ys i j ((h i j).0 (from_some xs i j s)))
    (λ s. in_some xs i j ((h i j).1 (from_some ys i j s)))

-- boxes without area have no squares
pub covered_by_filled : (boxes kept : List Box2) → HoldsJust boxes HasArea kept → (i j : ℤ)
    → IsCovered kept i j ↔ IsCovered boxes i j
covered_by_filled boxes kept h i j = (
  λ c. (c.0, (h.sound c.0 c.1).0, c.2),
  λ c. (
    c.0,
    h.complete c.0 c.1 (record
        { width = omega (arith, ints, c.2); height = omega (arith, ints, c.2) }),
    c.2,
  ),
)

-- exchanged boxes have the exchanged squares
pub covers-exchanged : (boxes : List Box2) (i j : ℤ)
    → covers (map exchanged_box boxes) i j ≡ covers boxes j i
covers-exchanged boxes i j =
    any_has_square-map exchanged_box (record { column = j; row = i })
    (record { column = i; row = j })
    (λ b. same_squares (exchanged_box b) b (record { column = i; row = j })
    (record { column = j; row = i })
    (λ h. record { left = h.bottom; right = h.top; bottom = h.left; top = h.right })
    (λ h. record { left = h.bottom; right = h.top; bottom = h.left; top = h.right }))
    boxes
