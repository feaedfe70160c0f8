-- The parts of boxes in a window have the boxes' squares there.
use Rattle.std.proofs.Common.{◌≡◌, ℕ, ◌+◌, ◌<◌, ◌≤◌, ℤ, List, [], ◌∷◌, ◌++◌, length, get_or, take, inl, inr, subst, sym, arith}
use Rattle.std.specs.Prelude.{◌↔◌}
use Rattle.std.proofs.lemmas.Int.{ints, clamps}
use Rattle.std.proofs.lemmas.List.{take_more, take_all}
use Rattle.mpw_geom.specs.declared.plane.Box2.{Box2}
use Rattle.mpw_geom.specs.Plane.{HasArea, intersection}
use Rattle.mpw_geom.proofs.Squares.{any_has_square-same, no_box}
use Rattle.mpw_region.specs.Squares.{covers}
use Rattle.mpw_region.specs.Internal.Swept.{HoldsSquare, IsCovered}
use Rattle.mpw_region.proofs.Held.{Held-nil, Held-push_left, Held-push_new, Held-push_cases}
use Rattle.mpw_region.proofs.Sweeping.{in_some, from_some}
use Rattle.mpw_edges.specs.Laws.{AreSameIn}

-- the list has exactly the squares of the boxes in the window
pub record ArePartsOf (window : Box2) (boxes list : List Box2) : Type 0 where
  pub squares : (i j : ℤ) → IsCovered list i j ↔ (IsCovered boxes i j × HoldsSquare window i j)

pub ArePartsOf-none : (window : Box2) → ArePartsOf window [] []
ArePartsOf-none window =
    record { squares = λ i j. (λ c. absurd (Held-nil (λ b. HoldsSquare b i j) c), λ p. p.0) }

pub ArePartsOf-push : (window : Box2) (boxes list : List Box2) (n : ℕ) (part : Box2)
    → n < length boxes → ArePartsOf window (take n boxes) list
    → ((i j : ℤ) → HoldsSquare part i j
    ↔ (HoldsSquare (get_or boxes n no_box) i j × HoldsSquare window i j))
    → ArePartsOf window (take (n + 1) boxes) (list ++ part ∷ [])
ArePartsOf-push window boxes list n part l h same =
    subst (λ (bs : List Box2). ArePartsOf window bs (list ++ part ∷ []))
    (sym (take_more boxes n no_box l)) (record { squares = λ i j. (to i j, from i j) })
  where
    to : (i j : ℤ) → IsCovered (list ++ part ∷ []) i j
        → IsCovered (take n boxes ++ get_or boxes n no_box ∷ []) i j × HoldsSquare window i j
    to i j c = elim (Held-push_cases (λ b. HoldsSquare b i j) list part c) [
      | inl old ↦ let s = (h.squares i j).0 old in
          (Held-push_left (λ b. HoldsSquare b i j) (take n boxes) (get_or boxes n no_box) s.0, s.1)
      | inr new ↦ let s = (same i j).0 new in
          (Held-push_new (λ b. HoldsSquare b i j) (take n boxes) (get_or boxes n no_box) s.0, s.1)
    ]

    from : (i j : ℤ) → IsCovered (take n boxes ++ get_or boxes n no_box ∷ []) i j
        × HoldsSquare window i j → IsCovered (list ++ part ∷ []) i j
    from i j p = elim (Held-push_cases (λ b. HoldsSquare b i j) (take n boxes)
        (get_or boxes n no_box) p.0) [
          | inl old ↦ Held-push_left (λ b. HoldsSquare b i j) list part
              ((h.squares i j).1 (old, p.1))
          | inr new ↦ Held-push_new (λ b. HoldsSquare b i j) list part ((same i j).1 (new, p.1))
        ]

pub ArePartsOf-skip : (window : Box2) (boxes list : List Box2) (n : ℕ) (part : Box2)
    → n < length boxes → ArePartsOf window (take n boxes) list
    → ((i j : ℤ) → HoldsSquare part i j
    ↔ (HoldsSquare (get_or boxes n no_box) i j × HoldsSquare window i j)) → (HasArea part → ⊥)
    → ArePartsOf window (take (n + 1) boxes) list
ArePartsOf-skip window boxes list n part l h same empty =
    subst (λ (bs : List Box2). ArePartsOf window bs list) (sym (take_more boxes n no_box l))
    (record { squares = λ i j. (to i j, from i j) })
  where
    to : (i j : ℤ) → IsCovered list i j → IsCovered (take n boxes ++ get_or boxes n no_box ∷ []) i j
        × HoldsSquare window i j
    to i j c = let s = (h.squares i j).0 c in
        (Held-push_left (λ b. HoldsSquare b i j) (take n boxes) (get_or boxes n no_box) s.0, s.1)

    from : (i j : ℤ) → IsCovered (take n boxes ++ get_or boxes n no_box ∷ []) i j
        × HoldsSquare window i j → IsCovered list i j
    from i j p = elim (Held-push_cases (λ b. HoldsSquare b i j) (take n boxes)
        (get_or boxes n no_box) p.0) [
          | inl old ↦ (h.squares i j).1 (old, p.1)
          | inr new ↦ absurd (let s = (same i j).1 (new, p.1) in
              empty (record {
                width = omega (arith, ints, s.0, s.1);
                height = omega (arith, ints, s.2, s.3);
              }))
        ]

pub same_in_window : (window : Box2) (boxes list : List Box2) (n : ℕ) → length boxes ≤ n
    → ArePartsOf window (take n boxes) list → AreSameIn window (covers boxes) (covers list)
same_in_window window boxes list n l h i j a b c d =
    let told : ArePartsOf window boxes list = subst (λ (bs : List Box2). ArePartsOf window bs list)
    (take_all n boxes l) h in
    any_has_square-same boxes list (record { column = i; row = j }) (record { column = i; row = j })
    (λ s. in_some list i j ((told.squares i j).1 (from_some boxes i j s, (a, b, c, d))))
    (λ s. in_some boxes i j ((told.squares i j).0 (from_some list i j s)).0)

pub part_squares : (b window : Box2) (i j : ℤ) → HoldsSquare (intersection b window) i j
    ↔ (HoldsSquare b i j × HoldsSquare window i j)
part_squares b window i j = (
  λ h. (
    (
      omega (arith, ints, clamps, h.0),
      omega (arith, ints, clamps, h.1),
      omega (arith, ints, clamps, h.2),
      omega (arith, ints, clamps, h.3),
    ),
    (
      omega (arith, ints, clamps, h.0),
      omega (arith, ints, clamps, h.1),
      omega (arith, ints, clamps, h.2),
      omega (arith, ints, clamps, h.3),
    ),
  ),
  λ p. (
    omega (arith, ints, clamps, p.0.0, p.1.0),
    omega (arith, ints, clamps, p.0.1, p.1.1),
    omega (arith, ints, clamps, p.0.2, p.1.2),
    omega (arith, ints, clamps, p.0.3, p.1.3),
  ),
)

pub part_is : (b window part : Box2) → part ≡ intersection b window → (i j : ℤ) → HoldsSquare part i j
    ↔ (HoldsSquare b i j × HoldsSquare window i j)
part_is b window part e i j = subst (λ (x : Box2). HoldsSquare x i j
    ↔ (HoldsSquare b i j × HoldsSquare window i j)) (sym e) (part_squares b window i j)
