-- Rectangles that are added to the lists of tiles.
use Rattle.std.proofs.Common.{◌≡◌, ℕ, ◌+◌, ◌*◌, ◌≤◌, ◌<◌, true, List, [], ◌∷◌, ◌++◌, length, get_or, take, max, ◌⊎◌, inl, inr, refl, sym, subst, ap, ◌∙◌, arith, get_or-set_same, get_or-set_other}
use Rattle.std.specs.Prelude.{Contains, All, ◌↔◌, ◌≤ℤ◌, slice_set}
use Rattle.std.proofs.lemmas.Bool.{cases_eq, cases_lt}
use Rattle.std.proofs.lemmas.Int.{ints}
use Rattle.std.proofs.lemmas.List.Elements.{Contains-append_left, Contains-push, Contains-push_cases}
use Rattle.std.proofs.lemmas.List.{take_more}
use Rattle.std.proofs.Math.ListN.{length-set}
use Rattle.mpw_region.proofs.Held.{Held-push_left, Held-push_new, Held-push_cases}
use Rattle.mpw_tiles.specs.declared.grid.Block.{Block}
use Rattle.mpw_geom.specs.declared.plane.Layer.{Layer}
use Rattle.mpw_geom.specs.Plane.{Square, has_square}
use Rattle.mpw_geom.proofs.Tests.{SquareIn-from_test}
use Rattle.mpw_tiles.specs.Grid.{Cells, columns, column_of, row_of, IsInBlock, ShareSquare}
use Rattle.mpw_tiles.proofs.Cells.{number_column, number_row, same_number}
use Rattle.mpw_tiles.specs.declared.listing.Rectangle.{Rectangle}
use Rattle.mpw_tiles.specs.Plan.{Tiling, tiles, tile_window}
use Rattle.mpw_tiles.specs.Listing.{IsListed, HasSquareOf}
use Rattle.mpw_tiles.specs.Internal.Listing.{Lists, IsInRow, IsInRows, AddsSquares}
use Rattle.mpw_tiles.proofs.Added.{adds_none, adds_next}

abbrev Tiles : Type 0
Tiles = List (List Rectangle)

pub Lists-none : (old : Tiles) (r : Rectangle) (P : ℕ → Type 0) → ((tile : ℕ) → P tile → ⊥)
    → Lists old old r P
Lists-none old r P none = record {
  count = refl;
  listed = λ tile x. (λ c. inl c, λ p. elim p [ inl c ↦ c | inr q ↦ absurd (none tile q.0) ]);
}

-- one list is longer by the rectangle
pub Lists-at : (old new : Tiles) (n : ℕ) (r : Rectangle) → n < length old
    → new ≡ slice_set old n (get_or old n [] ++ r ∷ []) → Lists old new r (λ tile. tile ≡ n)
Lists-at old new n r h e = record {
  count = ap length e ∙ length-set old n longer;
  listed = λ tile x. elim (cases_eq tile n) [ inl k ↦ same tile x k | inr k ↦ other tile x k ];
}
  where
    longer : List Rectangle
    longer = get_or old n [] ++ r ∷ []

    at_n : get_or new n [] ≡ longer
    at_n = ap (λ (l : Tiles). get_or l n []) e ∙ get_or-set_same old n longer [] h

    same : (tile : ℕ) (x : Rectangle) → tile ≡ n → Contains (get_or new tile []) x
        ↔ (Contains (get_or old tile []) x ⊎ ((tile ≡ n) × (x ≡ r)))
    same tile x k =
        let l : get_or new tile [] ≡ get_or old tile [] ++ r
        ∷ [] = ap (λ (m : ℕ). get_or new m []) k ∙ at_n
        ∙ ap (λ (m : ℕ). get_or old m [] ++ r ∷ []) (sym k) in (
          λ c. elim (Contains-push_cases (get_or old tile []) r x
              (subst (λ (xs : List Rectangle). Contains xs x) l c))
              [ inl d ↦ inl d | inr f ↦ inr (k, sym f) ],
          λ p. subst (λ (xs : List Rectangle). Contains xs x) (sym l) (elim p [
            | inl d ↦ Contains-append_left (get_or old tile []) (r ∷ []) x d
            | inr q ↦ subst (λ (y : Rectangle). Contains (get_or old tile [] ++ r ∷ []) y) (sym q.1)
                (Contains-push (get_or old tile []) r)
          ]),
        )

    other : (tile : ℕ) (x : Rectangle) → (tile ≡ n → ⊥) → Contains (get_or new tile []) x
        ↔ (Contains (get_or old tile []) x ⊎ ((tile ≡ n) × (x ≡ r)))
    other tile x k =
        let l : get_or new tile [] ≡ get_or old tile [] = ap (λ (l : Tiles). get_or l tile []) e
        ∙ get_or-set_other old n tile longer [] k in (
          λ c. inl (subst (λ (xs : List Rectangle). Contains xs x) l c),
          λ p. elim p [
            | inl d ↦ subst (λ (xs : List Rectangle). Contains xs x) (sym l) d
            | inr q
                ↦ absurd (k q.0)
          ],
        )

pub Lists-then : (a b c : Tiles) (r : Rectangle) (P Q : ℕ → Type 0) → Lists a b r P → Lists b c r Q
    → Lists a c r (λ tile. P tile ⊎ Q tile)
Lists-then a b c r P Q f g = record {
  count = g.count ∙ f.count;
  listed = λ tile x. (to tile x, from tile x);
}
  where
    to : (tile : ℕ) (x : Rectangle) → Contains (get_or c tile []) x → Contains (get_or a tile []) x
        ⊎ ((P tile ⊎ Q tile) × (x ≡ r))
    to tile x k = elim ((g.listed tile x).0 k) [
      | inl l ↦ elim ((f.listed tile x).0 l) [ inl m ↦ inl m | inr p ↦ inr (inl p.0, p.1) ]
      | inr q ↦ inr (inr q.0, q.1)
    ]

    from : (tile : ℕ) (x : Rectangle) → Contains (get_or a tile []) x
        ⊎ ((P tile ⊎ Q tile) × (x ≡ r)) → Contains (get_or c tile []) x
    from tile x (inl m) = (g.listed tile x).1 (inl ((f.listed tile x).1 (inl m)))
    from tile x (inr p) = elim p.0 [
      | inl q ↦ (g.listed tile x).1 (inl ((f.listed tile x).1 (inr (q, p.1))))
      | inr q ↦ (g.listed tile x).1 (inr (q, p.1))
    ]

pub Lists-same : (a b : Tiles) (r : Rectangle) (P Q : ℕ → Type 0) → ((tile : ℕ) → P tile ↔ Q tile)
    → Lists a b r P → Lists a b r Q
Lists-same a b r P Q same f = record {
  count = f.count;
  listed = λ tile x. (
    λ k. elim ((f.listed tile x).0 k) [ inl m ↦ inl m | inr p ↦ inr ((same tile).0 p.0, p.1) ],
    λ k. elim k [
      | inl m ↦ (f.listed tile x).1 (inl m)
      | inr p
          ↦ (f.listed tile x).1 (inr ((same tile).1 p.0, p.1))
    ],
  );
}

-- one column more of a row
pub row_more : (g : Cells) (from column row tile : ℕ) → from ≤ column → column < columns g
    → (IsInRow g from column row tile ⊎ (tile ≡ row * columns g + column))
    ↔ IsInRow g from (column + 1) row tile
row_more g from column row tile h u = (to, back)
  where
    to : IsInRow g from column row tile ⊎ (tile ≡ row * columns g + column)
        → IsInRow g from (column + 1) row tile
    to (inl p) = (p.0, let q = p.1 in omega arith, p.2)
    to (inr e) =
        let c : column_of g tile ≡ column = ap (λ (n : ℕ). column_of g n) e
        ∙ number_column g column row u in
        let r : row_of g tile ≡ row = ap (λ (n : ℕ). row_of g n) e ∙ number_row g column row u in
        (omega arith, omega arith, r)

    back : IsInRow g from (column + 1) row tile → IsInRow g from column row tile
        ⊎ (tile ≡ row * columns g + column)
    back p = elim (cases_lt (column_of g tile) column) [
      | inl l ↦ inl (p.0, l, p.2)
      | inr l
          ↦ inr (same_number g tile column row (let q = p.1 in omega arith) p.2)
    ]

-- one row more of a block
pub rows_more : (g : Cells) (block : Block) (row tile : ℕ) → block.row0 ≤ row
    → (IsInRows g block row tile ⊎ IsInRow g block.column0 block.column1 row tile)
    ↔ IsInRows g block (row + 1) tile
rows_more g block row tile h = (to, back)
  where
    to : IsInRows g block row tile ⊎ IsInRow g block.column0 block.column1 row tile
        → IsInRows g block (row + 1) tile
    to (inl p) = (p.0, p.1, p.2, let q = p.3 in omega arith)
    to (inr p) = let e = p.2 in (p.0, p.1, omega arith, omega arith)

    back : IsInRows g block (row + 1) tile → IsInRows g block row tile
        ⊎ IsInRow g block.column0 block.column1 row tile
    back p = elim (cases_lt (row_of g tile) row) [
      | inl l ↦ inl (p.0, p.1, p.2, l)
      | inr l
          ↦ inr (p.0, p.1, let q = p.3 in omega arith)
    ]

-- the cells of no column, and of no row
pub no_column : (g : Cells) (from row tile : ℕ) → IsInRow g from from row tile → ⊥
no_column g from row tile p = let a = p.0 in let b = p.1 in omega arith

pub no_row : (g : Cells) (block : Block) (tile : ℕ) → IsInRows g block block.row0 tile → ⊥
no_row g block tile p = let a = p.2 in let b = p.3 in omega arith

-- if the columns, and the rows, are at their end
pub row_end : (g : Cells) (from column end row tile : ℕ) → end ≤ column → column ≤ max from end
    → IsInRow g from column row tile ↔ IsInRow g from end row tile
row_end g from column end row tile u v = (
  λ p. (p.0, let a = p.0 in let b = p.1 in omega arith, p.2),
  λ p. (p.0, let b = p.1 in omega arith, p.2),
)

pub rows_end : (g : Cells) (block : Block) (row tile : ℕ) → block.row1 ≤ row
    → row ≤ max block.row0 block.row1 → IsInRows g block row tile
    ↔ IsInBlock block (column_of g tile) (row_of g tile)
rows_end g block row tile u v = (
  λ p. record {
    left = p.0;
    right = p.1;
    bottom = p.2;
    top = (let a = p.2 in let b = p.3 in omega arith);
  },
  λ i. (i.left, i.right, i.bottom, let b = i.top in omega arith),
)

-- ---- squares

-- a rectangle that is listed where its block of windows is adds its squares to each window
pub adds_rectangle : (plan : Tiling) (old new : Tiles) (r : Rectangle) (block : Block)
    → length old ≡ tiles plan → Lists old new r
    (λ tile. IsInBlock block (column_of plan.grid tile) (row_of plan.grid tile))
    → ((tile : ℕ) → tile < tiles plan → IsInBlock block (column_of plan.grid tile)
    (row_of plan.grid tile) ↔ ShareSquare (tile_window plan tile) r.area)
    → AddsSquares plan old new (HasSquareOf r)
adds_rectangle plan old new r block count h meets = record {
  count = h.count;
  squares = λ tile s layer origin u w. (to tile s layer origin, from tile s layer origin u w);
  near = λ tile x u c. elim ((h.listed tile x).0 c) [
    | inl k ↦ inl k
    | inr p ↦ inr (subst (λ (y : Rectangle). ShareSquare (tile_window plan tile) y.area) (sym p.1)
        ((meets tile u).0 p.0))
  ];
}
  where
    to : (tile : ℕ) (s : Square) (layer : Layer) (origin : ℕ)
        → IsListed (get_or new tile []) layer origin s
        → IsListed (get_or old tile []) layer origin s ⊎ HasSquareOf r layer origin s
    to tile s layer origin l = elim ((h.listed tile l.0).0 l.1) [
      | inl c ↦ inl (l.0, c, l.2)
      | inr p ↦ inr (subst (λ (x : Rectangle). HasSquareOf x layer origin s) p.1 l.2)
    ]

    from : (tile : ℕ) (s : Square) (layer : Layer) (origin : ℕ) → tile < tiles plan
        → has_square (tile_window plan tile) s ≡ true → IsListed (get_or old tile []) layer origin s
        ⊎ HasSquareOf r layer origin s → IsListed (get_or new tile []) layer origin s
    from tile s layer origin u w (inl l) = (l.0, (h.listed tile l.0).1 (inl l.1), l.2)
    from tile s layer origin u w (inr p) = (
      r,
      (h.listed tile r).1 (inr (
        (meets tile u).1
            (record { square = s; first = w; second = p.has }),
        refl,
      )),
      p,
    )

-- a rectangle without area adds none
pub adds_nothing : (plan : Tiling) (old : Tiles) (r : Rectangle)
    → ((s : Square) → has_square r.area s ≡ true → ⊥) → AddsSquares plan old old (HasSquareOf r)
adds_nothing plan old r none =
    adds_none plan old (HasSquareOf r) (λ layer origin s q. none s q.has)

pub no_width : (r : Rectangle) → r.area.x1 ≤ℤ r.area.x0 → (s : Square) → has_square r.area s ≡ true
    → ⊥
no_width r h s t = let i = SquareIn-from_test r.area s t in omega (arith, ints)

pub no_height : (r : Rectangle) → r.area.y1 ≤ℤ r.area.y0 → (s : Square) → has_square r.area s ≡ true
    → ⊥
no_height r h s t = let i = SquareIn-from_test r.area s t in omega (arith, ints)

-- ---- many rectangles

pub listed_more : (rs : List Rectangle) (i : ℕ) (d : Rectangle) (layer : Layer) (origin : ℕ)
    (s : Square) → i < length rs → (IsListed (take i rs) layer origin s
    ⊎ HasSquareOf (get_or rs i d) layer origin s) ↔ IsListed (take (i + 1) rs) layer origin s
listed_more rs i d layer origin s h = (
  λ p. subst (λ (xs : List Rectangle). IsListed xs layer origin s) (sym (take_more rs i d h))
      (elim p [
        | inl l ↦ Held-push_left (λ (r : Rectangle). HasSquareOf r layer origin s) (take i rs)
            (get_or rs i d) l
        | inr q ↦ Held-push_new (λ (r : Rectangle). HasSquareOf r layer origin s) (take i rs)
            (get_or rs i d) q
      ]),
  λ l. Held-push_cases (λ (r : Rectangle). HasSquareOf r layer origin s) (take i rs) (get_or rs i d)
      (subst (λ (xs : List Rectangle). IsListed xs layer origin s) (take_more rs i d h) l),
)

pub adds_more : (plan : Tiling) (a b c : Tiles) (rs : List Rectangle) (i : ℕ) (d : Rectangle)
    → i < length rs → AddsSquares plan a b (IsListed (take i rs))
    → AddsSquares plan b c (HasSquareOf (get_or rs i d))
    → AddsSquares plan a c (IsListed (take (i + 1) rs))
adds_more plan a b c rs i d h f g =
    adds_next plan a b c (IsListed (take i rs)) (HasSquareOf (get_or rs i d))
    (IsListed (take (i + 1) rs)) (λ tile s layer origin u w. listed_more rs i d layer origin s h) f
    g
