-- Rectangles that are added to the lists of tiles, by the squares that they have in the tiles' windows.
use Rattle.std.proofs.Common.{◌≡◌, ℕ, ◌<◌, true, List, [], length, get_or, ◌⊎◌, inl, inr, refl, sym, subst, ◌∙◌, arith}
use Rattle.std.specs.Prelude.{Contains, All, ◌↔◌}
use Rattle.mpw_region.proofs.Held.{Held-nil}
use Rattle.mpw_geom.specs.declared.plane.Layer.{Layer}
use Rattle.mpw_geom.specs.Plane.{Square, has_square}
use Rattle.mpw_tiles.specs.declared.listing.Rectangle.{Rectangle}
use Rattle.mpw_tiles.specs.Plan.{Tiling, tiles, tile_window}
use Rattle.mpw_tiles.specs.Listing.{IsListed, HasSquareOf, AreWindowsOf, ListNear}
use Rattle.mpw_tiles.specs.Internal.Listing.{AddsSquares}

abbrev Tiles : Type 0
Tiles = List (List Rectangle)

-- the same in the windows of the plan
abbrev pub AgreeInWindows : Tiling → (Layer → ℕ → Square → Type 0) → (Layer → ℕ → Square → Type 0)
    → Type 0
AgreeInWindows plan P Q = (tile : ℕ) (s : Square) (layer : Layer) (origin : ℕ) → tile < tiles plan
    → has_square (tile_window plan tile) s ≡ true → P layer origin s ↔ Q layer origin s

abbrev pub either : (Layer → ℕ → Square → Type 0) → (Layer → ℕ → Square → Type 0) → Layer → ℕ → Square
    → Type 0
either P Q layer origin s = P layer origin s ⊎ Q layer origin s

-- ---- old squares with more added

pub none_more : {A P : Type 0} → (P → ⊥) → A ↔ (A ⊎ P)
none_more none = (λ a. inl a, λ x. elim x [ inl a ↦ a | inr p ↦ absurd (none p) ])

pub next_more : {A B C P Q R : Type 0} → (P ⊎ Q) ↔ R → B ↔ (A ⊎ P) → C ↔ (B ⊎ Q) → C ↔ (A ⊎ R)
next_more agree f g = (
  λ c. elim (g.0 c) [
    | inl b ↦ elim (f.0 b) [ inl a ↦ inl a | inr p ↦ inr (agree.0 (inl p)) ]
    | inr q ↦ inr (agree.0 (inr q))
  ],
  λ x. elim x [
    | inl a ↦ g.1 (inl (f.1 (inl a)))
    | inr r ↦ elim (agree.1 r) [ inl p ↦ g.1 (inl (f.1 (inr p))) | inr q ↦ g.1 (inr q) ]
  ],
)

pub same_more : {A B P R : Type 0} → P ↔ R → B ↔ (A ⊎ P) → B ↔ (A ⊎ R)
same_more agree f = (
  λ b. elim (f.0 b) [ inl a ↦ inl a | inr p ↦ inr (agree.0 p) ],
  λ x. elim x [ inl a ↦ f.1 (inl a) | inr r ↦ f.1 (inr (agree.1 r)) ],
)

-- ---- the windows of the plan

pub adds_none : (plan : Tiling) (old : Tiles) (P : Layer → ℕ → Square → Type 0)
    → ((layer : Layer) (origin : ℕ) (s : Square) → P layer origin s → ⊥)
    → AddsSquares plan old old P
adds_none plan old P none = record {
  count = refl;
  squares = λ tile s layer origin u w. none_more (none layer origin s);
  near = λ tile x u c. inl c;
}

pub adds_next : (plan : Tiling) (a b c : Tiles) (P Q R : Layer → ℕ → Square → Type 0)
    → AgreeInWindows plan (either P Q) R → AddsSquares plan a b P → AddsSquares plan b c Q
    → AddsSquares plan a c R
adds_next plan a b c P Q R agree f g = record {
  count = g.count ∙ f.count;
  squares = λ tile s layer origin u w.
      next_more (agree tile s layer origin u w) (f.squares tile s layer origin u w)
      (g.squares tile s layer origin u w);
  near = λ tile x u l. elim (g.near tile x u l) [ inl m ↦ f.near tile x u m | inr q ↦ inr q ];
}

pub adds_same : (plan : Tiling) (a b : Tiles) (P R : Layer → ℕ → Square → Type 0)
    → AgreeInWindows plan P R → AddsSquares plan a b P → AddsSquares plan a b R
adds_same plan a b P R agree f = record {
  count = f.count;
  squares = λ tile s layer origin u w.
      same_more (agree tile s layer origin u w) (f.squares tile s layer origin u w);
  near = f.near;
}

-- what was added to empty windows is all that they have
was_empty : (plan : Tiling) (old : Tiles) → length old ≡ tiles plan
    → All (λ (w : List Rectangle). w ≡ []) old → (tile : ℕ) → tile < tiles plan
    → get_or old tile [] ≡ []
was_empty plan old e none tile u = none tile [] (subst (λ (n : ℕ). tile < n) (sym e) u)

pub added_to_none : (plan : Tiling) (old new : Tiles) (P : Layer → ℕ → Square → Type 0)
    → length old ≡ tiles plan → All (λ (w : List Rectangle). w ≡ []) old
    → AddsSquares plan old new P → AreWindowsOf plan P new
added_to_none plan old new P e none f = record {
  count = f.count ∙ e;
  each = λ tile u. record {
    squares = λ s layer origin w. (
      λ l. elim ((f.squares tile s layer origin u w).0 l) [
        | inl k ↦ absurd (Held-nil (λ (r : Rectangle). HasSquareOf r layer origin s)
            (subst (λ (xs : List Rectangle). IsListed xs layer origin s)
            (was_empty plan old e none tile u) k))
        | inr p ↦ p
      ],
      λ p. (f.squares tile s layer origin u w).1 (inr p),
    );
  };
}

pub added_near : (plan : Tiling) (old new : Tiles) (P : Layer → ℕ → Square → Type 0)
    → length old ≡ tiles plan → All (λ (w : List Rectangle). w ≡ []) old
    → AddsSquares plan old new P → ListNear plan new
added_near plan old new P e none f tile r u l = elim (f.near tile r u l) [
  | inl k ↦ absurd (let c = subst (λ (xs : List Rectangle). Contains xs r)
      (was_empty plan old e none tile u) k in omega (arith, c.1))
  | inr q ↦ q
]
