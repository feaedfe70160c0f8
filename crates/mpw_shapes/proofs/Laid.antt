-- The invariant while the boxes of a path are added.
use Rattle.std.proofs.Common.{◌≡◌, refl, sym, ◌∙◌, ◌<◌, ℤ, pos, Bool, true, false, ◌||◌, List, [], ◌∷◌, length, get_or, drop, arith, All}
use Rattle.std.specs.Prelude.{int_div}
use Rattle.std.proofs.lemmas.Int.{ints}
use Rattle.std.proofs.lemmas.List.Elements.{All-drop}
use Rattle.mpw_geom.specs.declared.plane.Box2.{Box2}
use Rattle.mpw_geom.specs.declared.plane.Point.{Point}
use Rattle.mpw_geom.specs.Plane.{Square, HasArea, any_has_square, has_square}
use Rattle.mpw_structures.specs.declared.element.Path.{Path}
use Rattle.mpw_structures.specs.Element.{IsPath, IsWithinReach, IsPointWithinReach}
use Rattle.mpw_shapes.specs.declared.path.Wire.{Wire}
use Rattle.mpw_shapes.specs.Path.{wire_box, wire_boxes, path_has}
use Rattle.mpw_shapes.proofs.Chains.{no_point}

abbrev pub half_of : Path → ℤ
half_of path = int_div path.width (pos 2)

pub half_reach : (path : Path) → IsPath path → IsWithinReach (half_of path)
half_reach path h =
    rw h.width (record {
      above = omega (
        arith,
        ints,
        rw h.width at h.width_within_reach.above,
        rw h.width at h.width_within_reach.below,
      );
      below = omega (
        arith,
        ints,
        rw h.width at h.width_within_reach.above,
        rw h.width at h.width_within_reach.below,
      );
    })

-- the boxes of the path are in the list, except those of the rest of the centre line
pub record Laid (path : Path) (wire : Wire) (rest : List Point) (boxes : List Box2) : Type 0 where
  pub half : wire.half ≡ half_of path
  pub behind : wire.behind ≡ half_of path
  pub before : IsWithinReach wire.before
  pub points : All IsPointWithinReach rest
  pub squares : (s : Square) → (any_has_square boxes s
      || any_has_square (wire_boxes (half_of path) wire.before path.end rest) s) ≡ path_has path s
  pub area : All HasArea boxes

pub laid_none : (path : Path) (wire : Wire) → IsPath path
    → wire ≡ record { half = half_of path; before = path.begin; behind = half_of path }
    → Laid path wire path.points []
unfolding path_has any_has_square
laid_none path wire h e = rw e (record {
  half = refl;
  behind = refl;
  before = h.begin_within_reach;
  points = h.points_within_reach;
  squares = λ s. refl;
  area = λ k d l. absurd (omega (arith, l));
})

or_group : (a b c : Bool) → ((a || b) || c) ≡ (a || (b || c))
or_group true b c = refl
or_group false b c = refl

or_false : (a : Bool) → (a || false) ≡ a
or_false true = refl
or_false false = refl

first_box : (half before end : ℤ) (rest : List Point) (s : Square) → 2 < length rest
    → any_has_square (wire_boxes half before end rest) s
    ≡ (has_square (wire_box half before half (get_or rest 0 no_point) (get_or rest 1 no_point)) s
    || any_has_square (wire_boxes half half end (drop 1 rest)) s)
unfolding wire_boxes any_has_square
first_box half before end [] s h = absurd (omega (arith, h))
first_box half before end (p ∷ []) s h = absurd (omega (arith, h))
first_box half before end (p ∷ q ∷ []) s h = absurd (omega (arith, h))
first_box half before end (p ∷ q ∷ r ∷ ps) s h = refl

last_box : (half before end : ℤ) (rest : List Point) (s : Square) → length rest ≡ 2
    → any_has_square (wire_boxes half before end rest) s
    ≡ (has_square (wire_box half before end (get_or rest 0 no_point) (get_or rest 1 no_point)) s
    || false)
unfolding wire_boxes any_has_square
last_box half before end [] s h = absurd (omega (arith, h))
last_box half before end (p ∷ []) s h = absurd (omega (arith, h))
last_box half before end (p ∷ q ∷ []) s h = refl
last_box half before end (p ∷ q ∷ r ∷ ps) s h = absurd (omega (arith, h))

no_box_left : (half before end : ℤ) (rest : List Point) (s : Square) → length rest < 2
    → any_has_square (wire_boxes half before end rest) s ≡ false
unfolding wire_boxes any_has_square
no_box_left half before end [] s h = refl
no_box_left half before end (p ∷ []) s h = refl
no_box_left half before end (p ∷ q ∷ ps) s h = absurd (omega (arith, h))

pub laid_more : (path : Path) (wire wire' : Wire) (rest : List Point) (boxes boxes' : List Box2)
    (b : Box2) → Laid path wire rest boxes → IsPath path → 2 < length rest
    → b
    ≡ wire_box wire.half wire.before wire.behind (get_or rest 0 no_point) (get_or rest 1 no_point)
    → wire' ≡ record { half = wire.half; before = wire.half; behind = wire.behind }
    → ((s : Square) → any_has_square boxes' s ≡ (any_has_square boxes s || has_square b s))
    → All HasArea boxes' → Laid path wire' (drop 1 rest) boxes'
laid_more path wire wire' rest boxes boxes' b t h more e f added area = rw f (record {
  half = t.half;
  behind = t.behind;
  before = rw t.half (half_reach path h);
  points = All-drop IsPointWithinReach 1 rest t.points;
  squares = λ s.
      rw (added s, e, t.half, t.behind)
      (or_group (any_has_square boxes s)
      (has_square
      (wire_box (half_of path) wire.before (half_of path) (get_or rest 0 no_point)
      (get_or rest 1 no_point)) s)
      (any_has_square (wire_boxes (half_of path) (half_of path) path.end (drop 1 rest)) s)
      ∙ rw (first_box (half_of path) wire.before path.end rest s more) at (t.squares s));
  area = area;
})

pub laid_last : (path : Path) (wire : Wire) (last : Wire) (rest : List Point)
    (boxes boxes' : List Box2) (b : Box2) → Laid path wire rest boxes → length rest ≡ 2
    → b
    ≡ wire_box last.half last.before last.behind (get_or rest 0 no_point) (get_or rest 1 no_point)
    → last ≡ record { half = wire.half; before = wire.before; behind = path.end }
    → ((s : Square) → any_has_square boxes' s ≡ (any_has_square boxes s || has_square b s))
    → (s : Square) → any_has_square boxes' s ≡ path_has path s
laid_last path wire last rest boxes boxes' b t two e f added s =
    rw (added s, e, f, t.half) (rw (
      last_box (half_of path) wire.before path.end rest s two,
      or_false (has_square (wire_box (half_of path) wire.before path.end (get_or rest 0 no_point)
          (get_or rest 1 no_point)) s),
    ) at (t.squares s))

pub laid_all : (path : Path) (wire : Wire) (rest : List Point) (boxes : List Box2)
    → Laid path wire rest boxes → length rest < 2 → (s : Square)
    → any_has_square boxes s ≡ path_has path s
laid_all path wire rest boxes t few s =
    sym (or_false (any_has_square boxes s))
    ∙ rw (no_box_left (half_of path) wire.before path.end rest s few) at (t.squares s)
