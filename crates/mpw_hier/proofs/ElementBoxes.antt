-- The box of an element, point by point and rectangle by rectangle.
use Rattle.std.proofs.Common.{◌≡◌, ℕ, suc, ◌+◌, ◌<◌, ◌≤◌, true, false, cond, eqb, ℤ, List, [], ◌∷◌, length, get_or, drop, Option, Some, None, refl, ap, sym, subst, ◌∙◌, All, arith}
use Rattle.std.specs.Prelude.{filter}
use Rattle.std.proofs.lemmas.List.{at_drop_more}
use Rattle.std.proofs.lemmas.List.Elements.{All-drop}
use Rattle.std.proofs.lemmas.Bool.Decides.{nat_tests}
use Rattle.mpw_geom.specs.declared.plane.Box2.{Box2}
use Rattle.mpw_geom.specs.declared.plane.Point.{Point}
use Rattle.mpw_structures.specs.declared.element.Path.{Path}
use Rattle.mpw_structures.specs.declared.element.Element.TheVariants as elements
use Rattle.mpw_structures.specs.Element.{IsPath, IsWithinReach, IsPointWithinReach}
use Rattle.mpw_shapes.specs.declared.path.Wire.{Wire}
use Rattle.mpw_shapes.specs.Path.{wire_box, wire_boxes}
use Rattle.mpw_geom.specs.Plane.{box_at}
use Rattle.mpw_shapes.proofs.Laid.{half_of, half_reach}
use Rattle.mpw_hier.specs.Boxes.{hull, hull_of, hull_of_points, has_area, element_box}
use Rattle.mpw_hier.specs.Internal.SizeParts.{wires_box}
use Rattle.mpw_hier.proofs.Hulls.{hull_assoc, hull_none}

-- one point more
pub points_on : (ps : List Point) (i : ℕ) (p : Point) (extent more whole : Option Box2)
    → i < length ps → p ≡ get_or ps i p → more ≡ hull extent (Some (box_at p))
    → hull extent (hull_of_points (drop i ps)) ≡ whole
    → hull more (hull_of_points (drop (i + 1) ps)) ≡ whole
unfolding hull_of_points
points_on ps i p extent more whole h is added so_far =
    ap (λ o. hull o (hull_of_points (drop (i + 1) ps))) added ∙ hull_assoc extent (Some (box_at p)) _
    ∙ ap (λ q. hull extent (hull (Some (box_at q)) (hull_of_points (drop (i + 1) ps)))) is
    ∙ sym (ap (hull extent) (at_drop_more hull_of_points ps i p h)) ∙ so_far

-- ---- rectangles

abbrev pub kept : Box2 → Option Box2
kept b = cond (has_area b) (Some b) None

kept_on : (b : Box2) (bs : List Box2)
    → hull_of (filter has_area (b ∷ bs)) ≡ hull (kept b) (hull_of (filter has_area bs))
unfolding hull_of
kept_on b bs = elim (has_area b) as
    (λ t. hull_of (cond t (b ∷ filter has_area bs) (filter has_area bs))
    ≡ hull (cond t (Some b) None) (hull_of (filter has_area bs))) [ true ↦ refl | false ↦ refl ]

not_two : (n : ℕ) → eqb (suc (suc (suc n))) 2 ≡ false
not_two n = grind (arith, nat_tests)

-- one rectangle more
pub along_on : (half before end : ℤ) (ps : List Point) (d e : Point) → 2 ≤ length ps
    → wires_box half before end ps ≡ hull
    (kept (wire_box half before (cond (eqb (length ps) 2) end half) (get_or ps 0 d)
    (get_or ps 1 e))) (wires_box half half end (drop 1 ps))
unfolding wire_boxes
along_on half before end [] d e h = absurd (omega (arith, h))
along_on half before end (p ∷ []) d e h = absurd (omega (arith, h))
along_on half before end (p ∷ q ∷ []) d e h = kept_on (wire_box half before end p q) []
along_on half before end (p ∷ q ∷ r ∷ ps) d e h =
    rw (not_two (length ps)) (kept_on (wire_box half before half p q)
    (wire_boxes half half end (q ∷ r ∷ ps)))

-- fewer than two points have none
pub along_none : (half before end : ℤ) (ps : List Point) → length ps < 2
    → wires_box half before end ps ≡ None
unfolding wire_boxes hull_of
along_none half before end [] h = refl
along_none half before end (p ∷ []) h = refl
along_none half before end (p ∷ q ∷ ps) h = absurd (omega (arith, h))

-- the last segment goes to the end
pub last_end : (n : ℕ) (half end : ℤ) → n ≡ 2 → cond (eqb n 2) end half ≡ end
last_end n half end h = rw h refl

pub inner_end : (n : ℕ) (half end : ℤ) → (n ≡ 2 → ⊥) → cond (eqb n 2) end half ≡ half
inner_end n half end h = let e : eqb n 2 ≡ false = grind (arith, nat_tests) in rw e refl

pub segment_on : (w s : Wire) (end behind : ℤ) (ps : List Point) (p q : Point) (b : Box2)
    (part : Option Box2) → 2 ≤ length ps → p ≡ get_or ps 0 p → q ≡ get_or ps 1 q
    → behind ≡ cond (eqb (length ps) 2) end w.half
    → s ≡ record { half = w.half; before = w.before; behind = behind }
    → b ≡ wire_box s.half s.before s.behind p q → part ≡ kept b
    → wires_box w.half w.before end ps ≡ hull part (wires_box w.half w.half end (drop 1 ps))
segment_on w s end behind ps p q b part least first second ends is made keeps =
    let same : b ≡ wire_box w.half w.before (cond (eqb (length ps) 2) end w.half) (get_or ps 0 p)
    (get_or ps 1 q) =
    made ∙ ap (λ (t : Wire). wire_box t.half t.before t.behind p q) is
    ∙ ap (λ z. wire_box w.half w.before z p q) ends
    ∙ ap (λ z. wire_box w.half w.before (cond (eqb (length ps) 2) end w.half) z q) first
    ∙ ap (wire_box w.half w.before (cond (eqb (length ps) 2) end w.half) (get_or ps 0 p))
    second in
    along_on w.half w.before end ps p q least
    ∙ sym (ap (λ o. hull o (wires_box w.half w.half end (drop 1 ps))) (keeps ∙ ap kept same))

-- ---- a path so far

-- the extent so far, and the rectangles of the points that are left
pub record IsBoxedTo (path : Path) (wire : Wire) (rest : List Point) (extent : Option Box2) :
    Type 0 where
  pub half : wire.half ≡ half_of path
  pub behind : wire.behind ≡ wire.half
  pub before : IsWithinReach wire.before
  pub points : All IsPointWithinReach rest
  pub whole : hull extent (wires_box wire.half wire.before path.end rest)
      ≡ element_box (elements.Path path)

pub boxed_none : (path : Path) (wire : Wire) (rest : List Point) (extent : Option Box2)
    → IsPath path → wire ≡ record {
      half = half_of path;
      before = path.begin;
      behind = half_of path;
    } → rest ≡ path.points → extent ≡ hull_of_points rest
    → IsBoxedTo path wire rest extent
unfolding element_box
boxed_none path wire rest extent h w r e = record {
  half = ap (λ (t : Wire). t.half) w;
  behind = ap (λ (t : Wire). t.behind) w ∙ sym (ap (λ (t : Wire). t.half) w);
  before = subst (λ (t : Wire). IsWithinReach t.before) (sym w) h.begin_within_reach;
  points = subst (All IsPointWithinReach) (sym r) h.points_within_reach;
  whole = rw (e, w, r) refl;
}

pub boxed_reach : (path : Path) (wire : Wire) (rest : List Point) (extent : Option Box2)
    → IsPath path → IsBoxedTo path wire rest extent → IsWithinReach wire.half
boxed_reach path wire rest extent h b = subst IsWithinReach (sym b.half) (half_reach path h)

pub boxed_more : (path : Path) (wire next : Wire) (rest left : List Point)
    (extent part more : Option Box2) → IsPath path → IsBoxedTo path wire rest extent
    → 2 ≤ length rest → left ≡ drop 1 rest
    → wires_box wire.half wire.before path.end rest
    ≡ hull part (wires_box wire.half wire.half path.end (drop 1 rest)) → more ≡ hull extent part
    → next ≡ record { half = wire.half; before = wire.half; behind = wire.behind }
    → IsBoxedTo path next left more
boxed_more path wire next rest left extent part more h b least is step added made = record {
  half = ap (λ (t : Wire). t.half) made ∙ b.half;
  behind = ap (λ (t : Wire). t.behind) made ∙ b.behind ∙ sym (ap (λ (t : Wire). t.half) made);
  before = subst (λ (t : Wire). IsWithinReach t.before) (sym made)
      (boxed_reach path wire rest extent h b);
  points = subst (All IsPointWithinReach) (sym is) (All-drop IsPointWithinReach 1 rest b.points);
  whole = rw (added, made, is) (hull_assoc extent part
      (wires_box wire.half wire.half path.end (drop 1 rest)) ∙ sym (ap (hull extent) step)
      ∙ b.whole);
}

pub boxed_all : (path : Path) (wire : Wire) (rest : List Point) (extent : Option Box2)
    → IsBoxedTo path wire rest extent → length rest < 2 → extent ≡ element_box (elements.Path path)
boxed_all path wire rest extent b few =
    sym (hull_none extent) ∙ sym (ap (hull extent)
    (along_none wire.half wire.before path.end rest few)) ∙ b.whole
