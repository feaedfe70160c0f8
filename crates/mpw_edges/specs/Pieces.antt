-- What a core finds: the maximal runs of rows with the same pair step.
use Rattle.std.specs.Prelude.{◌≡◌, ℕ, ℤ, pos, ◌-ℤ◌, ◌≤ℤ◌, ◌<ℤ◌}
use Rattle.std.specs.Ordering.{nat_cmp, int_cmp, ordering_then}
use Rattle.std.specs.declared.cmp.Ordering.{Ordering}
use Rattle.std.specs.declared.cmp.Ordering.TheVariants.{Less, Equal, Greater}
use Rattle.mpw_geom.specs.declared.plane.Box2.{Box2}
use Rattle.mpw_region.specs.declared.runs.Run.{Run}
use Rattle.mpw_region.specs.Exchange.{exchanged_box}
use Rattle.mpw_deck.specs.declared.rule.Rule.{Rule}
use Rattle.mpw_edges.specs.declared.run.Axis.{Axis}
use Rattle.mpw_edges.specs.declared.run.Axis.TheVariants.{V, H}
use Rattle.mpw_edges.specs.declared.run.Piece.{Piece}
use Rattle.mpw_edges.specs.Edges.{Squares, exchanged}
use Rattle.mpw_edges.specs.Steps.{IsPairStep}

-- a pair step on an axis, over the whole plane: H is V with the coordinates exchanged
abbrev pub IsStepOn : Rule → Squares → Squares → Axis → ℕ → ℤ → ℤ → ℤ → Type 0
IsStepOn rule a b V = IsPairStep rule.check rule.distance a b
IsStepOn rule a b H = IsPairStep rule.check rule.distance (exchanged a) (exchanged b)

-- the point lies in the half-open core
abbrev pub IsInCore : Box2 → ℤ → ℤ → Type 0
IsInCore core x y = (core.x0 ≤ℤ x) × (x <ℤ core.x1) × (core.y0 ≤ℤ y) × (y <ℤ core.y1)

-- a pair step between vertical edges, whose lower left point lies in the core
abbrev pub HasVerticalStep : Rule → Squares → Squares → Box2 → ℕ → ℤ → ℤ → ℤ → Type 0
HasVerticalStep rule a b core side x1 x2 j =
    IsPairStep rule.check rule.distance a b side x1 x2 j × IsInCore core x1 j

-- a pair step on an axis: H is V with the coordinates exchanged
abbrev pub HasStep : Rule → Squares → Squares → Box2 → Axis → ℕ → ℤ → ℤ → ℤ → Type 0
HasStep rule a b core V = HasVerticalStep rule a b core
HasStep rule a b core H = HasVerticalStep rule (exchanged a) (exchanged b) (exchanged_box core)

-- a maximal run of rows with the pair step inside the core
pub record IsPiece (rule : Rule) (a b : Squares) (core : Box2) (p : Piece) : Type 0 where
  pub filled : p.y0 <ℤ p.y1
  pub steps : (j : ℤ) → p.y0 ≤ℤ j → j <ℤ p.y1 → HasStep rule a b core p.axis p.side p.x1 p.x2 j
  pub below : HasStep rule a b core p.axis p.side p.x1 p.x2 (p.y0 -ℤ pos 1) → ⊥
  pub above : HasStep rule a b core p.axis p.side p.x1 p.x2 p.y1 → ⊥

-- vertical edges before horizontal ones
abbrev pub axis_cmp : Axis → Axis → Ordering
axis_cmp V V = Equal
axis_cmp V H = Less
axis_cmp H V = Greater
axis_cmp H H = Equal

-- the order of pieces: axis, side, the two coordinates, and the first row
abbrev pub piece_cmp : Piece → Piece → Ordering
piece_cmp p q = ordering_then (axis_cmp p.axis q.axis)
    (ordering_then (nat_cmp p.side q.side)
    (ordering_then (int_cmp p.x1 q.x1) (ordering_then (int_cmp p.x2 q.x2) (int_cmp p.y0 q.y0))))

abbrev pub ComesBefore : Piece → Piece → Type 0
ComesBefore p q = piece_cmp p q ≡ Less

-- a run of rows as a piece
abbrev pub piece_of : Axis → Run → Piece
piece_of axis r = record {
  axis = axis;
  side = r.line.side;
  x1 = r.line.first;
  x2 = r.line.second;
  y0 = r.from;
  y1 = r.to;
}

-- the closed box of a run: on axis V from x1 to x2 over its rows, on H with the coordinates exchanged
abbrev pub box_on : Axis → (x1 x2 y0 y1 : ℤ) → Box2
box_on V x1 x2 y0 y1 = record { x0 = x1; y0 = y0; x1 = x2; y1 = y1 }
box_on H x1 x2 y0 y1 = record { x0 = y0; y0 = x1; x1 = y1; y1 = x2 }

abbrev pub box_of : Piece → Box2
box_of p = box_on p.axis p.x1 p.x2 p.y0 p.y1
