-- Which pairs of edges the search finds, and on which line and row.
use Rattle.std.specs.Prelude.{◌≡◌, ℕ, ◌≤◌, ℤ, pos, ◌-ℤ◌, ◌≤ℤ◌, ◌<ℤ◌, List, length, slice_index_or, take, drop, Contains, All, AllPairs, ◌⊎◌, ◌↔◌}
use Rattle.std.specs.Bool.{MatchBool}
use Rattle.mpw_geom.specs.declared.plane.Box2.{Box2}
use Rattle.mpw_region.specs.declared.runs.Line.{Line}
use Rattle.mpw_region.specs.declared.runs.Run.{Run}
use Rattle.mpw_region.specs.Runs.{CoversPlace, IsFilled}
use Rattle.mpw_edges.specs.declared.edges.End.{End}
use Rattle.mpw_edges.specs.declared.edges.End.TheVariants.{Rise, Fall}
use Rattle.mpw_edges.specs.declared.edges.Ends.{Ends}
use Rattle.mpw_edges.specs.declared.pair.Edge.{Edge}
use Rattle.mpw_edges.specs.declared.pair.Limits.{Limits}
use Rattle.mpw_edges.specs.Edges.{Squares, IsRise, IsFall}
use Rattle.mpw_edges.specs.Pieces.{IsInCore}

-- the edge runs through the row
abbrev pub IsInRow : Edge → ℤ → Type 0
IsInRow e j = (e.y0 ≤ℤ j) × (j <ℤ e.y1)

-- the second coordinate is after the first, or equal to it if touching counts, and nearer than the distance
abbrev pub IsNear : Limits → ℤ → ℤ → Type 0
IsNear limits x1 x2 =
    MatchBool limits.touching (x1 ≤ℤ x2) (x1 <ℤ x2) × ((x2 -ℤ x1) <ℤ pos limits.distance)

-- the row is one of both edges and of the core
abbrev pub IsInRows : Box2 → Edge → Edge → ℤ → Type 0
IsInRows core from to j = IsInRow from j × IsInRow to j × (core.y0 ≤ℤ j) × (j <ℤ core.y1)

-- the line of the two edges, in a row of both and of the core, if the first edge lies in the core
abbrev pub IsPairPlace : ℕ → Limits → Edge → Edge → Line → ℤ → Type 0
IsPairPlace side limits from to line j =
    (line ≡ record { side = side; first = from.x; second = to.x }) × IsNear limits from.x to.x
    × (limits.core.x0 ≤ℤ from.x) × (from.x <ℤ limits.core.x1) × IsInRows limits.core from to j

-- the same for this edge and one of the list
abbrev pub IsPairFrom : ℕ → Limits → List Edge → Edge → Line → ℤ → Type 0
IsPairFrom side limits tos from line j =
    (to : Edge) × Contains tos to × IsPairPlace side limits from to line j

-- the same for an edge of each list
abbrev pub IsPairOf : ℕ → Limits → List Edge → List Edge → Line → ℤ → Type 0
IsPairOf side limits froms tos line j =
    (from : Edge) × Contains froms from × IsPairFrom side limits tos from line j

-- the edges at which a box begins and ends
abbrev pub rise_of : Box2 → Edge
rise_of b = record { x = b.x0; y0 = b.y0; y1 = b.y1 }

abbrev pub fall_of : Box2 → Edge
fall_of b = record { x = b.x1; y0 = b.y0; y1 = b.y1 }

abbrev pub edge_of : End → Box2 → Edge
edge_of Rise = rise_of
edge_of Fall = fall_of

-- the squares have an edge of that kind at x in row j
abbrev pub IsEdgeAt : End → Squares → ℤ → ℤ → Type 0
IsEdgeAt Rise squares = IsRise squares
IsEdgeAt Fall squares = IsFall squares

-- the edges that a separation pairs, and those that an enclosing pairs
abbrev pub separation_ends : Ends
separation_ends =
    record { forth_from = Fall; forth_to = Rise; back_from = Fall; back_to = Rise }

abbrev pub enclosing_ends : Ends
enclosing_ends =
    record { forth_from = Rise; forth_to = Rise; back_from = Fall; back_to = Fall }

-- an edge of one layer and one of the other at it or later, nearer than the distance, in the core: side 0 forth, side 1 back
abbrev pub IsBetween : Ends → Squares → Squares → ℕ → Box2 → Line → ℤ → Type 0
IsBetween ends a b distance core line j =
    (((line.first ≤ℤ line.second)
    × (((line.side ≡ 0) × IsEdgeAt ends.forth_from a line.first j
    × IsEdgeAt ends.forth_to b line.second j)
    ⊎ ((line.side ≡ 1) × IsEdgeAt ends.back_from b line.first j
    × IsEdgeAt ends.back_to a line.second j)))
    × ((line.second -ℤ line.first) <ℤ pos distance)) × IsInCore core line.first j

-- the two edges of a box of the list
abbrev pub IsWidthOf : Limits → List Box2 → Line → ℤ → Type 0
IsWidthOf limits boxes line j =
    (b : Box2) × Contains boxes b × IsPairPlace 0 limits (rise_of b) (fall_of b) line j

-- the first edge's rows are below the second's, or they have the same rows and the first is left of the second
abbrev pub IsEdgeBefore : Edge → Edge → Type 0
IsEdgeBefore e f = (e.y1 ≤ℤ f.y0) ⊎ ((e.y0 ≡ f.y0) × (e.y1 ≡ f.y1) × (e.x <ℤ f.x))

-- edges from below, and in each band from left to right
pub record AreEdges (edges : List Edge) : Type 0 where
  pub filled : All (λ e. e.y0 <ℤ e.y1) edges
  pub ordered : AllPairs IsEdgeBefore edges

abbrev pub IsLeftOf : Edge → Edge → Type 0
IsLeftOf e f = e.x <ℤ f.x

-- the edge has the rows of the other
abbrev pub HasRowsOf : Edge → Edge → Type 0
HasRowsOf e f = (f.y0 ≡ e.y0) × (f.y1 ≡ e.y1)

-- the first n of the edges are the band of the first one: they have its rows, from left to right, and what follows is above
pub record IsBand (edges : List Edge) (n : ℕ) : Type 0 where
  pub some : 1 ≤ n
  pub within : n ≤ length edges
  pub rows : (d : Edge) → All (HasRowsOf (slice_index_or edges 0 d)) (take n edges)
  pub left : AllPairs IsLeftOf (take n edges)
  pub above : (d : Edge) → All (λ e. (slice_index_or edges 0 d).y1 ≤ℤ e.y0) (drop n edges)

-- what is found and what is left to find, before and after
pub record Moves (old : List Run) (P : Line → ℤ → Type 0) (new : List Run) (Q : Line → ℤ → Type 0) :
    Type 0 where
  pub places : (line : Line) (at : ℤ) → (CoversPlace new line at ⊎ Q line at)
      ↔ (CoversPlace old line at ⊎ P line at)
  pub filled : All IsFilled old → All IsFilled new
