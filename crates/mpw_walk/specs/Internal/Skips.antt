-- What a walk within a window skips at once: consecutive instances of an array that miss the window.
use Rattle.std.specs.Prelude.{◌≡◌, ◌+◌, ◌<◌, ◌⊎◌, ℕ, ℤ, pos, ◌+ℤ◌, ◌-ℤ◌, ◌*ℤ◌, Bool, false, int_le, nat_lt, Option, Some, None, if◌then◌else◌}
use Rattle.std.specs.Int.{int_min, int_max}
use Rattle.mpw_geom.specs.declared.plane.Box2.{Box2}
use Rattle.mpw_geom.specs.declared.plane.Point.{Point}
use Rattle.mpw_geom.specs.Placing.{oriented_point}
use Rattle.mpw_structures.specs.declared.element.Reference.{Reference}
use Rattle.mpw_walk.specs.declared.frame.Frame.{Frame}
use Rattle.mpw_walk.specs.declared.skip.Span.{Span}
use Rattle.mpw_walk.specs.Window.{do_meet}
use Rattle.mpw_walk.specs.Internal.Frames.{behind_instance}

-- ---- along one axis

-- An interval some steps on, and whether two intervals share a number.
abbrev pub span_on : Span → (step : ℤ) → ℕ → Span
span_on a step k =
    record { low = a.low +ℤ (pos k *ℤ step); high = a.high +ℤ (pos k *ℤ step) }

abbrev pub do_share : Span → Span → Bool
do_share a b = int_le (int_max a.low b.low) (int_min a.high b.high)

-- ---- boxes

-- A box some steps on.
abbrev pub box_on : Box2 → (step : Point) → ℕ → Box2
box_on b step k = record {
  x0 = b.x0 +ℤ (pos k *ℤ step.x);
  y0 = b.y0 +ℤ (pos k *ℤ step.y);
  x1 = b.x1 +ℤ (pos k *ℤ step.x);
  y1 = b.y1 +ℤ (pos k *ℤ step.y);
}

-- The box of one column at another column.
abbrev pub box_at : Box2 → (step : Point) → (from to : ℕ) → Box2
box_at b step from to = record {
  x0 = b.x0 +ℤ ((pos to *ℤ step.x) -ℤ (pos from *ℤ step.x));
  y0 = b.y0 +ℤ ((pos to *ℤ step.y) -ℤ (pos from *ℤ step.y));
  x1 = b.x1 +ℤ ((pos to *ℤ step.x) -ℤ (pos from *ℤ step.x));
  y1 = b.y1 +ℤ ((pos to *ℤ step.y) -ℤ (pos from *ℤ step.y));
}

-- The first n boxes of a row, from the given one on, miss a window; and so do the first n rows, from that of the box on, in every column.
abbrev pub MissColumns : (there window : Box2) (across : Point) → ℕ → Type 0
MissColumns there window across n =
    (k : ℕ) → k < n → do_meet (box_on there across k) window ≡ false

abbrev pub MissRows : (there window : Box2) (across up : Point) → ℕ → Type 0
MissRows there window across up n =
    (from to k : ℕ) → k < n → do_meet (box_on (box_at there across from to) up k) window ≡ false

-- ---- frames

-- The steps of an array from an instance to the next one in its row, and to the one in the next row, as the frame is placed.
abbrev pub across_of : Frame → Reference → Point
across_of f r = oriented_point f.placing.orient r.column_step

abbrev pub up_of : Frame → Reference → Point
up_of f r = oriented_point f.placing.orient r.row_step

-- The frame after some rows, counting from the current one, and the frame after some columns.
abbrev pub behind_rows : Frame → Reference → ℕ → Frame
behind_rows f r n =
    if nat_lt (f.row + n) r.rows then record f { row = f.row + n; column = 0 }
    else record f { child = f.child + 1; row = 0; column = 0 }

abbrev pub behind_columns : Frame → Reference → ℕ → Frame
behind_columns f r n =
    if nat_lt (f.column + n) r.columns then record f { column = f.column + n }
    else behind_rows f r 1

-- What the frame skips misses the window, given the box of the next instance: rows, or columns of its row.
pub record SkipsRows (f : Frame) (r : Reference) (there window : Box2) (g : Frame) : Type 0 where
  pub n : ℕ
  pub some : 0 < n
  pub missed : MissRows there window (across_of f r) (up_of f r) n
  pub is : g ≡ behind_rows f r n

pub record SkipsColumns (f : Frame) (r : Reference) (there window : Box2) (g : Frame) :
    Type 0 where
  pub n : ℕ
  pub some : 0 < n
  pub missed : MissColumns there window (across_of f r) n
  pub is : g ≡ behind_columns f r n

abbrev pub Skips : Frame → Reference → (there window : Option Box2) → Frame → Type 0
Skips f r None window g = g ≡ behind_instance f r
Skips f r (Some there) None g = g ≡ behind_instance f r
Skips f r (Some there) (Some window) g =
    SkipsRows f r there window g ⊎ SkipsColumns f r there window g
