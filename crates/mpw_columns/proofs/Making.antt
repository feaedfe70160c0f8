-- The runs of one column are whole.
use Rattle.std.proofs.Common.{◌≡◌, ℤ, pos, ◌-ℤ◌, ◌≤ℤ◌, ◌<ℤ◌, true, Some, sym, subst, ◌∙◌, arith}
use Rattle.std.proofs.lemmas.Bool.{false≢true, and_parts, and_from}
use Rattle.std.proofs.lemmas.Int.{ints}
use Rattle.mpw_geom.specs.declared.plane.Box2.{Box2}
use Rattle.mpw_geom.specs.Plane.{has_square}
use Rattle.mpw_geom.proofs.Tests.{SquareIn-from_test, test_from_SquareIn}
use Rattle.mpw_edges.specs.declared.run.Axis.{Axis}
use Rattle.mpw_edges.specs.Computed.{TestDecidesPairSteps}
use Rattle.mpw_tiles.specs.Laws.{LayersLieInExtents}
use Rattle.mpw_tiles.specs.Snapshots.{Snapshot, shown, shown_extent}
use Rattle.mpw_markers.specs.declared.marker.Line.{Line}
use Rattle.mpw_markers.specs.Markers.{axis_eq, line_of_key}
use Rattle.mpw_markers.specs.Laws.{steps_in}
use Rattle.mpw_markers.specs.Whole.{IsMaximal}
use Rattle.mpw_job.specs.Computed.{steps_of, shown_on}
use Rattle.mpw_job.proofs.Tests.{is_false, rule_of}
use Rattle.mpw_job.proofs.Shapes.{tests_tell}
use Rattle.mpw_columns_keys.specs.declared.column.Column.{Column}
use Rattle.mpw_columns_keys.specs.Columns.{seen_box, upright}
use Rattle.mpw_columns.specs.Within.{is_in_column}
use Rattle.mpw_columns.specs.Laws.{ColumnsHaveWholeRuns}
use Rattle.mpw_columns.specs.Runs.{IsRunWithin}
use Rattle.mpw_columns.proofs.Covering.{StandsIn, step_stands}
use Rattle.mpw_columns.proofs.SeenSteps.{axis_as, axis_from, step_on_seen}

-- ---- a step of the layout, along its axis

pub record Laws : Type 0 where
  pub decides : TestDecidesPairSteps
  pub lie : LayersLieInExtents

pub steps_stand : Laws → (s : Snapshot) (extent : Box2) (line : Line) (j : ℤ)
    → shown_extent s ≡ Some extent → steps_of s.deck.rules (shown_on (shown s)) line j ≡ true
    → StandsIn (seen_box line.axis extent) line.x1 j
steps_stand laws s extent line j found e =
    let on = shown_on (shown s) in
    let r = rule_of s.deck.rules on line j e in
    step_stands r.rule.check r.rule.distance on extent line.axis line.side line.x1 line.x2 j
    (λ layer. laws.lie (shown s) extent layer (on layer) found (tests_tell (shown s) layer))
    ((step_on_seen laws.decides r.rule on line.axis line.side line.x1 line.x2 j).0 r.step)

-- a step whose first edge lies in a column lies in it
in_column : (extent : Box2) (c : Column) (line : Line) (j : ℤ) → line.axis ≡ c.axis
    → StandsIn (seen_box line.axis extent) line.x1 j → c.from ≤ℤ line.x1 → line.x1 <ℤ c.to
    → is_in_column extent c line j ≡ true
in_column extent c line j e h l u =
    let k = subst (λ (a : Axis). StandsIn (seen_box a extent) line.x1 j) e h in
    and_from _ _ (axis_as line.axis c.axis e)
    (test_from_SquareIn (upright (seen_box c.axis extent) c)
    (record { column = line.x1; row = j })
    (record { left = l; right = u; bottom = k.bottom; top = k.top }))

record IsIn (c : Column) (line : Line) (extent : Box2) (j : ℤ) : Type 0 where
  on_axis : line.axis ≡ c.axis
  left : c.from ≤ℤ line.x1
  right : line.x1 <ℤ c.to
  bottom : (seen_box c.axis extent).y0 ≤ℤ j
  top : j <ℤ (seen_box c.axis extent).y1

from_column : (extent : Box2) (c : Column) (line : Line) (j : ℤ)
    → is_in_column extent c line j ≡ true → IsIn c line extent j
from_column extent c line j e =
    let core = upright (seen_box c.axis extent) c in
    let p = and_parts (axis_eq line.axis c.axis)
    (has_square core (record { column = line.x1; row = j })) e in
    let i = SquareIn-from_test core (record { column = line.x1; row = j }) p.1 in record {
      on_axis = axis_from line.axis c.axis p.0;
      left = i.left;
      right = i.right;
      bottom = i.bottom;
      top = i.top;
    }

-- ---- the runs of a column

pub whole_runs : Laws → ColumnsHaveWholeRuns
whole_runs laws s extent c k found = (to, from)
  where
    to : IsMaximal (steps_in (steps_of s.deck.rules (shown_on (shown s))) (is_in_column extent c)) k
        → IsRunWithin s c k
    to m =
        let steps = steps_of s.deck.rules (shown_on (shown s)) in
        let line = line_of_key k in
        let parts : (j : ℤ) → steps_in steps (is_in_column extent c) line j ≡ true
        → (steps line j ≡ true) × (is_in_column extent c line j ≡ true) =
        λ j e. and_parts (steps line j) (is_in_column extent c line j) e in
        let first = from_column extent c line k.piece.y0
        (parts k.piece.y0 (m.rows k.piece.y0 (omega (arith, ints)) m.filled)).1 in
        let there : (j : ℤ) → steps line j ≡ true
        → steps_in steps (is_in_column extent c) line j ≡ true =
        λ j e. and_from _ _ e (in_column extent c line j first.on_axis
        (steps_stand laws s extent line j found e) first.left first.right) in
        record {
          run = record {
            filled = m.filled;
            rows = λ j l u. (parts j (m.rows j l u)).0;
            below = is_false _ (λ e. false≢true (sym m.below ∙ there (k.piece.y0 -ℤ pos 1) e));
            above = is_false _ (λ e. false≢true (sym m.above ∙ there k.piece.y1 e));
          };
          on_axis = first.on_axis;
          left = first.left;
          right = first.right;
        }

    from : IsRunWithin s c k
        → IsMaximal (steps_in (steps_of s.deck.rules (shown_on (shown s))) (is_in_column extent c))
        k
    from w =
        let steps = steps_of s.deck.rules (shown_on (shown s)) in
        let line = line_of_key k in
        let m = w.run in
        let parts : (j : ℤ) → steps_in steps (is_in_column extent c) line j ≡ true
        → (steps line j ≡ true) × (is_in_column extent c line j ≡ true) =
        λ j e. and_parts (steps line j) (is_in_column extent c line j) e in
        let there : (j : ℤ) → steps line j ≡ true
        → steps_in steps (is_in_column extent c) line j ≡ true =
        λ j e. and_from _ _ e (in_column extent c line j w.on_axis
        (steps_stand laws s extent line j found e) w.left w.right) in
        record {
          filled = m.filled;
          rows = λ j l u. there j (m.rows j l u);
          below = is_false _ (λ e. false≢true (sym m.below ∙ (parts (k.piece.y0 -ℤ pos 1) e).0));
          above = is_false _ (λ e. false≢true (sym m.above ∙ (parts k.piece.y1 e).0));
        }
