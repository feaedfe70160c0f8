-- What is found in what is seen along an axis is what the tests of pair steps find.
use Rattle.std.proofs.Common.{◌≡◌, ℕ, ℤ, pos, ◌-ℤ◌, true, List, Option, Some, refl, sym, subst, ◌∙◌, arith}
use Rattle.std.specs.Prelude.{◌↔◌, slice_get}
use Rattle.std.proofs.lemmas.Bool.{false≢true, and_parts, and_from}
use Rattle.std.proofs.lemmas.Int.{ints}
use Rattle.mpw_geom.specs.declared.plane.Box2.{Box2}
use Rattle.mpw_geom.specs.Plane.{has_square}
use Rattle.mpw_geom.proofs.Tests.{SquareIn-from_test, test_from_SquareIn}
use Rattle.mpw_deck.specs.declared.rule.Check.{Check}
use Rattle.mpw_deck.specs.declared.rule.Check.TheVariants.{Width, Space, Separation, Enclosing}
use Rattle.mpw_deck.specs.declared.rule.Rule.{Rule}
use Rattle.mpw_edges.specs.declared.run.Axis.{Axis}
use Rattle.mpw_edges.specs.declared.run.Axis.TheVariants.{V, H}
use Rattle.mpw_edges.specs.Edges.{Squares}
use Rattle.mpw_edges.specs.Steps.{IsPairStep}
use Rattle.mpw_edges.specs.Computed.{TestDecidesPairSteps}
use Rattle.mpw_markers.specs.declared.marker.Key.{Key}
use Rattle.mpw_markers.specs.Markers.{axis_eq, line_of_key}
use Rattle.mpw_markers.specs.Laws.{steps_in}
use Rattle.mpw_markers.specs.Whole.{IsMaximal}
use Rattle.mpw_job.specs.Computed.{has_step_on, has_step_of, steps_of}
use Rattle.mpw_job.specs.Layers.{Coverage, first_squares, second_squares}
use Rattle.mpw_job.proofs.Tests.{is_false, rule_of}
use Rattle.mpw_columns_keys.specs.declared.column.Column.{Column}
use Rattle.mpw_columns_keys.specs.Columns.{seen_box, upright}
use Rattle.mpw_columns.specs.Seen.{seen, seen_on}
use Rattle.mpw_columns.specs.Within.{is_in_column}
use Rattle.mpw_columns.specs.Found.{HasStepAt, IsFound}

-- ---- axes

axis_itself : (a : Axis) → axis_eq a a ≡ true
axis_itself V = refl
axis_itself H = refl

pub axis_as : (a b : Axis) → a ≡ b → axis_eq a b ≡ true
axis_as a b e = subst (λ (x : Axis). axis_eq a x ≡ true) e (axis_itself a)

pub axis_from : (a b : Axis) → axis_eq a b ≡ true → a ≡ b
axis_from V V e = refl
axis_from V H e = absurd (false≢true e)
axis_from H V e = absurd (false≢true e)
axis_from H H e = refl

-- ---- pair steps

pub first_seen : (check : Check) (axis : Axis) (on : Coverage)
    → first_squares check (seen_on axis on) ≡ seen axis (first_squares check on)
first_seen (Width l) axis on = refl
first_seen (Space l) axis on = refl
first_seen (Separation l m) axis on = refl
first_seen (Enclosing l m) axis on = refl

pub second_seen : (check : Check) (axis : Axis) (on : Coverage)
    → second_squares check (seen_on axis on) ≡ seen axis (second_squares check on)
second_seen (Width l) V on = refl
second_seen (Width l) H on = refl
second_seen (Space l) V on = refl
second_seen (Space l) H on = refl
second_seen (Separation l m) axis on = refl
second_seen (Enclosing l m) axis on = refl

step_seen : TestDecidesPairSteps → (rule : Rule) (a b : Squares) (axis : Axis) (side : ℕ)
    (x1 x2 j : ℤ) → (has_step_on rule a b axis side x1 x2 j ≡ true)
    ↔ IsPairStep rule.check rule.distance (seen axis a) (seen axis b) side x1 x2 j
step_seen law rule a b V side x1 x2 j = law rule.check rule.distance a b side x1 x2 j
step_seen law rule a b H side x1 x2 j =
    law rule.check rule.distance (seen H a) (seen H b) side x1 x2 j

pub step_on_seen : TestDecidesPairSteps → (rule : Rule) (on : Coverage) (axis : Axis) (side : ℕ)
    (x1 x2 j : ℤ)
    → (has_step_on rule (first_squares rule.check on) (second_squares rule.check on) axis side x1 x2
    j ≡ true)
    ↔ IsPairStep rule.check rule.distance (first_squares rule.check (seen_on axis on))
    (second_squares rule.check (seen_on axis on)) side x1 x2 j
step_on_seen law rule on axis side x1 x2 j =
    let a = first_squares rule.check on in
    let b = second_squares rule.check on in
    let Is : Squares → Squares → Type 0 =
    λ p q. (has_step_on rule a b axis side x1 x2 j ≡ true)
    ↔ IsPairStep rule.check rule.distance p q side x1 x2 j in
    subst (λ (p : Squares). Is p (second_squares rule.check (seen_on axis on)))
    (sym (first_seen rule.check axis on))
    (subst (λ (q : Squares). Is (seen axis a) q) (sym (second_seen rule.check axis on))
    (step_seen law rule a b axis side x1 x2 j))

-- ---- rows of a key in a column

pub record IsKeyIn (rules : List Rule) (c : Column) (k : Key) (rule : Rule) : Type 0 where
  pub at : slice_get rules k.rule ≡ Some rule
  pub on_axis : k.piece.axis ≡ c.axis

-- the row of the key's line is a step in the column
abbrev pub IsRow : List Rule → Coverage → Box2 → Column → Key → ℤ → Type 0
IsRow rules on extent c k j =
    steps_in (steps_of rules on) (is_in_column extent c) (line_of_key k) j ≡ true

abbrev core_in : Box2 → Column → Box2
core_in extent c = upright (seen_box c.axis extent) c

pub row_test : TestDecidesPairSteps → (rules : List Rule) (on : Coverage) (extent : Box2)
    (c : Column) (k : Key) (rule : Rule) (j : ℤ) → IsKeyIn rules c k rule
    → HasStepAt rule (seen_on c.axis on) (core_in extent c) k j → IsRow rules on extent c k j
row_test law rules on extent c k rule j is h =
    let step = subst (λ (a : Axis). IsPairStep rule.check rule.distance
    (first_squares rule.check (seen_on a on)) (second_squares rule.check (seen_on a on))
    k.piece.side k.piece.x1
    k.piece.x2 j) (sym is.on_axis) h.0 in
    let test =
    (step_on_seen law rule on k.piece.axis k.piece.side k.piece.x1 k.piece.x2 j).1 step in
    and_from _ _
    (subst (λ (o : Option Rule). has_step_of o on (line_of_key k) j ≡ true) (sym is.at) test)
    (and_from _ _ (axis_as k.piece.axis c.axis is.on_axis)
    (test_from_SquareIn (core_in extent c) (record { column = k.piece.x1; row = j })
    (record { left = h.1.0; right = h.1.1; bottom = h.1.2; top = h.1.3 })))

pub row_from : TestDecidesPairSteps → (rules : List Rule) (on : Coverage) (extent : Box2)
    (c : Column) (k : Key) (rule : Rule) (j : ℤ) → IsKeyIn rules c k rule
    → IsRow rules on extent c k j → HasStepAt rule (seen_on c.axis on) (core_in extent c) k j
row_from law rules on extent c k rule j is e =
    let p = and_parts (steps_of rules on (line_of_key k) j)
    (is_in_column extent c (line_of_key k) j) e in
    let test = subst (λ (o : Option Rule). has_step_of o on (line_of_key k) j ≡ true) is.at p.0 in
    let step =
    (step_on_seen law rule on k.piece.axis k.piece.side k.piece.x1 k.piece.x2 j).0 test in
    let q = and_parts (axis_eq k.piece.axis c.axis)
    (has_square (core_in extent c) (record { column = k.piece.x1; row = j })) p.1 in
    let i = SquareIn-from_test (core_in extent c) (record { column = k.piece.x1; row = j }) q.1 in (
      subst (λ (a : Axis). IsPairStep rule.check rule.distance
          (first_squares rule.check (seen_on a on)) (second_squares rule.check (seen_on a on))
          k.piece.side k.piece.x1 k.piece.x2 j) is.on_axis step,
      (i.left, i.right, i.bottom, i.top),
    )

-- ---- runs

pub found_maximal : TestDecidesPairSteps → (rules : List Rule) (on : Coverage) (extent : Box2)
    (c : Column) (k : Key) → IsFound rules c.axis (seen_on c.axis on) (core_in extent c) k
    → IsMaximal (steps_in (steps_of rules on) (is_in_column extent c)) k
found_maximal law rules on extent c k f =
    let is : IsKeyIn rules c k f.rule = record { at = f.at; on_axis = f.on_axis } in record {
      filled = f.run.filled;
      rows = λ j l u. row_test law rules on extent c k f.rule j is (f.run.rows j l u);
      below = is_false _ (λ e. f.run.below
          (row_from law rules on extent c k f.rule (k.piece.y0 -ℤ pos 1) is e));
      above =
          is_false _ (λ e. f.run.above (row_from law rules on extent c k f.rule k.piece.y1 is e));
    }

pub maximal_found : TestDecidesPairSteps → (rules : List Rule) (on : Coverage) (extent : Box2)
    (c : Column) (k : Key) → IsMaximal (steps_in (steps_of rules on) (is_in_column extent c)) k
    → IsFound rules c.axis (seen_on c.axis on) (core_in extent c) k
maximal_found law rules on extent c k m =
    let first = and_parts (steps_of rules on (line_of_key k) k.piece.y0)
    (is_in_column extent c (line_of_key k) k.piece.y0)
    (m.rows k.piece.y0 (omega (arith, ints)) m.filled) in
    let r = rule_of rules on (line_of_key k) k.piece.y0 first.0 in
    let same = axis_from k.piece.axis c.axis (and_parts (axis_eq k.piece.axis c.axis)
    (has_square (core_in extent c) (record { column = k.piece.x1; row = k.piece.y0 })) first.1).0 in
    let is : IsKeyIn rules c k r.rule = record { at = r.at; on_axis = same } in record {
      rule = r.rule;
      at = r.at;
      on_axis = same;
      run = record {
        filled = m.filled;
        rows = λ j l u. row_from law rules on extent c k r.rule j is (m.rows j l u);
        below = λ s. false≢true (sym m.below
            ∙ row_test law rules on extent c k r.rule (k.piece.y0 -ℤ pos 1) is s);
        above =
            λ s. false≢true (sym m.above ∙ row_test law rules on extent c k r.rule k.piece.y1 is s);
      };
    }
