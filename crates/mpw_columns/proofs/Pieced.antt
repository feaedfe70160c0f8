-- Pieces of cores: joined, in other squares, and as runs.
use Rattle.std.proofs.Common.{◌≡◌, ◌∙◌, ℕ, ◌+◌, ◌≤◌, ℤ, pos, ◌-ℤ◌, ◌≤ℤ◌, ◌<ℤ◌, Bool, true, ◌&&◌, List, ◌++◌, get_or, ◌⊎◌, inl, inr, Option, Some, refl, sym, subst, ap, arith, append_assoc}
use Rattle.std.specs.Prelude.{All, Contains, slice_get, ◌↔◌}
use Rattle.std.proofs.lemmas.Bool.{and_parts, and_from, false≢true}
use Rattle.std.proofs.lemmas.Int.{ints, by_lt_z}
use Rattle.std.proofs.lemmas.List.Elements.{All-contains, All-append, Contains-append_left, Contains-append_right, Contains-append_cases, Contains-get_or}
use Rattle.mpw_geom.specs.declared.plane.Box2.{Box2}
use Rattle.mpw_geom.specs.declared.plane.Layer.{Layer}
use Rattle.mpw_geom.specs.Plane.{has_square}
use Rattle.mpw_geom.proofs.Tests.{SquareIn-from_test, test_from_SquareIn}
use Rattle.mpw_deck.specs.declared.rule.Rule.{Rule}
use Rattle.mpw_edges.specs.declared.run.Axis.{Axis}
use Rattle.mpw_edges.specs.Edges.{Squares}
use Rattle.mpw_edges.specs.Computed.{TestDecidesPairSteps, has_pair_step}
use Rattle.mpw_edges.specs.Pieces.{HasVerticalStep}
use Rattle.mpw_markers.specs.declared.marker.Key.{Key}
use Rattle.mpw_markers.specs.declared.marker.Line.{Line}
use Rattle.mpw_markers.specs.Markers.{line_of_key}
use Rattle.mpw_job.specs.Layers.{Coverage, first_squares, second_squares}
use Rattle.mpw_job.proofs.Tests.{get_contains}
use Rattle.mpw_columns_keys.specs.Columns.{across}
use Rattle.mpw_columns_keys.specs.Pieces.{IsRowOf, IsRunOfPieces}
use Rattle.mpw_columns.specs.Found.{HasStepAt, IsFound, HasLayers}
use Rattle.mpw_columns.specs.Internal.Found.{IsLook, AgreeIn, left_of, right_of}
use Rattle.mpw_columns.specs.Internal.Pieces.{IsStepIn, ArePieces, AddsPieces, below_of, above_of}
use Rattle.mpw_columns.proofs.Agreeing.{vertical_same, first_agree, second_agree}
use Rattle.mpw_columns.proofs.OneLine.{small_side}
use Rattle.mpw_markers.proofs.Marked.{key_on}
use Rattle.mpw_markers.proofs.RunThrough.{IsRunAt, run_at}

-- ---- rows of lists

pub row_left : (a b : List Key) (line : Line) (j : ℤ) → IsRowOf a line j → IsRowOf (a ++ b) line j
row_left a b line j r = record {
  key = r.key;
  there = Contains-append_left a b r.key r.there;
  on_line = r.on_line;
  from = r.from;
  to = r.to;
}

pub row_right : (a b : List Key) (line : Line) (j : ℤ) → IsRowOf b line j → IsRowOf (a ++ b) line j
row_right a b line j r = record {
  key = r.key;
  there = Contains-append_right a b r.key r.there;
  on_line = r.on_line;
  from = r.from;
  to = r.to;
}

pub row_cases : (a b : List Key) (line : Line) (j : ℤ) → IsRowOf (a ++ b) line j
    → IsRowOf a line j ⊎ IsRowOf b line j
row_cases a b line j r = elim (Contains-append_cases a b r.key r.there) [
  | inl h ↦ inl (record { key = r.key; there = h; on_line = r.on_line; from = r.from; to = r.to })
  | inr h ↦ inr (record { key = r.key; there = h; on_line = r.on_line; from = r.from; to = r.to })
]

-- ---- a core that is cut in two

-- each step of the core lies in one of its parts, and their steps are its own
abbrev pub ArePartsOf : List Rule → Axis → Coverage → (core first second : Box2) → Type 0
ArePartsOf rules axis on core first second =
    (line : Line) (j : ℤ) → IsStepIn rules axis on core line j
    ↔ (IsStepIn rules axis on first line j ⊎ IsStepIn rules axis on second line j)

pub pieces_join : (rules : List Rule) (axis : Axis) (on : Coverage) (core first second : Box2)
    (a b : List Key) → ArePartsOf rules axis on core first second → ArePieces rules axis on first a
    → ArePieces rules axis on second b → ArePieces rules axis on core (a ++ b)
pieces_join rules axis on core first second a b parts p q = record {
  filled = All-append (λ (k : Key). k.piece.y0 <ℤ k.piece.y1) a b p.filled q.filled;
  exact = λ line j. (
    λ r. elim (row_cases a b line j r) [
      | inl h ↦ (parts line j).1 (inl ((p.exact line j).0 h))
      | inr h ↦ (parts line j).1 (inr ((q.exact line j).0 h))
    ],
    λ s. elim ((parts line j).0 s) [
      | inl h ↦ row_left a b line j ((p.exact line j).1 h)
      | inr h ↦ row_right a b line j ((q.exact line j).1 h)
    ],
  );
}

pub adds_join : (rules : List Rule) (axis : Axis) (on : Coverage) (core first second : Box2)
    (old mid new : List Key) → ArePartsOf rules axis on core first second
    → AddsPieces rules axis on first old mid → AddsPieces rules axis on second mid new
    → AddsPieces rules axis on core old new
adds_join rules axis on core first second old mid new parts p q = record {
  added = p.added ++ q.added;
  is = q.is ∙ ap (λ (ks : List Key). ks ++ q.added) p.is ∙ append_assoc old p.added q.added;
  pieces = pieces_join rules axis on core first second p.added q.added parts p.pieces q.pieces;
}

-- the step is in another core too
step_in : (rules : List Rule) (axis : Axis) (on : Coverage) (core other : Box2) (line : Line)
    (j : ℤ)
    → (s : IsStepIn rules axis on core line j)
    → (other.x0 ≤ℤ line.x1) × (line.x1 <ℤ other.x1) × (other.y0 ≤ℤ j) × (j <ℤ other.y1)
    → IsStepIn rules axis on other line j
step_in rules axis on core other line j s c =
    record { rule = s.rule; at = s.at; on_axis = s.on_axis; step = (s.step.0, c) }

pub parts_across : (rules : List Rule) (axis : Axis) (on : Coverage) (core : Box2) (at : ℤ)
    → core.x0 ≤ℤ at → at ≤ℤ core.x1
    → ArePartsOf rules axis on core (left_of core at) (right_of core at)
parts_across rules axis on core at low high line j = (
  λ s. let c = s.step.1 in by_lt_z line.x1 at
      (λ less. inl (step_in rules axis on core (left_of core at) line j s (c.0, less, c.2, c.3)))
      (λ more. inr (step_in rules axis on core (right_of core at) line j s (more, c.1, c.2, c.3))),
  λ h. elim h [
    | inl s ↦ let c = s.step.1 in let l = c.1 in step_in rules axis on (left_of core at) core line j
        s
        (c.0, omega (arith, ints, l, high), c.2, c.3)
    | inr s ↦ let c = s.step.1 in let l = c.0 in step_in rules axis on (right_of core at) core line
        j s
        (omega (arith, ints, l, low), c.1, c.2, c.3)
  ],
)

pub parts_along : (rules : List Rule) (axis : Axis) (on : Coverage) (core : Box2) (at : ℤ)
    → core.y0 ≤ℤ at → at ≤ℤ core.y1
    → ArePartsOf rules axis on core (below_of core at) (above_of core at)
parts_along rules axis on core at low high line j = (
  λ s. let c = s.step.1 in by_lt_z j at
      (λ less. inl (step_in rules axis on core (below_of core at) line j s (c.0, c.1, c.2, less)))
      (λ more. inr (step_in rules axis on core (above_of core at) line j s (c.0, c.1, more, c.3))),
  λ h. elim h [
    | inl s ↦ let c = s.step.1 in let l = c.3 in step_in rules axis on (below_of core at) core line
        j s
        (c.0, c.1, c.2, omega (arith, ints, l, high))
    | inr s ↦ let c = s.step.1 in let l = c.2 in step_in rules axis on (above_of core at) core line
        j s
        (c.0, c.1, omega (arith, ints, l, low), c.3)
  ],
)

-- ---- in other squares

step_agree : (rules : List Rule) (layers : List Layer) (distance : ℕ) (axis : Axis)
    (on other : Coverage) (core : Box2) (line : Line) (j : ℤ) → IsLook rules layers distance
    → AgreeIn layers (across core (distance + 1)) on other → IsStepIn rules axis on core line j
    → IsStepIn rules axis other core line j
step_agree rules layers distance axis on other core line j look agree s =
    let in_deck = get_contains rules line.rule s.rule s.at in
    let near : s.rule.distance ≤ distance =
    All-contains (λ (r : Rule). r.distance ≤ distance) rules s.rule look.near in_deck in
    let has : HasLayers layers s.rule.check =
    All-contains (λ (r : Rule). HasLayers layers r.check) rules s.rule look.layered in_deck in
    let window = across core (distance + 1) in record {
      rule = s.rule;
      at = s.at;
      on_axis = s.on_axis;
      step = vertical_same s.rule distance (first_squares s.rule.check on)
          (second_squares s.rule.check on) (first_squares s.rule.check other)
          (second_squares s.rule.check other) core near
          (first_agree s.rule.check layers window on other has agree)
          (second_agree s.rule.check layers window on other has agree) line.side line.x1 line.x2 j
          s.step;
    }

back_in : (layers : List Layer) (window : Box2) (on other : Coverage)
    → AgreeIn layers window on other
    → AgreeIn layers window other on
back_in layers window on other h layer c i j l r low high = sym (h layer c i j l r low high)

pub pieces_agree : (rules : List Rule) (layers : List Layer) (distance : ℕ) (axis : Axis)
    (on other : Coverage) (core : Box2) (keys : List Key) → IsLook rules layers distance
    → AgreeIn layers (across core (distance + 1)) on other → ArePieces rules axis on core keys
    → ArePieces rules axis other core keys
pieces_agree rules layers distance axis on other core keys look agree p = record {
  filled = p.filled;
  exact = λ line j. (
    λ r. step_agree rules layers distance axis on other core line j look agree
        ((p.exact line j).0 r),
    λ s. (p.exact line j).1 (step_agree rules layers distance axis other on core line j look
        (back_in layers (across core (distance + 1)) on other agree) s),
  );
}

-- ---- runs

-- the row is a step of the rule in the core
step_test : Rule → Squares → Squares → Box2 → Line → ℤ → Bool
step_test rule a b core line j =
    has_pair_step rule.check rule.distance a b line.side line.x1 line.x2 j
    && has_square core (record { column = line.x1; row = j })

test_of : TestDecidesPairSteps → (rule : Rule) (a b : Squares) (core : Box2) (line : Line) (j : ℤ)
    → HasVerticalStep rule a b core line.side line.x1 line.x2 j
    → step_test rule a b core line j ≡ true
unfolding step_test
test_of law rule a b core line j s = and_from _ _
    ((law rule.check rule.distance a b line.side line.x1 line.x2 j).1 s.0)
    (test_from_SquareIn core (record { column = line.x1; row = j })
    (record { left = s.1.0; right = s.1.1; bottom = s.1.2; top = s.1.3 }))

of_test : TestDecidesPairSteps → (rule : Rule) (a b : Squares) (core : Box2) (line : Line) (j : ℤ)
    → step_test rule a b core line j ≡ true
    → HasVerticalStep rule a b core line.side line.x1 line.x2 j
unfolding step_test
of_test law rule a b core line j e =
    let p = and_parts (has_pair_step rule.check rule.distance a b line.side line.x1 line.x2 j)
    (has_square core (record { column = line.x1; row = j })) e in
    let i = SquareIn-from_test core (record { column = line.x1; row = j }) p.1 in (
      (law rule.check rule.distance a b line.side line.x1 line.x2 j).0 p.0,
      (i.left, i.right, i.bottom, i.top),
    )

-- a maximal run through a step
run_through : TestDecidesPairSteps → (rules : List Rule) (axis : Axis) (on : Coverage) (core : Box2)
    (line : Line) (j : ℤ) → IsStepIn rules axis on core line j
    → (y0 : ℤ) × (y1 : ℤ) × (y0 ≤ℤ j) × (j <ℤ y1) × IsFound rules axis on core (key_on line y0 y1)
run_through law rules axis on core line j s =
    let a = first_squares s.rule.check on in
    let b = second_squares s.rule.check on in
    let p : ℤ → Bool = step_test s.rule a b core line in
    let r = run_at p core.y0 core.y1 j
    (λ i e. let q = of_test law s.rule a b core line i e in (q.1.2, q.1.3))
    (test_of law s.rule a b core line j s.step) in
    let w : IsRunAt p j r.0 r.1 = r.2 in
    let low = w.low in let high = w.high in (
      r.0,
      r.1,
      low,
      high,
      record {
        rule = s.rule;
        at = s.at;
        on_axis = s.on_axis;
        run = record {
          filled = omega (arith, ints, low, high);
          rows = λ i g k. of_test law s.rule a b core line i (w.rows i g k);
          below = λ t. false≢true (sym w.below
              ∙ test_of law s.rule a b core line (r.0 -ℤ pos 1) t);
          above = λ t. false≢true (sym w.above ∙ test_of law s.rule a b core line r.1 t);
        };
      },
    )

abbrev AreFound : List Rule → Axis → Coverage → Box2 → List Key → Type 0
AreFound rules axis on core keys = (k : Key) → Contains keys k ↔ IsFound rules axis on core k

pub found_pieces : TestDecidesPairSteps → (rules : List Rule) (axis : Axis) (on : Coverage)
    (core : Box2) (keys : List Key) → AreFound rules axis on core keys
    → ArePieces rules axis on core keys
found_pieces law rules axis on core keys found = record {
  filled = λ k d lt. ((found (get_or keys k d)).0 (Contains-get_or keys k d lt)).run.filled;
  exact = λ line j. (
    λ r. let f = (found r.key).0 r.there in
        subst (λ (l : Line). IsStepIn rules axis on core l j) r.on_line (record {
          rule = f.rule;
          at = f.at;
          on_axis = f.on_axis;
          step = f.run.rows j r.from r.to;
        }),
    λ s. let r = run_through law rules axis on core line j s in record {
      key = key_on line r.0 r.1;
      there = (found (key_on line r.0 r.1)).1 r.4;
      on_line = refl;
      from = r.2;
      to = r.3;
    },
  );
}

same_rule : (o : Option Rule) (a b : Rule) → o ≡ Some a → o ≡ Some b → a ≡ b
same_rule o a b e f = cc

-- the step of a rule to which the row belongs
step_of : (rules : List Rule) (axis : Axis) (on : Coverage) (core : Box2) (k : Key) (j : ℤ)
    (rule : Rule) → slice_get rules k.rule ≡ Some rule
    → IsStepIn rules axis on core (line_of_key k) j → HasStepAt rule on core k j
step_of rules axis on core k j rule at s =
    subst (λ (r : Rule). HasStepAt r on core k j)
    (same_rule (slice_get rules k.rule) s.rule rule s.at at)
    s.step

pub pieces_found : (rules : List Rule) (axis : Axis) (on : Coverage) (core : Box2)
    (pieces keys : List Key) → ArePieces rules axis on core pieces
    → ((k : Key) → Contains keys k ↔ IsRunOfPieces pieces k) → AreFound rules axis on core keys
pieces_found rules axis on core pieces keys p runs k = (
  λ c. let run = (runs k).0 c in
      let first = (p.exact (line_of_key k) k.piece.y0).0
      (run.rows k.piece.y0 (omega (arith, ints)) run.filled) in record {
        rule = first.rule;
        at = first.at;
        on_axis = first.on_axis;
        run = record {
          filled = run.filled;
          rows = λ j l u. step_of rules axis on core k j first.rule first.at
              ((p.exact (line_of_key k) j).0 (run.rows j l u));
          below = λ s. run.below ((p.exact (line_of_key k) (k.piece.y0 -ℤ pos 1)).1
              (record { rule = first.rule; at = first.at; on_axis = first.on_axis; step = s }));
          above = λ s. run.above ((p.exact (line_of_key k) k.piece.y1).1
              (record { rule = first.rule; at = first.at; on_axis = first.on_axis; step = s }));
        };
      },
  λ f. (runs k).1 (record {
    filled = f.run.filled;
    rows = λ j l u. (p.exact (line_of_key k) j).1
        (record { rule = f.rule; at = f.at; on_axis = f.on_axis; step = f.run.rows j l u });
    below = λ r. f.run.below (step_of rules axis on core k (k.piece.y0 -ℤ pos 1) f.rule f.at
        ((p.exact (line_of_key k) (k.piece.y0 -ℤ pos 1)).0 r));
    above = λ r. f.run.above (step_of rules axis on core k k.piece.y1 f.rule f.at
        ((p.exact (line_of_key k) k.piece.y1).0 r));
  }),
)

-- ---- what pieces have in common

first_row : (rules : List Rule) (axis : Axis) (on : Coverage) (core : Box2) (pieces : List Key)
    → ArePieces rules axis on core pieces → (k : Key) → Contains pieces k
    → IsStepIn rules axis on core (line_of_key k) k.piece.y0
first_row rules axis on core pieces p k c = (p.exact (line_of_key k) k.piece.y0).0 (record {
  key = k;
  there = c;
  on_line = refl;
  from = omega (arith, ints);
  to = All-contains (λ (x : Key). x.piece.y0 <ℤ x.piece.y1) pieces k p.filled c;
})

pub pieces_axis : (rules : List Rule) (axis : Axis) (on : Coverage) (core : Box2)
    (pieces : List Key)
    → ArePieces rules axis on core pieces → (k l : Key) → Contains pieces k → Contains pieces l
    → k.piece.axis ≡ l.piece.axis
pieces_axis rules axis on core pieces p k l c d =
    (first_row rules axis on core pieces p k c).on_axis
    ∙ sym (first_row rules axis on core pieces p l d).on_axis

pub pieces_sides : (rules : List Rule) (axis : Axis) (on : Coverage) (core : Box2)
    (pieces : List Key)
    → ArePieces rules axis on core pieces → All (λ (k : Key). k.piece.side ≤ 1) pieces
pieces_sides rules axis on core pieces p = λ n d lt.
    let k = get_or pieces n d in
    let s = first_row rules axis on core pieces p k (Contains-get_or pieces n d lt) in
    let small = small_side s.rule.check s.rule.distance (first_squares s.rule.check on)
    (second_squares s.rule.check on) k.piece.side k.piece.x1 k.piece.x2 k.piece.y0 s.step.0 in
    omega (arith, small)
