-- Tests of layers, of lists, and of steps.
use Rattle.std.proofs.Common.{◌≡◌, ℕ, Bool, true, false, ◌&&◌, ◌||◌, List, [], ◌∷◌, Option, Some, None, ◌⊎◌, inl, inr, refl, sym, subst, ap, ◌∙◌, arith}
use Rattle.std.specs.Prelude.{ℤ, pos, ◌-ℤ◌, Contains, slice_get}
use Rattle.std.specs.List.{list_any}
use Rattle.std.proofs.lemmas.Bool.{false≢true, and_parts, and_from, eqb-true, eq-eqb}
use Rattle.std.proofs.lemmas.List.Elements.{Contains-append_right}
use Rattle.std.proofs.lemmas.List.Folds.{list_any_at}
use Rattle.std.proofs.lemmas.Option.{slice_get_within, get_or_from_slice_get}
use Rattle.mpw_geom.specs.declared.plane.Box2.{Box2}
use Rattle.mpw_geom.specs.declared.plane.Layer.{Layer}
use Rattle.mpw_geom.specs.Plane.{has_square}
use Rattle.mpw_geom.proofs.Tests.{SquareIn-from_test, test_from_SquareIn}
use Rattle.mpw_deck.specs.declared.rule.Rule.{Rule}
use Rattle.mpw_deck.specs.declared.rule.Check.{Check}
use Rattle.mpw_deck.specs.declared.rule.Check.TheVariants.{Width, Space, Separation, Enclosing}
use Rattle.mpw_edges.specs.declared.run.Axis.{Axis}
use Rattle.mpw_edges.specs.declared.run.Axis.TheVariants.{V, H}
use Rattle.mpw_edges.specs.Edges.{Squares, exchanged}
use Rattle.mpw_edges.specs.Pieces.{HasStep, IsStepOn}
use Rattle.mpw_edges.specs.Computed.{TestDecidesPairSteps}
use Rattle.mpw_edges.specs.Laws.{AreSameIn}
use Rattle.mpw_markers.specs.declared.marker.Line.{Line}
use Rattle.mpw_markers.specs.declared.marker.Key.{Key}
use Rattle.mpw_markers.specs.Markers.{line_of_key}
use Rattle.mpw_markers.specs.Whole.{IsMaximal}
use Rattle.mpw_markers.specs.Laws.{steps_in}
use Rattle.mpw_geom.specs.Layers.{same_layer}
use Rattle.mpw_job.specs.Computed.{has_step_on, has_step_of, steps_of}
use Rattle.mpw_job.specs.Layers.{Coverage, first_squares, second_squares, HasPairStep}
use Rattle.mpw_job.specs.Internal.Cores.{square_on, is_in_core}
use Rattle.mpw_job.specs.Answers.{IsFoundIn}

pub or_parts : (a b : Bool) → (a || b) ≡ true → (a ≡ true) ⊎ (b ≡ true)
or_parts true b e = inl refl
or_parts false b e = inr e

pub is_false : (b : Bool) → (b ≡ true → ⊥) → b ≡ false
is_false true h = absurd (h refl)
is_false false h = refl

-- ---- layers

pub same_fields : (a b : Layer) → a.layer ≡ b.layer → a.datatype ≡ b.datatype → a ≡ b
same_fields a b e f =
    let first : ℕ → Layer = λ n. record { layer = n; datatype = a.datatype } in
    let second : ℕ → Layer = λ n. record { layer = b.layer; datatype = n } in
    ap first e ∙ ap second f

pub same_from : (a b : Layer) → same_layer a b ≡ true → a ≡ b
same_from a b e = let h = and_parts _ _ e in same_fields a b (eqb-true a.layer b.layer h.0)
    (eqb-true a.datatype b.datatype h.1)

pub same_as : (a b : Layer) → a ≡ b → same_layer a b ≡ true
same_as a b e = and_from _ _ (eq-eqb a.layer b.layer (ap (λ (l : Layer). l.layer) e))
    (eq-eqb a.datatype b.datatype (ap (λ (l : Layer). l.datatype) e))

-- ---- lists

pub some_passes : {X : Type 0} (test : X → Bool) (xs : List X) → list_any test xs ≡ true
    → (x : X) × Contains xs x × (test x ≡ true)
some_passes test [] e = absurd (false≢true e)
some_passes test (x ∷ xs) e = elim (or_parts (test x) (list_any test xs) e) [
  | inl h ↦ (x, (0, omega arith, refl), h)
  | inr h ↦ let p = some_passes test xs h in (p.0, Contains-append_right (x ∷ []) xs p.0 p.1, p.2)
]

pub passes_some : {X : Type 0} (test : X → Bool) (xs : List X) (x : X) → Contains xs x
    → test x ≡ true → list_any test xs ≡ true
passes_some test xs x c h = list_any_at test xs c.0 x c.1 (subst (λ y. test y ≡ true) (sym c.2) h)

pub get_contains : {X : Type 0} (xs : List X) (n : ℕ) (x : X) → slice_get xs n ≡ Some x
    → Contains xs x
get_contains xs n x e = (n, slice_get_within xs n x e, get_or_from_slice_get xs n x x e)

-- ---- squares

pub same_first : (check : Check) (window : Box2) (on other : Coverage)
    → ((layer : Layer) → AreSameIn window (on layer) (other layer))
    → AreSameIn window (first_squares check on) (first_squares check other)
same_first (Width l) window on other h = h l
same_first (Space l) window on other h = h l
same_first (Separation l m) window on other h = h l
same_first (Enclosing l m) window on other h = h l

pub same_second : (check : Check) (window : Box2) (on other : Coverage)
    → ((layer : Layer) → AreSameIn window (on layer) (other layer))
    → AreSameIn window (second_squares check on) (second_squares check other)
same_second (Width l) window on other h = λ i j a b c d. refl
same_second (Space l) window on other h = λ i j a b c d. refl
same_second (Separation l m) window on other h = h m
same_second (Enclosing l m) window on other h = h m

-- ---- steps

pub step_on : TestDecidesPairSteps → (rule : Rule) (a b : Squares) (axis : Axis) (side : ℕ)
    (x1 x2 j : ℤ) → has_step_on rule a b axis side x1 x2 j ≡ true
    → IsStepOn rule a b axis side x1 x2 j
step_on law rule a b V side x1 x2 j e = (law rule.check rule.distance a b side x1 x2 j).0 e
step_on law rule a b H side x1 x2 j e =
    (law rule.check rule.distance (exchanged a) (exchanged b) side x1 x2 j).0 e

pub test_on : TestDecidesPairSteps → (rule : Rule) (a b : Squares) (axis : Axis) (side : ℕ)
    (x1 x2 j : ℤ) → IsStepOn rule a b axis side x1 x2 j
    → has_step_on rule a b axis side x1 x2 j ≡ true
test_on law rule a b V side x1 x2 j h = (law rule.check rule.distance a b side x1 x2 j).1 h
test_on law rule a b H side x1 x2 j h =
    (law rule.check rule.distance (exchanged a) (exchanged b) side x1 x2 j).1 h

pub step_test : TestDecidesPairSteps
    → (rule : Rule) (a b : Squares) (core : Box2) (axis : Axis) (side : ℕ) (x1 x2 j : ℤ)
    → HasStep rule a b core axis side x1 x2 j
    → (has_step_on rule a b axis side x1 x2 j && has_square core (square_on axis x1 j)) ≡ true
step_test law rule a b core V side x1 x2 j h =
    and_from _ _ ((law rule.check rule.distance a b side x1 x2 j).1 h.0)
    (test_from_SquareIn core (square_on V x1 j)
    (record { left = h.1.0; right = h.1.1; bottom = h.1.2; top = h.1.3 }))
step_test law rule a b core H side x1 x2 j h =
    and_from _ _ ((law rule.check rule.distance (exchanged a) (exchanged b) side x1 x2 j).1 h.0)
    (test_from_SquareIn core (square_on H x1 j)
    (record { left = h.1.2; right = h.1.3; bottom = h.1.0; top = h.1.1 }))

pub step_from : TestDecidesPairSteps
    → (rule : Rule) (a b : Squares) (core : Box2) (axis : Axis) (side : ℕ) (x1 x2 j : ℤ)
    → (has_step_on rule a b axis side x1 x2 j && has_square core (square_on axis x1 j)) ≡ true
    → HasStep rule a b core axis side x1 x2 j
step_from law rule a b core V side x1 x2 j e =
    let p =
    and_parts (has_step_on rule a b V side x1 x2 j) (has_square core (square_on V x1 j)) e in
    let i = SquareIn-from_test core (square_on V x1 j) p.1 in
    ((law rule.check rule.distance a b side x1 x2 j).0 p.0, (i.left, i.right, i.bottom, i.top))
step_from law rule a b core H side x1 x2 j e =
    let p =
    and_parts (has_step_on rule a b H side x1 x2 j) (has_square core (square_on H x1 j)) e in
    let i = SquareIn-from_test core (square_on H x1 j) p.1 in (
      (law rule.check rule.distance (exchanged a) (exchanged b) side x1 x2 j).0 p.0,
      (i.bottom, i.top, i.left, i.right),
    )

abbrev HasRow : Rule → Coverage → Box2 → Key → ℤ → Type 0
HasRow rule on core k j = HasStep rule (first_squares rule.check on) (second_squares rule.check on)
    core k.piece.axis k.piece.side k.piece.x1 k.piece.x2 j

pub row_test : TestDecidesPairSteps
    → (rules : List Rule) (on : Coverage) (core : Box2) (k : Key) (rule : Rule) (j : ℤ)
    → slice_get rules k.rule ≡ Some rule → HasRow rule on core k j
    → steps_in (steps_of rules on) (is_in_core core) (line_of_key k) j ≡ true
row_test law rules on core k rule j at h =
    subst (λ (o : Option Rule). (has_step_of o on (line_of_key k) j
    && is_in_core core (line_of_key k) j) ≡ true) (sym at)
    (step_test law rule (first_squares rule.check on) (second_squares rule.check on) core
    k.piece.axis
    k.piece.side k.piece.x1 k.piece.x2 j h)

pub row_from : TestDecidesPairSteps
    → (rules : List Rule) (on : Coverage) (core : Box2) (k : Key) (rule : Rule) (j : ℤ)
    → slice_get rules k.rule ≡ Some rule
    → steps_in (steps_of rules on) (is_in_core core) (line_of_key k) j ≡ true
    → HasRow rule on core k j
row_from law rules on core k rule j at e =
    step_from law rule (first_squares rule.check on) (second_squares rule.check on) core
    k.piece.axis
    k.piece.side k.piece.x1 k.piece.x2 j
    (subst (λ (o : Option Rule). (has_step_of o on (line_of_key k) j
    && is_in_core core (line_of_key k) j) ≡ true) at e)

pub maximal_from : TestDecidesPairSteps
    → (rules : List Rule) (on : Coverage) (core : Box2) (k : Key) (rule : Rule)
    → slice_get rules k.rule ≡ Some rule → IsFoundIn core on rule k.piece
    → IsMaximal (steps_in (steps_of rules on) (is_in_core core)) k
maximal_from law rules on core k rule at p = record {
  filled = p.filled;
  rows = λ j l h. row_test law rules on core k rule j at (p.steps j l h);
  below = is_false _ (λ e. p.below (row_from law rules on core k rule (k.piece.y0 -ℤ pos 1) at e));
  above = is_false _ (λ e. p.above (row_from law rules on core k rule k.piece.y1 at e));
}

pub run_from : TestDecidesPairSteps
    → (rules : List Rule) (on : Coverage) (core : Box2) (k : Key) (rule : Rule)
    → slice_get rules k.rule ≡ Some rule
    → IsMaximal (steps_in (steps_of rules on) (is_in_core core)) k
    → IsFoundIn core on rule k.piece
run_from law rules on core k rule at m = record {
  filled = m.filled;
  steps = λ j l h. row_from law rules on core k rule j at (m.rows j l h);
  below =
      λ s. false≢true (sym m.below ∙ row_test law rules on core k rule (k.piece.y0 -ℤ pos 1) at s);
  above = λ s. false≢true (sym m.above ∙ row_test law rules on core k rule k.piece.y1 at s);
}

-- a step has a rule
pub record HasRule (rules : List Rule) (on : Coverage) (line : Line) (j : ℤ) : Type 0 where
  pub rule : Rule
  pub at : slice_get rules line.rule ≡ Some rule
  pub step : has_step_on rule (first_squares rule.check on) (second_squares rule.check on) line.axis
      line.side line.x1 line.x2 j ≡ true

some_rule : (o : Option Rule) (on : Coverage) (line : Line) (j : ℤ) → has_step_of o on line j ≡ true
    → (rule : Rule) × (o ≡ Some rule) × (has_step_on rule (first_squares rule.check on)
    (second_squares rule.check on) line.axis line.side line.x1 line.x2 j ≡ true)
some_rule None on line j e = absurd (false≢true e)
some_rule (Some rule) on line j e = (rule, refl, e)

pub rule_of : (rules : List Rule) (on : Coverage) (line : Line) (j : ℤ)
    → steps_of rules on line j ≡ true → HasRule rules on line j
rule_of rules on line j e = let p = some_rule (slice_get rules line.rule) on line j e in
    record { rule = p.0; at = p.1; step = p.2 }

-- ---- the test of rows, and the relation

pub row_has_step : TestDecidesPairSteps → (rules : List Rule) (on : Coverage) (line : Line) (j : ℤ)
    → steps_of rules on line j ≡ true → HasPairStep rules on line j
row_has_step law rules on line j e =
    let r = rule_of rules on line j e in (
      r.rule,
      r.at,
      step_on law r.rule (first_squares r.rule.check on) (second_squares r.rule.check on) line.axis
          line.side line.x1 line.x2 j r.step,
    )

pub row_passes : TestDecidesPairSteps → (rules : List Rule) (on : Coverage) (line : Line) (j : ℤ)
    → HasPairStep rules on line j → steps_of rules on line j ≡ true
row_passes law rules on line j h =
    subst (λ (o : Option Rule). has_step_of o on line j ≡ true) (sym h.1)
    (test_on law h.0 (first_squares h.0.check on) (second_squares h.0.check on) line.axis line.side
    line.x1 line.x2 j h.2)
