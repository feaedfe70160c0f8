-- What a rule finds in strips that serve it.
use Rattle.std.proofs.Common.{ℕ, Option, subst, sym}
use Rattle.std.specs.Prelude.{ℤ, ◌↔◌}
use Rattle.mpw_geom.specs.declared.plane.Box2.{Box2}
use Rattle.mpw_geom.specs.declared.plane.Layer.{Layer}
use Rattle.mpw_deck.specs.declared.rule.Check.{Check}
use Rattle.mpw_deck.specs.declared.rule.Check.TheVariants.{Width, Space, Separation, Enclosing}
use Rattle.mpw_deck.specs.declared.rule.Rule.{Rule}
use Rattle.mpw_edges.specs.declared.run.Axis.{Axis}
use Rattle.mpw_edges.specs.declared.run.Axis.TheVariants.{V, H}
use Rattle.mpw_edges.specs.declared.run.Piece.{Piece}
use Rattle.mpw_edges.specs.Edges.{Squares, exchanged}
use Rattle.mpw_edges.specs.Steps.{IsPair}
use Rattle.mpw_edges.specs.Pieces.{HasStep, IsPiece}
use Rattle.mpw_job.specs.Layers.{Coverage, first_squares, second_squares}
use Rattle.mpw_job.specs.Answers.{IsFoundIn}
use Rattle.mpw_work.specs.Internal.Shared.{squares_on, LooksAt}

-- the pairs of a check are those of its layers, as they are or exchanged
abbrev AreItsPairs : (Squares → Squares) → Check → Coverage → Layer → Option Layer → Type 0
AreItsPairs turned check on first second =
    (side : ℕ) (x1 x2 j : ℤ) → IsPair check (turned (on first)) (turned (squares_on on second)) side
    x1 x2 j
    ↔ IsPair check (turned (first_squares check on)) (turned (second_squares check on)) side x1 x2 j

same_pairs : (turned : Squares → Squares) (check : Check) (on : Coverage) (first : Layer)
    (second : Option Layer) → LooksAt check first second → AreItsPairs turned check on first second
same_pairs turned (Width l) on first second e =
    subst (λ (x : Layer). AreItsPairs turned (Width l) on x second) e
    (λ side x1 x2 j. (λ h. h, λ h. h))
same_pairs turned (Space l) on first second e =
    subst (λ (x : Layer). AreItsPairs turned (Space l) on x second) e
    (λ side x1 x2 j. (λ h. h, λ h. h))
same_pairs turned (Separation l m) on first second e =
    subst (λ (x : Layer). AreItsPairs turned (Separation l m) on x second) e.0
    (subst (λ (o : Option Layer). AreItsPairs turned (Separation l m) on l o) (sym e.1)
    (λ side x1 x2 j. (λ h. h, λ h. h)))
same_pairs turned (Enclosing l m) on first second e =
    subst (λ (x : Layer). AreItsPairs turned (Enclosing l m) on x second) e.0
    (subst (λ (o : Option Layer). AreItsPairs turned (Enclosing l m) on l o) (sym e.1)
    (λ side x1 x2 j. (λ h. h, λ h. h)))

same_steps : (rule : Rule) (on : Coverage) (first : Layer) (second : Option Layer) (core : Box2)
    → LooksAt rule.check first second → (axis : Axis) (side : ℕ) (x1 x2 j : ℤ)
    → HasStep rule (on first) (squares_on on second) core axis side x1 x2 j
    ↔ HasStep rule (first_squares rule.check on) (second_squares rule.check on) core axis side
    x1 x2 j
same_steps rule on first second core e V side x1 x2 j =
    let same = same_pairs (λ s. s) rule.check on first second e side x1 x2 j in
    (λ h. ((same.0 h.0.0, h.0.1), h.1), λ h. ((same.1 h.0.0, h.0.1), h.1))
same_steps rule on first second core e H side x1 x2 j =
    let same = same_pairs exchanged rule.check on first second e side x1 x2 j in
    (λ h. ((same.0 h.0.0, h.0.1), h.1), λ h. ((same.1 h.0.0, h.0.1), h.1))

piece_from : (rule : Rule) (a b a' b' : Squares) (core : Box2)
    → ((axis : Axis) (side : ℕ) (x1 x2 j : ℤ) → HasStep rule a b core axis side x1 x2 j
    ↔ HasStep rule a' b' core axis side x1 x2 j)
    → (p : Piece) → IsPiece rule a b core p → IsPiece rule a' b' core p
piece_from rule a b a' b' core same p h = record {
  filled = h.filled;
  steps = λ j l u. (same p.axis p.side p.x1 p.x2 j).0 (h.steps j l u);
  below = λ s. h.below ((same p.axis p.side p.x1 p.x2 _).1 s);
  above = λ s. h.above ((same p.axis p.side p.x1 p.x2 _).1 s);
}

pub found_on : (rule : Rule) (on : Coverage) (first : Layer) (second : Option Layer) (core : Box2)
    → LooksAt rule.check first second
    → (p : Piece) → IsPiece rule (on first) (squares_on on second) core p ↔ IsFoundIn core on rule p
found_on rule on first second core e p = (
  piece_from rule _ _ _ _ core (same_steps rule on first second core e) p,
  piece_from rule _ _ _ _ core (λ axis side x1 x2 j. let same = same_steps rule on first second core
      e axis side x1 x2 j in (same.1, same.0)) p,
)
