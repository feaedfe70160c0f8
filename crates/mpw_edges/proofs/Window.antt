-- The laws of exchanged coordinates and of windows.
use Rattle.std.proofs.Common.{◌≡◌, ℕ, ◌+◌, ◌≤◌, ℤ, pos, ◌-ℤ◌, ◌≤ℤ◌, ◌<ℤ◌, inl, inr, refl, sym, ap, ◌∙◌, arith}
use Rattle.std.specs.Prelude.{◌↔◌, ◌⊎◌}
use Rattle.std.proofs.lemmas.Int.{ints}
use Rattle.mpw_geom.specs.declared.plane.Box2.{Box2}
use Rattle.mpw_region.specs.Exchange.{exchanged_box}
use Rattle.mpw_deck.specs.declared.rule.Rule.{Rule}
use Rattle.mpw_deck.specs.declared.rule.Check.{Check}
use Rattle.mpw_deck.specs.declared.rule.Check.TheVariants.{Width, Space, Separation, Enclosing}
use Rattle.mpw_edges.specs.declared.run.Axis.{Axis}
use Rattle.mpw_edges.specs.declared.run.Axis.TheVariants.{V, H}
use Rattle.mpw_edges.specs.declared.run.Piece.{Piece}
use Rattle.mpw_edges.specs.Edges.{Squares, exchanged, IsRise, IsFall}
use Rattle.mpw_edges.specs.Steps.{IsPair}
use Rattle.mpw_edges.specs.Pieces.{HasVerticalStep, HasStep, IsPiece}
use Rattle.mpw_geom.specs.Plane.{widened}
use Rattle.mpw_edges.specs.Laws.{AreSameIn, other_axis, exchanged_piece}
use Rattle.mpw_edges.proofs.Maximal.{run_of_piece, piece_of_run}

-- ---- exchange

pub exchange : (rule : Rule) (a b : Squares) (core : Box2) (p : Piece) → IsPiece rule a b core p
    ↔ IsPiece rule (exchanged a) (exchanged b) (exchanged_box core) (exchanged_piece p)
exchange rule a b core p = (to p.axis refl, from p.axis refl)
  where
    to : (axis : Axis) → p.axis ≡ axis → IsPiece rule a b core p
        → IsPiece rule (exchanged a) (exchanged b) (exchanged_box core) (exchanged_piece p)
    to V e h = piece_of_run rule (exchanged a) (exchanged b) (exchanged_box core)
        (exchanged_piece p) H (ap other_axis e) (let r = run_of_piece rule a b core p V e h in
        record { filled = r.filled; steps = r.steps; below = r.below; above = r.above })
    to H e h = piece_of_run rule (exchanged a) (exchanged b) (exchanged_box core)
        (exchanged_piece p) V (ap other_axis e) (let r = run_of_piece rule a b core p H e h in
        record { filled = r.filled; steps = r.steps; below = r.below; above = r.above })

    from : (axis : Axis) → p.axis ≡ axis
        → IsPiece rule (exchanged a) (exchanged b) (exchanged_box core) (exchanged_piece p)
        → IsPiece rule a b core p
    from V e h = piece_of_run rule a b core p V e
        (let r = run_of_piece rule (exchanged a) (exchanged b) (exchanged_box core)
        (exchanged_piece p) H (ap other_axis e) h in
        record { filled = r.filled; steps = r.steps; below = r.below; above = r.above })
    from H e h = piece_of_run rule a b core p H e
        (let r = run_of_piece rule (exchanged a) (exchanged b) (exchanged_box core)
        (exchanged_piece p) V (ap other_axis e) h in
        record { filled = r.filled; steps = r.steps; below = r.below; above = r.above })

-- ---- the window

-- the same squares in a row, from before x1 to x2
abbrev pub SameAlong : Squares → Squares → ℤ → ℤ → ℤ → Type 0
SameAlong a b x1 x2 j = (i : ℤ) → (x1 -ℤ pos 1) ≤ℤ i → i ≤ℤ x2 → a i j ≡ b i j

rise_same : (a b : Squares) (x1 x2 j x : ℤ) → SameAlong a b x1 x2 j → x1 ≤ℤ x → x ≤ℤ x2
    → IsRise a x j → IsRise b x j
rise_same a b x1 x2 j x same l u r = (
  sym (same x (omega (arith, ints, l)) u)
      ∙ r.0,
  sym (same (x -ℤ pos 1) (omega (arith, ints, l)) (omega (arith, ints, u))) ∙ r.1,
)

fall_same : (a b : Squares) (x1 x2 j x : ℤ) → SameAlong a b x1 x2 j → x1 ≤ℤ x → x ≤ℤ x2
    → IsFall a x j → IsFall b x j
fall_same a b x1 x2 j x same l u r = (
  sym (same (x -ℤ pos 1) (omega (arith, ints, l)) (omega (arith, ints, u)))
      ∙ r.0,
  sym (same x (omega (arith, ints, l)) u) ∙ r.1,
)

at_first : (x1 x2 : ℤ) → x1 ≤ℤ x1
at_first x1 x2 = omega (arith, ints)

weak : (x1 x2 : ℤ) → x1 <ℤ x2 → x1 ≤ℤ x2
weak x1 x2 h = omega (arith, ints, h)

-- either side of two layers, if each of its steps stays
either_same : {S T A B C D A' B' C' D' : Type 0} → (A → A') → (B → B') → (C → C') → (D → D')
    → ((S × A × B) ⊎ (T × C × D)) → ((S × A' × B') ⊎ (T × C' × D'))
either_same a b c d (inl p) = inl (p.0, a p.1, b p.2)
either_same a b c d (inr p) = inr (p.0, c p.1, d p.2)

pub pair_same : (check : Check) (a b a' b' : Squares) (side : ℕ) (x1 x2 j : ℤ) → SameAlong a a' x1 x2 j
    → SameAlong b b' x1 x2 j → IsPair check a b side x1 x2 j → IsPair check a' b' side x1 x2 j
pair_same (Width l) a b a' b' side x1 x2 j f g w = (
  w.0,
  rise_same a a' x1 x2 j x1 f (at_first x1 x2) (weak x1 x2 w.3) w.1,
  fall_same a a' x1 x2 j x2 f (weak x1 x2 w.3) (at_first x2 x1) w.2,
  w.3,
  λ i l u. sym (f i (omega (arith, ints, l)) (omega (arith, ints, u))) ∙ w.4 i l u,
)
pair_same (Space l) a b a' b' side x1 x2 j f g w = (
  w.0,
  fall_same a a' x1 x2 j x1 f (at_first x1 x2) (weak x1 x2 w.3) w.1,
  rise_same a a' x1 x2 j x2 f (weak x1 x2 w.3) (at_first x2 x1) w.2,
  w.3,
)
pair_same (Separation l m) a b a' b' side x1 x2 j f g w = (
  w.0,
  either_same (fall_same a a' x1 x2 j x1 f (at_first x1 x2) w.0)
      (rise_same b b' x1 x2 j x2 g w.0 (at_first x2 x1))
      (fall_same b b' x1 x2 j x1 g (at_first x1 x2) w.0)
      (rise_same a a' x1 x2 j x2 f w.0 (at_first x2 x1)) w.1,
)
pair_same (Enclosing l m) a b a' b' side x1 x2 j f g w = (
  w.0,
  either_same (rise_same a a' x1 x2 j x1 f (at_first x1 x2) w.0)
      (rise_same b b' x1 x2 j x2 g w.0 (at_first x2 x1))
      (fall_same b b' x1 x2 j x1 g (at_first x1 x2) w.0)
      (fall_same a a' x1 x2 j x2 f w.0 (at_first x2 x1)) w.1,
)

along : (a a' : Squares) (core : Box2) (distance greatest : ℕ) (x1 x2 j : ℤ) → distance ≤ greatest
    → AreSameIn (widened core (greatest + 1)) a a' → core.x0 ≤ℤ x1 → x1 <ℤ core.x1 → core.y0 ≤ℤ j
    → j <ℤ core.y1 → (x2 -ℤ x1) <ℤ pos distance → SameAlong a a' x1 x2 j
along a a' core distance greatest x1 x2 j d same l u low high near i f g =
    same i j (omega (arith, ints, l, f)) (omega (arith, ints, u, g, near, d))
    (omega (arith, ints, low)) (omega (arith, ints, high))

vertical_same : (rule : Rule) (greatest : ℕ) (a b a' b' : Squares) (core : Box2)
    → rule.distance ≤ greatest → AreSameIn (widened core (greatest + 1)) a a'
    → AreSameIn (widened core (greatest + 1)) b b' → (side : ℕ) (x1 x2 j : ℤ)
    → HasVerticalStep rule a b core side x1 x2 j → HasVerticalStep rule a' b' core side x1 x2 j
vertical_same rule greatest a b a' b' core d f g side x1 x2 j s = (
  (
    pair_same rule.check a b a' b' side x1 x2 j
        (along a a' core rule.distance greatest x1 x2 j d f s.1.0 s.1.1 s.1.2 s.1.3 s.0.1)
        (along b b' core rule.distance greatest x1 x2 j d g s.1.0 s.1.1 s.1.2 s.1.3 s.0.1)
        s.0.0,
    s.0.1,
  ),
  s.1,
)

exchanged_same : (core : Box2) (n : ℕ) (a a' : Squares) → AreSameIn (widened core n) a a'
    → AreSameIn (widened (exchanged_box core) n) (exchanged a) (exchanged a')
exchanged_same core n a a' h i j l u low high = h j i low high l u

pub step_same : (rule : Rule) (greatest : ℕ) (a b a' b' : Squares) (core : Box2)
    → rule.distance ≤ greatest → AreSameIn (widened core (greatest + 1)) a a'
    → AreSameIn (widened core (greatest + 1)) b b' → (axis : Axis) (side : ℕ) (x1 x2 j : ℤ)
    → HasStep rule a b core axis side x1 x2 j → HasStep rule a' b' core axis side x1 x2 j
step_same rule greatest a b a' b' core d f g V side x1 x2 j s =
    vertical_same rule greatest a b a' b' core d f g side x1 x2 j s
step_same rule greatest a b a' b' core d f g H side x1 x2 j s =
    vertical_same rule greatest (exchanged a) (exchanged b) (exchanged a') (exchanged b')
    (exchanged_box core) d (exchanged_same core (greatest + 1) a a' f)
    (exchanged_same core (greatest + 1) b b' g) side x1 x2 j s

pub back : (w : Box2) (a a' : Squares) → AreSameIn w a a' → AreSameIn w a' a
back w a a' h i j l u low high = sym (h i j l u low high)

piece_same : (rule : Rule) (greatest : ℕ) (a b a' b' : Squares) (core : Box2)
    → rule.distance ≤ greatest → AreSameIn (widened core (greatest + 1)) a a'
    → AreSameIn (widened core (greatest + 1)) b b' → (p : Piece) → IsPiece rule a b core p
    → IsPiece rule a' b' core p
piece_same rule greatest a b a' b' core d f g p h = record {
  filled = h.filled;
  steps = λ j l u. step_same rule greatest a b a' b' core d f g p.axis p.side p.x1 p.x2 j
      (h.steps j l u);
  below = λ s. h.below (step_same rule greatest a' b' a b core d
      (back (widened core (greatest + 1)) a a' f) (back (widened core (greatest + 1)) b b' g) p.axis
      p.side p.x1 p.x2 (p.y0 -ℤ pos 1) s);
  above = λ s. h.above (step_same rule greatest a' b' a b core d
      (back (widened core (greatest + 1)) a a' f) (back (widened core (greatest + 1)) b b' g) p.axis
      p.side p.x1 p.x2 p.y1 s);
}

pub window : (rule : Rule) (greatest : ℕ) (a b a' b' : Squares) (core : Box2)
    → rule.distance ≤ greatest → AreSameIn (widened core (greatest + 1)) a a'
    → AreSameIn (widened core (greatest + 1)) b b' → (p : Piece) → IsPiece rule a b core p
    ↔ IsPiece rule a' b' core p
window rule greatest a b a' b' core d f g p = (
  piece_same rule greatest a b a' b' core d f g p,
  piece_same rule greatest a' b' a b core d (back (widened core (greatest + 1)) a a' f)
      (back (widened core (greatest + 1)) b b' g) p,
)
