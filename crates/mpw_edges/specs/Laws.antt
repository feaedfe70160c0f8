-- Laws about the definitions.
use Rattle.std.specs.Prelude.{◌≡◌, ℕ, ◌+◌, ◌≤◌, ℤ, ◌≤ℤ◌, ◌<ℤ◌, ◌↔◌}
use Rattle.mpw_geom.specs.declared.plane.Box2.{Box2}
use Rattle.mpw_geom.specs.Plane.{widened}
use Rattle.mpw_region.specs.Exchange.{exchanged_box}
use Rattle.mpw_deck.specs.declared.rule.Rule.{Rule}
use Rattle.mpw_edges.specs.declared.run.Axis.{Axis}
use Rattle.mpw_edges.specs.declared.run.Axis.TheVariants.{V, H}
use Rattle.mpw_edges.specs.declared.run.Piece.{Piece}
use Rattle.mpw_edges.specs.Edges.{Squares, exchanged}
use Rattle.mpw_edges.specs.Pieces.{IsPiece}

abbrev pub other_axis : Axis → Axis
other_axis V = H
other_axis H = V

abbrev pub exchanged_piece : Piece → Piece
exchanged_piece p =
    record { axis = other_axis p.axis; side = p.side; x1 = p.x1; x2 = p.x2; y0 = p.y0; y1 = p.y1 }

-- exchanging the coordinates of the squares and the core exchanges the axes of what is found
abbrev pub ExchangeExchangesAxes : Type 0
ExchangeExchangesAxes =
    (rule : Rule) (a b : Squares) (core : Box2) (p : Piece)
    → IsPiece rule a b core p ↔ IsPiece rule (exchanged a) (exchanged b) (exchanged_box core)
    (exchanged_piece p)

-- the squares are the same in the window
abbrev pub AreSameIn : Box2 → Squares → Squares → Type 0
AreSameIn window a b =
    (i j : ℤ) → window.x0 ≤ℤ i → i <ℤ window.x1 → window.y0 ≤ℤ j → j <ℤ window.y1 → a i j ≡ b i j

-- what a core finds depends only on the squares of its window: the core extended by the greatest distance plus 1
abbrev pub WindowDecides : Type 0
WindowDecides =
    (rule : Rule) (greatest : ℕ) (a b a' b' : Squares) (core : Box2) → rule.distance ≤ greatest
    → AreSameIn (widened core (greatest + 1)) a a' → AreSameIn (widened core (greatest + 1)) b b'
    → (p : Piece) → IsPiece rule a b core p ↔ IsPiece rule a' b' core p
