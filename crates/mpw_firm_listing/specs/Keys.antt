-- The key of a marker: the name of its rule, and, each after a colon, the axis, the side, the coordinates of the edges and the rows, in nm.
use Rattle.std.specs.Prelude.{◌≡◌, ℕ, ℤ, List, [], ◌∷◌, ◌++◌, codes}
use Rattle.std.specs.List.{flat_map}
use Rattle.std.specs.Fmt.{decimal, signed_decimal}
use Rattle.mpw_edges.specs.declared.run.Axis.{Axis}
use Rattle.mpw_edges.specs.declared.run.Axis.TheVariants.{V, H}
use Rattle.mpw_firm_listing.specs.Lengths.{length_text}
use Rattle.mpw_edges.specs.declared.run.Piece.{Piece}
use Rattle.mpw_text.specs.Writing.{with_colons}

-- The letter of an axis.
unfoldable pub axis_text : Axis → List ℕ
axis_text V = codes "V"
axis_text H = codes "H"

abbrev pub after_colon : List ℕ → List ℕ
after_colon next = 0x3A ∷ next

unfoldable pub head_text : (rule : List ℕ) → Piece → List ℕ
head_text rule p =
    rule ++ flat_map after_colon (axis_text p.axis ∷ decimal p.side ∷ [])

-- The coordinates count so many parts of a nanometre.
unfoldable pub pair_text : (parts : ℕ) → (one other : ℤ) → List ℕ
pair_text parts one other =
    after_colon (length_text parts one) ++ after_colon (length_text parts other)

unfoldable pub place_text : (parts : ℕ) → Piece → List ℕ
place_text parts p = pair_text parts p.x1 p.x2 ++ pair_text parts p.y0 p.y1

-- The key of a marker of the rule with that name.
unfoldable pub key_text : (parts : ℕ) → (rule : List ℕ) → Piece → List ℕ
key_text parts rule p = head_text rule p ++ place_text parts p

-- The same of coordinates that are whole nanometres.
abbrev pub whole_key : (rule : List ℕ) → Piece → List ℕ
whole_key rule p =
    with_colons (rule ∷ axis_text p.axis ∷ decimal p.side ∷ signed_decimal p.x1
    ∷ signed_decimal p.x2 ∷ signed_decimal p.y0 ∷ signed_decimal p.y1 ∷ [])

-- With one part it is that.
abbrev pub WholeKeysAreNumbers : Type 0
WholeKeysAreNumbers = (rule : List ℕ) (p : Piece) → key_text 1 rule p ≡ whole_key rule p
