-- The lines of a listing.
use Rattle.std.specs.Prelude.{ℕ, List, [], ◌∷◌, ◌++◌, codes}
use Rattle.std.specs.List.{concat}
use Rattle.std.specs.Fmt.{decimal}
use Rattle.mpw_deck.specs.declared.rule.Rule.{Rule}
use Rattle.mpw_markers.specs.declared.marker.Marker.{Marker}
use Rattle.mpw_firm_listing.specs.Keys.{key_text}

-- The first line: `OK` and how many lines follow.
unfoldable pub head_text : ℕ → List ℕ
head_text count = concat (codes "OK " ∷ decimal count ∷ codes "\n" ∷ [])

-- The line of a marker of that rule: its key and the structure's name.
unfoldable pub line_text : (parts : ℕ) → (top : List ℕ) → Rule → Marker → List ℕ
line_text parts top rule m =
    key_text parts rule.name m.key.piece ++ concat (codes " " ∷ top ∷ codes "\n" ∷ [])
