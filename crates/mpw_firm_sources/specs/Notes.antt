-- What is printed about what a check looks at.
use Rattle.std.specs.Prelude.{ℕ, List, [], ◌∷◌, ◌++◌, map, Option, None, Some}
use Rattle.std.specs.List.{flat_map}
use Rattle.mpw_deck.specs.declared.rule.Rule.{Rule}
use Rattle.mpw_geom.specs.declared.plane.Layer.{Layer}
use Rattle.mpw_firm_report.specs.Content.{Noted, no_rules, idle, unnamed}
use Rattle.mpw_tiles.specs.Snapshots.{Snapshot}
use Rattle.mpw_firm_layers.specs.Layers.{layer_count}
use Rattle.mpw_firm_layers.specs.Unnamed as layers
use Rattle.mpw_firm_sources.specs.Looks.{empty_layer}

-- Layers that no rule names, of the shapes that a layout shows, in the order in which they come, at most 64.
abbrev pub unnamed_layers : Snapshot → List Layer
unnamed_layers s = layers.unnamed_layers s.shelf s.roots s.deck.rules

-- How many shapes are on a layer, up to 2^64 - 1.
abbrev pub shapes_on : Snapshot → Layer → ℕ
shapes_on s layer = layer_count s.shelf s.roots layer

-- ---- what is printed

-- The deck has no rules.
abbrev pub rule_notes : List Rule → List Noted
rule_notes [] = no_rules ∷ []
rule_notes (rule ∷ rules) = []

-- A rule looks at nothing, since a layer of it has no shapes.
abbrev pub idle_note : Rule → Option Layer → List Noted
idle_note rule None = []
idle_note rule (Some layer) = idle rule.name layer ∷ []

abbrev pub idle_notes : Snapshot → Rule → List Noted
idle_notes s rule = idle_note rule (empty_layer s rule.check)

-- No rule names a layer.
abbrev pub unnamed_note : Snapshot → Layer → Noted
unnamed_note s layer = unnamed layer (shapes_on s layer)

-- All of them.
abbrev pub notes_of : Snapshot → List Noted
notes_of s =
    (rule_notes s.deck.rules ++ flat_map (idle_notes s) s.deck.rules)
    ++ map (unnamed_note s) (unnamed_layers s)
