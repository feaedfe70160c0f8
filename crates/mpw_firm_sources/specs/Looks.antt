-- Whether a check looks at something: a rule whose layer has no shapes finds nothing, whatever the layout is.
use Rattle.std.specs.Prelude.{◌≡◌, ◌⊎◌, ℕ, Bool, true, false, is_none, List, [], ◌∷◌, ◌++◌, codes, Option, None, Some, if◌then◌else◌}
use Rattle.std.specs.List.{list_all}
use Rattle.mpw_deck.specs.declared.rule.Check.{Check}
use Rattle.mpw_deck.specs.declared.rule.Check.TheVariants.{Width, Space, Separation, Enclosing}
use Rattle.mpw_deck.specs.declared.rule.Rule.{Rule}
use Rattle.mpw_geom.specs.declared.plane.Layer.{Layer}
use Rattle.mpw_tiles.specs.Snapshots.{Snapshot}
use Rattle.mpw_firm_layers.specs.Layers as shown
use Rattle.mpw_firm_messages.specs.Told.{Refuses}
use Rattle.mpw_firm_messages.specs.declared.fault.FirmFault.{FirmFault}
use Rattle.mpw_firm_messages.specs.declared.fault.FirmFault.TheVariants.{Memory}
use Rattle.mpw_firm_sources.specs.declared.target.Target.{Target}

-- The layout shows a shape on the layer.
abbrev pub shows : Snapshot → Layer → Bool
shows s layer = shown.shows s.shelf s.roots layer

-- The first of two layers on which it shows none.
abbrev pub empty_of : Snapshot → Layer → Layer → Option Layer
empty_of s first second =
    if shows s first then (if shows s second then None else Some second) else Some first

-- A layer of a check on which the layout shows no shape, the first of them.
abbrev pub empty_layer : Snapshot → Check → Option Layer
empty_layer s (Width layer) = if shows s layer then None else Some layer
empty_layer s (Space layer) = if shows s layer then None else Some layer
empty_layer s (Separation first second) = empty_of s first second
empty_layer s (Enclosing first second) = empty_of s first second

-- There are rules, and each has shapes on its layers.
abbrev pub looks : Snapshot → List Rule → Bool
looks s [] = false
looks s (rule ∷ rules) = list_all (λ r. is_none (empty_layer s r.check)) (rule ∷ rules)

-- A check that is asked for strictly does.
abbrev pub IsLookedAt : Bool → Snapshot → Type 0
IsLookedAt strict s = strict ≡ true → looks s s.deck.rules ≡ true

unfoldable pub idle_text : (file top : List ℕ) → List ℕ
idle_text file top =
    file
    ++ (codes ": "
    ++ (top
    ++ codes ": a rule looks at nothing, or there is none, as the notes say: --strict asks for shapes on each layer of each rule"))

-- Else it was asked for, and it is refused, and that is reported; or there is no memory to look.
abbrev pub IsOfLook : Target → Bool → Snapshot → FirmFault → Type 0
IsOfLook target strict s fault =
    (strict ≡ true) × ((fault ≡ Memory) ⊎ ((looks s s.deck.rules ≡ false)
    × Refuses (idle_text target.file.now target.top.now) fault))
