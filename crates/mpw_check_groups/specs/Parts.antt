-- The part of a layout that a group of rules is checked over.
use Rattle.std.specs.Prelude.{◌≡◌, ℕ, Bool, List, length, map, slice_get, Some}
use Rattle.mpw_geom.specs.declared.plane.Layer.{Layer}
use Rattle.mpw_deck.specs.declared.rule.Rule.{Rule}
use Rattle.mpw_hier.specs.declared.submission.Submission.{Submission}
use Rattle.mpw_hier.specs.Values.{flat}
use Rattle.mpw_tiles.specs.Snapshots.{Snapshot, shown}
use Rattle.mpw_check_groups.specs.Layers.{is_named, items_on}

-- The shelf has one submission. Each submission of the part shows what the shelf's shows on the layers that pass the test, in the same order.
pub record IsShelfOn (test : Layer → Bool) (ss part : List Submission) : Type 0 where
  pub alone : length part ≡ 1
  pub shown : (number : ℕ) → flat part number ≡ items_on test (flat ss number)

-- The rules of a deck at these indices, in order.
abbrev pub AreRulesAt : List Rule → List ℕ → List Rule → Type 0
AreRulesAt all places rules = map (λ (rule : Rule). Some rule) rules ≡ map (slice_get all) places

-- A snapshot has the rules of another one at these indices, and shows what that shows on the layers of these rules, in the same order.
pub record IsPartOf (s : Snapshot) (places : List ℕ) (part : Snapshot) : Type 0 where
  pub tile : part.deck.tile ≡ s.deck.tile
  pub rules : AreRulesAt s.deck.rules places part.deck.rules
  pub alone : length part.shelf ≡ 1
  pub shown : shown part ≡ items_on (is_named part.deck.rules) (shown s)
