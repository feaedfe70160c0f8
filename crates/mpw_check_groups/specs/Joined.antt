-- The markers of groups, joined in the order of the deck's rules.
use Rattle.std.specs.Prelude.{◌≡◌, ◌+◌, ◌==◌, ℕ, List, [], ◌∷◌, ◌++◌, length, map, filter, slice_get, slice_index_or, Some}
use Rattle.std.specs.List.{AllZip}
use Rattle.mpw_tiles.specs.Snapshots.{Snapshot}
use Rattle.mpw_markers.specs.declared.marker.Marker.{Marker}
use Rattle.mpw_job.specs.Layout.{AreLayoutMarkers}
use Rattle.mpw_check_groups.specs.declared.group.Group.{Group}
use Rattle.mpw_check_groups.specs.declared.joining.Owner.{Owner}
use Rattle.mpw_check_groups.specs.Parts.{IsPartOf}

-- The marker as one of another rule.
abbrev pub with_rule : ℕ → Marker → Marker
with_rule rule m = record m { key = record m.key { rule = rule } }

-- The markers of a group's rule at an index, as those of the deck's rule at another index.
abbrev pub taken : (place rule : ℕ) → List Marker → List Marker
taken place rule markers =
    map (with_rule rule) (filter (λ (m : Marker). m.key.rule == place) markers)

-- The same from the lists of groups, for a rule.
abbrev pub taken_at : List (List Marker) → Owner → ℕ → List Marker
taken_at lists o rule = taken o.place rule (slice_index_or lists o.group [])

-- The markers of the rules from one on, one rule after another.
abbrev pub joined_from : List (List Marker) → ℕ → List Owner → List Marker
joined_from lists rule [] = []
joined_from lists rule (o ∷ os) = taken_at lists o rule ++ joined_from lists (rule + 1) os

-- The rule is that of the group at that index.
pub record IsOwner (groups : List Group) (rule : ℕ) (o : Owner) : Type 0 where
  pub group : Group
  pub at : slice_get groups o.group ≡ Some group
  pub place : slice_get group.rules.items o.place ≡ Some rule

-- For each of the first `rules` rules, where it is.
pub record AreOwners (groups : List Group) (rules : ℕ) (owners : List Owner) : Type 0 where
  pub long : length owners ≡ rules
  pub each : (rule : ℕ) (o : Owner) → slice_get owners rule ≡ Some o → IsOwner groups rule o

-- The markers of a group's part.
pub record AreGroupMarkers (s : Snapshot) (group : Group) (markers : List Marker) : Type 0 where
  pub part : Snapshot
  pub is_part : IsPartOf s group.rules.items part
  pub are : AreLayoutMarkers part markers

-- The markers of all groups, joined, are those of the layout, if each rule is in a group.
abbrev pub GroupsMakeTheLayout : Type 0
GroupsMakeTheLayout =
    (s : Snapshot) (groups : List Group) (owners : List Owner) (lists : List (List Marker))
    → length s.shelf ≡ 1 → AreOwners groups (length s.deck.rules) owners
    → AllZip (AreGroupMarkers s) groups lists → AreLayoutMarkers s (joined_from lists 0 owners)
