-- For private functions and proofs: the first markers of groups, and how they are joined.
use Rattle.std.specs.Prelude.{◌≡◌, ◌+◌, ℕ, List, [], ◌∷◌, ◌++◌, map, sum_by, slice_get, slice_index_or, Option, Some, None}
use Rattle.mpw_tiles.specs.Snapshots.{Snapshot}
use Rattle.mpw_markers.specs.declared.marker.Marker.{Marker}
use Rattle.mpw_columns_keys.specs.Firsts.{capped}
use Rattle.mpw_columns.specs.First.{IsFirstOfLayout}
use Rattle.mpw_columns.specs.declared.first.FirstMarkers.{FirstMarkers}
use Rattle.mpw_check_groups.specs.declared.group.Group.{Group}
use Rattle.mpw_check_groups.specs.declared.joining.Owner.{Owner}
use Rattle.mpw_check_groups.specs.Joined.{joined_from, taken_at}
use Rattle.mpw_check_groups.specs.Parts.{IsPartOf}

-- The first markers of a group's part.
pub record AreGroupFirsts (most : ℕ) (s : Snapshot) (group : Group) (f : FirstMarkers) : Type 0
  where
    pub part : Snapshot
    pub is_part : IsPartOf s group.rules.items part
    pub are : IsFirstOfLayout most part f

abbrev pub markers_of : FirstMarkers → List Marker
markers_of f = f.markers.items

-- How many markers a rule has, by where it is among the groups.
abbrev pub count_in : Option FirstMarkers → ℕ → ℕ
count_in None place = 0
count_in (Some f) place = slice_index_or f.counts.items place 0

abbrev pub count_at : List FirstMarkers → Owner → ℕ
count_at fs o = count_in (slice_get fs o.group) o.place

-- A rule's first markers and their number are added.
pub record AddsRule (fs : List FirstMarkers) (o : Owner) (rule : ℕ) (old new : FirstMarkers) : Type 0
  where
    pub markers : new.markers.items
        ≡ old.markers.items ++ taken_at (map markers_of fs) o rule
    pub counts : new.counts.items ≡ old.counts.items ++ count_at fs o ∷ []
    pub all : new.all ≡ capped (old.all + count_at fs o)

-- The first markers and the numbers of all rules.
pub record AreJoinedFirsts (fs : List FirstMarkers) (owners : List Owner) (f : FirstMarkers) : Type 0
  where
    pub markers : f.markers.items ≡ joined_from (map markers_of fs) 0 owners
    pub counts : f.counts.items ≡ map (count_at fs) owners
    pub all : f.all ≡ capped (sum_by (count_at fs) owners)
