-- The lists of columns that cover a layout make its markers.
use Rattle.std.proofs.Common.{◌≡◌, ◌∙◌, ℕ, zero, suc, ◌<◌, List, [], ◌∷◌, ◌++◌, length, map, Option, None, Some, refl, sym, subst, ap}
use Rattle.std.specs.Prelude.{All}
use Rattle.std.specs.List.{AllZip}
use Rattle.mpw_geom.specs.declared.plane.Box2.{Box2}
use Rattle.mpw_hier.specs.declared.submission.Submission.{Submission}
use Rattle.mpw_hier.specs.Items.{Item}
use Rattle.mpw_walk.specs.declared.root.Root.{Root}
use Rattle.mpw_walk.specs.Turns.{flat_roots}
use Rattle.mpw_tiles.specs.Snapshots.{Snapshot, shown, shown_extent}
use Rattle.mpw_markers.specs.declared.marker.Key.{Key}
use Rattle.mpw_job.specs.Laws.{NoShapesNoMarkers}
use Rattle.mpw_job.specs.Layout.{AreLayoutMarkers}
use Rattle.mpw_columns_keys.specs.declared.column.Column.{Column}
use Rattle.mpw_columns_keys.specs.Keys.{together, of_first}
use Rattle.mpw_columns.specs.Plan.{Cover}
use Rattle.mpw_columns.specs.Lists.{IsColumnList}
use Rattle.mpw_columns.specs.Laws.{ColumnsMakeTheLayout, ListsMakeTheLayout}
use Rattle.mpw_columns.proofs.BookMade.{layout_markers}
use Rattle.mpw_columns.proofs.Making.{Laws}
use Rattle.mpw_columns.proofs.Telling.{all_of_first}

-- each shape is of a submission of the shelf
abbrev pub ShapesComeFromShelves : Type 0
ShapesComeFromShelves = (ss : List Submission) (roots : List Root)
    → All (λ (i : Item). i.origin < length ss) (flat_roots ss roots)

no_lists : (s : Snapshot) (columns : List Column) (lists : List (List Key)) → columns ≡ []
    → AllZip (IsColumnList s) columns lists → lists ≡ []
no_lists s columns lists e h =
    none lists (subst (λ (cs : List Column). AllZip (IsColumnList s) cs lists) e h)
  where
    none : (lists : List (List Key)) → AllZip (IsColumnList s) [] lists → lists ≡ []
    none [] h = refl
    none (l ∷ ls) h = absurd h

none_together : (n : ℕ) → together n [] [] ≡ []
none_together zero = refl
none_together (suc n) = ap (λ (keys : List Key). keys ++ []) (none_together n)

pub lists_make : Laws → ColumnsMakeTheLayout → NoShapesNoMarkers → ShapesComeFromShelves
    → ListsMakeTheLayout
lists_make laws law nothing come s upright across vs hs alone cover first second =
    at (shown_extent s) refl cover
  where
    at : (o : Option Box2) → shown_extent s ≡ o → Cover o upright across
        → AreLayoutMarkers s (map of_first (together (length s.deck.rules) vs hs))
    at None e none =
        let keys : together (length s.deck.rules) vs hs ≡ [] =
        ap (λ (ls : List (List Key)). together (length s.deck.rules) ls hs)
        (no_lists s upright vs none.0 first)
        ∙ ap (together (length s.deck.rules) []) (no_lists s across hs none.1 second)
        ∙ none_together (length s.deck.rules) in
        subst (AreLayoutMarkers s) (sym (ap (map of_first) keys)) (nothing s e)
    at (Some extent) e both =
        layout_markers laws law s extent upright across vs hs _ e
        (all_of_first (shown s) (length s.shelf) (come s.shelf s.roots) alone) both.0 both.1 first
        second
        refl
