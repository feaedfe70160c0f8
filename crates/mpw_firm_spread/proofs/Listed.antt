-- The lists of a share's columns.
use Rattle.std.proofs.Common.{◌≡◌, ◌-◌, ◌≤◌, ℕ, suc, List, [], ◌∷◌, length, take, drop, get_or, sym, arith}
use Rattle.std.specs.Prelude.{All, Contains}
use Rattle.std.specs.List.{AllZip}
use Rattle.std.proofs.lemmas.List.{length-drop, length-take-le}
use Rattle.std.proofs.lemmas.List.Elements.{All-drop, All-take, All-contains_itself}
use Rattle.mpw_columns.specs.Lists.{IsColumnList}
use Rattle.mpw_columns.specs.Plan.{IsColumnWithin}
use Rattle.mpw_columns_keys.specs.declared.column.Column.{Column}
use Rattle.mpw_markers.specs.declared.marker.Key.{Key}
use Rattle.mpw_firm_parts.specs.Parts.{IsKeyOf, IsListOf}
use Rattle.mpw_tiles.specs.Snapshots.{Snapshot}
use Rattle.mpw_firm_spread.proofs.Zipped.{zip_length}

-- So many columns from one on are as many as that.
pub share_length : (columns : List Column) (first end : ℕ) → first ≤ end → end ≤ length columns
    → length (take (end - first) (drop first columns)) ≡ end - first
share_length columns first end a b =
    let behind = length-drop first columns in
    length-take-le (end - first) (drop first columns) (omega (arith, a, b, behind))

pub share_within : (s : Snapshot) (columns : List Column) (first end : ℕ)
    → All (IsColumnWithin s) columns
    → All (IsColumnWithin s) (take (end - first) (drop first columns))
share_within s columns first end h =
    All-take (IsColumnWithin s) (end - first) (drop first columns)
    (All-drop (IsColumnWithin s) first columns h)

key_of_list : (s : Snapshot) (c : Column) (keys : List Key) → IsColumnList s c keys → (k : Key)
    → Contains keys k → IsKeyOf c k
key_of_list s c keys list k has =
    let run = (list.exact k).0 has in
    record { on_axis = run.on_axis; left = run.left; right = run.right; filled = run.run.filled }

list_of : (s : Snapshot) (c : Column) (keys : List Key) → IsColumnWithin s c
    → IsColumnList s c keys → IsListOf c keys
list_of s c keys within list =
    record {
      some = within.some;
      all = λ n d less. key_of_list s c keys list (get_or keys n d)
          (All-contains_itself keys n d less);
    }

pub lists_of : (s : Snapshot) (cs : List Column) (lists : List (List Key))
    → All (IsColumnWithin s) cs → AllZip (IsColumnList s) cs lists → AllZip IsListOf cs lists
lists_of s [] [] h z = tt
lists_of s [] (l ∷ ls) h z = absurd z
lists_of s (c ∷ cs) [] h z = absurd z
lists_of s (c ∷ cs) (l ∷ ls) h z = (
  list_of s c l (h 0 c (omega arith)) z.0,
  lists_of s cs ls (λ k d less. h (suc k) d (omega (arith, less))) z.1,
)

pub lists_counted : (s : Snapshot) (cs : List Column) (lists : List (List Key))
    → AllZip (IsColumnList s) cs lists → length lists ≡ length cs
lists_counted s cs lists z = sym (zip_length (IsColumnList s) cs lists z)
