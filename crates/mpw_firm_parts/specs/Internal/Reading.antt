-- What private functions and proofs need of this: columns and their lists, apart.
use Rattle.std.specs.Prelude.{◌≡◌, List, map, Option, Some}
use Rattle.mpw_markers.specs.declared.marker.Key.{Key}
use Rattle.mpw_columns_keys.specs.declared.column.Column.{Column}
use Rattle.mpw_firm_parts.specs.declared.line.Listed.{Listed}

-- What was found is something, and these are its columns, and the lists of these.
pub record AreOf (found : Option (List Listed)) (columns : List Column) (lists : List (List Key)) :
    Type 0 where
  pub listed : List Listed
  pub is : found ≡ Some listed
  pub own_columns : columns ≡ map (λ (l : Listed). l.column) listed
  pub own_lists : lists ≡ map (λ (l : Listed). l.keys) listed
