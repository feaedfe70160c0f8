-- Laws of the keys of columns.
use Rattle.std.specs.Prelude.{◌≡◌, List, true, ◌↔◌}
use Rattle.mpw_markers.specs.declared.marker.Key.{Key}
use Rattle.mpw_columns_keys.specs.Keys.{AreInOrder, are_in_order}

-- The test decides which keys are in order.
abbrev pub TestDecidesOrder : Type 0
TestDecidesOrder = (keys : List Key) → (are_in_order keys ≡ true) ↔ AreInOrder keys
