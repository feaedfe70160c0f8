-- Answers to the goals of `ColumnKeys::displaced` in `src/keys.rt`.
use Rattle.std.proofs.Common.{◌∙◌, map, ap, sym, subst}
use Rattle.mpw_columns_keys.specs.Keys.{AreInOrder, displaced_key}
use Rattle.mpw_columns_keys.proofs.KeyOrder.{order_kept}
use Rattle.mpw_columns_keys.proofs.keys.ColumnKeys.displaced.Goals as goal

pub invariant_of-result : goal.invariant_of-result
invariant_of-result c =
    subst AreInOrder (sym (c.in_ok-keys.ensures
    ∙ ap (map (displaced_key _)) c.as_slice.ensures.value))
    (order_kept _ _ c.self.invariant)
