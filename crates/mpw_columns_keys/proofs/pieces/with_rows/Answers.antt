-- Answers to the goals of `with_rows` in `src/pieces.rt`.
use Rattle.std.proofs.Common.{rules}
use Rattle.std.proofs.lemmas.Fn.{filter_same}
use Rattle.mpw_columns_keys.specs.Internal.{has_rows}
use Rattle.mpw_columns_keys.proofs.pieces.with_rows.Goals as goal

pub returns : goal.returns
returns c = filter_same _ has_rows _ (λ x b f call. search rules) _ _ c.retain.ensures.filtered
