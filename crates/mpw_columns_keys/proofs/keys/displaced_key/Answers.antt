-- Answers to the goals of `displaced_key` in `src/keys.rt`.
use Rattle.std.proofs.Common.{arith}
use Rattle.std.proofs.lemmas.Int.{ints}
use Rattle.mpw_columns_keys.proofs.SameKey.{displaced_is}
use Rattle.mpw_columns_keys.proofs.keys.displaced_key.Goals as goal

pub returns : goal.returns
returns c =
    displaced_is c.args.by _ _ c.args.key.now (omega (arith, ints)) (omega (arith, ints))
