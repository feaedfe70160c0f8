-- The invariants of the loops of `code` in `src/codes.rt`.
use Rattle.std.proofs.Common.{◌≡◌, take}
use Rattle.std.specs.Prelude.{fold}
use Rattle.mpw_columns_contents.specs.Codes.{thing_code}
use Rattle.mpw_columns_contents.proofs.codes.code.Given as goal

abbrev pub invariant-loop-thing : goal.invariant-loop-thing
invariant-loop-thing l = l.code ≡ fold (thing_code l.from) 0 (take l.thing-index l.things)
