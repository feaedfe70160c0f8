-- The invariants of the loops of `is_shorter` in `src/grants.rt`.
use Rattle.std.proofs.Common.{◌≡◌, ◌+◌, length, take}
use Rattle.std.specs.List.{flat_map}
use Rattle.mpw_permissions.proofs.grants.is_shorter.Given as goal

-- the room that the blocks so far leave
abbrev pub invariant-loop-block : goal.invariant-loop-block
invariant-loop-block l = l.room + length (flat_map (λ b. b) (take l.block-index l.blocks)) ≡ l.limit
