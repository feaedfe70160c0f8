-- The invariants of the loops of `is_among` in `src/grants.rt`.
use Rattle.std.proofs.Common.{◌≡◌, false, take}
use Rattle.std.specs.List.{list_any, flat_map}
use Rattle.mpw_permissions.specs.Grant.{grant_eq}
use Rattle.mpw_permissions.proofs.grants.is_among.Given as goal

-- none of the blocks so far has it
abbrev pub invariant-loop-block : goal.invariant-loop-block
invariant-loop-block l =
    list_any (grant_eq l.grant) (flat_map (λ b. b) (take l.block-index l.blocks)) ≡ false
