-- The invariants of the loops of `mask_of` in `src/bucket.rt`.
use Rattle.std.proofs.Common.{◌≡◌, drop}
use Rattle.mpw_permissions.specs.Internal.Holders.{mask_in}
use Rattle.mpw_permissions.proofs.bucket.mask_of.Given as goal

-- the mask is among those that are left
abbrev pub invariant-loop-held : goal.invariant-loop-held
invariant-loop-held l = mask_in (drop l.held-index l.masks) l.object ≡ mask_in l.masks l.object
