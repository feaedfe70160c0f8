-- The invariants of the loops of `place_among` in `src/register.rt`.
use Rattle.std.proofs.Common.{◌≡◌, false, take}
use Rattle.std.specs.List.{list_any}
use Rattle.mpw_geom.specs.Names.{name_eq}
use Rattle.mpw_roles.proofs.register.place_among.Given as goal

-- none of the names so far is the one
abbrev pub invariant-loop-place : goal.invariant-loop-place
invariant-loop-place l = list_any (name_eq l.name) (take l.place l.names) ≡ false
