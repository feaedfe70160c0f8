-- The invariants of the loops of `place_of` in `src/pairs.rt`.
use Rattle.std.proofs.Common.{◌≡◌, false, take, eqb}
use Rattle.std.specs.List.{list_any}
use Rattle.mpw_roles.proofs.pairs.place_of.Given as goal

-- none of the numbers so far is the one
abbrev pub invariant-loop-place : goal.invariant-loop-place
invariant-loop-place l = list_any (λ other. eqb l.number other) (take l.place l.order) ≡ false
