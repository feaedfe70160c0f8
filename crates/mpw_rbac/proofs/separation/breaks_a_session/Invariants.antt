-- The invariants of the loops of `breaks_a_session` in `src/separation.rt`.
use Rattle.std.proofs.Common.{◌≡◌, take, map, false}
use Rattle.mpw_separation.specs.Separation.{is_broken}
use Rattle.mpw_rbac.proofs.SessionLemmas.{active_in}
use Rattle.mpw_rbac.proofs.separation.breaks_a_session.Given as goal

-- nobody so far breaks the set
abbrev pub invariant-loop-index : goal.invariant-loop-index
invariant-loop-index l =
    is_broken l.roles (map active_in (take l.index l.sessions)) l.set ≡ false
