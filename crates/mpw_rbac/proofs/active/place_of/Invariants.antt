-- The invariants of the loops of `place_of` in `src/active.rt`.
use Rattle.std.proofs.Common.{◌≡◌, ℕ, ◌==◌, false, take}
use Rattle.std.specs.List.{list_any}
use Rattle.mpw_rbac.specs.declared.active.Active.{Active}
use Rattle.mpw_rbac.proofs.active.place_of.Given as goal

-- none of the entries so far has the connection
abbrev pub invariant-loop-place : goal.invariant-loop-place
invariant-loop-place l =
    list_any (λ (e : ℕ × Active). l.connection == e.0) (take l.place l.table) ≡ false
