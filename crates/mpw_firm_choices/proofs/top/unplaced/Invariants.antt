-- The invariants of the loops of `unplaced` in `src/top.rt`.
use Rattle.std.proofs.Common.{◌≡◌, take}
use Rattle.mpw_firm_choices.specs.Tops.{unplaced}
use Rattle.mpw_firm_choices.proofs.top.unplaced.Given as goal

-- those of the names so far
abbrev pub invariant-loop-name : goal.invariant-loop-name
invariant-loop-name l =
    l.found.items ≡ unplaced (λ n. n.now) (λ p. p.now) (take l.name-index l.names) l.placed
