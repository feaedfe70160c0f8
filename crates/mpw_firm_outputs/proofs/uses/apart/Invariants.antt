-- The invariants of the loops of `apart` in `src/uses.rt`.
use Rattle.std.proofs.Common.{◌≡◌, drop}
use Rattle.std.specs.Prelude.{IfSome}
use Rattle.mpw_firm_outputs.specs.Outputs.{are_apart}
use Rattle.mpw_firm_outputs.specs.Apart.{names_of}
use Rattle.mpw_firm_outputs.proofs.uses.apart.Given as goal

-- the outputs are apart if those that are left are, after all that were taken
abbrev pub invariant-loop-out : goal.invariant-loop-out
invariant-loop-out g l = IfSome (g.O.Outputs.files l.outputs) (λ leads.
    are_apart leads (names_of l.taken.items) (names_of (drop l.out-index l.outs))
    ≡ are_apart leads (names_of l.fn.inputs) (names_of l.outs))
