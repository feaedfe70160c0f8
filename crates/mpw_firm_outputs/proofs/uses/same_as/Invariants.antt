-- The invariants of the loops of `same_as` in `src/uses.rt`.
use Rattle.mpw_firm_outputs.proofs.Separate.{IsLeft, Leads}
use Rattle.mpw_firm_outputs.proofs.uses.same_as.Given as goal

-- none of the files so far is the one that the name leads to
abbrev pub invariant-loop-other : goal.invariant-loop-other
invariant-loop-other g l =
    let files = g.O.Outputs.files l.outputs in
    Leads files l.name l.spot × IsLeft files l.uses l.name l.other-index
