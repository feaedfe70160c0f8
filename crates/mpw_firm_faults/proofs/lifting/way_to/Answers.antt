-- Answers to the goals of `way_to` in `src/lifting.rt`.
use Rattle.std.proofs.Common.{All, subst, sym}
use Rattle.std.proofs.lemmas.List.Elements.{All-push}
use Rattle.mpw_firm_faults.specs.Lifting.{IsKnown, read_of}
use Rattle.mpw_firm_faults.proofs.lifting.way_to.Goals as goal

pub returns-in_ok-push-in-None-clause-known : goal.returns-in_ok-push-in-None-clause-known
returns-in_ok-push-in-None-clause-known c =
    subst (All (IsKnown (read_of c.args.seen.now))) (sym c.in_ok-push-in-None.ensures.items)
    (All-push (IsKnown (read_of c.args.seen.now)) c.args.known.now.items _ c.requires.known
    c.in_ok-way-in-None.ensures)
