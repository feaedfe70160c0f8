-- Answers to the goals of `add_part` in `src/whole.rt`.
use Rattle.mpw_firm_parts.specs.Parts.{IsListOf}
use Rattle.mpw_firm_parts.proofs.Lists.{zip_length}
use Rattle.mpw_firm_parts.proofs.whole.add_part.Goals as goal

pub returns-in_err-append-clause-counted : goal.returns-in_err-append-clause-counted
returns-in_err-append-clause-counted c =
    zip_length IsListOf c.args.part.columns c.args.part.lists
    c.into_lists-more.ensures.within.lists

pub returns-clause-counted : goal.returns-clause-counted
returns-clause-counted c =
    zip_length IsListOf c.args.part.columns c.args.part.lists
    c.into_lists-more.ensures.within.lists
