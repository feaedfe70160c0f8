-- The set begins without names.
use Rattle.std.proofs.Common.{◌∙◌, ◌++◌, ap}
use Rattle.mpw_roles.specs.Order.{are_distinct}
use Rattle.mpw_roles.proofs.RegisterLemmas.{distinct-left}
use Rattle.mpw_roles.proofs.settled.add_both.Goals as goal

pub add_all-requires : goal.add_all-requires
add_all-requires c = ap (λ l. are_distinct (l ++ c.args.names.now)) c.requires.empty
    ∙ distinct-left c.args.names.now c.args.others.now c.requires.once
