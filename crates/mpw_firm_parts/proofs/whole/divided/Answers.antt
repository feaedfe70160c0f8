-- Answers to the goals of `divided` in `src/whole.rt`.
use Rattle.std.proofs.Common.{◌∙◌, sym, subst, take, drop}
use Rattle.std.proofs.lemmas.Bool.{false≢true}
use Rattle.mpw_firm_parts.specs.Stitching.{CoverExtent}
use Rattle.mpw_firm_parts.proofs.Covered.{divided}
use Rattle.mpw_firm_parts.proofs.whole.divided.Goals as goal

pub returns-else-cover-clause-divided : goal.returns-else-cover-clause-divided
returns-else-cover-clause-divided c us hs is cover =
    let columns = c.args.columns.now in
    false≢true (sym c.if-cover.false ∙ c.cover.ensures.1
    (subst (λ n. CoverExtent c.args.extent (take n columns) (drop n columns))
    (sym c.upright_count-upright.ensures.count) (divided c.args.extent columns us hs is cover)))
