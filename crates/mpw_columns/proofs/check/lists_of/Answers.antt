-- Each list is that of the column at its index.
use Rattle.std.proofs.Common.{ap, ◌∙◌, sym, subst}
use Rattle.std.specs.List.{AllZip}
use Rattle.std.proofs.lemmas.Result.{MatchResult-weaker}
use Rattle.rayon.proofs.ToStd.{slice-AllZip}
use Rattle.mpw_columns.specs.Lists.{IsColumnList}
use Rattle.mpw_columns.proofs.Collected.{IsFor, all_zipped}
use Rattle.mpw_columns.proofs.check.lists_of.Goals as goal

pub returns : goal.returns
returns g c =
    let layout = c.args.layout.now in
    let columns = c.args.columns.now in
    let slice = ap (λ it. it.base.slice.now) c.map.ensures.base
    ∙ ap (λ it. it.slice.now) c.with_min_len.ensures.base ∙ c.par_iter.ensures in
    let Is = IsColumnList layout.snapshot.now in
    let results = c.in_ok-collect.ensures.0 in
    let chain = rw c.map.ensures.f at c.in_ok-collect.ensures.1 in
    MatchResult-weaker c.in_ok-collect.field-0 c.in_ok-collect.ensures.2 (λ lists made.
    subst (AllZip Is columns) (sym made.2)
    (all_zipped _ Is columns results made.0 made.1
    (slice-AllZip chain.0 columns (chain.1 ∙ slice) (IsFor _ Is) results chain.2))) (λ _ _. tt)
