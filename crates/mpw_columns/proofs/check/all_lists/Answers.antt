-- Answers to the goals of `all_lists` in `src/check.rt`.
use Rattle.std.proofs.Common.{◌∙◌, ◌+◌, ◌++◌, ℕ, List, length, take, drop, take-add, sym, subst, arith}
use Rattle.std.specs.List.{AllZip}
use Rattle.mpw_columns_keys.specs.declared.column.Column.{Column}
use Rattle.mpw_columns.specs.Lists.{IsColumnList}
use Rattle.mpw_columns.proofs.Zipped.{zip_append}
use Rattle.mpw_columns.proofs.check.all_lists.Goals as goal

pub loop-reached-preserved : goal.loop-reached-preserved
loop-reached-preserved g c =
    let columns = c.args.batches.now.own.now.columns.now in
    let reached = c.loop-reached.reached in
    let lists = c.loop-reached.lists.items in
    let more = c.in_ok-more.more.items in
    let Is = IsColumnList c.args.batches.now.layout.now.snapshot.now in
    let next = c.in_ok-more.ensures in
    let within = next.within in
    let same = c.len-reached.ensures in
    let ok = c.in_ok-more.more.ok in (
      omega (arith, within, same, ok),
      subst (AllZip Is (take (reached + c.len-reached.result) columns)) (sym c.in_ok-append.ensures.items)
          (subst (λ (n : ℕ). AllZip Is (take (reached + n) columns) (lists ++ more)) (sym (same ∙ ok.0))
          (subst (λ (cs : List Column). AllZip Is cs (lists ++ more)) (sym (take-add reached (length more) columns))
          (zip_append Is (take reached columns) (take (length more) (drop reached columns)) lists more
          c.loop-reached.invariant.1 next.each))),
    )
