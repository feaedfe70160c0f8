-- Answers to the goals of `ColumnKeys::of` in `src/keys.rt`.
use Rattle.std.proofs.Common.{sym, subst}
use Rattle.std.specs.Prelude.{Contains}
use Rattle.std.proofs.lemmas.List.Sorted.{Contains-permutation, IsPermutation-sym}
use Rattle.mpw_columns_keys.proofs.keys.ColumnKeys.of.Goals as goal

pub returns-clause-same : goal.returns-clause-same
returns-clause-same c = λ k.
    let keys = c.args.keys.items in
    let sorted = c.sorted.result.items in
    let back = IsPermutation-sym keys sorted c.sorted.ensures.same in (
      λ there. Contains-permutation sorted keys k back (c.each_once.ensures.from k there),
      λ there.
          let kept = c.each_once.ensures.kept k (Contains-permutation keys sorted k c.sorted.ensures.same there) in
          subst (Contains c.each_once.result.items) (sym (c.requires k kept.0 there
          (Contains-permutation sorted keys kept.0 back (c.each_once.ensures.from kept.0 kept.1)) kept.2)) kept.1,
    )
