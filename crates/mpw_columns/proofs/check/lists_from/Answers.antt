-- Answers to the goals of `lists_from` in `src/check.rt`.
use Rattle.std.proofs.Common.{◌≡◌, ◌∙◌, ◌≤◌, ℕ, List, length, length-drop, length-take-le, take, drop, ap, sym, subst, arith}
use Rattle.std.specs.List.{AllZip}
use Rattle.std.proofs.lemmas.Result.{IfOk-weaker}
use Rattle.mpw_columns_keys.specs.declared.column.Column.{Column}
use Rattle.mpw_columns.specs.Lists.{IsColumnList}
use Rattle.mpw_columns.proofs.Zipped.{zip_length}
use Rattle.mpw_columns.proofs.check.lists_from.Goals as goal

pub returns : goal.returns
returns g c =
    let columns = c.args.batches.now.own.now.columns.now in
    let s = c.args.batches.now.layout.now.snapshot.now in
    let reached = c.args.reached in
    let count = c.next_count-count.result in
    let some = c.next_count-count.ensures.some in
    let few = c.next_count-count.ensures.within in
    let rest = length-drop reached columns in
    let fits : count ≤ length (drop reached columns) = omega (arith, few, rest) in
    let next = c.batch_at-next.ensures in
    IfOk-weaker c.lists_of.result _ _
    (λ v h.
    let long : length v.items ≡ count =
    sym (zip_length (IsColumnList s) c.batch_at-next.result.now v.items h) ∙ ap length next
    ∙ length-take-le count (drop reached columns) fits in
    let within = c.requires.within in record {
      some = omega (arith, long, some);
      within = omega (arith, long, few, within);
      each = subst (λ (n : ℕ). AllZip (IsColumnList s) (take n (drop reached columns)) v.items) (sym long)
          (subst (λ (cs : List Column). AllZip (IsColumnList s) cs v.items) next h);
    }) c.lists_of.ensures
