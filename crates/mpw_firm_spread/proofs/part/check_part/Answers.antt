-- Answers to the goals of `check_part` in `src/part.rt`.
use Rattle.std.proofs.Common.{◌≤◌, List, length, ap, sym, subst, arith}
use Rattle.std.specs.Prelude.{All}
use Rattle.std.specs.List.{AllZip}
use Rattle.mpw_columns.specs.Lists.{IsColumnList}
use Rattle.mpw_columns.specs.Plan.{IsColumnWithin}
use Rattle.mpw_columns_keys.specs.declared.column.Column.{Column}
use Rattle.mpw_firm_parts.specs.Parts.{Found}
use Rattle.mpw_firm_spread.proofs.Listed.{share_length, share_within, lists_of, lists_counted}
use Rattle.mpw_firm_spread.proofs.part.check_part.Goals as goal

pub new-requires-clause-few : goal.new-requires-clause-few
new-requires-clause-few g c =
    let s = c.args.plan.snapshot.now in
    let lists = c.in_ok-lists.lists.items in
    let own = subst (λ (cs : List Column). AllZip (IsColumnList s) cs lists)
    c.as_slice.ensures.value c.in_ok-lists.ensures in
    let many = lists_counted s c.in_ok-columns.columns.items lists own in
    let long = ap (λ (cs : List Column). length cs) c.in_ok-columns.ensures in
    let within : c.args.span.end ≤ length c.args.plan.columns.now =
    subst (λ n. c.args.span.end ≤ n) (sym c.requires.counted) c.requires.within in
    let share = share_length c.args.plan.columns.now c.args.span.first c.args.span.end
    c.requires.ordered within in
    omega (arith, many, long, share, c.requires.ordered, c.requires.within)

pub new-requires-clause-lists : goal.new-requires-clause-lists
new-requires-clause-lists g c =
    let s = c.args.plan.snapshot.now in
    let lists = c.in_ok-lists.lists.items in
    let own = subst (λ (cs : List Column). AllZip (IsColumnList s) cs lists)
    c.as_slice.ensures.value c.in_ok-lists.ensures in
    let inside = subst (λ (cs : List Column). All (IsColumnWithin s) cs)
    (sym c.in_ok-columns.ensures)
    (share_within s c.args.plan.columns.now c.args.span.first c.args.span.end
    (c.columns_lie_within.ensures s c.args.plan.columns.now c.requires.columns)) in
    lists_of s c.in_ok-columns.columns.items lists inside own

pub returns-clause-count : goal.returns-clause-count
returns-clause-count g c =
    let s = c.args.plan.snapshot.now in
    let lists = c.in_ok-lists.lists.items in
    let own = subst (λ (cs : List Column). AllZip (IsColumnList s) cs lists)
    c.as_slice.ensures.value c.in_ok-lists.ensures in
    let many = lists_counted s c.in_ok-columns.columns.items lists own in
    let long = ap (λ (cs : List Column). length cs) c.in_ok-columns.ensures in
    let within : c.args.span.end ≤ length c.args.plan.columns.now =
    subst (λ n. c.args.span.end ≤ n) (sym c.requires.counted) c.requires.within in
    let share = share_length c.args.plan.columns.now c.args.span.first c.args.span.end
    c.requires.ordered within in
    let told = ap (λ (p : Found). length p.lists) c.new.ensures in
    omega (arith, told, many, long, share, c.requires.ordered)
