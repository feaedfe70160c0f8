-- Answers to the goals of `columns_of_both` in `src/plan.rt`.
use Rattle.std.proofs.Common.{rules, ap, length, length-append, ◌∙◌, arith, sym, subst}
use Rattle.mpw_columns.specs.Plan.{Cover}
use Rattle.mpw_columns.proofs.plan.columns_of_both.Goals as goal

pub returns-clause-plan : goal.returns-clause-plan
returns-clause-plan c = record {
  plan = record {
    upright = c.in_ok-columns.columns.items;
    across = c.in_ok-across.across.items;
    are = c.in_ok-append.ensures.items;
    cover = subst (λ o. Cover o c.in_ok-columns.columns.items c.in_ok-across.across.items)
        (sym c.requires.extent) (c.in_ok-columns.ensures.columns, c.in_ok-across.ensures.columns);
  };
  counted = search rules;
}

pub returns-clause-few : goal.returns-clause-few
returns-clause-few c =
    let long = ap length c.in_ok-append.ensures.items
    ∙ length-append c.in_ok-columns.columns.items c.in_ok-across.across.items in
    let first = c.in_ok-columns.ensures.few in
    let second = c.in_ok-across.ensures.few in
    omega (arith, long, first, second)
