-- Answers to the goals of `columns` in `src/read.rt`.
use Rattle.std.proofs.Common.{rules, ◌∙◌, sym, map, length, ◌≤◌, subst, [], ◌<◌}
use Rattle.std.proofs.lemmas.List.{get_or-map, length-map}
use Rattle.std.proofs.Math.ListN.{drop_of_length-le}
use Rattle.mpw_firm_parts.specs.Parts.{IsListOf}
use Rattle.mpw_firm_parts.specs.Reading.{all_of, column_of}
use Rattle.mpw_firm_parts.proofs.Lists.{AreFront, none_yet, one_more, no_more, all_found, zip_none, zip_push}
use Rattle.mpw_firm_parts.proofs.read.columns.Goals as goal

pub loop-line-init : goal.loop-line-init
loop-line-init c = (
  none_yet _ _ _ (search rules) (search rules),
  zip_none IsListOf _ _ (search rules) (search rules),
)

pub returns-in-None-clause-columns : goal.returns-in-None-clause-columns
returns-in-None-clause-columns c =
    let items = c.args.lines.now in
    let ws = map (λ word. word.now) items in
    let i = c.loop-line.line-index in
    let inside : i < length ws = subst (λ n. i < n) (sym (length-map items (λ word. word.now)))
    (search rules) in
    no_more (all_of column_of ws) c.loop-line.columns.items c.loop-line.lists.items ws i [] _
    c.loop-line.invariant.0 inside (get_or-map (λ word. word.now) items i _ [] (search rules))
    (sym c.in_ok-listed.ensures.listed ∙ c.in-None.is)

pub loop-line-preserved : goal.loop-line-preserved
loop-line-preserved c =
    let items = c.args.lines.now in
    let ws = map (λ word. word.now) items in
    let i = c.loop-line.line-index in
    let inside : i < length ws = subst (λ n. i < n) (sym (length-map items (λ word. word.now)))
    (search rules) in
    rw (c.in_ok-push-in-Some.ensures.items, c.in_ok-push-in-Some-2.ensures.items) (
      one_more (all_of column_of ws) c.loop-line.columns.items c.loop-line.lists.items ws i [] _
          c.in-Some.listed c.loop-line.invariant.0 inside
          (get_or-map (λ word. word.now) items i _ [] (search rules))
          (sym c.in_ok-listed.ensures.listed ∙ c.in-Some.is),
      zip_push IsListOf c.loop-line.columns.items c.loop-line.lists.items c.in-Some.listed.column
          c.in-Some.listed.keys c.loop-line.invariant.1 (search rules),
    )

pub returns-clause-columns : goal.returns-clause-columns
unfolding all_of
returns-clause-columns c =
    let items = c.args.lines.now in
    let ws = map (λ word. word.now) items in
    let past : length ws ≤ c.loop-line.line-index = subst (λ n. n ≤ c.loop-line.line-index)
    (sym (length-map items (λ word. word.now))) (search rules) in
    all_found (all_of column_of ws) c.loop-line.columns.items c.loop-line.lists.items
    (subst (λ rest. AreFront (all_of column_of ws) (all_of column_of rest) c.loop-line.columns.items
    c.loop-line.lists.items) (drop_of_length-le ws past) c.loop-line.invariant.0)
