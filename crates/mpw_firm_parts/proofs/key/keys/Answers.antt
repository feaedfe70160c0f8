-- Answers to the goals of `keys` in `src/key.rt`.
use Rattle.std.proofs.Common.{rules, ◌∙◌, sym, ap, map, length, append-nil, ◌≤◌, subst, [], Some, ◌<◌}
use Rattle.std.proofs.lemmas.List.{get_or-map, length-map}
use Rattle.std.proofs.Math.ListN.{drop_of_length-le}
use Rattle.std.proofs.lemmas.List.Elements.{All-push}
use Rattle.mpw_firm_parts.specs.Parts.{IsKeyOf}
use Rattle.mpw_firm_parts.specs.Reading.{all_of, column_key}
use Rattle.mpw_firm_parts.proofs.AllOf.{with_front, next_of, none_of}
use Rattle.mpw_firm_parts.proofs.key.keys.Goals as goal

pub returns-in-None-clause-keys : goal.returns-in-None-clause-keys
returns-in-None-clause-keys c =
    let items = c.args.words.now in
    let ws = map (λ word. word.now) items in
    let i = c.loop-word.word-index in
    let inside : i < length ws = subst (λ n. i < n) (sym (length-map items (λ word. word.now)))
    (search rules) in
    let none = none_of (column_key c.args.column.now) c.loop-word.keys.items ws i [] _ inside
    (get_or-map (λ word. word.now) items i _ [] (search rules))
    (sym c.in_ok-key.ensures.key ∙ c.in-None.is) in
    sym none ∙ c.loop-word.invariant.1

pub loop-word-preserved : goal.loop-word-preserved
loop-word-preserved c =
    let items = c.args.words.now in
    let ws = map (λ word. word.now) items in
    let i = c.loop-word.word-index in
    let found = c.loop-word.keys.items in
    let inside : i < length ws = subst (λ n. i < n) (sym (length-map items (λ word. word.now)))
    (search rules) in
    let next = next_of (column_key c.args.column.now) found ws i [] _ c.in-Some.key inside
    (get_or-map (λ word. word.now) items i _ [] (search rules))
    (sym c.in_ok-key.ensures.key ∙ c.in-Some.is) in
    rw c.in_ok-push-in-Some.ensures.items (
      All-push (IsKeyOf c.args.column.now) found c.in-Some.key c.loop-word.invariant.0
          (search rules),
      next ∙ c.loop-word.invariant.1,
    )

pub returns-clause-keys : goal.returns-clause-keys
unfolding all_of
returns-clause-keys c =
    let items = c.args.words.now in
    let ws = map (λ word. word.now) items in
    let past : length ws ≤ c.loop-word.word-index = subst (λ n. n ≤ c.loop-word.word-index)
    (sym (length-map items (λ word. word.now))) (search rules) in
    let whole = ap (λ rest. with_front c.loop-word.keys.items
    (all_of (column_key c.args.column.now) rest)) (drop_of_length-le ws past)
    ∙ ap (λ xs. Some xs) (append-nil c.loop-word.keys.items) in
    sym whole ∙ c.loop-word.invariant.1
