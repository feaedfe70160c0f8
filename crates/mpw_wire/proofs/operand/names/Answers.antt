-- Answers to the goals of `names` in `src/operand.rt`.
use Rattle.std.proofs.Common.{rules, ◌∙◌, sym, ap, map, length, append-nil, drop, ◌≤◌, subst, [], Some, ◌<◌, ◌+◌}
use Rattle.std.proofs.lemmas.List.{get_or-map, length-map}
use Rattle.std.proofs.Math.ListN.{drop_of_length-le}
use Rattle.mpw_wire.specs.Request.{names_of}
use Rattle.mpw_wire.proofs.ReadingLemmas.{with_names, with_no_names, names_next, names_none}
use Rattle.mpw_wire.proofs.operand.names.Goals as goal

pub loop-word-init : goal.loop-word-init
loop-word-init c =
    let ws = map (λ word. word.now) c.args.words.now in
    ap (λ n. with_names n (names_of c.args.origin ws)) c.new-names.ensures ∙ with_no_names _

pub returns-in-None : goal.returns-in-None
returns-in-None c =
    let items = c.args.words.now in
    let ws = map (λ word. word.now) items in
    let within : c.loop-word.word-index < length ws = subst (λ n. c.loop-word.word-index < n)
    (sym (length-map items (λ word. word.now))) (search rules) in
    let none = names_none c.args.origin c.loop-word.names ws c.loop-word.word-index _ within
    (get_or-map (λ word. word.now) items c.loop-word.word-index _ [] (search rules))
    (sym c.in_ok-name.ensures ∙ c.in-None.is) in
    sym none ∙ c.loop-word.invariant

pub loop-word-preserved : goal.loop-word-preserved
loop-word-preserved c =
    let items = c.args.words.now in
    let ws = map (λ word. word.now) items in
    let within : c.loop-word.word-index < length ws = subst (λ n. c.loop-word.word-index < n)
    (sym (length-map items (λ word. word.now))) (search rules) in
    let next = names_next c.args.origin c.loop-word.names ws c.loop-word.word-index _ c.in-Some.name
    within (get_or-map (λ word. word.now) items c.loop-word.word-index _ [] (search rules))
    (sym c.in_ok-name.ensures ∙ c.in-Some.is) in
    ap (λ n. with_names n (names_of c.args.origin (drop (c.loop-word.word-index + 1) ws)))
    c.in_ok-push-in-Some.ensures.ok ∙ next ∙ c.loop-word.invariant

pub returns : goal.returns
unfolding names_of
returns c =
    let items = c.args.words.now in
    let ws = map (λ word. word.now) items in
    let past : length ws ≤ c.loop-word.word-index = subst (λ n. n ≤ c.loop-word.word-index)
    (sym (length-map items (λ word. word.now))) (search rules) in
    let whole = ap (λ rest. with_names c.loop-word.names (names_of c.args.origin rest))
    (drop_of_length-le ws past) ∙ ap (λ names. Some names) (append-nil c.loop-word.names) in
    sym whole ∙ c.loop-word.invariant
