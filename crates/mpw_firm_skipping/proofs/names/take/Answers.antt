-- Answers to the goals of `take` in `src/names.rt`.
use Rattle.std.proofs.Common.{◌∙◌, ◌++◌, map, ap, refl, append_assoc}
use Rattle.std.proofs.lemmas.List.{map-append}
use Rattle.mpw_records.specs.Records.{raw}
use Rattle.mpw_firm_skipping.specs.Names.{named_by, names_in}
use Rattle.mpw_firm_skipping.specs.Structures.{listed}
use Rattle.mpw_firm_skipping.proofs.names.take.Goals as goal

pub returns-in_ok-add-in-Ok : goal.returns-in_ok-add-in-Ok
unfolding names_in
returns-in_ok-add-in-Ok c = λ rest.
    let before = map (λ n. n.now) c.args.names.now.items in
    let more = names_in c.args.kind c.behind.result rest in
    rw c.in-Ok.is
    (ap (λ names. map (λ n. n.now) names ++ more) c.in_ok-add-in-Ok.ensures
    ∙ ap (λ names. names ++ more) (map-append (λ n. n.now) c.args.names.now.items
    (listed c.named_by.result))
    ∙ append_assoc before (map (λ n. n.now) (listed c.named_by.result)) more
    ∙ ap (λ name. before ++ (name ++ more)) c.named_by.ensures
    ∙ ap (λ o. before ++ (named_by c.args.kind (raw c.in-Ok.found) c.args.opened
    ++ names_in c.args.kind o rest))
    c.behind.ensures)

pub returns-in-Err : goal.returns-in-Err
unfolding names_in
returns-in-Err c = λ rest. rw c.in-Err.is refl
