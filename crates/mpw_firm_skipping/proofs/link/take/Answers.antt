-- Answers to the goals of `take` in `src/link.rt`.
use Rattle.std.proofs.Common.{◌∙◌, ◌++◌, map, ap, refl, append_assoc}
use Rattle.std.proofs.lemmas.List.{map-append}
use Rattle.mpw_records.specs.Records.{raw}
use Rattle.mpw_firm_skipping.specs.Internal.Passes.{link_of}
use Rattle.mpw_firm_skipping.specs.Structures.{link_by, links_in, listed}
use Rattle.mpw_firm_skipping.proofs.link.take.Goals as goal

pub returns-in_ok-add-in-Ok : goal.returns-in_ok-add-in-Ok
unfolding links_in
returns-in_ok-add-in-Ok c = λ rest.
    let text = c.args.text.now in
    let before = map link_of c.args.links.now.items in
    let more = links_in text c.behind.result rest in
    rw c.in-Ok.is
    (ap (λ links. map link_of links ++ more) c.in_ok-add-in-Ok.ensures
    ∙ ap (λ links. links ++ more) (map-append link_of c.args.links.now.items (listed c.link_by.result))
    ∙ append_assoc before (map link_of (listed c.link_by.result)) more
    ∙ ap (λ link. before ++ (link ++ more)) c.link_by.ensures
    ∙ ap (λ s. before ++ (link_by text (raw c.in-Ok.found) c.args.standing ++ links_in text s rest))
    c.behind.ensures)

pub returns-in-Err : goal.returns-in-Err
unfolding links_in
returns-in-Err c = λ rest. rw c.in-Err.is refl
