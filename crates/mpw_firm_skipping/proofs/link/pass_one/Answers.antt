-- Answers to the goals of `pass_one` in `src/link.rt`.
use Rattle.std.proofs.Common.{ℕ, List, [], ◌∷◌, ◌++◌, ◌∙◌, map, ap, sym, subst}
use Rattle.std.proofs.lemmas.List.{map-append}
use Rattle.mpw_firm_skipping.specs.Internal.Passes.{IsPass, link_of}
use Rattle.mpw_firm_skipping.specs.Structures.{Link, has_name}
use Rattle.mpw_firm_skipping.proofs.Reaching.{pass_added, pass_left, pass_there}
use Rattle.mpw_firm_skipping.proofs.link.pass_one.Goals as goal

pub returns-in_ok-push : goal.returns-in_ok-push
returns-in_ok-push c = λ before passed p.
    let names = map (λ n. n.now) c.args.names.now.items in
    let left = map link_of c.args.left.now.items in
    let l = link_of c.args.link in
    subst (λ (waits : List Link). IsPass before names (passed ++ (l ∷ [])) waits)
    (sym (ap (map link_of) c.in_ok-push.ensures.items
    ∙ map-append link_of c.args.left.now.items (c.args.link ∷ [])))
    (pass_left before names passed left l p
    (sym (c.has_name.ensures ∙ ap (λ ns. has_name (map (λ n. n.now) ns) l.0) c.as_slice.ensures.value)
    ∙ c.if-not-has_name.true))

pub returns-in_ok-push-2 : goal.returns-in_ok-push-2
returns-in_ok-push-2 c = λ before passed p.
    let names = map (λ n. n.now) c.args.names.now.items in
    let left = map link_of c.args.left.now.items in
    let l = link_of c.args.link in
    subst (λ (ns : List (List ℕ)). IsPass before ns (passed ++ (l ∷ [])) left)
    (sym (ap (map (λ n. n.now)) c.in_ok-push-2.ensures.items
    ∙ map-append (λ n. n.now) c.args.names.now.items (c.args.link.to ∷ [])))
    (pass_added before names passed left l p
    (sym (c.has_name.ensures ∙ ap (λ ns. has_name (map (λ n. n.now) ns) l.0) c.as_slice.ensures.value)
    ∙ c.if-not-has_name.false))

pub returns-else-not-has_name-2 : goal.returns-else-not-has_name-2
returns-else-not-has_name-2 c = λ before passed p.
    let names = map (λ n. n.now) c.args.names.now.items in
    let left = map link_of c.args.left.now.items in
    let l = link_of c.args.link in
    pass_there before names passed left l p
    (sym (c.has_name-else-not-has_name.ensures
    ∙ ap (λ ns. has_name (map (λ n. n.now) ns) l.1) c.as_slice-else-not-has_name.ensures.value)
    ∙ c.if-not-has_name-2.false)
