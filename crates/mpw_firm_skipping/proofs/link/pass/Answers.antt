-- Answers to the goals of `pass` in `src/link.rt`.
use Rattle.std.proofs.Common.{[], ◌∷◌, ◌∙◌, ℕ, List, map, take, get_or, ap, sym, subst, Bor}
use Rattle.std.proofs.lemmas.List.{map-append, take_more}
use Rattle.mpw_firm_skipping.specs.Internal.Passes.{IsPass, link_of}
use Rattle.mpw_firm_skipping.specs.Structures.{Link}
use Rattle.mpw_firm_skipping.specs.declared.link.Link as declared
use Rattle.mpw_firm_skipping.proofs.link.pass.Goals as goal

pub loop-link-preserved : goal.loop-link-preserved
loop-link-preserved c =
    let links = c.args.waiting.now in
    let i = c.loop-link.link-index in
    let none : Bor (List ℕ) = record { ref_ptr = (0, 0); now = [] } in
    let d : declared.Link = record { from = none; to = none } in
    subst (λ (passed : List Link). IsPass (map (λ n. n.now) c.args.names.now.items)
    (map (λ n. n.now) c.pass_one.new.names.items) passed (map link_of c.pass_one.new.left.items))
    (sym (ap (map link_of) (take_more links i d c.loop-link-test.true)
    ∙ map-append link_of (take i links) (get_or links i d ∷ [])))
    (c.in_ok-pass_one.ensures (map (λ n. n.now) c.args.names.now.items)
    (map link_of (take i links)) c.loop-link.invariant)
