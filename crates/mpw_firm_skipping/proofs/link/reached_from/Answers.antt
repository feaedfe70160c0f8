-- Answers to the goals of `reached_from` in `src/link.rt`.
use Rattle.std.proofs.Common.{[], ◌∷◌, ◌++◌, ◌∙◌, ◌≡◌, length, List, ℕ, map, ap, sym, subst, arith}
use Rattle.std.proofs.lemmas.List.{length-map}
use Rattle.mpw_firm_skipping.specs.Internal.Passes.{IsPass, link_of}
use Rattle.mpw_firm_skipping.proofs.Reaching.{IsOnTheWay, way_begins, way_ends, way_goes}
use Rattle.mpw_firm_skipping.proofs.link.reached_from.Goals as goal

pub loop-waiting-init : goal.loop-waiting-init
loop-waiting-init c =
    let links = map link_of c.args.links.items in
    subst (λ (names : List (List ℕ)). IsOnTheWay links c.args.top.now links names)
    (sym (ap (map (λ n. n.now)) (c.in_ok-push.ensures.items
    ∙ ap (λ xs. xs ++ (c.args.top ∷ [])) c.new-names.ensures.items)))
    (way_begins links c.args.top.now)

pub returns-then-len : goal.returns-then-len
returns-then-len c =
    let waiting = c.loop-waiting.waiting.items in
    let left = c.in_ok-left.left.items in
    let names = map (λ n. n.now) c.pass.new.names.items in
    let before = map (λ n. n.now) c.loop-waiting.names.items in
    let same : length left ≡ length waiting = omega (arith, c.len.ensures, c.len-in-loop-waiting.ensures, c.if-len.true, c.in_ok-left.left.ok.0, c.loop-waiting.waiting.ok.0) in
    way_ends (map link_of c.args.links.items) c.args.top.now (map link_of waiting)
    (map link_of left) before names c.loop-waiting.invariant
    (subst (λ ls. IsPass before names (map link_of ls) (map link_of left)) c.as_slice.ensures.value
    c.in_ok-left.ensures)
    (length-map left link_of ∙ same ∙ sym (length-map waiting link_of))

pub loop-waiting-preserved : goal.loop-waiting-preserved
loop-waiting-preserved c =
    let waiting = c.loop-waiting.waiting.items in
    let left = c.in_ok-left.left.items in
    let names = map (λ n. n.now) c.pass.new.names.items in
    let before = map (λ n. n.now) c.loop-waiting.names.items in
    way_goes (map link_of c.args.links.items) c.args.top.now (map link_of waiting)
    (map link_of left) before names c.loop-waiting.invariant
    (subst (λ ls. IsPass before names (map link_of ls) (map link_of left)) c.as_slice.ensures.value
    c.in_ok-left.ensures)
