-- Answers to the goals of `unplaced_structures` in `src/top.rt`.
use Rattle.std.proofs.Common.{◌∙◌, ap, sym, map, take}
use Rattle.std.proofs.lemmas.List.{take-map}
use Rattle.mpw_firm_choices.specs.Tops.{unplaced_in}
use Rattle.mpw_firm_choices.proofs.top.unplaced_structures.Goals as goal

pub returns : goal.returns
returns c =
    ap (map (λ n. n.now)) c.truncate.ensures.items
    ∙ sym (take-map (λ n. n.now) c.args.most c.in_ok-found.found.items)
    ∙ ap (take c.args.most) (c.in_ok-found.ensures
    ∙ ap (λ names. unplaced_in (map (λ n. n.now) names) (map (λ p. p.now) c.as_slice-2.result.now))
    c.as_slice.ensures.value
    ∙ ap (λ names. unplaced_in (map (λ n. n.now) c.in_ok-names.names.items) (map (λ p. p.now) names))
    c.as_slice-2.ensures.value
    ∙ ap (λ names. unplaced_in names (map (λ p. p.now) c.in_ok-placed.placed.items))
    c.in_ok-names.ensures
    ∙ ap (unplaced_in _) c.in_ok-placed.ensures)
