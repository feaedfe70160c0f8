-- Answers to the goals of `Group::part` in `src/part.rt`.
use Rattle.std.proofs.Common.{◌∙◌, ap, subst}
use Rattle.std.specs.Prelude.{IfSome}
use Rattle.mpw_check_groups.specs.Layers.{is_among}
use Rattle.mpw_check_groups.specs.Parts.{AreRulesAt, IsShelfOn}
use Rattle.mpw_check_groups.proofs.Staying.{part_made}
use Rattle.mpw_check_groups.proofs.group.Group.part.Goals as goal

pub returns : goal.returns
returns c =
    part_made c.args.snapshot.now c.args.self.now.rules.items c.as_slice.result.now
    c.as_slice-all.result.now c.in-Some.rules.items c.as_slice-2.result.now
    c.in_ok-layers.layers.items c.as_slice-3.result.now c.shelf.result.now c.in-Some-2.shelf
    c.snapshot_with.result
    (c.as_slice-all.ensures ∙ c.rules.ensures ∙ ap (λ d. d.rules) c.deck.ensures)
    c.as_slice.ensures.value c.as_slice-2.ensures.value c.as_slice-3.ensures.value c.shelf.ensures
    (subst (λ o. IfSome o (λ v. AreRulesAt c.as_slice-all.result.now c.as_slice.result.now v.items))
    c.in-Some.is c.in_ok-rules.ensures.at)
    c.in_ok-layers.ensures
    (subst (λ o. IfSome o (IsShelfOn (is_among c.as_slice-3.result.now) c.shelf.result.now))
    c.in-Some-2.is c.in_ok-shelf.ensures)
    c.snapshot_with.ensures
