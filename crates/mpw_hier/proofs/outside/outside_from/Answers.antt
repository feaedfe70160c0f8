-- Answers to the goals of `outside_from` in `src/outside.rt`.
use Rattle.std.proofs.Common.{get_or, ap, sym, ◌∙◌}
use Rattle.mpw_structures.specs.declared.structures.Structure.{Structure}
use Rattle.mpw_hier.specs.Internal.Outside.{outside_from_all}
use Rattle.mpw_hier.proofs.Shown.{outside_next}
use Rattle.mpw_hier.proofs.outside.outside_from.Goals as goal

pub loop-place-init : goal.loop-place-init
unfolding outside_from_all
loop-place-init c = c.new-names.ensures

pub loop-place-preserved : goal.loop-place-preserved
loop-place-preserved c =
    let ss = c.args.library.now in
    let places = c.args.places.now in
    let i = c.loop-place.place-index in
    let s = c.index-structures-place.result in
    let at = c.index-structures-place.is in
    let is = at ∙ ap (λ xs. get_or xs (get_or places i 0) s) c.structures-structures.ensures in
    let elements = c.as_slice.ensures ∙ ap (λ (t : Structure). t.elements) (sym at) in
    rw (c.in_ok-add_outside.ensures, elements, c.loop-place.invariant)
    (sym (outside_next ss places i s c.loop-place-test.true
    (c.requires i 0 c.loop-place-test.true) is))
