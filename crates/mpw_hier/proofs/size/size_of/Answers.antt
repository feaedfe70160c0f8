-- Answers to the goals of `size_of` in `src/size.rt`.
use Rattle.std.proofs.Common.{◌≡◌, ◌<◌, length, get_or, ap, subst, ◌∙◌, arith}
use Rattle.mpw_hier.specs.Structures.{referenced_names}
use Rattle.mpw_hier.specs.Sizes.{Total, IsToldBy}
use Rattle.mpw_hier.specs.Internal.Sizes.{IsExtentFar}
use Rattle.mpw_hier.proofs.ShownSizes.{targets, total_shown, told_targets, far_total}
use Rattle.mpw_hier.proofs.Sizing.{sized_none, sized_more, sized_all}
use Rattle.mpw_hier.proofs.size.size_of.Goals as goal

pub loop-element-init : goal.loop-element-init
loop-element-init c = sized_none c.args.structure.now.elements c.args.below.now
    c.nothing-size.result c.requires.targets c.requires.near c.nothing-size.ensures

pub loop-element-preserved : goal.loop-element-preserved
loop-element-preserved c =
    let es = c.args.structure.now.elements in
    let i = c.loop-element.element-index in
    let e = c.element-item.result in
    let items = c.as_slice-element-items.ensures in
    let within : i < length es = omega (arith, ap length items, c.loop-element-test.true) in
    let is : e ≡ get_or es i e = c.element-item.is ∙ ap (λ xs. get_or xs i e) items in
    sized_more es c.args.below.now i c.loop-element.left.now _ c.loop-element.size
    c.in_ok-part_size.field-0 _ e within is c.loop-element.invariant
    c.in_ok-part_size.ensures.size c.plus-size.ensures c.behind-left.ensures

pub returns-clause-size : goal.returns-clause-size
returns-clause-size c =
    let s = c.args.structure.now in
    let within = c.as_slice-element-items.ensures in
    λ number items heights told. subst (λ t. IsToldBy t c.loop-element.size)
    (total_shown number items heights s)
    (sized_all s.elements c.args.below.now c.loop-element.element-index c.loop-element.left.now
    c.loop-element.size (omega (arith, ap length within, c.loop-element-test.false))
    c.loop-element.invariant _ (told_targets number items heights (referenced_names s.elements)
    c.args.below.now told))

pub returns-in_err-part_size-clause-far : goal.returns-in_err-part_size-clause-far
returns-in_err-part_size-clause-far c =
    let s = c.args.structure.now in
    let es = s.elements in
    let i = c.loop-element.element-index in
    let e = c.element-item.result in
    let items = c.as_slice-element-items.ensures in
    let within : i < length es = omega (arith, ap length items, c.loop-element-test.true) in
    let is : e ≡ get_or es i e = c.element-item.is ∙ ap (λ xs. get_or xs i e) items in
    λ number items heights told.
    let ts = targets number items heights es in
    let sum = c.loop-element.invariant.sum ts
    (told_targets number items heights (referenced_names es) c.args.below.now told) in
    let far = far_total es ts i c.loop-element.left.now c.loop-element.size e within is sum
    (c.in_err-part_size.ensures.far sum.rest sum.matched) in
    rw c.from_residual.ensures (subst IsExtentFar
    (ap (λ (t : Total). t.extent) (total_shown number items heights s)) far)
