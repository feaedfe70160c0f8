-- Answers to the goals of `least_own_cell` in `src/own.rt`.
use Rattle.std.proofs.Common.{ℕ, ◌+◌, ◌∙◌, List, Option, ap, subst, sym, take, slice_get}
use Rattle.std.specs.List.{filter_map}
use Rattle.std.specs.Option.{option_copied}
use Rattle.std.proofs.lemmas.List.{take_all}
use Rattle.mpw_geom.specs.Least.{lesser, IsLeast}
use Rattle.mpw_geom.proofs.LeastLemmas.{least-end}
use Rattle.mpw_waiver.specs.Signing.{own_cell, own_cells, least_own_cell}
use Rattle.mpw_waiver.proofs.Least.{least-turn}
use Rattle.mpw_waiver.proofs.own.least_own_cell.Goals as goal

pub loop-number-preserved : goal.loop-number-preserved
loop-number-preserved c =
    let gives : ℕ → Option (List ℕ) = λ number. own_cell c.args.user.now
    (slice_get c.args.shelf.now number) in
    let so_far = option_copied c.loop-number.least in
    let next = c.lesser-least.ensures ∙ ap (lesser so_far) c.own_cell.ensures in
    subst (IsLeast (filter_map gives (take (c.loop-number.number-index + 1) c.args.met.now)))
    (sym next)
    (least-turn gives c.args.met.now c.loop-number.number-index so_far c.loop-number-test.true
    c.loop-number.invariant)

pub returns : goal.returns
unfolding least_own_cell own_cells
returns c =
    let all = take_all c.loop-number.number-index c.args.met.now c.loop-number-test.false in
    least-end (own_cells c.args.shelf.now c.args.met.now c.args.user.now)
    (option_copied c.loop-number.least) (rw all at c.loop-number.invariant)
