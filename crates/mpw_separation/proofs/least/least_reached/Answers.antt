-- Each turn adds one set.
use Rattle.std.proofs.Common.{◌≡◌, ◌+◌, ◌∙◌, sym, ap, subst, cond, filter, take, Some}
use Rattle.std.specs.Option.{option_copied}
use Rattle.std.proofs.lemmas.List.{take_all}
use Rattle.mpw_geom.specs.Least.{lesser, IsLeast}
use Rattle.mpw_separation.specs.Separation.{is_reached, set_names}
use Rattle.mpw_separation.proofs.BrokenLemmas.{least-turn, least-end}
use Rattle.mpw_separation.proofs.least.least_reached.Goals as goal
use Rattle.mpw_separation.proofs.least.least_reached.Goals.{then-is_reached, else-is_reached}

pub loop-set-preserved : goal.loop-set-preserved
loop-set-preserved c =
    let p = is_reached c.args.below.now in
    let sets = c.args.sets.now in
    let set = c.set-item.result in
    let so_far = option_copied c.loop-set.least in
    let turn = least-turn p sets c.loop-set.set-index set so_far c.loop-set-test.true c.set-item.is
    c.loop-set.invariant in
    let next : option_copied c.if-is_reached.least ≡ cond (p set) (lesser so_far (Some set.name))
    so_far = elim c.if-is_reached.branch [
      | then-is_reached w ↦ ap option_copied w.least-is ∙ w.lesser-least.ensures
          ∙ ap (λ n. lesser so_far (Some n)) w.name.ensures
          ∙ ap (λ b. cond b (lesser so_far (Some set.name)) so_far)
          (sym (sym c.is_reached.ensures ∙ w.if-is_reached.true))
      | else-is_reached w ↦ ap option_copied w.least-is
          ∙ ap (λ b. cond b (lesser so_far (Some set.name)) so_far)
          (sym (sym c.is_reached.ensures ∙ w.if-is_reached.false))
    ] in
    subst (IsLeast (set_names (filter p (take (c.loop-set.set-index + 1) sets)))) (sym next) turn

pub returns : goal.returns
returns c =
    let p = is_reached c.args.below.now in
    let all = take_all c.loop-set.set-index c.args.sets.now c.loop-set-test.false in
    least-end (set_names (filter p c.args.sets.now)) (option_copied c.loop-set.least)
    (rw all at c.loop-set.invariant)
