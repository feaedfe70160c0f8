-- Each turn adds one set.
use Rattle.std.proofs.Common.{◌≡◌, ◌+◌, ◌∙◌, sym, ap, subst, cond, filter, take, Some, arith}
use Rattle.std.specs.Option.{option_copied}
use Rattle.std.proofs.lemmas.List.{take_all}
use Rattle.mpw_roles.specs.Hierarchy.{role_names}
use Rattle.mpw_roles.specs.Places.{is_place_of}
use Rattle.mpw_geom.specs.Least.{lesser, IsLeast}
use Rattle.mpw_separation.specs.Separation.{breaks, set_names}
use Rattle.mpw_separation.proofs.BrokenLemmas.{least-turn, least-end}
use Rattle.mpw_separation.proofs.PlacedLemmas.{roles-at}
use Rattle.mpw_separation.proofs.least.least_placed.Goals as goal
use Rattle.mpw_separation.proofs.least.least_placed.Goals.{then-is_broken_at, else-is_broken_at}

pub loop-index-preserved : goal.loop-index-preserved
loop-index-preserved c = λ h seniors is placed below.
    let p = breaks h seniors in
    let sets = c.args.sets.now in
    let i = c.loop-index.index in
    let set = c.index-sets-index.result in
    let so_far = option_copied c.loop-index.least in
    let turn = least-turn p sets i set so_far c.loop-index-test.true c.index-sets-index.is
    (c.loop-index.invariant h seniors is placed below) in
    let asked : c.is_broken_at.result ≡ p set = c.is_broken_at.ensures h seniors is
    (λ q. placed i c.loop-index-test.true q ∙ ap (λ l. is_place_of (role_names h) l q)
    (roles-at sets i set c.loop-index-test.true c.index-sets-index.is)) below in
    let next : option_copied c.if-is_broken_at.least ≡ cond (p set) (lesser so_far (Some set.name))
    so_far = elim c.if-is_broken_at.branch [
      | then-is_broken_at w ↦ ap option_copied w.least-is ∙ w.lesser-least.ensures
          ∙ ap (λ n. lesser so_far (Some n)) w.name.ensures
          ∙ ap (λ b. cond b (lesser so_far (Some set.name)) so_far)
          (sym (sym asked ∙ w.if-is_broken_at.true))
      | else-is_broken_at w ↦ ap option_copied w.least-is
          ∙ ap (λ b. cond b (lesser so_far (Some set.name)) so_far)
          (sym (sym asked ∙ w.if-is_broken_at.false))
    ] in
    subst (IsLeast (set_names (filter p (take (i + 1) sets)))) (sym next) turn

pub returns : goal.returns
returns c = λ h seniors is placed below.
    let p = breaks h seniors in
    let all = take_all c.loop-index.index c.args.sets.now (omega arith) in
    least-end (set_names (filter p c.args.sets.now)) (option_copied c.loop-index.least)
    (rw all at c.loop-index.invariant h seniors is placed below)
