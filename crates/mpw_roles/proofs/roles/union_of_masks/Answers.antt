-- Each turn adds the indexes below one senior.
use Rattle.std.proofs.Common.{◌∙◌, ◌+◌, ◌||◌, sym, ap, drop}
use Rattle.mpw_roles.specs.Mask.{has}
use Rattle.mpw_roles.specs.Places.{is_place_below}
use Rattle.mpw_roles.proofs.PlacesLemmas.{turn-role, turn-none, mask-found, next-item}
use Rattle.mpw_roles.proofs.roles.union_of_masks.Goals as goal
use Rattle.mpw_roles.proofs.roles.union_of_masks.Goals.{in-Some, in_default}

pub loop-senior-preserved : goal.loop-senior-preserved
loop-senior-preserved c = λ q.
    let h = c.args.table.now in
    let s = c.senior-item.result in
    let i = c.loop-senior.senior-index in
    let rest = drop (i + 1) c.args.seniors.now in
    let before = has c.loop-senior.mask q in
    let so_far = next-item c.args.seniors.now i s c.loop-senior-test.true c.senior-item.is
    (λ l. is_place_below h l q) before _ (c.loop-senior.invariant q) in
    elim c.match-place.branch [
      | in-Some w ↦ ap (λ m. has m q || is_place_below h rest q) w.mask-is
          ∙ turn-role h s rest q before _ (w.add.ensures q ∙ ap (λ t. before || t)
          (mask-found h c.args.masks.now c.requires.masked s w.in-Some.place w.in-Some.ensures.place
          q))
          ∙ so_far
      | in_default w ↦ ap (λ m. has m q || is_place_below h rest q) w.mask-is
          ∙ turn-none h s rest q before (sym w.in_default.ensures.found) ∙ so_far
    ]
