-- Each turn adds the index of one name.
use Rattle.std.proofs.Common.{◌∙◌, ◌+◌, ◌||◌, sym, ap, drop}
use Rattle.mpw_roles.specs.Hierarchy.{role_names}
use Rattle.mpw_roles.specs.Mask.{has}
use Rattle.mpw_roles.specs.Places.{is_place_of}
use Rattle.mpw_roles.proofs.PlacesLemmas.{next-item}
use Rattle.mpw_roles.proofs.NamedLemmas.{turn-place, turn-no_place}
use Rattle.mpw_roles.proofs.places.places_of.Goals as goal
use Rattle.mpw_roles.proofs.places.places_of.Goals.{in-Some, in_default}

pub loop-name-preserved : goal.loop-name-preserved
loop-name-preserved c = λ q.
    let h = c.args.table.now in
    let n = c.name-item.result in
    let i = c.loop-name.name-index in
    let rest = drop (i + 1) c.args.names.now in
    let before = has c.loop-name.mask q in
    let so_far = next-item c.args.names.now i n c.loop-name-test.true c.name-item.is
    (λ l. is_place_of (role_names h) l q) before _ (c.loop-name.invariant q) in
    elim c.match-place.branch [
      | in-Some w ↦ ap (λ m. has m q || is_place_of (role_names h) rest q) w.mask-is
          ∙ ap (λ t. t || is_place_of (role_names h) rest q) (w.insert.ensures q)
          ∙ turn-place h c.requires n rest w.in-Some.place w.in-Some.ensures.place q before ∙ so_far
      | in_default w ↦ ap (λ m. has m q || is_place_of (role_names h) rest q) w.mask-is
          ∙ turn-no_place h n rest q before (sym w.in_default.ensures.found) ∙ so_far
    ]
