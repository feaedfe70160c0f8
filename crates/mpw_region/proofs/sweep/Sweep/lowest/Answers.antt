-- Answers to the goals of `Sweep::lowest` in `src/sweep.rt`.
use Rattle.std.proofs.Common.{List, get_or, ◌≤ℤ◌, subst, sym, rules, w64}
use Rattle.std.specs.Prelude.{All}
use mir.Val.{SFits}
use Rattle.std.proofs.lemmas.Int.{to_z-of_z}
use Rattle.mpw_geom.specs.declared.plane.Box2.{Box2}
use Rattle.mpw_geom.proofs.Squares.{no_box}
use Rattle.mpw_region.proofs.Borders.{first_begins}
use Rattle.mpw_region.proofs.sweep.Sweep.lowest.Goals as goal

pub returns-in-len1-up-clause-least : goal.returns-in-len1-up-clause-least
returns-in-len1-up-clause-least c =
    let boxes = c.args.self.now.boxes.items in
    let first : Box2 = get_or c.as_slice.result.now 0 no_box in
    let fits : SFits w64 first.y0 = search rules in
    rw (to_z-of_z w64 first.y0 fits)
    (subst (λ (bs : List Box2). All (λ (b : Box2). (get_or bs 0 no_box).y0 ≤ℤ b.y0) boxes)
    (sym c.as_slice.ensures.value) (first_begins boxes c.requires.ordered))
