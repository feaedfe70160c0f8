-- Answers to the goals of `Sweep::next_border` in `src/sweep.rt`.
use Rattle.std.proofs.Common.{List, get_or, length, ◌≡◌, ◌∙◌, ◌<◌, subst, rules, arith, w64}
use Rattle.std.specs.Prelude.{Contains}
use mir.Val.{SFits}
use Rattle.std.proofs.lemmas.Int.{to_z-of_z}
use Rattle.std.proofs.lemmas.List.{get_or_default}
use Rattle.std.proofs.lemmas.List.Elements.{Contains-get_or}
use Rattle.mpw_geom.specs.declared.plane.Box2.{Box2}
use Rattle.mpw_geom.proofs.Squares.{no_box}
use Rattle.mpw_region.specs.Internal.Sweep.{IsLeastEnd}
use Rattle.mpw_region.proofs.Borders.{next_at_begin, next_at_end, all_ended}
use Rattle.mpw_region.proofs.sweep.Sweep.next_border.Goals as goal

pub returns-then-self-len : goal.returns-then-self-len
returns-then-self-len c =
    let s = c.args.self.now in
    let b : Box2 = c.index.result.now in
    let fits : SFits w64 c.least_end.result = search rules in
    let row_fits : SFits w64 b.y0 = search rules in
    let inside : s.next < length s.boxes.items = omega arith in
    let is : b ≡ get_or s.boxes.items s.next no_box = c.index.ensures
    ∙ get_or_default s.boxes.items s.next b no_box inside in
    let least = rw (to_z-of_z w64 b.y0 row_fits) at c.least_end.ensures in
    rw (to_z-of_z w64 c.least_end.result fits)
    (next_at_begin s c.least_end.result c.requires.sweep c.requires.ahead c.requires.filled
    inside (subst (λ (x : Box2). IsLeastEnd s.active.items x.y0 c.least_end.result) is
    (subst (λ (bs : List Box2). IsLeastEnd bs b.y0 c.least_end.result)
    c.as_slice-active.ensures.value least)))

pub returns-in-len1-up : goal.returns-in-len1-up
returns-in-len1-up c =
    let s = c.args.self.now in
    let held = c.as_slice-active.ensures.value in
    let b : Box2 = get_or c.as_slice-active.result.now 0 no_box in
    let fits : SFits w64 c.least_end-in-len1-up.result = search rules in
    let row_fits : SFits w64 b.y1 = search rules in
    let least = rw (to_z-of_z w64 b.y1 row_fits) at c.least_end-in-len1-up.ensures in
    rw (to_z-of_z w64 c.least_end-in-len1-up.result fits)
    (next_at_end s c.least_end-in-len1-up.result b c.requires.sweep c.requires.filled (omega arith)
    (subst (λ (bs : List Box2). Contains bs b) held
    (Contains-get_or c.as_slice-active.result.now 0 no_box (omega arith)))
    (subst (λ (bs : List Box2). IsLeastEnd bs b.y1 c.least_end-in-len1-up.result) held least))

pub returns-in-empty : goal.returns-in-empty
returns-in-empty c =
    all_ended c.args.self.now c.requires.sweep (omega arith) (omega (arith, c.as_slice-active.ensures.len))
