-- Answers to the goals of `merged_parts` in `src/halves.rt`.
use Rattle.std.proofs.Common.{◌≡◌, ◌∙◌, List, subst, sym}
use Rattle.std.specs.Prelude.{ℤ}
use Rattle.mpw_geom.specs.declared.plane.Box2.{Box2}
use Rattle.mpw_region.specs.Squares.{covers}
use Rattle.mpw_checks.proofs.halves.merged_parts.Goals as goal

pub returns : goal.returns
returns c = λ i j l u low high.
    let same = subst (λ (bs : List Box2). (i j : ℤ)
    → covers c.in_ok-boxes.boxes.items i j ≡ covers bs i j) c.as_slice-2.ensures.value
    c.in_ok-boxes.ensures in
    c.in_ok-parts.ensures i j l u low high ∙ sym (same i j)
