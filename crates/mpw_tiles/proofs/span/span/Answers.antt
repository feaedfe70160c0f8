-- Answers to the goals of `span` in `src/span.rt`.
use Rattle.std.proofs.Common.{◌≡◌, ◌+◌, ◌∙◌, ap, min, ℕ, pos, ◌-ℤ◌, ◌<ℤ◌, refl, rules, w64, arith, SFits}
use Rattle.std.specs.Int.{int_max}
use Rattle.std.proofs.lemmas.Int.{ints, to_z-of_z}
use Rattle.mpw_tiles.specs.Grid.{sides_between}
use Rattle.mpw_tiles.proofs.Intervals.{none_overlaps, some_overlap}
use Rattle.mpw_tiles.proofs.span.span.Goals as goal

pub returns-then-high-origin-clause-exact : goal.returns-then-high-origin-clause-exact
returns-then-high-origin-clause-exact c = λ n u.
    let h = c.if-high-origin.true in
    none_overlaps c.args.origin c.args.low c.args.high c.args.side n c.up_to-first.result 0
    (omega (arith, ints)) refl

pub returns-else-high-origin-clause-exact : goal.returns-else-high-origin-clause-exact
returns-else-high-origin-clause-exact c = λ n u.
    let f : SFits w64 c.args.origin = c.ranges.origin in
    let k : SFits w64 c.args.low = c.ranges.low in
    let d : SFits w64 c.args.high = c.ranges.high in
    let l : SFits w64 c.max.result = search rules in
    let o : c.args.origin <ℤ c.args.high = (let h = c.if-high-origin.false in omega (arith, ints)) in
    let b : SFits w64 (c.args.high -ℤ pos 1) = omega (arith, ints) in
    let m : c.max.result ≡ int_max c.args.low c.args.origin = simp to_z-of_z at c.max.ensures.value in
    let e : c.sides_between.result ≡ sides_between c.args.side c.args.origin c.max.result =
    simp to_z-of_z at c.sides_between.ensures in
    let g : c.sides_between-else-high-origin.result ≡ sides_between c.args.side c.args.origin
    (c.args.high -ℤ pos 1) = simp to_z-of_z at c.sides_between-else-high-origin.ensures in
    some_overlap c.args.origin c.args.low c.args.high c.args.side c.args.count n
    c.up_to-first.result c.up_to-end.result c.requires.side u o
    (c.up_to-first.ensures ∙ ap (λ (n : ℕ). min n c.args.count)
    (e ∙ ap (sides_between c.args.side c.args.origin) m))
    (c.up_to-end.ensures ∙ ap (λ (n : ℕ). min (n + 1) c.args.count) g)
