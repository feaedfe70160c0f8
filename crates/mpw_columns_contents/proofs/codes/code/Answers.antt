-- Answers to the goals of `code` in `src/codes.rt`.
use Rattle.std.proofs.Common.{◌≡◌, ◌<◌, ◌≤◌, ℕ, List, length, take, refl, ap, ◌∙◌, arith}
use Rattle.std.specs.Prelude.{fold}
use Rattle.std.proofs.lemmas.Bool.Decides.{nat_tests}
use Rattle.std.proofs.lemmas.List.{take_all}
use Rattle.mpw_geom.specs.declared.plane.Point.{Point}
use Rattle.mpw_columns_contents.specs.declared.thing.Thing.{Thing}
use Rattle.mpw_columns_contents.specs.Codes.{thing_code, code_of}
use Rattle.mpw_columns_contents.proofs.Coded.{code_stays, no_code, code_is}
use Rattle.mpw_columns_contents.proofs.codes.code.Goals as goal

nothing : (all ts : List Thing) → ts ≡ all → length ts ≡ 0 → 0 ≡ code_of all
nothing all ts e h = no_code ts h ∙ ap code_of e

whole : (all ts : List Thing) (from : Point) (code i : ℕ) → ts ≡ all
    → code ≡ fold (thing_code from) 0 (take i ts) → length ts ≤ i
    → code ≡ fold (thing_code from) 0 all
whole all ts from code i e is end = is ∙ ap (fold (thing_code from) 0) (take_all i ts end ∙ e)

pub returns-then-is_empty-clause-code : goal.returns-then-is_empty-clause-code
returns-then-is_empty-clause-code c =
    let none : length c.things-things.result.now ≡ 0 =
    (let e = c.if-is_empty.true in let f = c.is_empty.ensures in grind (arith, nat_tests)) in
    nothing c.args.contents.now c.things-things.result.now c.things-things.ensures.things none

pub returns-then-is_empty-clause-stays : goal.returns-then-is_empty-clause-stays
returns-then-is_empty-clause-stays c = λ d others h.
    let none : length c.things-things.result.now ≡ 0 =
    (let e = c.if-is_empty.true in let f = c.is_empty.ensures in grind (arith, nat_tests)) in
    code_stays d c.args.contents.now others 0
    (nothing c.args.contents.now c.things-things.result.now c.things-things.ensures.things none)
    h

pub returns-clause-code : goal.returns-clause-code
returns-clause-code c =
    let ts = c.things-things.result.now in
    let some : 0 < length ts = (let e = c.if-is_empty.false in let f = c.is_empty.ensures in
    grind (arith, nat_tests)) in
    code_is ts _ c.place-from.result c.loop-thing.code some c.place-from.ensures.place
    (whole ts ts c.place-from.result c.loop-thing.code c.loop-thing.thing-index refl
    c.loop-thing.invariant c.loop-thing-test.false)
    ∙ ap code_of c.things-things.ensures.things

pub returns-clause-stays : goal.returns-clause-stays
returns-clause-stays c = λ d others h.
    let ts = c.things-things.result.now in
    let some : 0 < length ts = (let e = c.if-is_empty.false in let f = c.is_empty.ensures in
    grind (arith, nat_tests)) in
    code_stays d c.args.contents.now others c.loop-thing.code
    (code_is ts _ c.place-from.result c.loop-thing.code some c.place-from.ensures.place
    (whole ts ts c.place-from.result c.loop-thing.code c.loop-thing.thing-index refl
    c.loop-thing.invariant c.loop-thing-test.false)
    ∙ ap code_of c.things-things.ensures.things) h
