-- Answers to the goals of `displacement` in `src/displaced.rt`.
use Rattle.std.proofs.Common.{◌≡◌, ◌<◌, Bool, false, pos, List, length, map, ap, sym, subst, ◌∙◌, arith, rules}
use Rattle.std.proofs.lemmas.List.{nil_from_length}
use Rattle.mpw_geom.specs.declared.plane.Point.{Point}
use Rattle.std.specs.Prelude.{IsTrue}
use Rattle.std.proofs.lemmas.Bool.Decides.{nat_tests}
use Rattle.mpw_columns_contents.specs.declared.thing.Thing.{Thing}
use Rattle.mpw_columns_contents.specs.Displaced.{bare, moved_thing, AreMoved}
use Rattle.mpw_columns_contents.proofs.Moved.{shown_moved, first_tells}
use Rattle.mpw_columns_contents.proofs.displaced.displacement.Goals as goal

none_moved : (d : Point) (a b from to : List Thing) → from ≡ a → to ≡ b → length from ≡ 0
    → length to ≡ 0 → AreMoved d a b
none_moved d a b from to e f none nothing =
    ap (map bare) (sym f ∙ nil_from_length to nothing)
    ∙ ap (map (moved_thing d)) (sym (nil_from_length from none) ∙ e)

pub returns-then-is_empty-clause-shown : goal.returns-then-is_empty-clause-shown
returns-then-is_empty-clause-shown c =
    let none : length c.things-from.result.now ≡ 0 =
    (let e = c.if-is_empty.true in let f = c.is_empty.ensures in grind (arith, nat_tests)) in
    let nothing : length c.things-to.result.now ≡ 0 =
    (let g = none in let e = c.if-from-to.false in omega arith) in
    shown_moved (record { x = pos 0; y = pos 0 }) c.args.a.now c.args.b.now
    (none_moved (record { x = pos 0; y = pos 0 }) c.args.a.now c.args.b.now c.things-from.result.now
    c.things-to.result.now
    c.things-from.ensures.things c.things-to.ensures.things none nothing)

pub returns-then-are_moved-clause-shown : goal.returns-then-are_moved-clause-shown
returns-then-are_moved-clause-shown c =
    let h : AreMoved c.way-d.result c.args.a.now c.args.b.now = search rules in
    shown_moved c.way-d.result c.args.a.now c.args.b.now h

not_both : (t : Bool) → t ≡ false → IsTrue t → ⊥
not_both t e h = absurd cc

pub returns-else-are_moved-clause-none : goal.returns-else-are_moved-clause-none
returns-else-are_moved-clause-none c = λ d h.
    let from = c.things-from.result.now in
    let to = c.things-to.result.now in
    let there : AreMoved d from to =
    subst (λ (ts : List Thing). AreMoved d ts to) (sym c.things-from.ensures.things)
    (subst (λ (ts : List Thing). AreMoved d c.args.a.now ts) (sym c.things-to.ensures.things) h) in
    let some : 0 < length from = (let e = c.if-is_empty.false in let f = c.is_empty.ensures in
    grind (arith, nat_tests)) in
    let same = first_tells d from to _ _ c.place.result c.place-2.result c.way-d.result there some
    c.place.ensures.place c.place-2.ensures.place c.way-d.ensures.way in
    not_both c.are_moved.result c.if-are_moved.false
    (c.are_moved.ensures.1 (subst (λ w. AreMoved w from to) same there))
