-- Answers to the goals of `places_of` in `src/outside.rt`.
use Rattle.std.proofs.Common.{◌≡◌, ℕ, Vec, Global, ◌++◌, ap, sym, ◌∙◌, append-nil}
use Rattle.std.proofs.lemmas.List.{at_drop_all}
use Rattle.mpw_structures.specs.declared.element.Element.TheVariants as elements
use Rattle.mpw_hier.specs.Structures.{referenced_names}
use Rattle.mpw_hier.specs.Outside.{places_of}
use Rattle.mpw_hier.proofs.References.{own_places, no_places, known_place, unknown_place, places_on}
use Rattle.mpw_hier.proofs.outside.places_of.Goals as goal
use Rattle.mpw_hier.proofs.outside.places_of.Goals.{in-Reference+in-Some+in_ok-push, in-Reference+in_default-position, in_default}

pub loop-element-preserved : goal.loop-element-preserved
loop-element-preserved c =
    let ss = c.args.library.now in
    let e = c.element-item.result in
    let old = c.loop-element.places.items in
    let items = λ (v : Vec ℕ Global). v.items in
    let added : c.match-element.places.items ≡ old ++ own_places ss e = elim c.match-element.branch [
      | in-Reference+in-Some+in_ok-push w ↦
          rw (known_place ss e w.get.result.now w.in-Some.place
          (w.in-Reference.is ∙ ap elements.Reference (sym w.get.ensures))
          (sym w.position.ensures ∙ w.in-Some.is))
          (ap items w.places-is ∙ w.in_ok-push.ensures.items)
      | in-Reference+in_default-position w ↦
          rw (
            unknown_place ss e w.get.result.now
                (w.in-Reference.is ∙ ap elements.Reference (sym w.get.ensures))
                (sym w.position.ensures ∙ w.in_default-position.is),
            append-nil,
          )
          (ap items w.places-is)
      | in_default w ↦ rw (no_places ss e w.in_default.not-Reference, append-nil)
          (ap items w.places-is)
    ] in
    places_on ss c.args.elements.now c.loop-element.element-index e old c.match-element.places.items
    (places_of ss (referenced_names c.args.elements.now)) c.loop-element-test.true
    c.element-item.is added c.loop-element.invariant

pub returns : goal.returns
unfolding places_of
returns c = rw append-nil at (rw (at_drop_all
    (λ left. places_of c.args.library.now (referenced_names left)) c.args.elements.now
    c.loop-element.element-index c.loop-element-test.false) at c.loop-element.invariant)
