-- Answers to the goals of `add_outside` in `src/outside.rt`.
use Rattle.std.proofs.Common.{◌≡◌, [], ◌∷◌, ◌++◌, ap, sym, ◌∙◌, append-nil}
use Rattle.std.proofs.lemmas.List.{at_drop_all}
use Rattle.mpw_structures.specs.declared.element.Element.TheVariants as elements
use Rattle.mpw_hier.specs.Structures.{referenced_names}
use Rattle.mpw_hier.specs.Outside.{names_outside}
use Rattle.mpw_hier.proofs.References.{own_outside, none_outside, known_name, unknown_name, none_if, some_if, outside_on}
use Rattle.mpw_hier.proofs.outside.add_outside.Goals as goal
use Rattle.mpw_hier.proofs.outside.add_outside.Goals.{in-Reference+then-is_none+in_ok-copy+in_ok-push, in-Reference+else-is_none, in_default}

pub loop-element-preserved : goal.loop-element-preserved
loop-element-preserved c =
    let ss = c.args.library.now in
    let e = c.element-item.result in
    let old = c.loop-element.names in
    let added : c.match-element.names ≡ old ++ own_outside ss e = elim c.match-element.branch [
      | in-Reference+then-is_none+in_ok-copy+in_ok-push w ↦
          let none =
          none_if w.position.result w.is_none.result w.is_none.ensures w.if-is_none.true in
          rw (unknown_name ss e w.get.result.now
          (w.in-Reference.is ∙ ap elements.Reference (sym w.get.ensures))
          (sym w.position.ensures ∙ none)) (w.names-is ∙ w.in_ok-push.ensures.ok
          ∙ ap (λ name. old ++ name ∷ []) w.in_ok-copy.ensures)
      | in-Reference+else-is_none w ↦
          let some =
          some_if w.position.result w.is_none.result w.is_none.ensures w.if-is_none.false in
          rw (
            known_name ss e w.get.result.now some.0
                (w.in-Reference.is ∙ ap elements.Reference (sym w.get.ensures))
                (sym w.position.ensures ∙ some.1),
            append-nil,
          ) w.names-is
      | in_default w ↦ rw (none_outside ss e w.in_default.not-Reference, append-nil) w.names-is
    ] in
    outside_on ss c.args.elements.now c.loop-element.element-index e old c.match-element.names
    (c.args.names.now ++ names_outside ss (referenced_names c.args.elements.now))
    c.loop-element-test.true c.element-item.is added c.loop-element.invariant

pub returns : goal.returns
unfolding names_outside
returns c = rw append-nil at (rw (at_drop_all
    (λ left. names_outside c.args.library.now (referenced_names left)) c.args.elements.now
    c.loop-element.element-index c.loop-element-test.false) at c.loop-element.invariant)
