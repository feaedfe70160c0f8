-- Answers to the goals of `read_elements` in `src/read.rt`.
use Rattle.std.proofs.Common.{Ok, sym, ap, subst, ◌∙◌, arith, refl}
use Rattle.std.proofs.lemmas.List.Elements.{All-push}
use Rattle.std.proofs.lemmas.Result.{err_from_is_err_and}
use Rattle.mpw_structures.specs.Element.{IsElement}
use Rattle.mpw_library.specs.declared.read.Item.{Item}
use Rattle.mpw_library.specs.declared.read.Item.TheVariants as items
use Rattle.mpw_library.specs.Internal.Library.{IsItem}
use Rattle.mpw_library.specs.Grammar.{all_elements}
use Rattle.mpw_library.proofs.Loops.{elements_err, elements_end, elements_more, elements_other}
use Rattle.mpw_library.proofs.read.read_elements.Goals as goal

pub returns-in_err-next_item-clause-elements : goal.returns-in_err-next_item-clause-elements
returns-in_err-next_item-clause-elements c =
    let p = err_from_is_err_and c.from_residual.result c.from_residual.ensures.1 in
    rw (p.1, p.2) (elements_err c.in_err-next_item.field-0.0 c.args.unit
    c.loop-elements.elements.items c.loop-elements.records
    (all_elements c.args.unit c.args.records.now) c.loop-elements.invariant.same
    c.in_err-next_item.ensures.item)

pub returns-in-End-clause-elements : goal.returns-in-End-clause-elements
returns-in-End-clause-elements c =
    let rest = c.next_item.new.records in
    let next = c.in_ok-next_item.ensures.item ∙ ap (λ (i : Item). Ok (i, rest)) c.in-End.is in
    elements_end c.args.unit c.loop-elements.elements.items c.loop-elements.records rest
    (all_elements c.args.unit c.args.records.now) c.loop-elements.invariant.same
    c.in_ok-next_item.ensures.rest next
    ∙ ap (λ es. Ok (es, rest)) (sym c.from_vec.ensures)

pub loop-elements-preserved-in-Other : goal.loop-elements-preserved-in-Other
loop-elements-preserved-in-Other c =
    let rest = c.next_item.new.records in
    let next = c.in_ok-next_item.ensures.item ∙ ap (λ (i : Item). Ok (i, rest)) c.in-Other.is in
    record {
      same = elements_other c.args.unit c.loop-elements.elements.items c.loop-elements.records rest
          (all_elements c.args.unit c.args.records.now) c.loop-elements.invariant.same
          c.in_ok-next_item.ensures.rest next;
      rest = omega (arith, c.in_ok-next_item.ensures.rest);
      shape = c.loop-elements.invariant.shape;
    }

pub loop-elements-preserved : goal.loop-elements-preserved
loop-elements-preserved c =
    let rest = c.next_item.new.records in
    let next = c.in_ok-next_item.ensures.item ∙ ap (λ (i : Item). Ok (i, rest)) c.in-Placed.is in
    record {
      same = rw c.in_ok-push-in-Placed.ensures.items
          (elements_more c.args.unit c.loop-elements.elements.items c.loop-elements.records rest
          (items.Placed c.in-Placed.element) (all_elements c.args.unit c.args.records.now)
          c.loop-elements.invariant.same c.in_ok-next_item.ensures.rest next refl);
      rest = omega (arith, c.in_ok-next_item.ensures.rest);
      shape = rw c.in_ok-push-in-Placed.ensures.items
          (All-push IsElement c.loop-elements.elements.items c.in-Placed.element
          c.loop-elements.invariant.shape (subst IsItem c.in-Placed.is
          c.in_ok-next_item.ensures.shape));
    }
