-- Answers to the goals of `read_structures` in `src/read.rt`.
use Rattle.std.proofs.Common.{Option, Ok, IfSome, ap, subst, ◌∙◌}
use Rattle.std.proofs.lemmas.List.Elements.{All-push}
use Rattle.std.proofs.lemmas.Result.{err_from_is_err_and}
use Rattle.mpw_structures.specs.declared.structures.Structure.{Structure}
use Rattle.mpw_structures.specs.Library.{IsStructure}
use Rattle.mpw_library.specs.Grammar.{all_structures}
use Rattle.mpw_library.proofs.Loops.{structures_err, structures_end, structures_more}
use Rattle.mpw_library.proofs.read.read_structures.Goals as goal

pub returns-in_err-structure-clause-structures : goal.returns-in_err-structure-clause-structures
returns-in_err-structure-clause-structures c =
    let p = err_from_is_err_and c.from_residual.result c.from_residual.ensures.1 in
    rw (p.1, p.2) (structures_err c.in_err-structure.field-0.0 c.args.unit
    c.loop-structures.structures c.loop-structures.records
    (all_structures c.args.unit c.args.records.now) c.loop-structures.invariant.same
    c.in_err-structure.ensures.structure)

pub loop-structures-preserved : goal.loop-structures-preserved
loop-structures-preserved c =
    let rest = c.next_structure.new.records in
    let next = c.in_ok-structure.ensures.structure ∙ ap (λ (s : Option Structure). Ok (s, rest))
    c.in-Some.is in
    rw c.in_ok-push.ensures.ok (record {
      same = structures_more c.args.unit c.loop-structures.structures c.loop-structures.records rest
          c.in-Some.structure (all_structures c.args.unit c.args.records.now)
          c.loop-structures.invariant.same c.in_ok-structure.ensures.rest next;
      shape = All-push IsStructure c.loop-structures.structures c.in-Some.structure
          c.loop-structures.invariant.shape
          (subst (λ (found : Option Structure). IfSome found IsStructure) c.in-Some.is
          c.in_ok-structure.ensures.shape);
    })

pub returns-clause-structures : goal.returns-clause-structures
returns-clause-structures c =
    let rest = c.next_structure.new.records in
    let next = c.in_ok-structure.ensures.structure ∙ ap (λ (s : Option Structure). Ok (s, rest))
    c.in_default.is in
    structures_end c.args.unit c.loop-structures.structures c.loop-structures.records rest
    (all_structures c.args.unit c.args.records.now) c.loop-structures.invariant.same
    c.in_ok-structure.ensures.rest next
