-- Answers to the goals of `held_in` in `src/boxes.rt`.
use Rattle.std.proofs.Common.{subst}
use Rattle.mpw_structures.specs.declared.structures.Structure.{Structure}
use Rattle.mpw_columns_contents.specs.Internal.Held.{HoldsBoxes}
use Rattle.mpw_columns_contents.proofs.Held.{held_more}
use Rattle.mpw_columns_contents.proofs.boxes.held_in.Goals as goal

pub loop-structure-preserved : goal.loop-structure-preserved
loop-structure-preserved c =
    let held = c.in_ok-held.held in
    held_more c.args.structures.now c.loop-structure.structure-index c.structure-item.result
    c.loop-structure.all.items c.push.new.self.items held c.loop-structure-test.true
    c.loop-structure.invariant c.in_ok-push.ensures.items
    (subst (λ (s : Structure). HoldsBoxes s held) c.structure-item.is c.in_ok-held.ensures)
