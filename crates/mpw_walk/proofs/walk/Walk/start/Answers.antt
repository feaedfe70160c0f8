-- Answers to the goals of `Walk::start` in `src/walk.rt`.
use Rattle.std.proofs.Common.{List, sym, ap, subst, ◌∙◌}
use Rattle.mpw_walk.specs.Way.{left_in, IsOnWay}
use Rattle.mpw_walk.specs.declared.frame.Frame.{Frame}
use Rattle.mpw_walk.proofs.Kept.{shelf_kept}
use Rattle.mpw_walk.proofs.Starts.{start_taken, start_way}
use Rattle.mpw_walk.proofs.walk.Walk.start.Goals as goal

pub invariant_of-result : goal.invariant_of-result
invariant_of-result c =
    let ss = c.args.shelf.now in
    let roots = c.args.roots.now in
    subst (λ (fs : List Frame). IsOnWay c.args.window ss roots 0 0 fs) (sym c.new.ensures)
    (start_way c.args.window ss roots
    (shelf_kept c.shelves_have_their_numbers.ensures.limits ss c.is_shelf.ensures)
    c.requires.roots c.requires.few)

pub returns-clause-left : goal.returns-clause-left
returns-clause-left c =
    let ss = c.args.shelf.now in
    let roots = c.args.roots.now in
    ap (left_in c.args.window ss roots 0) c.new.ensures ∙ start_taken c.args.window ss roots
