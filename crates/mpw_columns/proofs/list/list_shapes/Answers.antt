-- Answers to the goals of `list_shapes` in `src/list.rt`.
use Rattle.std.proofs.Common.{◌≡◌, ◌∙◌, List, [], ◌∷◌, ◌++◌, refl, sym, subst, ap, rules}
use Rattle.std.proofs.lemmas.List.{append-nil}
use Rattle.mpw_hier.specs.Items.{Item}
use Rattle.mpw_walk.specs.Turns.{given}
use Rattle.mpw_walk.specs.Way.{item_of}
use Rattle.mpw_tiles.proofs.Showing.{given_more}
use Rattle.mpw_columns.specs.Internal.Listed.{ShowSeen}
use Rattle.mpw_columns.proofs.Showing.{none_listed, item_listed}
use Rattle.mpw_columns.proofs.list.list_shapes.Goals as goal

pub loop-placed-init : goal.loop-placed-init
loop-placed-init c =
    ([], refl, rw c.new-listed.ensures.items (none_listed c.args.layers.now c.args.axis))

pub loop-placed-preserved : goal.loop-placed-preserved
loop-placed-preserved c =
    let done = c.loop-placed.invariant.0 in
    let item = item_of c.in-Some.placed in (
      done ++ item ∷ [],
      given_more done (given c.next.new.self.left) _ _ item c.in-Some.ensures.some
          c.loop-placed.invariant.1,
      item_listed c.args.layers.now c.args.axis done item c.loop-placed.listed.items
          c.list_shape.new.listed.items c.loop-placed.invariant.2 c.in_ok-list_shape.ensures,
    )

pub returns : goal.returns
returns c =
    let done = c.loop-placed.invariant.0 in
    let none : given c.loop-placed.walk.left ≡ [] = search rules in
    subst (λ (items : List Item). ShowSeen c.args.layers.now c.args.axis items
    c.loop-placed.listed.items) (sym (append-nil done) ∙ ap (λ (xs : List Item). done ++ xs)
    (sym none) ∙ c.loop-placed.invariant.1) c.loop-placed.invariant.2
