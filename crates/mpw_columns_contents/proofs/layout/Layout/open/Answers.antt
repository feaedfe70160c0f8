-- Answers to the goals of `Layout::open` in `src/opening.rt`.
use Rattle.std.proofs.Common.{◌≡◌, ℕ, map, sym, ap, subst, ◌∙◌, arith}
use Rattle.std.specs.Prelude.{slice_get}
use Rattle.std.specs.List.{flat_map, range_with_len}
use Rattle.mpw_geom.specs.declared.placing.Placing.{Placing}
use Rattle.mpw_hier.specs.declared.node.Node.{Node}
use Rattle.mpw_hier.specs.Items.{placed_item, row_of, instances}
use Rattle.mpw_walk.proofs.Fronts.{found, one}
use Rattle.mpw_columns_contents.specs.Things.{place_shown, reference_of, thing_items}
use Rattle.mpw_columns_contents.specs.Internal.Making.{Adds}
use Rattle.mpw_columns_contents.specs.Internal.Opening.{instances_shown}
use Rattle.mpw_columns_contents.proofs.Adding.{adds_start, adds_row}
use Rattle.mpw_columns_contents.proofs.layout.Layout.open.Goals as goal

pub loop-row-init : goal.loop-row-init
loop-row-init c = adds_start c.args.self.now c.args.things.now.items

pub open_row-requires-clause-node : goal.open_row-requires-clause-node
open_row-requires-clause-node c = record {
  place = c.args.array.now.node;
  at =
      found c.args.self.now.nodes.now c.args.array.now.node c.get.result c.in-Some.node c.in-Some.is
      c.get.ensures.lookup.0 c.get.ensures.lookup.1;
}

pub loop-row-preserved : goal.loop-row-preserved
loop-row-preserved c =
    let l = c.args.self.now in
    let a = c.args.array.now in
    let at = found l.nodes.now a.node c.get.result c.in-Some.node c.in-Some.is
    c.get.ensures.lookup.0 c.get.ensures.lookup.1 in
    let same = one (slice_get l.nodes.now a.node) c.requires.array.node c.in-Some.node.now
    c.requires.array.at at in
    let structure = sym (ap (λ (n : Node). n.structure) same) ∙ c.requires.array.structure in
    let mid = c.loop-row.things.items in
    let new = c.open_row.new.things.items in
    adds_row l (λ (t : Placing). map (placed_item t) (place_shown l.shelf.now a.structure))
    c.args.things.now.items mid new
    c.loop-row.row (row_of (reference_of a)) c.loop-row.invariant
    (subst (λ (place : ℕ). Adds l (instances_shown l.shelf.now place
    (row_of (reference_of a) c.loop-row.row)) mid new)
    structure c.in_ok-open_row.ensures)

pub returns : goal.returns
unfolding thing_items instances
returns c =
    let l = c.args.self.now in
    let a = c.args.array.now in
    let e : c.loop-row.row ≡ a.rows = omega arith in
    subst (λ (n : ℕ). Adds l (instances_shown l.shelf.now a.structure
    (flat_map (row_of (reference_of a)) (range_with_len 0 n)))
    c.args.things.now.items c.loop-row.things.items) e c.loop-row.invariant
