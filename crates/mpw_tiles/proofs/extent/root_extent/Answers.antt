-- Answers to the goals of `root_extent` in `src/extent.rt`.
use Rattle.std.proofs.Common.{◌≡◌, true, Option, Some, sym, subst, ap, ◌∙◌}
use Rattle.std.specs.Prelude.{IfSome, option_map}
use Rattle.mpw_geom.specs.declared.plane.Box2.{Box2}
use Rattle.mpw_hier.specs.Boxes.{placed_box, is_box_near}
use Rattle.mpw_tiles.proofs.extent.root_extent.Goals as goal

near : (t : goal.After-placed_area)
    → is_box_near (placed_box t.args.root.now.placing t.in_ok-extent.extent) ≡ true
near c =
    subst (λ (o : Option Box2). IfSome o (λ b. is_box_near (placed_box c.args.root.now.placing b)
    ≡ true)) (sym c.extent.ensures.extent ∙ c.in_ok-extent.was) c.requires.near

pub returns-clause-extent : goal.returns-clause-extent
returns-clause-extent c =
    ap Some (c.placed_area.ensures.near (near c))
    ∙ ap (option_map (placed_box c.args.root.now.placing))
    (sym c.in_ok-extent.was ∙ c.extent.ensures.extent)

pub returns-clause-near : goal.returns-clause-near
returns-clause-near c = ap is_box_near (c.placed_area.ensures.near (near c)) ∙ near c
