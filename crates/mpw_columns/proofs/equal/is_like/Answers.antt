-- Answers to the goals of `is_like` in `src/equal.rt`.
use Rattle.std.proofs.Common.{◌≡◌, ◌∙◌, ◌-ℤ◌, map, subst}
use Rattle.mpw_geom.specs.declared.plane.Point.{Point}
use Rattle.mpw_columns_contents.specs.Displaced.{moved}
use Rattle.mpw_columns_contents.specs.Things.{things_items}
use Rattle.mpw_columns.proofs.Alike.{shown_displaced}
use Rattle.mpw_columns.proofs.equal.is_like.Goals as goal

pub returns-in-Some : goal.returns-in-Some
returns-in-Some c = λ yes.
    let l = c.args.layout.now in
    let shelf = l.snapshot.now.shelf in
    let first = c.args.first.now in
    let second = c.args.second.now in
    let by = c.args.column.now.from -ℤ c.args.earlier.now.from in
    let at = c.is_displaced.ensures c.if-not-is_displaced.false in
    record {
      displaced = at;
      shown = shown_displaced c.moved_items_show_displaced.ensures l c.args.earlier.now
          c.args.column.now by first second at c.requires.first c.requires.second
          (subst (λ (d : Point). things_items shelf second ≡ map (moved d) (things_items shelf first))
          (c.is_same_point.ensures.0 yes ∙ c.way-way.ensures) (c.in-Some.ensures.shown shelf));
    }
