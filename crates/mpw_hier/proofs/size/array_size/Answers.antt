-- Answers to the goals of `array_size` in `src/size.rt`.
use Rattle.std.proofs.Common.{◌≡◌, refl, sym, ap, subst, ◌∙◌}
use Rattle.mpw_hier.specs.Sizes.{IsExtentNear}
use Rattle.mpw_hier.specs.Internal.SizeParts.{array_extent}
use Rattle.mpw_hier.proofs.Told.{told_array}
use Rattle.mpw_hier.proofs.size.array_size.Goals as goal
use Rattle.mpw_hier.proofs.size.array_size.Goals.{in-Some+in_ok-array_box, in_default}

pub returns-clause-size : goal.returns-clause-size
unfolding array_extent
returns-clause-size c =
    let made : (c.match-target.extent ≡ array_extent c.args.reference.now c.args.target.extent)
    × IsExtentNear c.match-target.extent = elim c.match-target.branch [
      | in-Some+in_ok-array_box w ↦
          let r = c.args.reference.now in (
            w.extent-is ∙ sym w.in_ok-array_box.ensures.whole
                ∙ ap (array_extent r) (sym w.in-Some.is),
            subst IsExtentNear (sym w.extent-is)
                w.in_ok-array_box.ensures.near,
          )
      | in_default w ↦ (rw w.in_default.is w.extent-is, subst IsExtentNear (sym w.extent-is) tt)
    ] in
    λ t p. told_array c.args.reference.now t c.args.target _ c.min.result p c.array_count.ensures
    c.min.ensures refl made.0 made.1
