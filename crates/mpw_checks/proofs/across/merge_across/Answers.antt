-- Answers to the goals of `merge_across` in `src/across.rt`.
use Rattle.std.proofs.Common.{List, subst, ◌⊎◌, ℤ}
use Rattle.std.specs.Prelude.{◌↔◌}
use Rattle.mpw_region.specs.declared.runs.Run.{Run}
use Rattle.mpw_region.specs.Internal.Swept.{IsCovered}
use Rattle.mpw_region.proofs.Sweeping.{covers-same}
use Rattle.mpw_checks.specs.Internal.Across.{IsAcross}
use Rattle.mpw_checks.proofs.Rows.{covered_after}
use Rattle.mpw_checks.proofs.across.merge_across.Goals as goal

pub returns : goal.returns
returns c =
    let window = c.args.window.now in
    let boxes = c.args.boxes.now in
    let within = c.in_ok-within.field-0.within.items in
    let across = c.in_ok-within.field-0.across.items in
    let new = c.add_across.new.boxes.items in
    let apart : (i j : ℤ) → IsCovered boxes i j
    ↔ (IsCovered within i j ⊎ IsAcross window across i j) = c.in_ok-within.ensures.squares in
    let told : (i j : ℤ) → IsCovered new i j
    ↔ (IsCovered within i j ⊎ IsAcross window c.as_slice.result.now i j) =
    c.in_ok-add_across.ensures in
    let added = subst (λ (rs : List Run). (i j : ℤ)
    → IsCovered new i j ↔ (IsCovered within i j ⊎ IsAcross window rs i j))
    c.as_slice.ensures.value told in
    covers-same new boxes (covered_after window boxes within new across c.in_ok-across.across.items
    apart c.in_ok-across.ensures.places added)
