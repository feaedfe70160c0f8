-- The new name is none of those in the map.
use Rattle.std.proofs.Common.{◌≡◌, ◌∙◌, ◌++◌, ◌∷◌, [], false, ap}
use Rattle.mpw_placings.specs.Internal.Maps.{placements_of}
use Rattle.mpw_placings.specs.Placements.{is_taken}
use Rattle.mpw_placings.proofs.Maps.{placing_inserted}
use Rattle.mpw_placings.proofs.map.PlacementMap.with.Goals as goal

pub returns : goal.returns
returns c =
    let es = c.in_ok-roots.roots.entries in
    let name = c.into_entry-name.result.0 in
    let all = c.in_ok-roots.ensures in
    let one = c.into_entry-name.ensures in
    let new : is_taken (placements_of es) name.cell name.label ≡ false =
    (λ i. is_taken (all i) (one i).cell (one i).label) ∙ c.requires in
    ap (λ m. placements_of m.entries) c.in_ok-new.ensures.ok
    ∙ ap placements_of c.in_ok-insert.ensures.entries
    ∙ placing_inserted es name c.into_entry-name.result.1 new ∙ (λ i. all i ++ one i ∷ [])
