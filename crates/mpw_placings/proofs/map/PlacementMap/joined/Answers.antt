-- The names after the map are none of those in it.
use Rattle.std.proofs.Common.{◌≡◌, ◌∙◌, ◌++◌, AllPairs, ap, sym, subst}
use Rattle.mpw_placings.specs.Internal.Maps.{placements_of}
use Rattle.mpw_placings.specs.Placements.{DifferInName}
use Rattle.mpw_placings.proofs.Maps.{placings_inserted}
use Rattle.mpw_placings.proofs.map.PlacementMap.joined.Goals as goal

pub returns : goal.returns
returns c =
    let es = c.in_ok-roots.roots.entries in
    let fs = c.in_ok-more.more.entries in
    let all : placements_of es ++ placements_of fs ≡ c.args.self.now ++ c.args.others.now =
    λ i. c.in_ok-roots.ensures i ++ c.in_ok-more.ensures i in
    ap (λ m. placements_of m.entries) c.in_ok-new.ensures.ok
    ∙ ap placements_of c.in_ok-append.ensures.entries
    ∙ placings_inserted es fs (subst (AllPairs DifferInName) (sym all) c.requires) ∙ all
