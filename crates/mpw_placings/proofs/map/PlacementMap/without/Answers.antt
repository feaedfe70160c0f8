-- A name that the map has occurs there once.
use Rattle.std.proofs.Common.{◌≡◌, ◌∙◌, List, Option, None, Some, is_some, false, AllPairs, ap, sym, subst, refl}
use Rattle.std.specs.Prelude.{filter, not}
use Rattle.std.proofs.lemmas.Result.{IfOk-weaker}
use Rattle.mpw_walk.specs.declared.root.Root.{Root}
use Rattle.mpw_placings.specs.declared.placement.Placement.{Placement}
use Rattle.mpw_placings.specs.Internal.Maps.{placements_of}
use Rattle.mpw_placings.specs.Placements.{is_at, DifferInName}
use Rattle.mpw_placings.proofs.Maps.{none_removed, placing_removed}
use Rattle.mpw_placings.proofs.map.PlacementMap.without.Goals as goal

not_some : (o : Option Root) → is_some o ≡ false → None ≡ o
not_some None e = refl
not_some (Some root) e = absurd cc

pub returns-then-is_none : goal.returns-then-is_none
returns-then-is_none c =
    let kept : List Placement =
    filter (λ p. not (is_at c.args.cell.now c.args.label.now p)) c.args.self.now in
    let same : c.args.self.now ≡ kept = none_removed c.args.cell.now c.args.label.now c.args.self.now
    (not_some c.root.result c.if-is_none.ensures ∙ c.root.ensures) in
    IfOk-weaker c.copy.result (λ map. map ≡ c.args.self.now) (λ map. map ≡ kept)
    (λ map is. is ∙ same) c.copy.ensures

pub returns : goal.returns
returns c =
    let cell = c.args.cell.now in
    let label = c.args.label.now in
    let all = c.in_ok-roots.ensures in
    ap (λ m. placements_of m.entries) c.in_ok-new.ensures.ok
    ∙ ap placements_of c.shift_remove.ensures.entries
    ∙ placing_removed cell label c.in_ok-roots.roots.entries
    (subst (AllPairs DifferInName) (sym all) c.requires)
    ∙ ap (filter (λ p. not (is_at cell label p))) all
