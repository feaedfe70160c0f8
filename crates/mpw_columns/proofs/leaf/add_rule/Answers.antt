-- Answers to the goals of `add_rule` in `src/leaf.rt`.
use Rattle.std.proofs.Common.{◌≡◌, ◌∙◌, ◌++◌, List, length, get_or, Some, map, ap, subst, refl}
use Rattle.std.proofs.lemmas.Option.{slice_get_read}
use Rattle.std.proofs.lemmas.Result.{on_ok_weaker}
use Rattle.mpw_geom.specs.declared.plane.Box2.{Box2}
use Rattle.mpw_deck.specs.declared.rule.Rule.{Rule}
use Rattle.mpw_region.specs.declared.runs.Run.{Run}
use Rattle.mpw_region.specs.Squares.{covers}
use Rattle.mpw_edges.specs.Edges.{Squares}
use Rattle.mpw_edges.specs.Pieces.{HasVerticalStep}
use Rattle.mpw_columns.specs.Internal.Bands.{banded_on}
use Rattle.mpw_columns.specs.Internal.Found.{key_of_run}
use Rattle.mpw_edges.proofs.Maximal.{HoldJust}
use Rattle.mpw_columns.proofs.Keyed.{rule_keys}
use Rattle.mpw_columns.proofs.leaf.add_rule.Goals as goal

-- the runs have the steps of what the bands cover
held_of : (rule : Rule) (first : List Box2) (a : Squares) (second : List Box2) (b : Squares)
    (core : Box2) (runs : List Run) → covers first ≡ a → covers second ≡ b
    → HoldJust runs (λ line j. HasVerticalStep rule (covers first) (covers second) core line.side
    line.first line.second j)
    → HoldJust runs (λ line j. HasVerticalStep rule a b core line.side line.first line.second j)
held_of rule first a second b core runs e f h =
    subst (λ (x : Squares). HoldJust runs (λ line j. HasVerticalStep rule a x core line.side
    line.first line.second j)) f
    (subst (λ (x : Squares). HoldJust runs (λ line j. HasVerticalStep rule x (covers second) core
    line.side line.first line.second j)) e h)

pub returns : goal.returns
returns c =
    let look = c.args.look.now in
    let runs = c.in_ok-runs.runs.items in
    let read = c.index-look-place.result in
    let rule = get_or look.rules.now c.args.place read in
    on_ok_weaker c.add_keys.result
    (λ h. rule_keys c.args.place look.rules.now look.axis (banded_on c.args.banded.now) c.args.core
    rule runs c.args.keys.now.items c.add_keys.new.keys.items
    (slice_get_read look.rules.now (length look.rules.now) c.args.place read refl c.requires.within
    c.index-look-place.is ∙ ap Some c.index-look-place.is)
    c.in_ok-runs.ensures.apart
    (held_of rule c.first_bands-first.result.now _ c.second_bands-second.result.now _ c.args.core runs
    c.first_bands-first.ensures.squares c.second_bands-second.ensures.squares c.in_ok-runs.ensures.places)
    (h ∙ ap (λ (rs : List Run). c.args.keys.now.items ++ map (key_of_run c.args.place look.axis) rs)
    c.as_slice.ensures.value))
    c.add_keys.ensures
