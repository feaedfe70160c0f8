-- The turn that enters an instance has its placed extent. If that misses a window, no turn after it touches the window.
use Rattle.std.proofs.Common.{◌≡◌, ◌<◌, false, List, [], ◌∷◌, length, map, Some, refl, ap, ◌∙◌, arith}
use Rattle.std.specs.Prelude.{option_map}
use Rattle.mpw_geom.specs.declared.plane.Box2.{Box2}
use Rattle.mpw_geom.specs.declared.placing.Placing.{Placing}
use Rattle.mpw_hier.specs.Items.{Item}
use Rattle.mpw_hier.specs.Boxes.{placed_box, extent_of}
use Rattle.mpw_hier.specs.Values.{structure_items, flats, flat, heights}
use Rattle.mpw_walk.specs.Internal.Extents.{ExtentsAreWalked}
use Rattle.mpw_walk.specs.Missed.{RootsCarryTheirExtents, InstancesCarryTheirExtents, MissedRootsShowNothing, MissedInstancesShowNothing}
use Rattle.mpw_walk.specs.Turns.{Turn, enter, given, placed_turn, entered, structure_turns, all_turns, turns_of}
use Rattle.mpw_walk.specs.Window.{is_met, turns_met}
use Rattle.mpw_walk.proofs.Given.{named_gives, all_give, number_gives}
use Rattle.mpw_walk.proofs.Held.{Holds, number_holds, structure_holds}
use Rattle.mpw_walk.proofs.Taken.{taken_out, missed_taken}

carried : (turns : List Turn) (items : List Item) (t : Placing) → given turns ≡ items
    → 0 < length items → entered turns t ≡ enter (option_map (placed_box t) (extent_of items))
    ∷ map (placed_turn t) turns
carried [] items t e some = absurd (omega (arith, some, ap length e))
carried (turn ∷ turns) items t e some =
    ap (λ is. enter (option_map (placed_box t) (extent_of is)) ∷ map (placed_turn t) (turn ∷ turns))
    e

pub roots_carry : RootsCarryTheirExtents
roots_carry ss root some =
    carried (turns_of ss root.submission) (flat ss root.submission) root.placing
    (number_gives ss root.submission).items_given some

pub instances_carry : InstancesCarryTheirExtents
instances_carry ss s name t some =
    carried (structure_turns (all_turns ss) s name) (structure_items (flats ss) s name) t
    (named_gives (all_turns ss) (flats ss) (heights ss) s (all_give ss) name).items_given some

module _ (law : ExtentsAreWalked) where
  missed : (w : Box2) (turns : List Turn) (items : List Item) (t : Placing) → Holds turns
      → given turns ≡ items → is_met w (option_map (placed_box t) (extent_of items)) ≡ false
      → turns_met w (entered turns t) ≡ []
  missed w [] items t h e away = refl
  missed w (turn ∷ turns) items t h e away =
      let all = turn ∷ turns in
      let there = option_map (placed_box t) (extent_of (given all)) in
      let out : is_met w there ≡ false =
      ap (λ is. is_met w (option_map (placed_box t) (extent_of is))) e ∙ away in
      taken_out (Some w) (enter there) (map (placed_turn t) all) out
      ∙ missed_taken law (Some w) t all h out

  pub roots_missed : MissedRootsShowNothing
  roots_missed w ss root away =
      let n = root.submission in
      missed w (turns_of ss n) (flat ss n) root.placing (number_holds law.placed ss n)
      (number_gives ss n).items_given away

  pub instances_missed : MissedInstancesShowNothing
  instances_missed w ss s name t away =
      missed w (structure_turns (all_turns ss) s name) (structure_items (flats ss) s name) t
      (structure_holds law.placed ss s name)
      (named_gives (all_turns ss) (flats ss) (heights ss) s (all_give ss) name).items_given away
