-- A step that enters a root, or skips it.
use Rattle.std.proofs.Common.{◌≡◌, ℕ, zero, suc, ◌+◌, ◌<◌, ◌≤◌, Bool, true, false, List, [], ◌∷◌, ◌++◌, length, map, take, Option, Some, refl, sym, ap, subst, ◌∙◌, arith}
use Rattle.std.specs.Prelude.{slice_get, All, option_map}
use Rattle.std.specs.List.{flat_map}
use Rattle.std.proofs.lemmas.Option.{slice_get_within}
use Rattle.std.proofs.lemmas.List.{drop_all, nil_from_length}
use Rattle.mpw_geom.specs.declared.plane.Box2.{Box2}
use Rattle.mpw_hier.specs.declared.submission.Submission.{Submission}
use Rattle.mpw_hier.specs.Items.{Item, placed_item}
use Rattle.mpw_hier.specs.Boxes.{placed_box, extent_of}
use Rattle.mpw_hier.specs.Sizes.{IsExtentNear}
use Rattle.mpw_hier.specs.Values.{structure_items, flats}
use Rattle.mpw_walk.specs.declared.frame.Frame.{Frame}
use Rattle.mpw_walk.specs.declared.root.Root.{Root}
use Rattle.mpw_walk.specs.declared.way.Way.{Way}
use Rattle.mpw_walk.specs.declared.way.Step.TheVariants as steps
use Rattle.mpw_walk.specs.Turns.{Turn, enter, given, entered, placed_turn, turns_of, root_turns, roots_turns}
use Rattle.mpw_walk.specs.Frames.{turns_to_come, named_turns, IsWithin}
use Rattle.mpw_walk.specs.Internal.Frames.{Shows, ShowsName}
use Rattle.mpw_walk.specs.Internal.Named.{NamesAreWalked}
use Rattle.mpw_walk.specs.Internal.Stack.{Stack}
use Rattle.mpw_walk.specs.Near.{IsCloseItem}
use Rattle.mpw_walk.specs.Window.{is_in, taken}
use Rattle.mpw_walk.specs.Way.{left_of, walked, IsWay}
use Rattle.mpw_walk.specs.Internal.Way.{IsOver}
use Rattle.mpw_walk.proofs.Fronts.{at_all}
use Rattle.mpw_walk.proofs.Given.{given_append, given_placed}
use Rattle.mpw_walk.proofs.Entered.{named_give, nothing_named}
use Rattle.mpw_walk.proofs.Shows.{placed_shows, top_turns}
use Rattle.mpw_walk.proofs.Nexts.{drop_get}
use Rattle.mpw_walk.proofs.Reach.{all_left, shows_close, first_short}
use Rattle.mpw_walk.proofs.Held.{number_holds}
use Rattle.mpw_walk.proofs.Taken.{taken_out, missed_taken}
use Rattle.mpw_walk.proofs.FrameStacks.{left_more, each_push}
use Rattle.mpw_walk.proofs.Steps.{Comes, ahead, passes, enters}

within_some : {X : Type 0} (xs : List X) (k : ℕ) → k < length xs
    → (x : X) × (slice_get xs k ≡ Some x)
within_some [] k h = absurd (omega (arith, h))
within_some (x ∷ xs) zero h = (x, refl)
within_some (x ∷ xs) (suc k) h = within_some xs k (omega (arith, h))

-- the turns of the roots after the next, and the placed extent of a root
abbrev behind_root : Way → List Turn
behind_root v = left_of v.shelf.now v.roots.now (v.root + 1) []

abbrev extent_there : List Submission → Root → Option Box2
extent_there ss r =
    option_map (placed_box r.placing) (extent_of (given (turns_of ss r.submission)))

-- the content of a root, placed
abbrev shown_there : List Submission → Root → List Turn
shown_there ss r = map (placed_turn r.placing) (turns_of ss r.submission)

no_root : (v : Way) → length v.roots.now ≤ v.root → ahead v [] ≡ []
unfolding left_of roots_turns
no_root v past = rw (drop_all v.root v.roots.now past) refl

pub ended : (v : Way) → v.frames.items ≡ [] → length v.roots.now ≤ v.root
    → IsOver (walked v []) (walked v v.frames.items)
ended v empty past =
    record { none = ap (taken v.window) (no_root v past); same = ap (walked v) empty }

module _ (law : NamesAreWalked) (v : Way) (w : IsWay v []) (empty : v.frames.items ≡ [])
    (r : Root) (r_is : slice_get v.roots.now v.root ≡ Some r) where
  pub root_present : r.submission < length v.shelf.now
  root_present =
      at_all (λ (r : Root). r.submission < length v.shelf.now) v.roots.now v.root r w.present r_is

  root_within : v.root < length v.roots.now
  root_within = slice_get_within v.roots.now v.root r r_is

  begun : v.root + 1 ≤ length v.roots.now
  begun = omega (arith, root_within)

  root_left : ahead v [] ≡ root_turns v.shelf.now r ++ behind_root v
  unfolding left_of roots_turns
  root_left = ap (flat_map (root_turns v.shelf.now)) (drop_get v.roots.now v.root r r_is)

  of : (s : Submission) × (slice_get v.shelf.now r.submission ≡ Some s)
  of = within_some v.shelf.now r.submission root_present

  module _ (g : Frame) (shown : ShowsName v.shelf.now r.submission (λ s. s.top) g)
      (low : g.node.now.size.height ≤ 64) where
    abbrev top_list : List Item
    top_list = structure_items (flats (take r.submission v.shelf.now)) of.0 of.0.top

    here : Shows v.shelf.now r.submission of.0 of.0.top g
    here = shown of.0 of.1

    turns_are : turns_of v.shelf.now r.submission
        ≡ named_turns v.shelf.now r.submission of.0.top
    turns_are = top_turns law v.shelf.now r.submission of.0 of.1

    given_are : given (turns_of v.shelf.now r.submission) ≡ top_list
    given_are =
        ap given turns_are
        ∙ (named_give v.shelf.now r.submission of.0 of.1 of.0.top).items_given

    -- it has no shapes
    pub passes_root : g.node.now.size.count ≡ 0 → Comes steps.On v [] (record v { root = v.root + 1 })
    passes_root none_shown =
        let none : top_list ≡ [] =
        nil_from_length top_list (omega (arith, here.size.count, none_shown)) in
        let empty_turns : turns_of v.shelf.now r.submission ≡ [] =
        turns_are ∙ nothing_named v.shelf.now r.submission of.0 of.1 of.0.top none in
        passes v [] w (v.root + 1) [] begun w.each v.frames empty []
        (root_left ∙ ap (λ ts. entered ts r.placing ++ behind_root v) empty_turns) refl
        (omega (arith, root_within))

    -- it has shapes
    module _ (some : 0 < g.node.now.size.count) where
      some_items : 0 < length top_list
      some_items = omega (arith, here.size.count, some)

      begun_turns : root_turns v.shelf.now r
          ≡ enter (extent_there v.shelf.now r) ∷ shown_there v.shelf.now r
      begun_turns = go (turns_of v.shelf.now r.submission) given_are some_items
        where
          go : (ts : List Turn) → given ts ≡ top_list → 0 < length top_list
              → entered ts r.placing
              ≡ enter (option_map (placed_box r.placing) (extent_of (given ts)))
              ∷ map (placed_turn r.placing) ts
          go [] e h = absurd (omega (arith, h, ap length e))
          go (t ∷ ts) e h = refl

      missed_left : ahead v []
          ≡ (enter (extent_there v.shelf.now r) ∷ shown_there v.shelf.now r) ++ behind_root v
      missed_left = root_left ∙ ap (λ turns. turns ++ behind_root v) begun_turns

      -- the extent of its node, placed
      told : (b : Bool)
          → is_in v.window (option_map (placed_box r.placing) g.node.now.size.extent) ≡ b
          → is_in v.window (extent_there v.shelf.now r) ≡ b
      told b h =
          let extent = here.size.extent ∙ ap extent_of (sym given_are) in
          sym (ap (λ o. is_in v.window (option_map (placed_box r.placing) o)) extent) ∙ h

      pub root_near : IsExtentNear g.node.now.size.extent
      root_near = here.size.near

      pub root_short : IsWithin r.placing.by
      root_short =
          let t = r.placing in
          let items : given (ahead v [])
          ≡ map (placed_item t) top_list ++ given (behind_root v) =
          ap given missed_left ∙ given_append (shown_there v.shelf.now r) (behind_root v)
          ∙ ap (λ is. is ++ given (behind_root v))
          (given_placed t (turns_of v.shelf.now r.submission)
          ∙ ap (map (placed_item t)) given_are) in
          first_short t top_list some_items
          (shows_close v.shelf.now r.submission of.0 w.read of.1 of.0.top g here)
          (all_left IsCloseItem (map (placed_item t) top_list) (given (behind_root v))
          (subst (All IsCloseItem) items w.close))

      inner_shows : Shows v.shelf.now r.submission of.0 of.0.top (record g { placing = r.placing })
      inner_shows =
          placed_shows v.shelf.now r.submission of.0 of.0.top g r.placing here root_short

      inner_turns : turns_to_come v.shelf.now (record g { placing = r.placing })
          ≡ shown_there v.shelf.now r
      unfolding turns_to_come
      inner_turns = ap (map (placed_turn r.placing)) (inner_shows.turns ∙ sym turns_are)

      pub enters_root : is_in v.window (option_map (placed_box r.placing) g.node.now.size.extent)
          ≡ true → (stack : Stack)
          → stack.items ≡ v.frames.items ++ (record g { placing = r.placing }) ∷ []
          → Comes steps.On v [] (record v { root = v.root + 1; frames = stack; turns = v.turns + 1 })
      enters_root met stack is =
          let inner : Frame = record g { placing = r.placing } in
          let left =
          left_more v.shelf.now v.roots.now (v.root + 1) [] inner
          ∙ ap (λ turns. turns ++ behind_root v) inner_turns in
          enters v [] w (v.root + 1) ([] ++ inner ∷ []) begun
          (each_push v.shelf.now [] inner w.each inner_shows.frame (omega (arith, low))) stack
          (is ∙ ap (λ (fs : List Frame). fs ++ inner ∷ []) empty) (extent_there v.shelf.now r)
          (missed_left ∙ ap (λ turns. enter (extent_there v.shelf.now r) ∷ turns) (sym left))
          (told true met) (omega (arith, root_within))

      -- a root that misses the window is skipped, with all its content
      pub misses_root : is_in v.window (option_map (placed_box r.placing) g.node.now.size.extent)
          ≡ false → Comes steps.On v [] (record v { root = v.root + 1 })
      misses_root missed =
          let extent = extent_there v.shelf.now r in
          let shown = shown_there v.shelf.now r in
          let none : taken v.window (enter extent ∷ shown) ≡ [] =
          taken_out v.window (enter extent) shown (told false missed)
          ∙ missed_taken law.extents v.window r.placing (turns_of v.shelf.now r.submission)
          (number_holds law.extents.placed v.shelf.now r.submission) (told false missed) in
          passes v [] w (v.root + 1) [] begun w.each v.frames empty (enter extent ∷ shown)
          missed_left none (omega (arith, root_within))
