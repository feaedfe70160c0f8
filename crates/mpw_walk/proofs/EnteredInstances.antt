-- A step that enters an instance, or skips it.
use Rattle.std.proofs.Common.{◌≡◌, ◌+◌, ◌<◌, ◌≤◌, Bool, true, false, List, [], ◌∷◌, ◌++◌, length, map, take, Option, sym, ap, subst, ◌∙◌, arith, append_assoc}
use Rattle.std.specs.Prelude.{All, option_map}
use Rattle.std.proofs.lemmas.Option.{slice_get_within}
use Rattle.std.proofs.lemmas.List.{length-append}
use Rattle.mpw_geom.specs.Placing.{placed_point}
use Rattle.mpw_geom.specs.declared.plane.Box2.{Box2}
use Rattle.mpw_geom.specs.declared.plane.Point.{Point}
use Rattle.mpw_geom.specs.declared.placing.Placing.{Placing}
use Rattle.mpw_structures.specs.declared.element.Reference.{Reference}
use Rattle.mpw_structures.specs.Element.{IsReference}
use Rattle.mpw_hier.specs.declared.node.Target.{Target}
use Rattle.mpw_hier.specs.declared.submission.Submission.{Submission}
use Rattle.mpw_hier.specs.Items.{Item, placed_item, placed_again, instance}
use Rattle.mpw_hier.specs.Boxes.{placed_box, extent_of}
use Rattle.mpw_hier.specs.Sizes.{IsExtentNear}
use Rattle.mpw_hier.specs.Values.{structure_items, flats}
use Rattle.mpw_walk.specs.declared.frame.Frame.{Frame}
use Rattle.mpw_walk.specs.declared.way.Way.{Way}
use Rattle.mpw_walk.specs.declared.way.Step.TheVariants as steps
use Rattle.mpw_walk.specs.Turns.{Turn, enter, given, placed_turn}
use Rattle.mpw_walk.specs.Frames.{named_turns, turns_to_come, turns_within, IsWithin}
use Rattle.mpw_walk.specs.Internal.Frames.{IsNext, IsNearArray, Shows, ShowsName, behind_instance}
use Rattle.mpw_walk.specs.Internal.Named.{NamesAreWalked}
use Rattle.mpw_walk.specs.Internal.Skips.{Skips}
use Rattle.mpw_walk.specs.Internal.Stack.{Stack}
use Rattle.mpw_walk.specs.Near.{IsCloseItem}
use Rattle.mpw_walk.specs.Window.{is_in}
use Rattle.mpw_walk.specs.Way.{IsWay}
use Rattle.mpw_walk.proofs.Placings.{then_is}
use Rattle.mpw_walk.proofs.Given.{given_append, given_placed}
use Rattle.mpw_walk.proofs.Entered.{named_give}
use Rattle.mpw_walk.proofs.Shows.{placed_shows}
use Rattle.mpw_walk.proofs.Nexts.{behind_frame, behind_cases, instance_next, rows_read}
use Rattle.mpw_walk.proofs.Depth.{frame_high, less_high}
use Rattle.mpw_walk.proofs.Reach.{all_left, shows_close, first_short, near_array}
use Rattle.mpw_walk.proofs.Passing.{IsAt, Passes, skip_passes}
use Rattle.mpw_walk.proofs.Targets.{next_shows}
use Rattle.mpw_walk.proofs.FrameStacks.{left_more, IsEach, each_front, each_push}
use Rattle.mpw_walk.proofs.Steps.{Comes, ahead, passes, enters, last_frame, last_low}

-- the placing of the next instance of a frame, and its placed extent
abbrev pub next_placing : Frame → Reference → Placing
next_placing f r = placed_again f.placing (instance r f.row f.column)

abbrev pub extent_there : List Submission → Frame → Reference → Option Box2
extent_there ss f r =
    option_map (placed_box (next_placing f r))
    (extent_of (given (named_turns ss f.submission r.name)))

-- the turns of the instance's content, placed
abbrev shown_there : List Submission → Frame → Reference → List Turn
shown_there ss f r = map (placed_turn (next_placing f r)) (named_turns ss f.submission r.name)

module _ (law : NamesAreWalked) (v : Way) (f : Frame) (w : IsWay v (v.frames.items ++ f ∷ []))
    (target : Target) (r : Reference) (x : IsNext f target r) where
  pub grid : (f.row < r.rows) × (f.column < r.columns)
  grid = (last_frame v f w).within x.child r x.child_is x.reference_is

  pub child_within : f.child < length f.node.now.children.items
  child_within = slice_get_within f.node.now.children.items f.child x.child x.child_is

  pub read : IsReference r
  read = rows_read v.shelf.now f (last_frame v f w) x.child.element r x.reference_is

  abbrev below : List Item
  below = structure_items (flats (take f.submission v.shelf.now)) (last_frame v f w).submission r.name

  some_below : 0 < length below
  some_below = next_shows v.shelf.now f (last_frame v f w) target r x

  below_given : given (named_turns v.shelf.now f.submission r.name) ≡ below
  below_given =
      let q = last_frame v f w in
      (named_give v.shelf.now f.submission q.submission q.is r.name).items_given

  some_turns : 0 < length (named_turns v.shelf.now f.submission r.name)
  some_turns = go (named_turns v.shelf.now f.submission r.name) below_given some_below
    where
      go : (ts : List Turn) → given ts ≡ below → 0 < length below → 0 < length ts
      go [] e h = omega (arith, h, ap length e)
      go (t ∷ ts) e h = omega arith

  module _ (g : Frame) (shown : ShowsName v.shelf.now f.submission (λ _. r.name) g) where
    own_close : All IsCloseItem below
    own_close =
        let q = last_frame v f w in
        shows_close v.shelf.now f.submission q.submission w.read q.is r.name g
        (shown q.submission q.is)

    pub array_near : IsNearArray r
    array_near =
        near_array law v.shelf.now f (last_frame v f w) target r w.read x some_below own_close

    pub near : IsExtentNear g.node.now.size.extent
    near = (shown (last_frame v f w).submission (last_frame v f w).is).size.near

    module _ (over : length f.node.now.shapes ≤ f.shape) where
      abbrev behind : List Frame
      behind = v.frames.items ++ behind_instance f r ∷ []

      missed_left : ahead v (v.frames.items ++ f ∷ [])
          ≡ (enter (extent_there v.shelf.now f r) ∷ shown_there v.shelf.now f r) ++ ahead v behind
      missed_left =
          let ss = v.shelf.now in
          let shown = shown_there ss f r in
          left_more ss v.roots.now v.root v.frames.items f
          ∙ ap (λ turns. turns ++ ahead v v.frames.items)
          (instance_next law.extents.again ss f (last_frame v f w) target r x over some_turns)
          ∙ ap (λ turns. enter (extent_there ss f r) ∷ turns)
          (append_assoc shown (turns_to_come ss (behind_instance f r)) (ahead v v.frames.items)
          ∙ ap (λ turns. shown ++ turns)
          (sym (left_more ss v.roots.now v.root v.frames.items (behind_instance f r))))

      at_array : IsAt law.extents v.shelf.now v.window target r f
      at_array = record { frame = last_frame v f w; next = x; over = over; some = some_turns }

      -- what misses the window is skipped
      passes_over : (h : Frame) → Passes v.shelf.now v.window f h → (stack : Stack)
          → stack.items ≡ v.frames.items ++ h ∷ []
          → Comes steps.On v (v.frames.items ++ f ∷ []) (record v { frames = stack })
      passes_over h p stack is =
          let ss = v.shelf.now in
          let front = v.frames.items in
          let low = last_low v f w in
          let left : ahead v (front ++ f ∷ []) ≡ p.gone ++ ahead v (front ++ h ∷ []) =
          left_more ss v.roots.now v.root front f
          ∙ ap (λ turns. turns ++ ahead v front) p.left
          ∙ append_assoc p.gone (turns_to_come ss h) (ahead v front)
          ∙ ap (λ turns. p.gone ++ turns) (sym (left_more ss v.roots.now v.root front h)) in
          passes v (front ++ f ∷ []) w v.root (front ++ h ∷ []) w.begun
          (each_push ss front h (each_front ss front f w.each) p.frame
          (omega (arith, low, p.low)))
          stack is p.gone left p.none
          (omega (
            arith,
            p.some,
            length-append front (h ∷ []),
            length-append front (f ∷ []),
          ))

      placing_short : IsWithin (next_placing f r).by
      placing_short =
          let t = next_placing f r in
          let ts = named_turns v.shelf.now f.submission r.name in
          let items : given (ahead v (v.frames.items ++ f ∷ []))
          ≡ map (placed_item t) below ++ given (ahead v behind) =
          ap given missed_left ∙ given_append (shown_there v.shelf.now f r) (ahead v behind)
          ∙ ap (λ is. is ++ given (ahead v behind))
          (given_placed t ts ∙ ap (map (placed_item t)) below_given) in
          first_short t below some_below own_close
          (all_left IsCloseItem (map (placed_item t) below) (given (ahead v behind))
          (subst (All IsCloseItem) items w.close))

      behind_low : length v.frames.items + (behind_instance f r).node.now.size.height ≤ 64
      behind_low =
          let low = last_low v f w in
          behind_cases f r (λ (b : Frame). length v.frames.items + b.node.now.size.height ≤ 64)
          (λ _. low) (λ _ _. low) (λ _ _. low)

      behind_each : IsEach v.shelf.now behind
      behind_each =
          let ss = v.shelf.now in
          each_push ss v.frames.items (behind_instance f r) (each_front ss v.frames.items f w.each)
          (behind_frame ss f (last_frame v f w) target r x) behind_low

      lower : length behind + g.node.now.size.height ≤ 64
      lower =
          let q = last_frame v f w in
          let low = last_low v f w in
          let less =
          less_high law v.shelf.now f q target r x g (shown q.submission q.is)
          (omega (arith, low)) in
          omega (arith, less, low, length-append v.frames.items (behind_instance f r ∷ []))

      pub frames_room : length behind < 64
      frames_room =
          let q = last_frame v f w in
          omega (arith, lower, frame_high law v.shelf.now g (shown q.submission q.is).frame)

      -- the placing as the code computes it
      module _ (t p : Placing) (t_is : t ≡ instance r f.row f.column)
          (by : p.by ≡ placed_point f.placing t.by)
          (points : (q : Point) → placed_point p q ≡ placed_point f.placing (placed_point t q)) where
        p_is : p ≡ next_placing f r
        p_is = then_is t f.placing p by points ∙ ap (placed_again f.placing) t_is

        pub short : IsWithin p.by
        short = subst (λ (t : Placing). IsWithin t.by) (sym p_is) placing_short

        inner_shows : Shows v.shelf.now f.submission (last_frame v f w).submission r.name
            (record g { placing = p })
        inner_shows =
            let q = last_frame v f w in
            placed_shows v.shelf.now f.submission q.submission r.name g p (shown q.submission q.is)
            short

        -- the extent of its node, placed
        placed_extent : option_map (placed_box p) g.node.now.size.extent
            ≡ extent_there v.shelf.now f r
        placed_extent =
            let size : g.node.now.size.extent
            ≡ extent_of (given (named_turns v.shelf.now f.submission r.name)) =
            inner_shows.size.extent ∙ ap extent_of (sym below_given) in
            ap (λ t. option_map (placed_box t) g.node.now.size.extent) p_is
            ∙ ap (option_map (placed_box (next_placing f r))) size

        told : (b : Bool) → is_in v.window (option_map (placed_box p) g.node.now.size.extent) ≡ b
            → is_in v.window (extent_there v.shelf.now f r) ≡ b
        told b h = sym (ap (is_in v.window) placed_extent) ∙ h

        inner_turns : turns_to_come v.shelf.now (record g { placing = p })
            ≡ shown_there v.shelf.now f r
        unfolding turns_to_come
        inner_turns =
            ap (λ t. map (placed_turn t) (turns_within v.shelf.now (record g { placing = p }))) p_is
            ∙ ap (map (placed_turn (next_placing f r))) inner_shows.turns

        entered_left : ahead v (v.frames.items ++ f ∷ [])
            ≡ enter (extent_there v.shelf.now f r)
            ∷ ahead v (behind ++ (record g { placing = p }) ∷ [])
        entered_left =
            let ss = v.shelf.now in
            missed_left
            ∙ ap (λ turns. enter (extent_there ss f r) ∷ turns)
            (sym
            (left_more ss v.roots.now v.root behind (record g { placing = p })
            ∙ ap (λ turns. turns ++ ahead v behind) inner_turns))

        pub enters_instance : is_in v.window (option_map (placed_box p) g.node.now.size.extent)
            ≡ true → (stack : Stack) → stack.items ≡ behind ++ (record g { placing = p }) ∷ []
            → Comes steps.On v (v.frames.items ++ f ∷ [])
            (record v { frames = stack; turns = v.turns + 1 })
        enters_instance met stack is =
            enters v (v.frames.items ++ f ∷ []) w v.root (behind ++ (record g { placing = p }) ∷ [])
            w.begun
            (each_push v.shelf.now behind (record g { placing = p }) behind_each inner_shows.frame
            lower)
            stack is (extent_there v.shelf.now f r) entered_left (told true met)
            (omega (
              arith,
              length-append v.frames.items (behind_instance f r ∷ []),
              length-append behind ((record g { placing = p }) ∷ []),
              length-append v.frames.items (f ∷ []),
            ))

        -- an instance that misses the window is skipped, with all its content, and with those that a step by division leaves out
        pub misses_instances : is_in v.window (option_map (placed_box p) g.node.now.size.extent)
            ≡ false → (h : Frame)
            → Skips f r (option_map (placed_box p) g.node.now.size.extent) v.window h
            → (stack : Stack) → stack.items ≡ v.frames.items ++ h ∷ []
            → Comes steps.On v (v.frames.items ++ f ∷ []) (record v { frames = stack })
        misses_instances missed h skips stack is =
            passes_over h
            (skip_passes law.extents v.shelf.now v.window target r f at_array (told false missed) h
            (subst (λ o. Skips f r o v.window h) placed_extent skips))
            stack is
