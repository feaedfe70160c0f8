-- A step that gives a frame's next shape, or skips it.
use Rattle.std.proofs.Common.{◌≡◌, ◌+◌, ◌<◌, true, false, [], ◌∷◌, ◌++◌, length, Some, refl, sym, ap, subst, ◌∙◌, arith}
use Rattle.std.specs.Prelude.{slice_get, slice_index}
use Rattle.std.proofs.lemmas.List.{length-append}
use Rattle.mpw_geom.specs.declared.placing.Placing.{Placing}
use Rattle.mpw_structures.specs.Element.{IsElement}
use Rattle.mpw_structures.specs.Library.{IsStructure, IsLibrary}
use Rattle.mpw_hier.specs.declared.submission.Submission.{Submission}
use Rattle.mpw_hier.specs.Items.{Item}
use Rattle.mpw_hier.specs.Boxes.{element_box}
use Rattle.mpw_hier.specs.Sizes.{IsExtentNear}
use Rattle.mpw_walk.specs.declared.frame.Frame.{Frame}
use Rattle.mpw_walk.specs.declared.root.Placed.{Placed}
use Rattle.mpw_walk.specs.declared.way.Way.{Way}
use Rattle.mpw_walk.specs.declared.way.Step.TheVariants as steps
use Rattle.mpw_walk.specs.Turns.{give}
use Rattle.mpw_walk.specs.Frames.{turns_to_come, IsWithin}
use Rattle.mpw_walk.specs.Internal.Frames.{IsShape}
use Rattle.mpw_walk.specs.Internal.Named.{NamesAreWalked}
use Rattle.mpw_walk.specs.Internal.Stack.{Stack}
use Rattle.mpw_walk.specs.Window.{is_taken}
use Rattle.mpw_walk.specs.Way.{IsWay, IsPlaceable, item_of}
use Rattle.mpw_walk.proofs.Arrays.{in_plane}
use Rattle.mpw_walk.proofs.Fronts.{at_all}
use Rattle.mpw_walk.proofs.Nexts.{shape_next, shape_frame}
use Rattle.mpw_walk.proofs.ShapeBoxes.{shape_near}
use Rattle.mpw_walk.proofs.Taken.{taken_out}
use Rattle.mpw_walk.proofs.FrameStacks.{left_more, IsEach, each_front, each_push}
use Rattle.mpw_walk.proofs.Steps.{Comes, ahead, passes, gives, last_frame, last_low}

-- the frame after its next shape
abbrev pub behind_shape : Frame → Frame
behind_shape f = record f { shape = f.shape + 1 }

module _ (law : NamesAreWalked) (v : Way) (f : Frame) (w : IsWay v (v.frames.items ++ f ∷ []))
    (h : f.shape < length f.node.now.shapes) (placed : Placed) (shape : IsShape f placed) where
  -- the precondition of its test
  pub given_near : IsExtentNear (element_box placed.element.now)
  given_near =
      shape_near law v.shelf.now f (last_frame v f w) placed.element.now h shape.element

  pub given_short : IsWithin placed.placing.by
  given_short = subst (λ (t : Placing). IsWithin t.by) (sym shape.placing) (last_frame v f w).near

  pub given_placeable : IsPlaceable placed
  given_placeable =
      let frame = last_frame v f w in
      let read : IsLibrary frame.submission.library =
      at_all (λ (s : Submission). IsLibrary s.library) v.shelf.now f.submission frame.submission
      w.read frame.is in
      let structure : IsStructure frame.structure =
      at_all IsStructure frame.submission.library f.node.now.structure frame.structure read
      frame.named in
      let at : slice_get frame.structure.elements (slice_index f.node.now.shapes f.shape)
      ≡ Some placed.element.now = rw (← frame.elements_are) shape.element in
      record {
        element =
            at_all IsElement frame.structure.elements (slice_index f.node.now.shapes f.shape)
            placed.element.now structure.elements at;
        displacement = in_plane placed.placing.by given_short;
      }

  given_left : ahead v (v.frames.items ++ f ∷ [])
      ≡ give (item_of placed) ∷ ahead v (v.frames.items ++ behind_shape f ∷ [])
  given_left =
      let ss = v.shelf.now in
      let item : ◌≡◌ {A = Item} (record {
        origin = f.submission;
        placing = f.placing;
        element = placed.element.now;
      }) (item_of placed) = rw (shape.origin, shape.placing) refl in
      let next : turns_to_come ss f
      ≡ give (item_of placed) ∷ turns_to_come ss (behind_shape f) =
      shape_next ss f placed.element.now h shape.element
      ∙ ap (λ i. give i ∷ turns_to_come ss (behind_shape f)) item in
      left_more ss v.roots.now v.root v.frames.items f
      ∙ ap (λ turns. turns ++ ahead v v.frames.items) next
      ∙ ap (λ turns. give (item_of placed) ∷ turns)
      (sym (left_more ss v.roots.now v.root v.frames.items (behind_shape f)))

  behind_each : IsEach v.shelf.now (v.frames.items ++ behind_shape f ∷ [])
  behind_each =
      let ss = v.shelf.now in
      each_push ss v.frames.items (behind_shape f) (each_front ss v.frames.items f w.each)
      (shape_frame ss f (last_frame v f w)) (last_low v f w)

  module _ (stack : Stack) (is : stack.items ≡ v.frames.items ++ behind_shape f ∷ []) where
    pub gives_shape : is_taken v.window (give (item_of placed)) ≡ true
        → Comes (steps.Given placed) v (v.frames.items ++ f ∷ [])
        (record v { frames = stack; turns = v.turns + 1 })
    gives_shape met =
        gives v (v.frames.items ++ f ∷ []) w v.root (v.frames.items ++ behind_shape f ∷ []) w.begun
        behind_each stack is placed given_placeable given_left met

    -- a shape that misses the window is skipped
    pub passes_shape : is_taken v.window (give (item_of placed)) ≡ false
        → Comes steps.On v (v.frames.items ++ f ∷ []) (record v { frames = stack })
    passes_shape missed =
        passes v (v.frames.items ++ f ∷ []) w v.root (v.frames.items ++ behind_shape f ∷ []) w.begun
        behind_each stack is (give (item_of placed) ∷ []) given_left
        (taken_out v.window (give (item_of placed)) [] missed)
        (omega (
          arith,
          length-append v.frames.items (f ∷ []),
          length-append v.frames.items (behind_shape f ∷ []),
        ))
