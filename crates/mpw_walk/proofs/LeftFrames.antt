-- A step that leaves a frame after its last turn.
use Rattle.std.proofs.Common.{◌≡◌, ◌≤◌, [], ◌∷◌, ◌++◌, length, None, refl, ap, ◌∙◌, arith}
use Rattle.std.specs.Prelude.{slice_get}
use Rattle.std.proofs.lemmas.List.{length-append}
use Rattle.mpw_walk.specs.declared.frame.Frame.{Frame}
use Rattle.mpw_walk.specs.declared.way.Way.{Way}
use Rattle.mpw_walk.specs.declared.way.Step.TheVariants as steps
use Rattle.mpw_walk.specs.Way.{IsWay}
use Rattle.mpw_walk.proofs.Nexts.{frame_over}
use Rattle.mpw_walk.proofs.FrameStacks.{left_more, each_front}
use Rattle.mpw_walk.proofs.Steps.{Comes, ahead, passes}

pub leaves : (v : Way) (f : Frame) → IsWay v (v.frames.items ++ f ∷ [])
    → length f.node.now.shapes ≤ f.shape
    → slice_get f.node.now.children.items f.child ≡ None
    → Comes steps.On v (v.frames.items ++ f ∷ []) v
leaves v f w over none =
    let ss = v.shelf.now in
    let frames = v.frames.items in
    let same : ahead v (frames ++ f ∷ []) ≡ ahead v frames =
    left_more ss v.roots.now v.root frames f
    ∙ ap (λ turns. turns ++ ahead v frames) (frame_over ss f over none) in
    passes v (frames ++ f ∷ []) w v.root frames w.begun (each_front ss frames f w.each) v.frames
    refl [] same refl (omega (arith, length-append frames (f ∷ [])))
