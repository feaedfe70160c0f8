-- What a frame places has fewer levels than it has.
use Rattle.std.proofs.Common.{◌≡◌, ℕ, zero, suc, ◌<◌, ◌≤◌, min, max, List, [], ◌∷◌, map, take, Some, ap, subst, ◌∙◌, arith}
use Rattle.std.specs.Prelude.{slice_get}
use Rattle.std.specs.List.{fold}
use Rattle.std.proofs.Math.Nat.{le-max_right}
use Rattle.mpw_structures.specs.declared.element.Element.{Element}
use Rattle.mpw_structures.specs.declared.element.Element.TheVariants as elements
use Rattle.mpw_structures.specs.declared.element.Reference.{Reference}
use Rattle.mpw_hier.specs.declared.node.Target.{Target}
use Rattle.mpw_hier.specs.declared.submission.Submission.{Submission}
use Rattle.mpw_hier.specs.Structures.{referenced_names}
use Rattle.mpw_hier.specs.Nodes.{structure_levels}
use Rattle.mpw_hier.specs.Values.{heights, greatest}
use Rattle.mpw_walk.specs.declared.frame.Frame.{Frame}
use Rattle.mpw_walk.specs.Internal.Named.{NamesAreWalked}
use Rattle.mpw_walk.specs.Frames.{IsFrame}
use Rattle.mpw_walk.specs.Internal.Frames.{IsNext, Shows}
use Rattle.mpw_walk.proofs.Given.{grows}
use Rattle.mpw_walk.proofs.Entered.{own_levels}

name_level : (levels : List ℕ → ℕ) (es : List Element) (most i : ℕ) (r : Reference)
    → slice_get es i ≡ Some (elements.Reference r)
    → levels r.name ≤ fold max most (map levels (referenced_names es))
name_level levels [] most i r is = absurd cc
name_level levels (elements.Boundary b ∷ es) most zero r is = absurd cc
name_level levels (elements.Path p ∷ es) most zero r is = absurd cc
name_level levels (elements.Reference t ∷ es) most zero r is =
    let same : t ≡ r = cc in
    subst (λ (x : Reference). levels x.name ≤ fold max (max most (levels t.name))
    (map levels (referenced_names es))) same
    (omega (
      arith,
      grows (map levels (referenced_names es)) (max most (levels t.name)),
      le-max_right most (levels t.name),
    ))
name_level levels (elements.Boundary b ∷ es) most (suc i) r is = name_level levels es most i r is
name_level levels (elements.Path p ∷ es) most (suc i) r is = name_level levels es most i r is
name_level levels (elements.Reference t ∷ es) most (suc i) r is =
    name_level levels es (max most (levels t.name)) i r is

abbrev frame_levels : (ss : List Submission) (f : Frame) → IsFrame ss f → List ℕ → ℕ
frame_levels ss f q = structure_levels (heights (take f.submission ss)) q.submission

-- the levels of a frame's node
node_levels : (law : NamesAreWalked) (ss : List Submission) (f : Frame) (q : IsFrame ss f)
    → f.node.now.size.height ≡ min 65 (suc
    (greatest (map (frame_levels ss f q) (referenced_names q.structure.elements))))
node_levels law ss f q =
    let m = q.nodes.each q.place f.node.now q.at in
    m.size.height ∙ ap (min 65) (own_levels ss f.submission q.submission q.is law f.nodes.now
    q.place f.node.now q.structure m.structure.name q.nodes q.at q.named m.named)

pub frame_high : (law : NamesAreWalked) (ss : List Submission) (f : Frame) → IsFrame ss f
    → 1 ≤ f.node.now.size.height
frame_high law ss f q = omega (arith, node_levels law ss f q)

pub less_high : (law : NamesAreWalked) (ss : List Submission) (f : Frame) (q : IsFrame ss f)
    (target : Target) (r : Reference) → IsNext f target r → (g : Frame)
    → Shows ss f.submission q.submission r.name g → f.node.now.size.height ≤ 64
    → g.node.now.size.height < f.node.now.size.height
less_high law ss f q target r x g shown few =
    let levels = frame_levels ss f q in
    let es : slice_get q.structure.elements x.child.element ≡ Some (elements.Reference r) =
    subst (λ es. slice_get es x.child.element ≡ Some (elements.Reference r)) q.elements_are
    x.reference_is in
    let below : levels r.name ≤ greatest (map levels (referenced_names q.structure.elements)) =
    name_level levels q.structure.elements 0 x.child.element r es in
    let up = node_levels law ss f q in
    let down : g.node.now.size.height ≡ min 65 (levels r.name) = shown.size.height in
    omega (arith, below, up, down, few)
