-- What a frame places next: an earlier node, or the top of an earlier submission.
use Rattle.std.proofs.Common.{◌≡◌, ℕ, ◌-◌, ◌<◌, ◌≤◌, List, length, take, Option, Some, sym, ap, subst, ◌∙◌, arith}
use Rattle.std.specs.Prelude.{slice_get, IfSome}
use Rattle.std.specs.Borrow.{Bor}
use Rattle.std.proofs.lemmas.Option.{slice_get_within, slice_get-get_or}
use Rattle.std.proofs.lemmas.List.{length-take}
use Rattle.mpw_structures.specs.declared.element.Element.TheVariants as elements
use Rattle.mpw_structures.specs.declared.element.Reference.{Reference}
use Rattle.mpw_structures.specs.Places.{place_of}
use Rattle.mpw_hier.specs.declared.node.Node.{Node}
use Rattle.mpw_hier.specs.declared.node.Target.{Target}
use Rattle.mpw_hier.specs.declared.node.Target.TheVariants as targets
use Rattle.mpw_hier.specs.declared.submission.Submission.{Submission}
use Rattle.mpw_hier.specs.Nodes.{IsTarget, IsOwn, IsOuter, AreNodes}
use Rattle.mpw_hier.specs.Values.{structure_items, flats}
use Rattle.mpw_hier.proofs.Tops.{front_get}
use Rattle.mpw_walk.specs.declared.frame.Frame.{Frame}
use Rattle.mpw_walk.specs.Internal.Named.{NamesAreWalked}
use Rattle.mpw_walk.specs.Frames.{IsFrame}
use Rattle.mpw_walk.specs.Internal.Frames.{IsFront, IsNext, ShowsName}
use Rattle.mpw_walk.proofs.Fronts.{one}
use Rattle.mpw_walk.proofs.Nexts.{frame_child, same_reference}
use Rattle.mpw_walk.proofs.Shapes.{IsChild}
use Rattle.mpw_walk.proofs.Shows.{front_shows, top_shows, outer_shows}

next_child : (ss : List Submission) (f : Frame) (q : IsFrame ss f) (target : Target) (r : Reference)
    (x : IsNext f target r) → (k : IsChild q.submission (flats (take f.submission ss))
    (take q.place f.nodes.now) f.elements.now x.child) × (k.reference ≡ r)
next_child ss f q target r x =
    let k = frame_child ss f q x.child x.child_is in
    let both : Some (elements.Reference k.reference) ≡ Some (elements.Reference r) = sym k.is
    ∙ x.reference_is in
    (k, same_reference both)

pub next_shows : (ss : List Submission) (f : Frame) (q : IsFrame ss f) (target : Target)
    (r : Reference) (x : IsNext f target r)
    → 0 < length (structure_items (flats (take f.submission ss)) q.submission r.name)
next_shows ss f q target r x =
    let k = next_child ss f q target r x in
    subst (λ (t : Reference). 0 < length
    (structure_items (flats (take f.submission ss)) q.submission t.name)) k.1 k.0.shows

pub next_target : (ss : List Submission) (f : Frame) (q : IsFrame ss f) (target : Target)
    (r : Reference) (x : IsNext f target r)
    → IsTarget q.submission (length (flats (take f.submission ss))) (take q.place f.nodes.now)
    r.name target
next_target ss f q target r x =
    let k = next_child ss f q target r x in
    let at = subst (λ (t : Reference). IsTarget q.submission (length (flats (take f.submission ss)))
    (take q.place f.nodes.now) t.name x.child.target) k.1 k.0.target in
    subst (λ t. IsTarget q.submission (length (flats (take f.submission ss)))
    (take q.place f.nodes.now) r.name t) x.target_is at

-- an earlier node
pub own_is : (ss : List Submission) (f : Frame) (q : IsFrame ss f) (target : Target) (r : Reference)
    (x : IsNext f target r) (place : ℕ) → target ≡ targets.Own place
    → IsOwn q.submission (take q.place f.nodes.now) r.name place
own_is ss f q target r x place is =
    next_target ss f q (targets.Own place) r (subst (λ t. IsNext f t r) is x)

pub own_within : (ss : List Submission) (f : Frame) (q : IsFrame ss f) (target : Target)
    (r : Reference) (x : IsNext f target r) (place : ℕ) → target ≡ targets.Own place
    → place < length f.nodes.now
own_within ss f q target r x place is =
    let o = own_is ss f q target r x place is in
    slice_get_within f.nodes.now place o.node
    (front_get q.place f.nodes.now place o.node o.is).1

pub own_shows : (law : NamesAreWalked) (ss : List Submission) (f : Frame) (q : IsFrame ss f)
    (target : Target) (r : Reference) (x : IsNext f target r) (place : ℕ)
    → target ≡ targets.Own place → (g : Frame) → IsFront ss f.submission f.nodes.now place g
    → ShowsName ss f.submission (λ _. r.name) g
own_shows law ss f q target r x place is g w s at =
    let o = own_is ss f q target r x place is in
    let node = one (slice_get f.nodes.now place) o.node g.node.now
    (front_get q.place f.nodes.now place o.node o.is).1 w.node_is in
    let same = one (slice_get ss f.submission) q.submission s q.is at in
    let named : place_of s.library r.name ≡ Some g.node.now.structure =
    subst (λ (t : Submission). place_of t.library r.name ≡ Some g.node.now.structure) same
    (o.named ∙ ap (λ (m : Node). Some m.structure) node) in
    front_shows law ss f.submission f.nodes.now place g w s at r.name named

-- an earlier submission
pub outer_is : (ss : List Submission) (f : Frame) (q : IsFrame ss f) (target : Target)
    (r : Reference) (x : IsNext f target r) (number : ℕ) → target ≡ targets.Outer number
    → IsOuter q.submission (length (flats (take f.submission ss))) r.name number
outer_is ss f q target r x number is =
    next_target ss f q (targets.Outer number) r (subst (λ t. IsNext f t r) is x)

pub outer_within : (law : NamesAreWalked) (ss : List Submission) (f : Frame) (q : IsFrame ss f)
    (target : Target) (r : Reference) (x : IsNext f target r) (number : ℕ)
    → target ≡ targets.Outer number → number < length ss
outer_within law ss f q target r x number is =
    let o = outer_is ss f q target r x number is in
    omega (
      arith,
      o.earlier,
      law.many (take f.submission ss),
      length-take f.submission ss,
      slice_get_within ss f.submission q.submission q.is,
    )

pub outer_target : (law : NamesAreWalked) (ss : List Submission) (f : Frame) (q : IsFrame ss f)
    (target : Target) (r : Reference) (x : IsNext f target r) (number : ℕ)
    → target ≡ targets.Outer number → (g : Frame) → ShowsName ss number (λ s. s.top) g
    → ShowsName ss f.submission (λ _. r.name) g
outer_target law ss f q target r x number is g shown s at =
    let o = outer_is ss f q target r x number is in
    let same = one (slice_get ss f.submission) q.submission s q.is at in
    let t = slice_get-get_or ss number s (outer_within law ss f q target r x number is) in
    outer_shows law ss f.submission s at r.name number _
    (subst (λ (t : Submission). IsOuter t (length (flats (take f.submission ss))) r.name number)
    same o) t g (shown _ t)

-- the top of a submission
pub top_target : (law : NamesAreWalked) (ss : List Submission) (n : ℕ) (nodes : List Node)
    (g : Frame) → IsFront ss n nodes (length nodes - 1) g → ShowsName ss n (λ s. s.top) g
top_target law ss n nodes g w s at = top_shows law ss n nodes g w s at

pub top_low : (law : NamesAreWalked) (ss : List Submission) (n : ℕ) (o : Option (Bor (List Node)))
    (nodes : Bor (List Node)) (g : Frame) → o ≡ Some nodes
    → IfSome o (λ (ns : Bor (List Node)). AreNodes ss n ns.now)
    → IsFront ss n nodes.now (length nodes.now - 1) g → g.node.now.size.height ≤ 64
top_low law ss n o nodes g is at w =
    let here : AreNodes ss n nodes.now =
    subst (λ (p : Option (Bor (List Node))).
    IfSome p (λ (ns : Bor (List Node)). AreNodes ss n ns.now)) is at in
    let last = law.last ss n nodes.now g.node.now here w.node_is in
    omega (arith, last.size.height, last.low)
