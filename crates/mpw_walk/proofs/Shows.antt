-- The content of a frame at its front: the turns of a name and their size.
use Rattle.std.proofs.Common.{◌≡◌, ℕ, ◌-◌, ◌<◌, List, ◌++◌, length, take, drop, Some, None, refl, sym, ap, subst, ◌∙◌, arith}
use Rattle.std.specs.Prelude.{slice_get}
use Rattle.std.proofs.lemmas.Option.{slice_get_within}
use Rattle.std.proofs.lemmas.List.{length-take}
use Rattle.mpw_geom.specs.declared.placing.Placing.{Placing}
use Rattle.mpw_structures.specs.Places.{place_of}
use Rattle.mpw_hier.specs.declared.node.Node.{Node}
use Rattle.mpw_hier.specs.declared.submission.Submission.{Submission}
use Rattle.mpw_hier.specs.Nodes.{IsOuter, structure_levels}
use Rattle.mpw_hier.specs.Sizes.{IsSizeOf}
use Rattle.mpw_hier.specs.Values.{structure_items, flats, heights, bound_number}
use Rattle.mpw_walk.specs.declared.frame.Frame.{Frame}
use Rattle.mpw_walk.specs.Internal.Named.{NamesAreWalked}
use Rattle.mpw_walk.specs.Turns.{all_turns, turns_of}
use Rattle.mpw_walk.specs.Frames.{named_turns, turns_of_shapes, turns_of_children, turns_within, IsFrame, IsWithin}
use Rattle.mpw_walk.specs.Internal.Frames.{IsFront, Shows}
use Rattle.mpw_walk.proofs.Fronts.{one, frame_at}
use Rattle.mpw_walk.proofs.Entered.{named_is, own_turns, own_size, node_turns}

front_turns : (law : NamesAreWalked) (ss : List Submission) (g : Frame) (q : IsFrame ss g)
    (name : List ℕ) → g.shape ≡ 0 → g.child ≡ 0 → g.row ≡ 0 → g.column ≡ 0
    → place_of q.submission.library name ≡ Some g.node.now.structure
    → turns_within ss g ≡ named_turns ss g.submission name
unfolding turns_within
front_turns law ss g q name shape child row column place =
    let n = g.submission in
    let start : turns_of_shapes n g.elements.now (drop g.shape g.node.now.shapes)
    ++ turns_of_children (named_turns ss n) g.elements.now g.row g.column
    (drop g.child g.node.now.children.items)
    ≡ turns_of_shapes n q.structure.elements g.node.now.shapes
    ++ turns_of_children (named_turns ss n) q.structure.elements 0 0
    g.node.now.children.items =
    rw (shape, child, row, column, q.elements_are) refl in
    start ∙ node_turns ss n q.submission q.is g.nodes.now q.place g.node.now q.structure q.nodes
    q.at q.named ∙ sym (own_turns ss n q.submission q.is law g.nodes.now q.place g.node.now
    q.structure name q.nodes q.at q.named place)

pub front_shows : (law : NamesAreWalked) (ss : List Submission) (n : ℕ) (nodes : List Node) (k : ℕ)
    (g : Frame) (w : IsFront ss n nodes k g) (s : Submission) → slice_get ss n ≡ Some s
    → (name : List ℕ) → place_of s.library name ≡ Some g.node.now.structure → Shows ss n s name g
front_shows law ss n nodes k g w s is name place =
    let q = w.frame in
    let here : slice_get ss n ≡ Some q.submission = subst (λ m. slice_get ss m ≡ Some q.submission)
    w.number_is q.is in
    let same = one (slice_get ss n) q.submission s here is in
    let own : place_of q.submission.library name ≡ Some g.node.now.structure =
    subst (λ (t : Submission). place_of t.library name ≡ Some g.node.now.structure) (sym same)
    place in
    let at : Shows ss g.submission q.submission name g = record {
      frame = q;
      turns = front_turns law ss g q name w.shape w.child w.row w.column own;
      size = own_size ss g.submission q.submission q.is law g.nodes.now q.place g.node.now name
          q.nodes q.at own;
    } in
    subst (λ t. Shows ss n t name g) same
    (subst (λ m. Shows ss m q.submission name g) w.number_is at)

-- the top of a submission
pub top_shows : (law : NamesAreWalked) (ss : List Submission) (n : ℕ) (nodes : List Node)
    (g : Frame) (w : IsFront ss n nodes (length nodes - 1) g) (s : Submission)
    → slice_get ss n ≡ Some s → Shows ss n s s.top g
top_shows law ss n nodes g w s is =
    let q = w.frame in
    let here : slice_get ss n ≡ Some q.submission = subst (λ m. slice_get ss m ≡ Some q.submission)
    w.number_is q.is in
    let same = one (slice_get ss n) q.submission s here is in
    let last : slice_get g.nodes.now (length g.nodes.now - 1) ≡ Some g.node.now =
    subst (λ ns. slice_get ns (length ns - 1) ≡ Some g.node.now) (sym w.nodes_are) w.node_is in
    let top = one (slice_get g.nodes.now (length g.nodes.now - 1)) q.nodes.top g.node.now
    q.nodes.last last in
    let named : place_of q.submission.library q.submission.top ≡ Some g.node.now.structure =
    q.nodes.top_named ∙ ap (λ (m : Node). Some m.structure) top in
    front_shows law ss n nodes (length nodes - 1) g w s is s.top
    (subst (λ (t : Submission). place_of t.library t.top ≡ Some g.node.now.structure) same
    named)

outer_turns : (law : NamesAreWalked) (ss : List Submission) (n : ℕ) (s : Submission)
    → slice_get ss n ≡ Some s → (name : List ℕ) (m : ℕ) (t : Submission)
    → place_of s.library name ≡ None → bound_number s.bound name ≡ Some m → m < n
    → slice_get ss m ≡ Some t → named_turns ss n name ≡ named_turns ss m t.top
unfolding all_turns
outer_turns law ss n s is name m t missing bound lt at =
    named_is ss n s is name ∙ law.outer_turns_are ss n s m t name
    (record { is = is; outside = missing; bound = bound; earlier = lt; to_is = at })
    ∙ sym (named_is ss m t at t.top)

-- the content of a name that is bound to an earlier submission
pub outer_shows : (law : NamesAreWalked) (ss : List Submission) (n : ℕ) (s : Submission)
    → slice_get ss n ≡ Some s → (name : List ℕ) (m : ℕ) (t : Submission)
    → IsOuter s (length (flats (take n ss))) name m → slice_get ss m ≡ Some t → (g : Frame)
    → Shows ss m t t.top g → Shows ss n s name g
outer_shows law ss n s is name m t w at g shown =
    let long : length (flats (take n ss)) ≡ n =
    omega (arith, law.many (take n ss), length-take n ss, slice_get_within ss n s is) in
    let lt : m < n = omega (arith, long, w.earlier) in
    let turns = outer_turns law ss n s is name m t w.outside w.bound lt at in
    let h = law.outer ss n s m t name (record {
      is = is;
      outside = w.outside;
      bound = w.bound;
      earlier = lt;
      to_is = at;
    }) in
    record {
      frame = shown.frame;
      turns = shown.turns ∙ sym turns;
      size = subst (λ is. IsSizeOf is (structure_levels (heights (take n ss)) s name)
          g.node.now.size) (sym h.items) (subst
          (λ l. IsSizeOf (structure_items (flats (take m ss)) t t.top) l g.node.now.size)
          (sym h.levels) shown.size);
    }

-- the turns of a submission are those of its top
pub top_turns : (law : NamesAreWalked) (ss : List Submission) (n : ℕ) (s : Submission)
    → slice_get ss n ≡ Some s → turns_of ss n ≡ named_turns ss n s.top
unfolding all_turns
top_turns law ss n s is = law.top_turns_are ss n s is ∙ sym (named_is ss n s is s.top)

-- the same, with another placing
pub placed_shows : (ss : List Submission) (n : ℕ) (s : Submission) (name : List ℕ) (g : Frame)
    (p : Placing) → Shows ss n s name g → IsWithin p.by
    → Shows ss n s name (record g { placing = p })
unfolding turns_within
placed_shows ss n s name g p w near =
    let q = w.frame in record {
      frame = frame_at ss g q g.shape g.child g.row g.column p q.within near;
      turns = w.turns;
      size = w.size;
    }
