-- The arrays of a frame, and what it places, are near.
use Rattle.std.proofs.Common.{◌≡◌, ℕ, zero, suc, ◌+◌, ◌<◌, ◌≤◌, inl, inr, List, [], ◌∷◌, ◌++◌, length, map, take, Some, sym, subst, arith}
use Rattle.std.specs.Prelude.{slice_get, All, IfSome, true}
use Rattle.std.specs.List.{flat_map, range_with_len}
use Rattle.std.proofs.lemmas.Bool.Decides.{eqb_tells}
use Rattle.std.proofs.lemmas.List.Elements.{All-nil, All-cons, All-head, All-tail, All-take}
use Rattle.std.proofs.lemmas.List.Concat.{flat_map-append}
use Rattle.mpw_geom.specs.declared.placing.Placing.{Placing}
use Rattle.mpw_structures.specs.declared.element.Element.{Element}
use Rattle.mpw_structures.specs.declared.element.Element.TheVariants as elements
use Rattle.mpw_structures.specs.declared.element.Reference.{Reference}
use Rattle.mpw_structures.specs.Library.{IsLibrary}
use Rattle.mpw_hier.specs.declared.node.Target.{Target}
use Rattle.mpw_hier.specs.declared.submission.Submission.{Submission}
use Rattle.mpw_hier.specs.Structures.{references}
use Rattle.mpw_hier.specs.Boxes.{is_box_near}
use Rattle.mpw_hier.specs.Items.{Item, own_items, placed_item, placed_items, shown_items, instance, row_of, instances}
use Rattle.mpw_hier.specs.declared.size.Size.{Size}
use Rattle.mpw_hier.specs.Sizes.{IsSizeOf}
use Rattle.mpw_hier.specs.Values.{structure_items, flats}
use Rattle.mpw_walk.specs.declared.frame.Frame.{Frame}
use Rattle.mpw_walk.specs.Frames.{IsFrame, IsWithin}
use Rattle.mpw_walk.specs.Internal.Frames.{IsNext, IsNearArray, Shows}
use Rattle.mpw_walk.specs.Internal.Named.{NamesAreWalked}
use Rattle.mpw_walk.specs.Near.{IsCloseItem}
use Rattle.mpw_walk.specs.Way.{AreRead}
use Rattle.mpw_walk.proofs.Fronts.{at_all}
use Rattle.mpw_walk.proofs.Entered.{own_items_shown}
use Rattle.mpw_walk.proofs.Close.{IsDrawn, items_close, short_placing}
use Rattle.mpw_walk.proofs.Drawn.{all_drawn, names_drawn}

-- ---- parts of lists

pub all_left : {X : Type 0} (P : X → Type 0) (xs ys : List X) → All P (xs ++ ys) → All P xs
all_left P [] ys h = All-nil P
all_left P (x ∷ xs) ys h =
    All-cons P x xs (All-head P x (xs ++ ys) h) (all_left P xs ys (All-tail P x (xs ++ ys) h))

pub all_right : {X : Type 0} (P : X → Type 0) (xs ys : List X) → All P (xs ++ ys) → All P ys
all_right P [] ys h = h
all_right P (x ∷ xs) ys h = all_right P xs ys (All-tail P x (xs ++ ys) h)

reference_part : (P : Item → Type 0) (of : Reference → List Item) (es : List Element) (i : ℕ)
    (r : Reference) → slice_get es i ≡ Some (elements.Reference r)
    → All P (flat_map of (references es)) → All P (of r)
reference_part P of [] i r is h = absurd cc
reference_part P of (elements.Boundary b ∷ es) zero r is h = absurd cc
reference_part P of (elements.Path p ∷ es) zero r is h = absurd cc
reference_part P of (elements.Reference t ∷ es) zero r is h =
    let same : t ≡ r = cc in
    subst (λ (x : Reference). All P (of x)) same (all_left P (of t) (flat_map of (references es)) h)
reference_part P of (elements.Boundary b ∷ es) (suc i) r is h = reference_part P of es i r is h
reference_part P of (elements.Path p ∷ es) (suc i) r is h = reference_part P of es i r is h
reference_part P of (elements.Reference t ∷ es) (suc i) r is h =
    reference_part P of es i r is (all_right P (of t) (flat_map of (references es)) h)

row_part : (P : Item → Type 0) (of : Placing → List Item) (r : Reference) (a n row : ℕ) → a ≤ row
    → row < a + n → All P (flat_map of (flat_map (row_of r) (range_with_len a n)))
    → All P (flat_map of (row_of r row))
row_part P of r a zero row low high h = absurd (omega (arith, low, high))
row_part P of r a (suc n) row low high h =
    let split = subst (All P) (flat_map-append of (row_of r a)
    (flat_map (row_of r) (range_with_len (a + 1) n))) h in
    elim (eqb_tells row a) [
      | inl e ↦ subst (λ k. All P (flat_map of (row_of r k))) (sym e.1)
          (all_left P (flat_map of (row_of r a)) _ split)
      | inr e ↦ row_part P of r (a + 1) n row (omega (arith, low, e.1)) (omega (arith, high))
          (all_right P (flat_map of (row_of r a)) _ split)
    ]

column_part : (P : Item → Type 0) (of : Placing → List Item) (r : Reference) (row a n column : ℕ)
    → a ≤ column → column < a + n → All P (flat_map of (map (instance r row) (range_with_len a n)))
    → All P (of (instance r row column))
column_part P of r row a zero column low high h = absurd (omega (arith, low, high))
column_part P of r row a (suc n) column low high h =
    elim (eqb_tells column a) [
      | inl e ↦ subst (λ k. All P (of (instance r row k))) (sym e.1)
          (all_left P (of (instance r row a)) _ h)
      | inr e ↦ column_part P of r row (a + 1) n column (omega (arith, low, e.1))
          (omega (arith, high)) (all_right P (of (instance r row a)) _ h)
    ]

instance_part : (P : Item → Type 0) (of : Placing → List Item) (r : Reference) (row column : ℕ)
    → row < r.rows → column < r.columns → All P (flat_map of (instances r))
    → All P (of (instance r row column))
unfolding instances
instance_part P of r row column h l all =
    column_part P of r row 0 r.columns column (omega arith) (omega (arith, l))
    (row_part P of r 0 r.rows row (omega arith) (omega (arith, h)) all)

-- ---- what is close

size_close : (items : List Item) (levels : ℕ) (size : Size) → IsSizeOf items levels size
    → All IsDrawn items → All IsCloseItem items
size_close items levels size h drawn =
    items_close items drawn (subst (λ o. IfSome o (λ box. is_box_near box ≡ true)) h.extent h.near)

drawn_names : (ss : List Submission) (n : ℕ) (s : Submission) → AreRead ss → slice_get ss n ≡ Some s
    → (name : List ℕ) → All IsDrawn (structure_items (flats (take n ss)) s name)
drawn_names ss n s read is name =
    names_drawn (flats (take n ss)) s (at_all (λ (s : Submission). IsLibrary s.library) ss n s read
    is) (all_drawn (take n ss) (All-take (λ (s : Submission). IsLibrary s.library) n ss read))
    name

pub shows_close : (ss : List Submission) (n : ℕ) (s : Submission) → AreRead ss
    → slice_get ss n ≡ Some s → (name : List ℕ) (g : Frame) → Shows ss n s name g
    → All IsCloseItem (structure_items (flats (take n ss)) s name)
shows_close ss n s read is name g shown =
    size_close _ _ g.node.now.size shown.size (drawn_names ss n s read is name)

pub frame_close : (law : NamesAreWalked) (ss : List Submission) (f : Frame) (q : IsFrame ss f)
    → AreRead ss → All IsCloseItem (shown_items f.submission q.structure
    (structure_items (flats (take f.submission ss)) q.submission))
frame_close law ss f q read =
    let m = q.nodes.each q.place f.node.now q.at in
    subst (All IsCloseItem) (own_items_shown ss f.submission q.submission q.is law f.nodes.now
    q.place f.node.now q.structure m.structure.name q.nodes q.at q.named m.named)
    (size_close _ _ f.node.now.size m.size
    (drawn_names ss f.submission q.submission read q.is m.structure.name))

-- a placing of close shapes to close places
pub first_short : (t : Placing) (items : List Item) → 0 < length items → All IsCloseItem items
    → All IsCloseItem (map (placed_item t) items) → IsWithin t.by
first_short t [] some own there = absurd (omega (arith, some))
first_short t (i ∷ items) some own there =
    short_placing t i (All-head IsCloseItem i items own)
    (All-head IsCloseItem (placed_item t i) (map (placed_item t) items) there)

pub near_array : (law : NamesAreWalked) (ss : List Submission) (f : Frame) (q : IsFrame ss f)
    (target : Target) (r : Reference) → AreRead ss → IsNext f target r
    → 0 < length (structure_items (flats (take f.submission ss)) q.submission r.name)
    → All IsCloseItem (structure_items (flats (take f.submission ss)) q.submission r.name)
    → IsNearArray r
near_array law ss f q target r read x some own = λ row column h l.
    let below = structure_items (flats (take f.submission ss)) q.submission in
    let of : Reference → List Item = λ r. placed_items r (below r.name) in
    let es : slice_get q.structure.elements x.child.element ≡ Some (elements.Reference r) =
    subst (λ es. slice_get es x.child.element ≡ Some (elements.Reference r)) q.elements_are
    x.reference_is in
    let all = all_right IsCloseItem (own_items f.submission q.structure.elements)
    (flat_map of (references q.structure.elements)) (frame_close law ss f q read) in
    let here = reference_part IsCloseItem of q.structure.elements x.child.element r es all in
    first_short (instance r row column) (below r.name) some own
    (instance_part IsCloseItem (λ t. map (placed_item t) (below r.name)) r row column h l here)
