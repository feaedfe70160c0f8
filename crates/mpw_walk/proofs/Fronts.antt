-- The frame of a node before its first turn.
use Rattle.std.proofs.Common.{◌≡◌, ◌<◌, ℕ, List, length, get_or, take, Option, Some, None, refl, sym, ap, subst, ◌∙◌, arith}
use Rattle.std.specs.Prelude.{slice_get, All, IfSome, is_some, nat_lt, true, false, ◌≤◌}
use Rattle.std.proofs.lemmas.Bool.Decides.{nat_tests}
use Rattle.std.specs.Borrow.{Bor}
use Rattle.std.proofs.lemmas.Option.{slice_get_within, get_or_from_slice_get, slice_get_read}
use Rattle.mpw_geom.specs.declared.placing.Placing.{Placing}
use Rattle.mpw_structures.specs.declared.element.Element.{Element}
use Rattle.mpw_structures.specs.declared.element.Element.TheVariants as elements
use Rattle.mpw_structures.specs.declared.element.Reference.{Reference}
use Rattle.mpw_structures.specs.Element.{IsElement, IsReference}
use Rattle.mpw_structures.specs.declared.structures.Structure.{Structure}
use Rattle.mpw_structures.specs.Library.{IsLibrary, IsStructure}
use Rattle.mpw_hier.specs.declared.node.Child.{Child}
use Rattle.mpw_hier.specs.declared.node.Node.{Node}
use Rattle.mpw_hier.specs.declared.submission.Submission.{Submission}
use Rattle.mpw_hier.specs.Nodes.{AreNodes, AreNodesOf}
use Rattle.mpw_hier.specs.Values.{flats, heights}
use Rattle.mpw_walk.specs.declared.frame.Frame.{Frame}
use Rattle.mpw_walk.specs.Frames.{IsFrame, IsWithin}
use Rattle.mpw_walk.specs.Internal.Frames.{IsFront}

pub at_all : {X : Type 0} (P : X → Type 0) (xs : List X) (k : ℕ) (x : X) → All P xs
    → slice_get xs k ≡ Some x → P x
at_all P xs k x all is =
    let within = slice_get_within xs k x is in
    subst P (get_or_from_slice_get xs k x x is) (all k x within)

-- an element of a structure is one that reading gives
pub element_read : (library : List Structure) (k : ℕ) (s : Structure) (i : ℕ) (e : Element)
    → IsLibrary library → slice_get library k ≡ Some s → slice_get s.elements i ≡ Some e
    → IsElement e
element_read library k s i e read is at =
    at_all IsElement s.elements i e (at_all IsStructure library k s read is).elements at

pub front_is : (ss : List Submission) (number : ℕ) (nodes : List Node) (place : ℕ) (f : Frame)
    (w : AreNodes ss number nodes) (structure : Structure) → slice_get nodes place ≡ Some f.node.now
    → slice_get w.submission.library f.node.now.structure ≡ Some structure → IsWithin f.placing.by
    → f.submission ≡ number → f.nodes.now ≡ nodes → f.elements.now ≡ structure.elements
    → f.shape ≡ 0 → f.child ≡ 0 → f.row ≡ 0 → f.column ≡ 0 → IsFront ss number nodes place f
front_is ss number nodes place f w structure at named near number_is nodes_are elements_are shape
    child row column = record {
      frame = record {
        submission = w.submission;
        is = subst (λ n. slice_get ss n ≡ Some w.submission) (sym number_is) w.is;
        nodes = subst (λ n. AreNodesOf (flats (take n ss)) (heights (take n ss)) w.submission
            f.nodes.now) (sym number_is) (subst
            (λ ns. AreNodesOf (flats (take number ss)) (heights (take number ss)) w.submission ns)
            (sym nodes_are) w.shown);
        place = place;
        at = subst (λ ns. slice_get ns place ≡ Some f.node.now) (sym nodes_are) at;
        structure = structure;
        named = named;
        elements_are = elements_are;
        within = λ c r child_is reference_is. let q : IsReference r =
            element_read w.submission.library f.node.now.structure structure c.element
            (elements.Reference r) w.shown.library named
            (subst (λ es. slice_get es c.element ≡ Some (elements.Reference r)) elements_are
            reference_is) in (
              omega (arith, row, q.rows.least),
              omega (arith, column, q.columns.least),
            );
        near = near;
      };
      number_is = number_is;
      nodes_are = nodes_are;
      node_is = at;
      shape = shape;
      child = child;
      row = row;
      column = column;
    }

-- the same structure, at another position within its elements and arrays, or with another placing
pub frame_at : (ss : List Submission) (f : Frame) → IsFrame ss f
    → (shape child row column : ℕ) (placing : Placing)
    → ((c : Child) (r : Reference) → slice_get f.node.now.children.items child ≡ Some c
    → slice_get f.elements.now c.element ≡ Some (elements.Reference r)
    → (row < r.rows) × (column < r.columns)) → IsWithin placing.by
    → IsFrame ss
    (record f { shape = shape; child = child; row = row; column = column; placing = placing })
frame_at ss f q shape child row column placing within near = record {
  submission = q.submission;
  is = q.is;
  nodes = q.nodes;
  place = q.place;
  at = q.at;
  structure = q.structure;
  named = q.named;
  elements_are = q.elements_are;
  within = within;
  near = near;
}

-- the result of `get`
pub got : {X : Type 0} (xs : List X) (k : ℕ) (o : Option (Bor X)) (x : Bor X) → o ≡ Some x
    → IfSome o (λ (y : Bor X). y.now ≡ get_or xs k y.now) → k < length xs
    → slice_get xs k ≡ Some x.now
got {X = X} xs k o x is at within =
    let h =
    subst (λ (p : Option (Bor X)). IfSome p (λ (y : Bor X). y.now ≡ get_or xs k y.now)) is at in
    slice_get_read xs (length xs) k x.now refl within h

pub found : {X : Type 0} (xs : List X) (k : ℕ) (o : Option (Bor X)) (x : Bor X) → o ≡ Some x
    → is_some o ≡ nat_lt k (length xs) → IfSome o (λ (y : Bor X). y.now ≡ get_or xs k y.now)
    → slice_get xs k ≡ Some x.now
found xs k o x is told at =
    let e : nat_lt k (length xs) ≡ true = sym told ∙ ap is_some is in
    let within : k < length xs = grind (arith, nat_tests) in got xs k o x is at within

pub one : {X : Type 0} (o : Option X) (x y : X) → o ≡ Some x → o ≡ Some y → x ≡ y
one o x y e f = let g : Some x ≡ Some y = sym e ∙ f in cc

pub structure_within : (ss : List Submission) (number : ℕ) (nodes : List Node) (place : ℕ)
    (node : Node) (w : AreNodes ss number nodes) → slice_get nodes place ≡ Some node
    → node.structure < length w.submission.library
structure_within ss number nodes place node w at =
    slice_get_within w.submission.library node.structure (w.shown.each place node at).structure
    (w.shown.each place node at).is

pub none_within : {X : Type 0} (o : Option X) (k n : ℕ) → o ≡ None → is_some o ≡ nat_lt k n → n ≤ k
none_within o k n is told =
    let e : nat_lt k n ≡ false = sym told ∙ ap is_some is in grind (arith, nat_tests)
