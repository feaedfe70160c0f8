-- The top as an array of one instance, and the items of all entries.
use Rattle.std.proofs.Common.{◌≡◌, ℕ, ◌-◌, List, [], ◌∷◌, ◌++◌, length, map, take, Option, Some, refl, sym, ap, subst, ◌∙◌, arith}
use Rattle.std.specs.Prelude.{slice_get, IfSome, option_copied}
use Rattle.std.specs.Borrow.{Bor}
use Rattle.std.specs.List.{flat_map}
use Rattle.std.proofs.lemmas.Int.{ints}
use Rattle.std.proofs.lemmas.List.{append-nil}
use Rattle.mpw_geom.proofs.Chains.{same_point}
use Rattle.mpw_geom.specs.Plane.{IsInPlane}
use Rattle.mpw_geom.specs.Placing.{placed_point, oriented_point}
use Rattle.mpw_geom.specs.declared.placing.Placing.{Placing}
use Rattle.mpw_structures.specs.declared.structures.Structure.{Structure}
use Rattle.mpw_structures.specs.Places.{place_of}
use Rattle.mpw_hier.specs.declared.node.Node.{Node}
use Rattle.mpw_hier.specs.declared.submission.Submission.{Submission}
use Rattle.mpw_hier.specs.Items.{Item, placed_again, placed_item, instances}
use Rattle.mpw_hier.specs.Nodes.{AreNodes}
use Rattle.mpw_hier.specs.Values.{flat, flat_of, flats}
use Rattle.mpw_walk.proofs.Fronts.{one}
use Rattle.mpw_walk.proofs.Placings.{same_placing, here}
use Rattle.mpw_columns_contents.specs.declared.layout.Layout.{Layout}
use Rattle.mpw_columns_contents.specs.declared.thing.Array.{Array}
use Rattle.mpw_columns_contents.specs.declared.thing.Thing.{Thing}
use Rattle.mpw_columns_contents.specs.declared.thing.Thing.TheVariants as things
use Rattle.mpw_columns_contents.specs.Things.{place_shown, thing_items, things_items}
use Rattle.mpw_columns_contents.specs.Boxes.{AreBoxesOf}
use Rattle.mpw_columns_contents.specs.Internal.Making.{IsLayout}
use Rattle.mpw_columns_contents.specs.Internal.Opening.{NamesAreOpened}
use Rattle.mpw_columns_contents.proofs.Layouts.{named_is, node_named}

pub here_in_plane : IsInPlane here.by
here_in_plane = record {
  x = record { low = omega (arith, ints); high = omega (arith, ints) };
  y = record { low = omega (arith, ints); high = omega (arith, ints) };
}

stays : (t : Placing) → placed_again here t ≡ t
unfolding placed_again placed_point oriented_point
stays t = same_placing _ _ refl (same_point _ _ (omega (arith, ints)) (omega (arith, ints)))

items_stay : (items : List Item) → map (placed_item here) items ≡ items
items_stay [] = refl
items_stay (i ∷ items) =
    ap (λ t. record { origin = i.origin; placing = t; element = i.element }
    ∷ map (placed_item here) items) (stays i.placing)
    ∙ ap (λ is. i ∷ is) (items_stay items)

-- the array of one instance at the top's position
abbrev pub one_here : ℕ → ℕ → Array
one_here structure node = record {
  structure = structure;
  node = node;
  first = here;
  columns = 1;
  rows = 1;
  column_step = here.by;
  row_step = here.by;
}

one_shown : (ss : List Submission) (structure node : ℕ)
    → thing_items ss (things.Array (one_here structure node)) ≡ place_shown ss structure
unfolding thing_items instances
one_shown ss structure node =
    append-nil (map (placed_item here) (place_shown ss structure))
    ∙ items_stay (place_shown ss structure)

flat_is : (law : NamesAreOpened) (ss : List Submission) (s : Submission) → slice_get ss 0 ≡ Some s
    → flat ss 0 ≡ flat_of (flats (take 0 ss)) s
unfolding flats
flat_is law ss s is = law.tops ss 0 s is

pub top_shown : (law : NamesAreOpened) (l : Layout) (w : IsLayout l) (top : Node)
    → slice_get l.nodes.now (length l.nodes.now - 1) ≡ Some top
    → (node : ℕ) → thing_items l.shelf.now (things.Array (one_here top.structure node))
    ≡ flat l.shelf.now 0
top_shown law l w top at node =
    let ss = l.shelf.now in
    let s = w.nodes.submission in
    let same = one (slice_get l.nodes.now (length l.nodes.now - 1)) w.nodes.shown.top top
    w.nodes.shown.last at in
    let named : place_of l.structures.now s.top ≡ Some top.structure =
    ap (λ (ts : List Structure). place_of ts s.top) w.structures ∙ w.nodes.shown.top_named
    ∙ ap (λ (n : Node). Some n.structure) same in
    one_shown ss top.structure node
    ∙ sym (node_named l w top (record { place = length l.nodes.now - 1; at = at }) s.top named)
    ∙ named_is l w s.top ∙ sym (flat_is law ss s w.nodes.is)

-- the top alone
pub top_alone : (l : Layout) (ss : List Submission) (a : Array) (old new : List Thing)
    → l.shelf.now ≡ ss → old ≡ [] → new ≡ old ++ things.Array a ∷ []
    → thing_items l.shelf.now (things.Array a) ≡ flat l.shelf.now 0
    → things_items ss new ≡ flat ss 0
unfolding things_items
top_alone l ss a old new shelf none is shown =
    ap (flat_map (thing_items ss)) (is ∙ ap (λ ts. ts ++ things.Array a ∷ []) none)
    ∙ append-nil (thing_items ss (things.Array a))
    ∙ subst (λ s. thing_items s (things.Array a) ≡ flat s 0) shelf shown

-- what a shelf returns is a layout
pub layout_is : (l : Layout) (o : Option (Bor (List Node))) → o ≡ Some l.nodes
    → IfSome o (λ (ns : Bor (List Node)). AreNodes l.shelf.now 0 ns.now)
    → (p : Option (Bor Submission)) (from : Bor Submission) → p ≡ Some from
    → option_copied p ≡ slice_get l.shelf.now 0 → l.structures.now ≡ from.now.library
    → IfSome l.boxes (λ b. AreBoxesOf l.shelf.now b.now) → IsLayout l
layout_is l o is shown p from from_is copied library boxes =
    let w : AreNodes l.shelf.now 0 l.nodes.now =
    subst (λ (q : Option (Bor (List Node))).
    IfSome q (λ (ns : Bor (List Node)). AreNodes l.shelf.now 0 ns.now)) is shown in
    let same = one (slice_get l.shelf.now 0) w.submission from.now w.is
    (sym copied ∙ ap option_copied from_is) in
    record {
      nodes = w;
      structures = library ∙ ap (λ (s : Submission). s.library) (sym same);
      boxes = boxes;
    }
