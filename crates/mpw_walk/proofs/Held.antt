-- What a turn enters or gives lies in the extent of the whole.
use Rattle.std.proofs.Common.{◌≡◌, ℕ, List, [], ◌∷◌, ◌++◌, length, map, take, Option, Some, None, refl, sym, ap, subst, ◌∙◌, append-nil, append_assoc}
use Rattle.std.specs.Prelude.{All, IfSome, slice_get, option_map}
use Rattle.std.specs.List.{flat_map}
use Rattle.std.proofs.lemmas.List.{map-append}
use Rattle.std.proofs.lemmas.List.Elements.{All-nil, All-cons, All-append, All-map, All-weaker}
use Rattle.mpw_geom.specs.declared.plane.Box2.{Box2}
use Rattle.mpw_geom.specs.declared.placing.Placing.{Placing}
use Rattle.mpw_geom.specs.Plane.{IsOrdered}
use Rattle.mpw_structures.specs.declared.element.Reference.{Reference}
use Rattle.mpw_structures.specs.declared.structures.Structure.{Structure}
use Rattle.mpw_hier.specs.declared.submission.Submission.{Submission}
use Rattle.mpw_hier.specs.Structures.{references}
use Rattle.mpw_hier.specs.Items.{Item, own_items, placed_item, instances}
use Rattle.mpw_hier.specs.Levels.{levels_of}
use Rattle.mpw_hier.specs.Boxes.{hull, placed_box, item_box, extent_of}
use Rattle.mpw_hier.specs.Holding.{IsHeld, ExtentsArePlaced}
use Rattle.mpw_hier.specs.Values.{at_number, bound_number}
use Rattle.mpw_walk.specs.Turns.{Turn, enter, give, given, placed_turn, entered, placed_turns, shown_turns, structure_turns, submission_turns, all_turns, turns_of}
use Rattle.mpw_walk.specs.Internal.Extents.{ExtentsAreWalked}
use Rattle.mpw_walk.specs.Frames.{named_turns}
use Rattle.mpw_walk.specs.Window.{turn_box}
use Rattle.mpw_walk.proofs.Entered.{named_is}
use Rattle.mpw_walk.proofs.Given.{given_append, given_placed}
use Rattle.mpw_walk.proofs.Reach.{all_left, all_right}
use Rattle.mpw_walk.proofs.Related.{Related, none, related_at, numbers_related, levels_related, firsts_related}

-- ---- items in a row

-- a box is the extent of some consecutive items
pub record IsPart (box : Option Box2) (items : List Item) : Type 0 where
  pub before : List Item
  pub shown : List Item
  pub behind : List Item
  pub whole : items ≡ before ++ (shown ++ behind)
  pub extent : box ≡ extent_of shown

part_all : (items : List Item) → IsPart (extent_of items) items
part_all items = record {
  before = [];
  shown = items;
  behind = [];
  whole = sym (append-nil items);
  extent = refl;
}

part_first : (box : Option Box2) (xs ys : List Item) → IsPart box xs → IsPart box (xs ++ ys)
part_first box xs ys h = record {
  before = h.before;
  shown = h.shown;
  behind = h.behind ++ ys;
  whole =
      ap (λ items. items ++ ys) h.whole ∙ append_assoc h.before (h.shown ++ h.behind) ys
      ∙ ap (λ items. h.before ++ items) (append_assoc h.shown h.behind ys);
  extent = h.extent;
}

part_second : (box : Option Box2) (xs ys : List Item) → IsPart box ys → IsPart box (xs ++ ys)
part_second box xs ys h = record {
  before = xs ++ h.before;
  shown = h.shown;
  behind = h.behind;
  whole =
      ap (λ items. xs ++ items) h.whole ∙ sym (append_assoc xs h.before (h.shown ++ h.behind));
  extent = h.extent;
}

one_extent : (i : Item) → extent_of (i ∷ []) ≡ item_box i
unfolding extent_of
one_extent i = go (item_box i)
  where
    go : (o : Option Box2) → hull o None ≡ o
    go None = refl
    go (Some b) = refl

part_one : (i : Item) → IsPart (item_box i) (i ∷ [])
part_one i = record {
  before = [];
  shown = i ∷ [];
  behind = [];
  whole = refl;
  extent = sym (one_extent i);
}

-- ---- lists of turns

abbrev In : List Item → Turn → Type 0
In items turn = IsPart (turn_box turn) items

-- each turn's box is the extent of some of what all of them give
abbrev pub Holds : List Turn → Type 0
Holds turns = All (In (given turns)) turns

holds_nil : Holds []
holds_nil = All-nil (In [])

holds_append : (a b : List Turn) → Holds a → Holds b → Holds (a ++ b)
holds_append a b h k =
    let x = given a in
    let y = given b in
    let first =
    All-weaker (In x) (In (x ++ y)) (λ turn h. part_first (turn_box turn) x y h) a h in
    let second =
    All-weaker (In y) (In (x ++ y)) (λ turn h. part_second (turn_box turn) x y h) b k in
    subst (λ items. All (In items) (a ++ b)) (sym (given_append a b))
    (All-append (In (x ++ y)) a b first second)

holds_flat : {X : Type 0} (f : X → List Turn) (xs : List X) → ((x : X) → Holds (f x))
    → Holds (flat_map f xs)
holds_flat f [] h = holds_nil
holds_flat f (x ∷ xs) h = holds_append (f x) (flat_map f xs) (h x) (holds_flat f xs h)

-- what is entered is the whole
holds_enter : (a : List Turn) → Holds a → Holds (enter (extent_of (given a)) ∷ a)
holds_enter a h =
    All-cons (In (given a)) (enter (extent_of (given a))) a (part_all (given a)) h

holds_give : (items : List Item) → Holds (map give items)
holds_give [] = holds_nil
holds_give (i ∷ items) =
    let one : Holds (give i ∷ []) =
    All-cons (In (i ∷ [])) (give i) [] (part_one i) (All-nil (In (i ∷ []))) in
    holds_append (give i ∷ []) (map give items) one (holds_give items)

-- ---- what is placed

module _ (placed : ExtentsArePlaced) where
  item_placed : (t : Placing) (i : Item)
      → item_box (placed_item t i) ≡ option_map (placed_box t) (item_box i)
  item_placed t i =
      sym (one_extent (placed_item t i)) ∙ placed t (i ∷ [])
      ∙ ap (option_map (placed_box t)) (one_extent i)

  turn_placed : (t : Placing) (turn : Turn)
      → turn_box (placed_turn t turn) ≡ option_map (placed_box t) (turn_box turn)
  turn_placed t (enter e) = refl
  turn_placed t (give i) = item_placed t i

  part_placed : (t : Placing) (turn : Turn) (items : List Item) → In items turn
      → In (map (placed_item t) items) (placed_turn t turn)
  part_placed t turn items h =
      let there = map (placed_item t) in record {
        before = there h.before;
        shown = there h.shown;
        behind = there h.behind;
        whole =
            ap there h.whole ∙ map-append (placed_item t) h.before (h.shown ++ h.behind)
            ∙ ap (λ items. there h.before ++ items)
            (map-append (placed_item t) h.shown h.behind);
        extent =
            turn_placed t turn ∙ ap (option_map (placed_box t)) h.extent
            ∙ sym (placed t h.shown);
      }

  pub holds_placed : (t : Placing) (a : List Turn) → Holds a → Holds (map (placed_turn t) a)
  holds_placed t a h =
      let x = given a in
      let there = In (map (placed_item t) x) in
      let each : All (λ turn. there (placed_turn t turn)) a =
      All-weaker (In x) (λ turn. there (placed_turn t turn)) (λ turn h. part_placed t turn x h)
      a h in
      subst (λ items. All (In items) (map (placed_turn t) a)) (sym (given_placed t a))
      (All-map there (placed_turn t) a each)

  holds_entered : (a : List Turn) (t : Placing) → Holds a → Holds (entered a t)
  holds_entered [] t h = holds_nil
  holds_entered (turn ∷ turns) t h =
      holds_placed t (enter (extent_of (given (turn ∷ turns))) ∷ turn ∷ turns)
      (holds_enter (turn ∷ turns) h)

  -- ---- submissions

  -- the first of three lists, in the form that lemmas about contents need
  abbrev AreHeld : List Turn → List Turn → List Turn → Type 0
  AreHeld a b c = Holds a

  holds_shown : (n : ℕ) (s : Structure) (below : List ℕ → List Turn)
      → ((target : List ℕ) → Holds (below target)) → Holds (shown_turns n s below)
  holds_shown n s below down =
      holds_append (map give (own_items n s.elements)) _ (holds_give (own_items n s.elements))
      (holds_flat (λ (r : Reference). placed_turns r (below r.name)) (references s.elements)
      (λ r. holds_flat (entered (below r.name)) (instances r)
      (λ t. holds_entered (below r.name) t (down r.name))))

  names_held : (xs ys zs : List (List Turn)) (s : Submission) → Related AreHeld xs ys zs
      → (name : List ℕ)
      → AreHeld (structure_turns xs s name) (structure_turns ys s name)
      (structure_turns zs s name)
  names_held xs ys zs s r name =
      levels_related AreHeld (shown_turns (length xs)) (shown_turns (length ys))
      (shown_turns (length zs)) [] [] []
      (λ outside. at_number [] xs (bound_number s.bound outside))
      (λ outside. at_number [] ys (bound_number s.bound outside))
      (λ outside. at_number [] zs (bound_number s.bound outside))
      (λ t x y z down. holds_shown (length xs) t x down) holds_nil
      (λ outside. numbers_related AreHeld xs ys zs [] [] [] holds_nil r
      (bound_number s.bound outside)) (levels_of s.library) s.library name

  all_held : (ss : List Submission) → Related AreHeld (all_turns ss) (all_turns ss) (all_turns ss)
  unfolding all_turns
  all_held ss =
      firsts_related AreHeld submission_turns submission_turns submission_turns
      (λ xs ys zs s r. names_held xs ys zs s r s.top) [] [] [] none ss

  pub structure_holds : (ss : List Submission) (s : Submission) (name : List ℕ)
      → Holds (structure_turns (all_turns ss) s name)
  structure_holds ss s name =
      names_held (all_turns ss) (all_turns ss) (all_turns ss) s (all_held ss) name

  pub number_holds : (ss : List Submission) (number : ℕ) → Holds (turns_of ss number)
  number_holds ss number = related_at (all_held ss) [] [] [] holds_nil number

  pub named_holds : (ss : List Submission) (n : ℕ) (s : Submission) → slice_get ss n ≡ Some s
      → (name : List ℕ) → Holds (named_turns ss n name)
  named_holds ss n s is name =
      subst Holds (sym (named_is ss n s is name)) (structure_holds (take n ss) s name)

-- ---- boxes in the extent of the whole

-- a turn's box lies in another, and has its first corner at the lower left
abbrev pub IsTurnIn : Option Box2 → Turn → Type 0
IsTurnIn outer turn = IsHeld (turn_box turn) outer × IfSome (turn_box turn) IsOrdered

module _ (law : ExtentsAreWalked) where
  part_held : (box : Option Box2) (items : List Item) → IsPart box items
      → IsHeld box (extent_of items)
  part_held box items h =
      let Inside : Item → Type 0 = λ i. IsHeld (item_box i) (extent_of items) in
      let all = subst (All Inside) h.whole (law.holds items) in
      let shown =
      all_left Inside h.shown h.behind (all_right Inside h.before (h.shown ++ h.behind) all) in
      subst (λ o. IsHeld o (extent_of items)) (sym h.extent)
      (law.least h.shown (extent_of items) shown)

  part_ordered : (box : Option Box2) (items : List Item) → IsPart box items → IfSome box IsOrdered
  part_ordered box items h =
      subst (λ o. IfSome o IsOrdered) (sym h.extent) (law.ordered h.shown)

  pub turns_held : (turns : List Turn) → Holds turns
      → All (IsTurnIn (extent_of (given turns))) turns
  turns_held turns h =
      let x = given turns in
      All-weaker (In x) (IsTurnIn (extent_of x))
      (λ turn h. (part_held (turn_box turn) x h, part_ordered (turn_box turn) x h)) turns h
