-- The rectangles of entries.
use Rattle.std.proofs.Common.{◌≡◌, ◌∙◌, ℕ, ◌+◌, ◌<◌, ◌≤◌, ◌^◌, List, [], ◌∷◌, ◌++◌, take, get_or, length, Option, Some, None, Result, Ok, Err, refl, sym, subst, ap, arith, IfOk, IfSome}
use Rattle.std.specs.Prelude.{All, Contains, option_copied}
use Rattle.std.specs.Borrow.{Bor}
use Rattle.std.proofs.lemmas.List.{append-nil, take_more}
use Rattle.std.proofs.lemmas.List.Concat.{flat_map-append}
use Rattle.mpw_geom.specs.declared.plane.Box2.{Box2}
use Rattle.mpw_geom.specs.declared.plane.Layer.{Layer}
use Rattle.mpw_geom.specs.declared.placing.Placing.{Placing}
use Rattle.mpw_geom.specs.Plane.{Square}
use Rattle.mpw_geom.proofs.Tests.{same_tests, test_from_SquareIn}
use Rattle.mpw_edges.specs.declared.run.Axis.{Axis}
use Rattle.mpw_edges.specs.declared.run.Axis.TheVariants.{V, H}
use Rattle.mpw_structures.specs.declared.element.Element.{Element}
use Rattle.mpw_hier.specs.declared.submission.Submission.{Submission}
use Rattle.mpw_hier.specs.Items.{Item}
use Rattle.mpw_columns_contents.specs.declared.thing.Thing.{Thing}
use Rattle.mpw_columns_contents.specs.Contents.{AreWhole, AreSound, IsBoxed, IsOn}
use Rattle.mpw_columns_contents.specs.declared.thing.Shape.{Shape}
use Rattle.mpw_columns_contents.specs.declared.thing.Thing.TheVariants as variants
use Rattle.mpw_columns_contents.specs.Things.{drawn, element_in, thing_items, things_items}
use Rattle.mpw_tiles.specs.declared.listing.Rectangle.{Rectangle}
use Rattle.mpw_tiles.specs.Snapshots.{shown}
use Rattle.mpw_tiles.specs.Laws.{SquaresLieInBoxes}
use Rattle.mpw_tiles.specs.Placed.{IsSquareInPlane}
use Rattle.mpw_tiles.specs.Shown.{ShowsSquare}
use Rattle.mpw_job.specs.Answers.{listed_on}
use Rattle.mpw_job.specs.Computed.{shown_on}
use Rattle.mpw_job.specs.Layers.{Coverage}
use Rattle.mpw_job.proofs.Shapes.{tests_tell, tests_tell_listed}
use Rattle.mpw_columns_keys.specs.Columns.{seen_box, across}
use Rattle.mpw_columns.specs.Seen.{seen_on, seen_square}
use Rattle.mpw_columns.specs.declared.layout.Layout.{Layout}
use Rattle.mpw_columns.specs.Internal.Found.{AgreeIn, AgreeAll, IsUpright}
use Rattle.mpw_columns.specs.Internal.Listed.{AddsShown, ShowSeen}
use Rattle.mpw_columns.specs.Internal.Pieces.{AreThingsIn, AreRectanglesIn, MeetsSquaresOf}
use Rattle.mpw_columns.proofs.Looking.{window_in_plane}
use Rattle.mpw_columns.proofs.Showing.{none_listed, item_listed}
use Rattle.mpw_columns.proofs.ThingsShown.{things_within, things_on}

-- ---- what a part contains

pub of_some : {X E : Type 0} (r : Result (Option X) E) (o : Option X) (x : X) (P : X → Type 0)
    → r ≡ Ok o → o ≡ Some x → IfOk r (λ p. IfSome p P) → P x
of_some {X = X} {E = E} r o x P e f h = subst (λ (p : Option X). IfSome p P) f (subst (λ (q : Result (Option X) E). IfOk q (λ p. IfSome p P)) e h)

pub part_told : {E : Type 0} → SquaresLieInBoxes → (l : Layout) (axis : Axis) (core window : Box2)
    (things : List Thing) (shelf : List Submission) (r : Result (Option (List Thing)) E)
    → MeetsSquaresOf (seen_box axis (across core (l.distance + 1))) window → shelf ≡ l.snapshot.now.shelf
    → AreThingsIn l axis core things → IfOk r (λ o. IfSome o (All (IsBoxed shelf)))
    → IfOk r (λ o. IfSome o (λ part. AreWhole window (things_items shelf things) (things_items shelf part)))
    → IfOk r (λ o. IfSome o (λ part. AreSound (things_items shelf things) (things_items shelf part)))
    → IfOk r (λ o. IfSome o (AreThingsIn l axis core))
part_told law l axis core window things shelf (Err e) w s are boxed whole sound = tt
part_told law l axis core window things shelf (Ok None) w s are boxed whole sound = tt
part_told law l axis core window things shelf (Ok (Some part)) w s are boxed whole sound =
    things_within law l axis core window things part w
    (subst (λ (ss : List Submission). AreWhole window (things_items ss things) (things_items ss part)) s whole)
    (subst (λ (ss : List Submission). AreSound (things_items ss things) (things_items ss part)) s sound)
    (subst (λ (ss : List Submission). All (IsBoxed ss) part) s boxed)
    are

-- ---- entries that are listed

pub nothing_listed : (layers : List Layer) (axis : Axis) (t : Placing) (o : Option Element)
    (r : Option (Bor Element)) (listed : List Rectangle) → option_copied r ≡ o → r ≡ None
    → (done : List Item) → ShowSeen layers axis done listed
    → ShowSeen layers axis (done ++ drawn t o) listed
nothing_listed layers axis t o r listed copied is done h =
    subst (λ (items : List Item). ShowSeen layers axis items listed)
    (sym (append-nil done) ∙ ap (λ (e : Option Element). done ++ drawn t e)
    (sym (ap option_copied is) ∙ copied)) h

pub something_listed : (layers : List Layer) (axis : Axis) (t : Placing) (o : Option Element)
    (r : Option (Bor Element)) (b : Bor Element) (old new : List Rectangle) → option_copied r ≡ o
    → r ≡ Some b
    → AddsShown layers axis old new (ShowsSquare (record { origin = 0; placing = t; element = b.now }))
    → (done : List Item) → ShowSeen layers axis done old → ShowSeen layers axis (done ++ drawn t o) new
something_listed layers axis t o r b old new copied is added done h =
    subst (λ (items : List Item). ShowSeen layers axis items new)
    (ap (λ (e : Option Element). done ++ drawn t e) (sym (ap option_copied is) ∙ copied))
    (item_listed layers axis done (record { origin = 0; placing = t; element = b.now }) old new h added)

-- one entry more
items_push : (ss : List Submission) (things : List Thing) (thing : Thing)
    → things_items ss (things ++ thing ∷ []) ≡ things_items ss things ++ thing_items ss thing
unfolding things_items
items_push ss things thing = flat_map-append (thing_items ss) things (thing ∷ [])
    ∙ ap (λ (is : List Item). things_items ss things ++ is) (append-nil (thing_items ss thing))

pub shape_items : (ss : List Submission) (shape : Shape)
    → thing_items ss (variants.Shape shape)
    ≡ drawn shape.placing (element_in ss shape.structure shape.element)
unfolding thing_items
shape_items ss shape = refl

pub no_things_listed : (layers : List Layer) (axis : Axis) (ss : List Submission)
    (listed : List Rectangle) → listed ≡ [] → ShowSeen layers axis (things_items ss []) listed
unfolding things_items
no_things_listed layers axis ss listed e =
    subst (λ (rs : List Rectangle). ShowSeen layers axis [] rs) (sym e) (none_listed layers axis)

pub thing_listed : (layers : List Layer) (axis : Axis) (ss : List Submission) (things : List Thing)
    (k : ℕ) (d thing : Thing) (listed : List Rectangle) → k < length things
    → get_or things k d ≡ thing
    → ShowSeen layers axis (things_items ss (take k things) ++ thing_items ss thing) listed
    → ShowSeen layers axis (things_items ss (take (k + 1) things)) listed
thing_listed layers axis ss things k d thing listed lt at h =
    subst (λ (items : List Item). ShowSeen layers axis items listed)
    (sym (ap (things_items ss) (take_more things k d lt
    ∙ ap (λ (t : Thing). take k things ++ t ∷ []) at) ∙ items_push ss (take k things) thing)) h

-- ---- what is listed of a core

all_agree : (layers : List Layer) (axis : Axis) (items : List Item) (listed : List Rectangle)
    → ShowSeen layers axis items listed → (layer : Layer) → Contains layers layer → (s : Square)
    → IsSquareInPlane s → shown_on items layer s.column s.row
    ≡ listed_on listed layer (seen_square axis s).column (seen_square axis s).row
all_agree layers axis items listed show layer c s plane = same_tests _ _
    (λ e.
    let p = (tests_tell items layer).shown s.column s.row e in
    (tests_tell_listed listed layer).all (seen_square axis s).column (seen_square axis s).row p.0
    ((show layer p.0 s c plane).1 p.1))
    (λ e.
    let p = (tests_tell_listed listed layer).listed_at (seen_square axis s).column
    (seen_square axis s).row e in
    (tests_tell items layer).all s.column s.row p.0 ((show layer p.0 s c plane).0 p.1))

things_agree : (layers : List Layer) (axis : Axis) (items : List Item) (listed : List Rectangle)
    (core : Box2) (n : ℕ) → IsUpright core → n ≤ 2 ^ 33 → ShowSeen layers axis items listed
    → AgreeIn layers (across core n) (seen_on axis (shown_on items)) (listed_on listed)
things_agree layers V items listed core n u short show layer c i j l r low high =
    let s : Square = record { column = i; row = j } in
    all_agree layers V items listed show layer c s (window_in_plane V core n s u short
    (test_from_SquareIn (across core n) s (record { left = l; right = r; bottom = low; top = high })))
things_agree layers H items listed core n u short show layer c i j l r low high =
    let s : Square = record { column = j; row = i } in
    all_agree layers H items listed show layer c s (window_in_plane H core n s u short
    (test_from_SquareIn (seen_box H (across core n)) s
    (record { left = low; right = high; bottom = l; top = r })))

pub rectangles_told : (l : Layout) (axis : Axis) (core window : Box2) (things : List Thing)
    (listed slice parts made : List Rectangle) → l.distance < 2 ^ 32 → IsUpright core
    → AreThingsIn l axis core things
    → ShowSeen l.layers.now axis (things_items l.snapshot.now.shelf things) listed → slice ≡ listed
    → window ≡ across core (l.distance + 1) → AgreeAll window (listed_on slice) (listed_on parts)
    → listed_on made ≡ listed_on parts → AreRectanglesIn l axis core made
rectangles_told l axis core window things listed slice parts made short u are show same w agree last
    layer c i j f g low high =
    are.shows layer c i j f g low high
    ∙ things_agree l.layers.now axis (things_items l.snapshot.now.shelf things) listed core
    (l.distance + 1) u (omega (arith, short)) show layer c i j f g low high
    ∙ ap (λ (rs : List Rectangle). listed_on rs layer i j) (sym same)
    ∙ subst (λ (b : Box2). AgreeAll b (listed_on slice) (listed_on parts)) w agree layer i j f g low high
    ∙ ap (λ (on : Coverage). on layer i j) (sym last)

-- ---- the whole layout

-- entries that are the whole layout have its content in any window
top_shows : (l : Layout) (axis : Axis) (core : Box2) (top : List Thing)
    → All (IsBoxed l.snapshot.now.shelf) top
    → things_items l.snapshot.now.shelf top ≡ shown l.snapshot.now → AreThingsIn l axis core top
top_shows l axis core top boxed e = record {
  shows = λ layer c i j f g low high.
      ap (λ (items : List Item). seen_on axis (shown_on items) layer i j) (sym e);
  boxed = boxed;
}

-- the entries of the layout, made from the top: what touches a window, on the layers
pub all_told : {E : Type 0} → SquaresLieInBoxes → (l : Layout) (axis : Axis) (core window : Box2)
    (top all on : List Thing) (shelf : List Submission) (r : Result (Option (List Thing)) E)
    (o : Option (List Thing)) → r ≡ Ok o → o ≡ Some all
    → MeetsSquaresOf (seen_box axis (across core (l.distance + 1))) window
    → shelf ≡ l.snapshot.now.shelf → All (IsBoxed l.snapshot.now.shelf) top
    → things_items l.snapshot.now.shelf top ≡ shown l.snapshot.now
    → IfOk r (λ p. IfSome p (All (IsBoxed shelf)))
    → IfOk r (λ p. IfSome p (λ part. AreWhole window (things_items shelf top) (things_items shelf part)))
    → IfOk r (λ p. IfSome p (λ part. AreSound (things_items shelf top) (things_items shelf part)))
    → ((i : Item) → Contains (things_items shelf all) i → IsOn l.layers.now i.element
    → Contains (things_items shelf on) i) → AreSound (things_items shelf all) (things_items shelf on)
    → (All (IsBoxed shelf) all → All (IsBoxed shelf) on) → AreThingsIn l axis core on
all_told law l axis core window top all on shelf r o e f meets s first shows boxed whole sound kept own stay =
    things_on l axis core all on
    (subst (λ (ss : List Submission). (i : Item) → Contains (things_items ss all) i
    → IsOn l.layers.now i.element → Contains (things_items ss on) i) s kept)
    (subst (λ (ss : List Submission). AreSound (things_items ss all) (things_items ss on)) s own)
    (subst (λ (ss : List Submission). All (IsBoxed ss) all → All (IsBoxed ss) on) s stay)
    (of_some r o all (AreThingsIn l axis core) e f
    (part_told law l axis core window top shelf r meets s (top_shows l axis core top first shows) boxed whole sound))
