-- Cores that are solved, held, displaced and cut.
use Rattle.std.proofs.Common.{◌≡◌, ◌∙◌, ◌+◌, ◌+ℤ◌, List, [], ◌∷◌, ◌++◌, map, Option, Some, None, inl, inr, sym, subst, ap, arith, IfSome}
use Rattle.std.specs.Prelude.{All}
use Rattle.std.proofs.lemmas.Int.{ints}
use Rattle.std.proofs.lemmas.List.Elements.{All-push}
use Rattle.mpw_geom.specs.declared.plane.Box2.{Box2}
use Rattle.mpw_geom.specs.declared.plane.Point.{Point}
use Rattle.mpw_geom.proofs.Boxes.{same_box}
use Rattle.mpw_deck.specs.declared.rule.Rule.{Rule}
use Rattle.mpw_edges.specs.declared.run.Axis.{Axis}
use Rattle.mpw_columns_contents.specs.declared.thing.Thing.{Thing}
use Rattle.mpw_columns_contents.specs.Displaced.{moved}
use Rattle.mpw_columns_contents.specs.Things.{things_items}
use Rattle.mpw_markers.specs.declared.marker.Key.{Key}
use Rattle.mpw_job.specs.Layers.{Coverage}
use Rattle.mpw_columns_keys.specs.Columns.{across}
use Rattle.mpw_columns.specs.declared.layout.Layout.{Layout}
use Rattle.mpw_columns.specs.declared.kept.Solved.{Solved}
use Rattle.mpw_columns.specs.Internal.Checked.{IsLayout}
use Rattle.mpw_columns.specs.Internal.Found.{IsUpright}
use Rattle.mpw_columns.specs.Internal.Pieces.{ArePieces, AreThingsIn, AreLayoutPieces, AddsLayoutPieces, IsSolved, IsMovedCore, IsInside, IsCut, moved_box, moved_key, seen_way, seen_layout, seen_things, below_of}
use Rattle.mpw_columns.specs.Internal.Found.{left_of}
use Rattle.mpw_columns.proofs.Agreeing.{agree_back}
use Rattle.mpw_columns.proofs.Pieced.{ArePartsOf, adds_join, pieces_agree, parts_across, parts_along}
use Rattle.mpw_columns.proofs.PiecesMoved.{pieces_moved}
use Rattle.mpw_columns.proofs.ThingsShown.{things_moved}

pub some_weaker : {X : Type 0} (o : Option X) (P Q : X → Type 0) → ((x : X) → P x → Q x) → IfSome o P
    → IfSome o Q
some_weaker None P Q f h = tt
some_weaker (Some x) P Q f h = f x h

-- ---- what is held

-- a core that is held with its entries and its pieces
pub solved_new : (l : Layout) (axis : Axis) (core : Box2) (things : List Thing) (keys : List Key)
    (s : Solved) → IsLayout l → s.core ≡ core → s.things ≡ things → s.keys.items ≡ keys
    → AreThingsIn l axis core things → AreLayoutPieces l axis core keys → IsSolved l axis s
solved_new l axis core things keys s is e f g are p =
    let rules = l.snapshot.now.deck.rules in
    let told = pieces_agree rules l.layers.now l.distance axis (seen_layout l axis)
    (seen_things l axis things) core keys is.look are.shows p in
    subst (λ (ks : List Key). ArePieces rules axis (seen_things l axis s.things) s.core ks) (sym g)
    (subst (λ (b : Box2). ArePieces rules axis (seen_things l axis s.things) b keys) (sym e)
    (subst (λ (ts : List Thing). ArePieces rules axis (seen_things l axis ts) core keys) (sym f) told))

pub solved_more : (l : Layout) (axis : Axis) (s : Solved) (old new : List Solved)
    → All (IsSolved l axis) old → IsSolved l axis s → new ≡ old ++ s ∷ [] → All (IsSolved l axis) new
solved_more l axis s old new h one e =
    subst (All (IsSolved l axis)) (sym e) (All-push (IsSolved l axis) old s h one)

-- a box is another one, displaced
pub box_moved : (d : Point) (b o : Box2) → o.x0 ≡ (b.x0 +ℤ d.x) → o.x1 ≡ (b.x1 +ℤ d.x)
    → o.y0 ≡ (b.y0 +ℤ d.y) → o.y1 ≡ (b.y1 +ℤ d.y) → IsMovedCore d b o
box_moved d b o e f g h = same_box o (moved_box d b) e g f h

-- the pieces of a core that is a held one, displaced
pub solved_moved : (l : Layout) (axis : Axis) (s : Solved) (core : Box2) (things : List Thing)
    (d way : Point) (keys slice : List Key) → IsLayout l → IsSolved l axis s
    → things_items l.snapshot.now.shelf things
    ≡ map (moved d) (things_items l.snapshot.now.shelf s.things)
    → way ≡ seen_way axis d → IsMovedCore way s.core core → AreThingsIn l axis core things
    → keys ≡ map (moved_key way) slice → slice ≡ s.keys.items → AreLayoutPieces l axis core keys
solved_moved l axis s core things d way keys slice is h same w at are e f =
    let rules = l.snapshot.now.deck.rules in
    let on = seen_things l axis things in
    let there = pieces_moved rules l.layers.now l.distance axis (seen_way axis d)
    (seen_things l axis s.things) on s.core s.keys.items is.look
    (things_moved l axis d s.things things same) h in
    let whole : core ≡ moved_box (seen_way axis d) s.core = at ∙ ap (λ (p : Point). moved_box p s.core) w in
    let all : keys ≡ map (moved_key (seen_way axis d)) s.keys.items = e
    ∙ ap (λ (p : Point). map (moved_key p) slice) w ∙ ap (map (moved_key (seen_way axis d))) f in
    let told = subst (λ (ks : List Key). ArePieces rules axis on core ks) (sym all)
    (subst (λ (b : Box2). ArePieces rules axis on b (map (moved_key (seen_way axis d)) s.keys.items))
    (sym whole) there) in
    pieces_agree rules l.layers.now l.distance axis on (seen_layout l axis) core keys is.look
    (agree_back l.layers.now (across core (l.distance + 1)) (seen_layout l axis) on are.shows) told

-- ---- a cut

pub cut_parts : (rules : List Rule) (axis : Axis) (on : Coverage) (core first second : Box2)
    → IsCut core first second → ArePartsOf rules axis on core first second
cut_parts rules axis on core first second (at, inl c) =
    subst (λ (b : Box2). ArePartsOf rules axis on core b second) (sym c.first_is)
    (subst (λ (b : Box2). ArePartsOf rules axis on core (left_of core at) b) (sym c.second_is)
    (parts_across rules axis on core at c.low c.high))
cut_parts rules axis on core first second (at, inr c) =
    subst (λ (b : Box2). ArePartsOf rules axis on core b second) (sym c.first_is)
    (subst (λ (b : Box2). ArePartsOf rules axis on core (below_of core at) b) (sym c.second_is)
    (parts_along rules axis on core at c.low c.high))

pub cut_first : (core first second : Box2) → IsCut core first second → IsInside first core
cut_first core first second (at, inl c) =
    let high = c.high in subst (λ (b : Box2). IsInside b core) (sym c.first_is) (record {
      left = omega (arith, ints);
      right = high;
      bottom = omega (arith, ints);
      top = omega (arith, ints);
    })
cut_first core first second (at, inr c) =
    let high = c.high in subst (λ (b : Box2). IsInside b core) (sym c.first_is) (record {
      left = omega (arith, ints);
      right = omega (arith, ints);
      bottom = omega (arith, ints);
      top = high;
    })

pub cut_second : (core first second : Box2) → IsCut core first second → IsInside second core
cut_second core first second (at, inl c) =
    let low = c.low in subst (λ (b : Box2). IsInside b core) (sym c.second_is) (record {
      left = low;
      right = omega (arith, ints);
      bottom = omega (arith, ints);
      top = omega (arith, ints);
    })
cut_second core first second (at, inr c) =
    let low = c.low in subst (λ (b : Box2). IsInside b core) (sym c.second_is) (record {
      left = omega (arith, ints);
      right = omega (arith, ints);
      bottom = low;
      top = omega (arith, ints);
    })

pub cut_upright_first : (core first second : Box2) → IsUpright core → IsCut core first second
    → IsUpright first
cut_upright_first core first second u (at, inl c) =
    let l = c.low in let h = c.high in let r = u.right in subst IsUpright (sym c.first_is) (record {
      ordered = l;
      left = u.left;
      right = omega (arith, ints, h, r);
      bottom = u.bottom;
      top = u.top;
    })
cut_upright_first core first second u (at, inr c) =
    let h = c.high in let t = u.top in subst IsUpright (sym c.first_is) (record {
      ordered = u.ordered;
      left = u.left;
      right = u.right;
      bottom = u.bottom;
      top = omega (arith, ints, h, t);
    })

pub cut_upright_second : (core first second : Box2) → IsUpright core → IsCut core first second
    → IsUpright second
cut_upright_second core first second u (at, inl c) =
    let l = c.low in let h = c.high in let f = u.left in subst IsUpright (sym c.second_is) (record {
      ordered = h;
      left = omega (arith, ints, l, f);
      right = u.right;
      bottom = u.bottom;
      top = u.top;
    })
cut_upright_second core first second u (at, inr c) =
    let l = c.low in let b = u.bottom in subst IsUpright (sym c.second_is) (record {
      ordered = u.ordered;
      left = u.left;
      right = u.right;
      bottom = omega (arith, ints, l, b);
      top = u.top;
    })

pub cut_joined : (l : Layout) (axis : Axis) (core first second : Box2) (old mid new : List Key)
    → IsCut core first second → AddsLayoutPieces l axis first old mid
    → AddsLayoutPieces l axis second mid new → AddsLayoutPieces l axis core old new
cut_joined l axis core first second old mid new c p q =
    adds_join l.snapshot.now.deck.rules axis (seen_layout l axis) core first second old mid new
    (cut_parts l.snapshot.now.deck.rules axis (seen_layout l axis) core first second c) p q

-- ---- pieces after others

pub behind_others : (l : Layout) (axis : Axis) (core : Box2) (old new added : List Key)
    → new ≡ old ++ added → AreLayoutPieces l axis core added → AddsLayoutPieces l axis core old new
behind_others l axis core old new added e p = record { added = added; is = e; pieces = p }

-- pieces that were added to none
pub only_pieces : (l : Layout) (axis : Axis) (core : Box2) (old new : List Key) → old ≡ []
    → AddsLayoutPieces l axis core old new → AreLayoutPieces l axis core new
only_pieces l axis core old new e p = subst (AreLayoutPieces l axis core)
    (sym (p.is ∙ ap (λ (ks : List Key). ks ++ p.added) e)) p.pieces
