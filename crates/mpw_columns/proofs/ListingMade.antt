-- The first keys of columns, which share them, displaced.
use Rattle.std.proofs.Common.{◌≡◌, ◌∙◌, ℕ, zero, suc, ◌+◌, ◌<◌, ℤ, pos, ◌*◌, ◌+ℤ◌, ◌-ℤ◌, List, [], ◌∷◌, ◌++◌, length, get_or, map, take, drop, take-add, append_assoc, length-drop, None, Some, inl, inr, refl, sym, subst, ap, arith}
use Rattle.std.specs.Prelude.{All, slice_get}
use Rattle.std.specs.List.{AllZip}
use Rattle.std.proofs.lemmas.Int.{ints}
use Rattle.std.proofs.lemmas.List.{take_more, drop_more}
use Rattle.std.proofs.lemmas.List.Elements.{All-take, All-filter, Contains-get_or}
use Rattle.std.proofs.lemmas.Option.{get_or_from_slice_get, slice_get-get_or, slice_get_cases, slice_get_within}
use Rattle.mpw_geom.specs.declared.plane.Box2.{Box2}
use Rattle.mpw_edges.specs.declared.run.Axis.TheVariants.{V}
use Rattle.mpw_edges.specs.Computed.{TestDecidesPairSteps}
use Rattle.mpw_tiles.specs.Snapshots.{Snapshot, shown_extent}
use Rattle.mpw_markers.specs.declared.marker.Key.{Key}
use Rattle.mpw_markers.specs.declared.marker.Marker.{Marker}
use Rattle.mpw_columns_keys.specs.declared.column.Column.{Column}
use Rattle.mpw_columns_keys.specs.declared.first.Firsts.{Firsts}
use Rattle.mpw_columns_keys.specs.declared.placed.Placed.{Placed}
use Rattle.mpw_columns_keys.specs.Columns.{seen_box, upright}
use Rattle.mpw_columns_keys.specs.Firsts.{AreFirstOf, AreFirsts, AreNear, HasSide, IsListed}
use Rattle.mpw_columns_keys.specs.Keys.{displaced_key, is_of_list, HasNearEdges, IsNear}
use Rattle.mpw_columns.specs.declared.layout.Layout.{Layout}
use Rattle.mpw_columns.specs.declared.first.Listing.{Listing}
use Rattle.mpw_columns.specs.Plan.{IsColumnWithin}
use Rattle.mpw_columns.specs.Laws.{DisplacedColumnsHaveDisplacedLists}
use Rattle.mpw_columns.specs.Lists.{IsColumnList}
use Rattle.mpw_columns.specs.Internal.Checked.{AreNext, IsLayout}
use Rattle.mpw_columns.specs.Internal.Firsts.{AddsFirsts, HasFirsts, HasListing, IsPlacedAt, IsSpot}
use Rattle.mpw_columns.specs.Internal.Found.{IsUpright}
use Rattle.mpw_columns.specs.Internal.Like.{IsLike}
use Rattle.mpw_columns.proofs.KeySides.{one_still, one_twice}
use Rattle.mpw_columns.proofs.DisplacedLists.{list_near}
use Rattle.mpw_columns.proofs.OneLine.{ruled}
use Rattle.mpw_columns.proofs.Zipped.{zip_append, zip_at, zip_length}

-- ---- lists, index by index

zip_both : {X Y Z : Type 0} (R : X → Y → Type 0) (S : Y → Z → Type 0) (T : X → Z → Type 0)
    → ((x : X) (y : Y) (z : Z) → R x y → S y z → T x z) → (xs : List X) (ys : List Y) (zs : List Z)
    → AllZip R xs ys → AllZip S ys zs → AllZip T xs zs
zip_both R S T f [] [] [] h k = tt
zip_both R S T f [] [] (z ∷ zs) h k = absurd k
zip_both R S T f [] (y ∷ ys) zs h k = absurd h
zip_both R S T f (x ∷ xs) [] zs h k = absurd h
zip_both R S T f (x ∷ xs) (y ∷ ys) [] h k = absurd k
zip_both R S T f (x ∷ xs) (y ∷ ys) (z ∷ zs) h k =
    (f x y z h.0 k.0, zip_both R S T f xs ys zs h.1 k.1)

zip_get : {X Y : Type 0} (R : X → Y → Type 0) (xs : List X) (ys : List Y) (i : ℕ) (x : X)
    → AllZip R xs ys → slice_get xs i ≡ Some x → (y : Y) × (slice_get ys i ≡ Some y) × R x y
zip_get {X = X} {Y = Y} R xs ys i x h e = elim (slice_get_cases ys i).1 [
  | inl p ↦ (
    p.0,
    p.2,
    subst (λ (a : X). R a p.0) (get_or_from_slice_get xs i x x e)
        (subst (R (get_or xs i x)) p.3 (zip_at R xs ys i x p.0 h within)),
  )
  | inr p ↦ absurd (let long = zip_length R xs ys h in let past = p.0 in omega (arith, within, long, past))
]
  where
    within : i < length xs
    within = slice_get_within xs i x e

pub zip_right : {X Y : Type 0} (R : X → Y → Type 0) (P : Y → Type 0) → ((x : X) (y : Y) → R x y → P y)
    → (xs : List X) (ys : List Y) → AllZip R xs ys → All P ys
zip_right R P f [] [] h k d lt = absurd (omega (arith, lt))
zip_right R P f [] (y ∷ ys) h k d lt = absurd h
zip_right R P f (x ∷ xs) [] h k d lt = absurd h
zip_right R P f (x ∷ xs) (y ∷ ys) h zero d lt = f x y h.0
zip_right R P f (x ∷ xs) (y ∷ ys) h (suc k) d lt = zip_right R P f xs ys h.1 k d (omega (arith, lt))

pub zip_take : {X Y : Type 0} (R : X → Y → Type 0) (n : ℕ) (xs : List X) (ys : List Y)
    → AllZip R xs ys → AllZip R (take n xs) (take n ys)
zip_take R zero xs ys h = tt
zip_take R (suc n) [] [] h = tt
zip_take R (suc n) [] (y ∷ ys) h = absurd h
zip_take R (suc n) (x ∷ xs) [] h = absurd h
zip_take R (suc n) (x ∷ xs) (y ∷ ys) h = (h.0, zip_take R n xs ys h.1)

pub zip_drop : {X Y : Type 0} (R : X → Y → Type 0) (n : ℕ) (xs : List X) (ys : List Y)
    → AllZip R xs ys → AllZip R (drop n xs) (drop n ys)
zip_drop R zero xs ys h = h
zip_drop R (suc n) [] [] h = tt
zip_drop R (suc n) [] (y ∷ ys) h = absurd h
zip_drop R (suc n) (x ∷ xs) [] h = absurd h
zip_drop R (suc n) (x ∷ xs) (y ∷ ys) h = zip_drop R n xs ys h.1

-- ---- the first keys of the columns that are checked

pub next_firsts : (most lists : ℕ) (each : List (List Key)) (i : ℕ) (keys : List Key)
    (old mid new : List Firsts) (f : Firsts) → i < length each → keys ≡ get_or each i keys
    → AddsFirsts most lists (take i each) old mid → new ≡ mid ++ f ∷ []
    → AreFirsts most lists keys f → AddsFirsts most lists (take (i + 1) each) old new
next_firsts most lists each i keys old mid new f within is h e are = record {
  more = h.more ++ f ∷ [];
  is = e ∙ ap (λ (fs : List Firsts). fs ++ f ∷ []) h.is ∙ append_assoc old h.more (f ∷ []);
  are = subst (λ (ks : List (List Key)). AllZip (AreFirsts most lists) ks (h.more ++ f ∷ []))
      (sym (take_more each i keys within))
      (zip_append (AreFirsts most lists) (take i each) (get_or each i keys ∷ []) h.more (f ∷ []) h.are
      (subst (λ (ks : List Key). AreFirsts most lists ks f) is are, tt));
}

pub next_batch : (s : Snapshot) (most lists : ℕ) (columns : List Column) (reached : ℕ)
    (each : List (List Key)) (old new : List Firsts) → AreNext s columns reached each
    → AllZip (HasFirsts s most lists) (take reached columns) old
    → AddsFirsts most lists each old new
    → AllZip (HasFirsts s most lists) (take (reached + length each) columns) new
next_batch s most lists columns reached each old new next h adds =
    let Has = HasFirsts s most lists in
    let more = take (length each) (drop reached columns) in
    subst (AllZip Has (take (reached + length each) columns)) (sym adds.is)
    (subst (λ (cs : List Column). AllZip Has cs (old ++ adds.more))
    (sym (take-add reached (length each) columns))
    (zip_append Has (take reached columns) more old adds.more h
    (zip_both (IsColumnList s) (AreFirsts most lists) Has
    (λ c keys f a b. record { keys = keys; list = a; are = b }) more each adds.more next.each
    adds.are)))

-- ---- displaced

twice : (a b : ℤ) (keys : List Key)
    → map (displaced_key b) (map (displaced_key a) keys) ≡ map (displaced_key (a +ℤ b)) keys
twice a b [] = refl
twice a b (k ∷ ks) =
    ap (λ (l : Key). l ∷ map (displaced_key b) (map (displaced_key a) ks)) (one_twice a b k)
    ∙ ap (λ (ls : List Key). displaced_key (a +ℤ b) k ∷ ls) (twice a b ks)

still : (keys : List Key) → map (displaced_key (pos 0)) keys ≡ keys
still [] = refl
still (k ∷ ks) = ap (λ (l : Key). l ∷ map (displaced_key (pos 0)) ks) (one_still k)
    ∙ ap (λ (ls : List Key). k ∷ ls) (still ks)

-- ---- which lists a column has

-- what is at an index of a list that is seen from there on
module _ (own rest : List Column) (n : ℕ) (c : Column) (e : drop n own ≡ c ∷ rest) where
  pub within : n < length own
  within =
      let long = length-drop n own in
      let some = ap length e in
      omega (arith, long, some)

  at : get_or own n c ≡ c
  at =
      let more = drop_more own n c within in
      ap (λ (cs : List Column). get_or cs 0 c) (sym more ∙ e)

  pub behind : drop (n + 1) own ≡ rest
  behind =
      let more = drop_more own n c within in
      ap (λ (cs : List Column). drop 1 cs) (sym more ∙ e)

  -- a column of its own takes the next of those
  pub placed_own : (s : Snapshot) (p : Placed) → p.list ≡ n → p.by ≡ pos 0 → IsSpot c.from
      → IsPlacedAt s own c p
  placed_own s p f g spot = record {
    first = c;
    at = ap (slice_get own) f ∙ slice_get-get_or own n c within ∙ ap (λ (x : Column). Some x) at;
    spot = spot;
    by = omega (arith, ints, g);
    near = record { low = omega (arith, ints, g); high = omega (arith, ints, g) };
    list = λ keys h. subst (IsColumnList s c)
        (sym (ap (λ (x : ℤ). map (displaced_key x) keys) g ∙ still keys)) h;
  }

-- one that repeats an earlier column has the lists of that
pub placed_like : DisplacedColumnsHaveDisplacedLists → (l : Layout) (own : List Column)
    (earlier c : Column) (p q : Placed) → IsLayout l → IsSpot c.from
    → IsPlacedAt l.snapshot.now own earlier p → IsLike l earlier c → q.list ≡ p.list
    → q.by ≡ (p.by +ℤ (c.from -ℤ earlier.from)) → IsPlacedAt l.snapshot.now own c q
placed_like law l own earlier c p q h spot placed like f g =
    let by = placed.by in
    let low = spot.low in
    let high = spot.high in
    let first_low = placed.spot.low in
    let first_high = placed.spot.high in record {
      first = placed.first;
      at = ap (slice_get own) f ∙ placed.at;
      spot = placed.spot;
      by = omega (arith, ints, by, g);
      near = record {
        low = omega (arith, ints, by, g, low, high, first_low, first_high);
        high = omega (arith, ints, by, g, low, high, first_low, first_high);
      };
      list = λ keys d. subst (IsColumnList l.snapshot.now c)
          (twice p.by (c.from -ℤ earlier.from) keys ∙ ap (λ (x : ℤ). map (displaced_key x) keys) (sym g))
          (law l.snapshot.now l.extent l.layers.now l.distance (c.from -ℤ earlier.from) earlier c
          (map (displaced_key p.by) keys) h.extent_is h.look.near h.look.layered like.displaced like.shown
          (placed.list keys d));
    }

pub spot_of : (extent : Box2) (c : Column) → IsUpright (upright (seen_box c.axis extent) c)
    → IsSpot c.from
spot_of extent c u =
    let low = u.left in
    let high = u.right in
    let ordered = u.ordered in
    record { low = low; high = omega (arith, ints, ordered, high) }

-- ---- the columns' lists

module _ (s : Snapshot) (most lists : ℕ) (own : List Column) (firsts : List Firsts)
    (has : AllZip (HasFirsts s most lists) own firsts) where
  one_listed : (c : Column) (p : Placed) → IsPlacedAt s own c p
      → (keys : List Key) × IsColumnList s c keys × IsListed most lists firsts p keys
  one_listed c p placed =
      let f = zip_get (HasFirsts s most lists) own firsts p.list placed.first has placed.at in (
        map (displaced_key p.by) f.2.keys,
        placed.list f.2.keys f.2.list,
        record { own = f.2.keys; f = f.0; at = f.1; are = f.2.are; displaced = refl },
      )

  pub all_listed : (columns : List Column) (placed : List Placed)
      → AllZip (IsPlacedAt s own) columns placed
      → (each : List (List Key)) × AllZip (IsColumnList s) columns each
      × AllZip (IsListed most lists firsts) placed each
  all_listed [] [] h = ([], tt, tt)
  all_listed [] (p ∷ ps) h = absurd h
  all_listed (c ∷ cs) [] h = absurd h
  all_listed (c ∷ cs) (p ∷ ps) h =
      let one = one_listed c p h.0 in
      let rest = all_listed cs ps h.1 in
      (one.0 ∷ rest.0, (one.1, rest.1), (one.2, rest.2))

-- no coordinate is out of bounds
module _ (law : TestDecidesPairSteps) (l : Layout) (h : IsLayout l) (most lists : ℕ) where
  one_near : (c : Column) (f : Firsts) → IsUpright (upright (seen_box c.axis l.extent) c)
      → HasFirsts l.snapshot.now most lists c f → AreNear f
  one_near c f u has n d lt =
      let near = list_near law l.snapshot.now l.extent l.layers.now l.distance c has.keys h.look h.short u
      has.list in
      let number : n < lists = let long = has.are.long in omega (arith, lt, long) in
      subst (All HasNearEdges) (sym (has.are.each n d number).keys)
      (All-take HasNearEdges most _ (All-filter (is_of_list n) HasNearEdges has.keys near))

  pub all_near : (own : List Column) (firsts : List Firsts)
      → All (λ c. IsUpright (upright (seen_box c.axis l.extent) c)) own
      → AllZip (HasFirsts l.snapshot.now most lists) own firsts → All AreNear firsts
  all_near own firsts u has k d lt =
      let c : Column = record { axis = V; from = pos 0; to = pos 0 } in
      let less : k < length own =
      let long = zip_length (HasFirsts l.snapshot.now most lists) own firsts has in
      omega (arith, lt, long) in
      one_near (get_or own k c) (get_or firsts k d) (u k c less)
      (zip_at (HasFirsts l.snapshot.now most lists) own firsts k c d has less)

-- ---- what they make

pub have_sides : TestDecidesPairSteps → (s : Snapshot) (columns : List Column)
    (each : List (List Key)) → AllZip (IsColumnList s) columns each → All (All HasSide) each
have_sides law s columns each h =
    zip_right (IsColumnList s) (All HasSide)
    (λ c keys list i d lt. (ruled law s (get_or keys i d)
    ((list.exact (get_or keys i d)).0 (Contains-get_or keys i d lt)).run).side) columns each h

pub same_first : (most rules : ℕ) (book first made : List Marker) (counts counted : List ℕ)
    (all summed : ℕ) → made ≡ first → counted ≡ counts → summed ≡ all
    → AreFirstOf most rules book first counts all → AreFirstOf most rules book made counted summed
same_first most rules book first made counts counted all summed e f g h =
    subst (AreFirstOf most rules book made counted) (sym g)
    (subst (λ (ns : List ℕ). AreFirstOf most rules book made ns all) (sym f)
    (subst (λ (ms : List Marker). AreFirstOf most rules book ms counts all) (sym e) h))

-- if there are no shapes
pub none_found : (s : Snapshot) (most : ℕ) (columns : List Column) (listing : Listing)
    → shown_extent s ≡ None → All (IsColumnWithin s) columns → listing.firsts.items ≡ []
    → listing.placed.items ≡ [] → HasListing s most columns listing
none_found s most [] listing e h f g = record {
  lists = [];
  each = tt;
  are = subst (λ (ps : List Placed). AllZip (IsListed most (2 * length s.deck.rules) listing.firsts.items) ps []) (sym g) tt;
  near = subst (All AreNear) (sym f) (λ k d lt. absurd (omega (arith, lt)));
  by = subst (All (λ p. IsNear p.by)) (sym g) (λ k d lt. absurd (omega (arith, lt)));
}
none_found s most (c ∷ cs) listing e h f g =
    let within = h 0 c (omega arith) in
    absurd (let clash : None ≡ Some within.extent = sym e ∙ within.extent_is in cc)
