-- Columns of blocks that repeat each other.
use Rattle.std.proofs.Common.{◌≡◌, ◌∙◌, ℕ, ◌+◌, ◌<◌, ◌≤◌, ℤ, ◌-ℤ◌, List, [], ◌∷◌, ◌++◌, length, get_or, zero, suc, Option, Some, None, Ok, Err, IfSome, OnOk, inl, inr, sym, subst, ap, arith, append_assoc}
use Rattle.std.specs.Prelude.{All}
use Rattle.std.specs.declared.result.Result.{Result}
use Rattle.std.proofs.lemmas.Int.{ints}
use Rattle.std.proofs.lemmas.Bool.{cases_lt}
use Rattle.std.proofs.lemmas.List.{append-nil, length-append, get_or_append_left, get_or_default, get_or_push}
use Rattle.mpw_geom.specs.declared.plane.Box2.{Box2}
use Rattle.mpw_edges.specs.declared.run.Axis.{Axis}
use Rattle.mpw_tiles.specs.Snapshots.{shown}
use Rattle.mpw_job.specs.Computed.{shown_on}
use Rattle.mpw_columns_keys.specs.declared.column.Column.{Column}
use Rattle.mpw_columns_keys.specs.Columns.{seen_box, upright, across}
use Rattle.mpw_columns.specs.declared.layout.Layout.{Layout}
use Rattle.mpw_columns.specs.Seen.{seen_on}
use Rattle.mpw_columns.specs.Displaced.{IsDisplaced, ShowsDisplaced, AreDisplacedOn}
use Rattle.mpw_job.specs.Answers.{listed_on}
use Rattle.mpw_tiles.specs.declared.listing.Rectangle.{Rectangle}
use Rattle.mpw_columns.specs.Internal.Blocks.{IsPart, IsCounterpart, AreCounterparts}
use Rattle.mpw_columns.specs.Internal.Checked.{AgreeInColumn}
use Rattle.mpw_columns.specs.Internal.Found.{AgreeIn, AgreeAll}
use Rattle.mpw_columns.specs.declared.earlier.Earlier.{Earlier}
use Rattle.mpw_columns.specs.Internal.Like.{IsLike, IsLikeAt, AreAlike, AreFirstLikes, IsKept, IsTold, places_from}

-- ---- a column of a block

pub part_alike : (l : Layout) (whole other c e : Column) → IsLike l whole other
    → IsCounterpart whole (other.from -ℤ whole.from) c e → IsLike l c e
part_alike l whole other c e h k =
    let s = l.snapshot.now in
    let n = l.distance + 1 in
    let by = other.from -ℤ whole.from in
    let on = shown_on (shown s) in
    let from = k.displaced.from in
    let same : (e.from -ℤ c.from) ≡ by = omega (arith, ints, from) in
    let wide : AreDisplacedOn l.layers.now (across (upright (seen_box c.axis l.extent) whole) n) by
    (seen_on c.axis on) (seen_on c.axis on) =
    subst (λ (a : Axis). AreDisplacedOn l.layers.now (across (upright (seen_box a l.extent) whole) n) by
    (seen_on a on) (seen_on a on)) (sym k.part.axis) h.shown in
    let low = k.part.from in
    let high = k.part.to in
    let narrow : ShowsDisplaced s l.extent l.layers.now l.distance by c =
    λ layer has i j left right bottom top.
    wide layer has i j (omega (arith, ints, left, low)) (omega (arith, ints, right, high)) bottom top in
    record {
      displaced = subst (λ (d : ℤ). IsDisplaced d c e) (sym same) k.displaced;
      shown = subst (λ (d : ℤ). ShowsDisplaced s l.extent l.layers.now l.distance d c) (sym same) narrow;
    }

pub counterparts_more : (columns : List Column) (whole : Column) (by : ℤ) (from place k count : ℕ) (d : Column)
    → from + count ≤ place → place + count ≤ length columns → k < count
    → AreCounterparts columns whole by from place k
    → IsCounterpart whole by (get_or columns (from + k) d) (get_or columns (place + k) d)
    → AreCounterparts columns whole by from place (k + 1)
counterparts_more columns whole by from place k count d before within lt h one = λ i c less.
    elim (cases_lt i k) [
      | inl below ↦ h i c below
      | inr more ↦
          let same : k ≡ i = omega (arith, more, less) in
          subst (λ (n : ℕ). IsCounterpart whole by (get_or columns (from + n) c) (get_or columns (place + n) c)) same
          (subst (λ (x : Column). IsCounterpart whole by x (get_or columns (place + k) c))
          (get_or_default columns (from + k) d c (omega (arith, before, within, lt)))
          (subst (λ (x : Column). IsCounterpart whole by (get_or columns (from + k) d) x)
          (get_or_default columns (place + k) d c (omega (arith, within, lt))) one))
    ]

pub all_alike : (l : Layout) (columns : List Column) (whole other : Column) (from place count : ℕ)
    → from + count ≤ place → IsLike l whole other
    → AreCounterparts columns whole (other.from -ℤ whole.from) from place count
    → AreAlike l columns from place count
all_alike l columns whole other from place count before h each = record {
  before = before;
  each = λ k c lt. part_alike l whole other _ _ h (each k c lt);
}

-- ---- what is decided about columns

-- one more
pub told_more : (l : Layout) (columns : List Column) (n : ℕ) (old new : List (Option ℕ)) (o : Option ℕ)
    → AreFirstLikes l columns n old → IsLikeAt l columns n o → new ≡ old ++ o ∷ []
    → AreFirstLikes l columns (n + 1) new
told_more l columns n old new o h one e =
    subst (AreFirstLikes l columns (n + 1)) (sym e) (record {
      long = length-append old (o ∷ []) ∙ ap (λ (k : ℕ). k + 1) h.long;
      each = each;
    })
  where
    each : (place : ℕ) (p : Option ℕ) → place < n + 1
        → IsLikeAt l columns place (get_or (old ++ o ∷ []) place p)
    each place p lt = elim (cases_lt place n) [
      | inl less ↦
          let long = h.long in
          subst (IsLikeAt l columns place)
          (sym (get_or_append_left old (o ∷ []) p place (omega (arith, less, long)))) (h.each place p less)
      | inr more ↦
          let same : n ≡ place = omega (arith, more, lt) in
          subst (IsLikeAt l columns place) (sym (get_or_push old o p place (h.long ∙ same)))
          (subst (λ (k : ℕ). IsLikeAt l columns k o) same one)
    ]

-- as many as an earlier block has
pub places_more : (old now new : List (Option ℕ)) (from k : ℕ) → now ≡ old ++ places_from from k
    → new ≡ now ++ Some (from + k) ∷ [] → new ≡ old ++ places_from from (k + 1)
places_more old now new from k h e =
    let one : suc k ≡ k + 1 = omega arith in
    e ∙ ap (λ (o : List (Option ℕ)). o ++ Some (from + k) ∷ []) h
    ∙ append_assoc old (places_from from k) (Some (from + k) ∷ [])
    ∙ ap (λ (n : ℕ). old ++ places_from from n) one

told_places : (l : Layout) (columns : List Column) (from n all : ℕ) (old : List (Option ℕ))
    → AreFirstLikes l columns n old → AreAlike l columns from n all → (count : ℕ) → count ≤ all
    → AreFirstLikes l columns (n + count) (old ++ places_from from count)
told_places l columns from n all old h alike zero le =
    let none : n ≡ n + 0 = omega arith in
    subst (λ (k : ℕ). AreFirstLikes l columns k (old ++ [])) none
    (subst (AreFirstLikes l columns n) (sym (append-nil old)) h)
told_places l columns from n all old h alike (suc count) le =
    let before = alike.before in
    let so : AreFirstLikes l columns (n + count) (old ++ places_from from count) =
    told_places l columns from n all old h alike count (omega (arith, le)) in
    let one : IsLikeAt l columns (n + count) (Some (from + count)) =
    (omega (arith, before, le), λ c. alike.each count c (omega (arith, le))) in
    let more : AreFirstLikes l columns (n + count + 1) (old ++ places_from from (suc count)) =
    told_more l columns (n + count) (old ++ places_from from count) (old ++ places_from from (suc count))
    (Some (from + count)) so one
    (sym (append_assoc old (places_from from count) (Some (from + count) ∷ []))) in
    let long : n + count + 1 ≡ n + suc count = omega arith in
    subst (λ (k : ℕ). AreFirstLikes l columns k (old ++ places_from from (suc count))) long more

pub told_alike : (l : Layout) (columns : List Column) (from n count : ℕ) (old new : List (Option ℕ))
    → AreFirstLikes l columns n old → AreAlike l columns from n count
    → new ≡ old ++ places_from from count → AreFirstLikes l columns (n + count) new
told_alike l columns from n count old new h alike e =
    subst (AreFirstLikes l columns (n + count)) (sym e)
    (told_places l columns from n count old h alike count (omega arith))

-- that of one column
one_alike : (l : Layout) (columns : List Column) (n : ℕ) (o : Option ℕ)
    → IfSome o (λ earlier. AreAlike l columns earlier n 1) → IsLikeAt l columns n o
one_alike l columns n None h = tt
one_alike l columns n (Some earlier) h =
    let before = h.before in
    let from : earlier + 0 ≡ earlier = omega arith in
    let place : n + 0 ≡ n = omega arith in (
      omega (arith, before),
      λ c. subst (λ (k : ℕ). IsLike l (get_or columns earlier c) (get_or columns k c)) place
          (subst (λ (k : ℕ). IsLike l (get_or columns k c) (get_or columns (n + 0) c)) from
          (h.each 0 c (omega arith))),
    )

pub told_one : (l : Layout) (columns : List Column) (start k : ℕ) (old now new : List (Option ℕ)) (o : Option ℕ)
    → AreFirstLikes l columns (start + k) old → now ≡ old
    → IfSome o (λ earlier. AreAlike l columns earlier (length old) 1) → new ≡ now ++ o ∷ []
    → AreFirstLikes l columns (start + (k + 1)) new
told_one l columns start k old now new o h same like e =
    let long : start + k + 1 ≡ start + (k + 1) = omega arith in
    subst (λ (n : ℕ). AreFirstLikes l columns n new) long
    (told_more l columns (start + k) old new o h
    (one_alike l columns (start + k) o
    (subst (λ (n : ℕ). IfSome o (λ earlier. AreAlike l columns earlier n 1)) h.long like))
    (e ∙ ap (λ (p : List (Option ℕ)). p ++ o ∷ []) same))

-- what is decided about a block
pub told_block : {A B : Type 0} (r : Result A B) (l : Layout) (columns : List Column) (from count : ℕ)
    (old mid new : Earlier) → IsTold l columns (length old.likes.items) old
    → AreAlike l columns from (length old.likes.items) count → mid.likes.items ≡ old.likes.items
    → All (IsKept l) mid.kept.items
    → OnOk r (new.likes.items ≡ mid.likes.items ++ places_from from count)
    → OnOk r (new.kept.items ≡ mid.kept.items)
    → OnOk r (IsTold l columns (length old.likes.items + count) new)
told_block (Err e) l columns from count old mid new told alike same kept likes is = tt
told_block (Ok v) l columns from count old mid new told alike same kept likes is = record {
  told = told_alike l columns from (length old.likes.items) count old.likes.items new.likes.items told.told alike
      (likes ∙ ap (λ (p : List (Option ℕ)). p ++ places_from from count) same);
  kept = subst (All (IsKept l)) (sym is) kept;
}

-- ---- rectangles that are shared

-- in the window of a column that lies within another one
pub agree_within : (l : Layout) (c whole : Column) (all parts : List Rectangle) (window : Box2) → IsPart c whole
    → AgreeInColumn l whole all → window ≡ across (upright (seen_box c.axis l.extent) c) (l.distance + 1)
    → AgreeAll window (listed_on all) (listed_on parts) → AgreeInColumn l c parts
agree_within l c whole all parts window part h w agree layer has i j left right bottom top =
    let n = l.distance + 1 in
    let on = shown_on (shown l.snapshot.now) in
    let wide : AgreeIn l.layers.now (across (upright (seen_box c.axis l.extent) whole) n) (seen_on c.axis on) (listed_on all) =
    subst (λ (a : Axis). AgreeIn l.layers.now (across (upright (seen_box a l.extent) whole) n) (seen_on a on) (listed_on all))
    (sym part.axis) h in
    let low = part.from in
    let high = part.to in
    wide layer has i j (omega (arith, ints, left, low)) (omega (arith, ints, right, high)) bottom top
    ∙ subst (λ (b : Box2). AgreeAll b (listed_on all) (listed_on parts)) w agree layer i j left right bottom top
