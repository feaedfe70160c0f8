-- Lists of consecutive tiles, and the lists of all tiles.
use Rattle.std.proofs.Common.{◌≡◌, ◌∙◌, ◌+◌, ◌-◌, inl, inr, ap, sym, subst, length, ℕ, zero, suc, ◌<◌, [], ◌∷◌, ◌++◌, List, Option, Some, None, arith, refl, rules, get_or, length-append}
use Rattle.std.specs.Prelude.{Contains, Result, Ok, Err, IfOk}
use Rattle.std.proofs.lemmas.Bool.{cases_lt}
use Rattle.std.proofs.lemmas.List.{get_or_append_left, get_or-append_right}
use Rattle.mpw_job.specs.Answers.{Answers}
use Rattle.mpw_job.specs.Laws.{AnswersMakeTheLayout, NoShapesNoMarkers}
use Rattle.mpw_job.specs.Layout.{AreLayoutMarkers}
use Rattle.mpw_markers.specs.Book.{IsBook}
use Rattle.mpw_markers.specs.Laws.{ListsDetermineTheBook}
use Rattle.mpw_markers.specs.Stitched.{IsStitched}
use Rattle.mpw_markers.specs.declared.marker.Marker.{Marker}
use Rattle.mpw_tiles.specs.declared.listing.Rectangle.{Rectangle}
use Rattle.mpw_tiles.specs.Listing.{IsWindow}
use Rattle.mpw_tiles.specs.Plan.{Tiling, tiles, tile_window}
use Rattle.mpw_tiles.specs.Shown.{IsShown}
use Rattle.mpw_tiles.specs.Snapshots.{Snapshot, IsSnapshot, shown, shown_extent, plan_for, AreWindowsFor, StandFor}
use Rattle.mpw_check.specs.Lists.{only_run, tile_job_with, IsOfTile, AreOfTiles, tile_count, TilesFollowOn, TilesMakeTheLayout}
use Rattle.mpw_check.proofs.TileLemmas.{count-planned, count-unplanned}

-- ---- consecutive lists

pub no_lists : (s : Snapshot) (first : ℕ) → AreOfTiles s first first []
no_lists s first = record { count = omega arith; own = λ k less. absurd (omega (arith, less)) }

pub follow_on : TilesFollowOn
follow_on s first mid end lists more front back = record { count = counted; own = own }
  where
    long : length (lists ++ more) ≡ length lists + length more
    long = length-append lists more

    counted : first + length (lists ++ more) ≡ end
    counted =
        let front_count = front.count in
        let back_count = back.count in
        omega (arith, long, front_count, back_count)

    own : (k : ℕ) → k < length (lists ++ more)
        → IsOfTile s (first + k) (get_or (lists ++ more) k [])
    own k less = elim (cases_lt k (length lists)) [
      | inl inside ↦ subst (IsOfTile s (first + k))
          (sym (get_or_append_left lists more [] k inside)) (front.own k inside)
      | inr past ↦
          let front_count = front.count in
          let place : mid + (k - length lists) ≡ first + k = omega (arith, past, front_count) in
          subst (IsOfTile s (first + k))
          (sym (get_or-append_right lists more (length lists) k [] refl past))
          (subst (λ n. IsOfTile s n (get_or more (k - length lists) [])) place
          (back.own (k - length lists) (omega (arith, less, long, past))))
    ]

-- ---- a window for each tile

-- What holds for the head at 0 and for the tail after it holds at each index.
at_each : {W : Type 0} (P : ℕ → W → Type 0) (d w : W) (ws : List W) (n : ℕ) → P 0 w
    → ((k : ℕ) → k < n → P (suc k) (get_or ws k d))
    → (k : ℕ) → k < suc n → P k (get_or (w ∷ ws) k d)
at_each P d w ws n head rest zero less = head
at_each P d w ws n head rest (suc k) less = rest k (omega (arith, less))

record Chosen {W : Type 0} (P : ℕ → W → Type 0) (d : W) (n : ℕ) : Type 0 where
  items : List W
  count : length items ≡ n
  each : (k : ℕ) → k < n → P k (get_or items k d)

-- If there is something for each index, there is a list with something for each.
choose : {W : Type 0} (P : ℕ → W → Type 0) (d : W) (n : ℕ)
    → ((k : ℕ) → k < n → (w : W) × P k w) → Chosen P d n
choose P d zero some =
    record { items = []; count = refl; each = λ k less. absurd (omega (arith, less)) }
choose P d (suc n) some =
    let rest = choose (λ k w. P (suc k) w) d n (λ k less. some (suc k) (omega (arith, less))) in
    let head = some 0 (omega arith) in
    record {
      items = head.0 ∷ rest.items;
      count = ap suc rest.count;
      each = at_each P d head.0 rest.items n head.1 rest.each;
    }

-- ---- the lists of all tiles

abbrev Serves : Snapshot → Tiling → List (List Marker) → ℕ → List Rectangle → Type 0
Serves s plan lists tile window = IsWindow (IsShown (shown s)) (tile_window plan tile) window
    × Answers (tile_job_with s plan window tile) (get_or lists tile [])

-- A tile's list has a window of the snapshot's plan.
served : (s : Snapshot) (plan : Tiling) (lists : List (List Marker)) (tile : ℕ)
    → plan_for s ≡ Some plan → IsOfTile s tile (get_or lists tile [])
    → (window : List Rectangle) × Serves s plan lists tile window
served s plan lists tile planned own =
    let e : Some own.plan ≡ Some plan = sym own.planned ∙ planned in
    let same : own.plan ≡ plan = cc in
    subst (λ p. (window : List Rectangle) × Serves s p lists tile window) same
    (own.window, (own.shows, own.answered))

serves_at : (s : Snapshot) (plan : Tiling) (lists : List (List Marker)) (total tile : ℕ)
    → plan_for s ≡ Some plan → AreOfTiles s 0 total lists → total ≡ tiles plan → tile < tiles plan
    → (window : List Rectangle) × Serves s plan lists tile window
serves_at s plan lists total tile planned of is less =
    let count = of.count in
    let at : 0 + tile ≡ tile = omega arith in
    served s plan lists tile planned (subst (λ t. IsOfTile s t (get_or lists tile [])) at
    (of.own tile (omega (arith, less, count, is))))

planned_layout : AnswersMakeTheLayout → (s : Snapshot) (plan : Tiling) (total : ℕ)
    (lists : List (List Marker)) (book : List Marker) → IsSnapshot s → plan_for s ≡ Some plan
    → total ≡ tiles plan → AreOfTiles s 0 total lists → IsStitched lists book
    → AreLayoutMarkers s book
planned_layout law s plan total lists book sound planned is of stitched =
    let chosen = choose (Serves s plan lists) [] (tiles plan)
    (λ tile less. serves_at s plan lists total tile planned of is less) in
    let stand : StandFor s chosen.items =
    subst (λ p. AreWindowsFor p (shown s) chosen.items) (sym planned)
    (record { count = chosen.count; each = λ tile less. (chosen.each tile less).0 }) in
    let count = of.count in
    law s plan chosen.items only_run lists book sound planned stand (record {
      count = omega (arith, count, is);
      answered = λ tile less. (chosen.each tile less).1;
    }) stitched

-- ---- without shapes

nothing_in : {X : Type 0} (x : X) → Contains [] x → ⊥
nothing_in x c = omega (arith, c.1)

empty_book : IsBook []
empty_book = record {
  filled = λ k d less. absurd (omega (arith, less));
  ordered = search rules;
  ascending = λ k d less. absurd (omega (arith, less));
}

stitched_nothing : IsStitched [] []
stitched_nothing = record {
  markers = empty_book;
  rows = λ line j. (λ p. absurd (nothing_in p.0 p.1), λ p. absurd (nothing_in p.1.0 p.1.1));
  met = λ n origin c. absurd (nothing_in n c);
}

no_items : {X : Type 0} (xs : List X) → length xs ≡ 0 → xs ≡ []
no_items [] e = refl
no_items (x ∷ xs) e = absurd (omega (arith, e))

pub make_the_layout : AnswersMakeTheLayout → ListsDetermineTheBook → NoShapesNoMarkers
    → TilesMakeTheLayout
make_the_layout answers determine without s total lists book sound counted of stitched =
    by_plan (plan_for s) refl
  where
    unplanned : plan_for s ≡ None → AreLayoutMarkers s book
    unplanned none =
        let no_tiles = count-unplanned s.deck (shown_extent s) total none counted in
        let count = of.count in
        let zero_total = no_tiles.1 in
        let empty : lists ≡ [] = no_items lists (omega (arith, count, zero_total)) in
        let same : [] ≡ book = determine [] [] book stitched_nothing
        (subst (λ ls. IsStitched ls book) empty stitched) in
        subst (AreLayoutMarkers s) same (without s no_tiles.0)

    by_plan : (own : Option Tiling) → plan_for s ≡ own → AreLayoutMarkers s book
    by_plan None e = unplanned e
    by_plan (Some plan) e =
        planned_layout answers s plan total lists book sound e
        (count-planned s.deck (shown_extent s) plan total e counted) of stitched

-- The book stitched from the lists of all tiles has the layout's markers.
pub of_stitched : TilesMakeTheLayout → {E : Type 0} (s : Snapshot) (total : ℕ)
    (lists : List (List Marker)) (stitched : Result (List Marker) E) → IsSnapshot s
    → tile_count s ≡ Some total → AreOfTiles s 0 total lists
    → IfOk stitched (λ book. IsStitched lists book) → IfOk stitched (AreLayoutMarkers s)
of_stitched law s total lists (Ok book) sound counted of stitched =
    law s total lists book sound counted of stitched
of_stitched law s total lists (Err e) sound counted of stitched = tt
