-- The answers of tiles' jobs have a list for each tile, and each is the tile's.
use Rattle.std.proofs.Common.{◌≡◌, ◌∙◌, ◌+◌, ◌-◌, ap, sym, subst, map, length, ℕ, ◌<◌, ◌≤◌, [], List, Option, Some, None, arith, refl, inl, inr, get_or}
use Rattle.std.specs.Prelude.{All, option_map}
use Rattle.std.specs.List.{slice_index_or}
use Rattle.std.proofs.lemmas.List.{length-map, get_or-map}
use Rattle.std.proofs.lemmas.List.Elements.{All-get_or}
use Rattle.std.proofs.lemmas.List.FromFn.{get_or-map-range_with_len, length-map-range_with_len}
use Rattle.std.proofs.lemmas.Option.{slice_get_cases}
use Rattle.mpw_geom.specs.declared.plane.Box2.{Box2}
use Rattle.mpw_deck.specs.Decks.{Deck}
use Rattle.mpw_job.specs.Answers.{TileJob, Answers}
use Rattle.mpw_job.specs.Carried.{job_of}
use Rattle.mpw_job.specs.Laws.{tile_job_of}
use Rattle.mpw_job.specs.declared.answer.Answer.{Answer}
use Rattle.mpw_job.specs.declared.answer.Answer.TheVariants as answers
use Rattle.mpw_job.specs.declared.job.Job.TheVariants as jobs
use Rattle.mpw_markers.specs.declared.marker.Marker.{Marker}
use Rattle.mpw_tiles.specs.declared.listing.Rectangle.{Rectangle}
use Rattle.mpw_tiles.specs.Listing.{IsWindow, AreWindowsOf}
use Rattle.mpw_tiles.specs.Plan.{Tiling, tiles, tile_window}
use Rattle.mpw_tiles.specs.Shown.{IsShown}
use Rattle.mpw_tiles.specs.Snapshots.{Snapshot, shown, shown_extent, plan_over, plan_for, AreWindowsFor, StandFor}
use Rattle.mpw_check.specs.Lists.{only_run, IsOfTile, AreOfTiles, AreTiles, count_over, tile_count}
use Rattle.mpw_check.specs.Internal.Tiled.{IsCut, job_at, jobs_of, markers_in, IsAnswered}

-- An answer of a tile's job has markers that answer that job.
answered-job : (x : Answer) (tile_job : TileJob) → job_of x ≡ jobs.Tile tile_job → IsAnswered x
    → Answers tile_job (markers_in x)
answered-job (answers.Cut a) tile_job e answered = absurd cc
answered-job (answers.Tile a) tile_job e answered =
    let same : a.job ≡ tile_job = cc in rw (← same) answered

-- There are as many answers as tiles.
as-many : (s : Snapshot) (plan : Tiling) (windows : List (List Rectangle)) (first end : ℕ)
    (xs : List Answer) → map job_of xs ≡ jobs_of s plan windows first end → length xs ≡ end - first
as-many s plan windows first end xs e = sym (length-map xs job_of) ∙ ap length e
    ∙ length-map-range_with_len (job_at s plan windows) first (end - first)

-- The answer at an index.
answered-at : (s : Snapshot) (plan : Tiling) (windows : List (List Rectangle)) (first end : ℕ)
    (xs : List Answer) (k : ℕ) (x : Answer) → map job_of xs ≡ jobs_of s plan windows first end
    → All IsAnswered xs → k < length xs → k < end - first → get_or xs k x ≡ x
    → Answers (tile_job_of s plan windows only_run (first + k)) (get_or (map markers_in xs) k [])
answered-at s plan windows first end xs k x e all within small at =
    let job : job_of x ≡ job_at s plan windows (first + k) =
    ap job_of (sym at) ∙ sym (get_or-map job_of xs k x (job_of x) within)
    ∙ ap (λ js. get_or js k (job_of x)) e ∙ get_or-map-range_with_len (job_at s plan windows)
    first (end - first) k (first + k) (job_of x) small refl in
    let answered : IsAnswered x = subst IsAnswered at
    (All-get_or IsAnswered xs k x within all) in
    rw (get_or-map markers_in xs k x [] within, at)
    (answered-job x (tile_job_of s plan windows only_run (first + k)) job answered)

-- The window of a tile represents it.
shows-tile : (s : Snapshot) (plan : Tiling) (windows : List (List Rectangle)) (tile : ℕ)
    → plan_for s ≡ Some plan → StandFor s windows → tile < tiles plan
    → IsWindow (IsShown (shown s)) (tile_window plan tile) (slice_index_or windows tile [])
shows-tile s plan windows tile planned stand small =
    let show : AreWindowsOf plan (IsShown (shown s)) windows =
    subst (λ p. AreWindowsFor p (shown s) windows) planned stand in
    show.each tile small

pub of_tiles : (s : Snapshot) (plan : Tiling) (windows : List (List Rectangle)) (first end : ℕ)
    (xs : List Answer) (lists : List (List Marker)) → IsCut s plan windows
    → first ≤ end → end ≤ tiles plan → map job_of xs ≡ jobs_of s plan windows first end
    → All IsAnswered xs → lists ≡ map markers_in xs → AreOfTiles s first end lists
of_tiles s plan windows first end xs lists is_cut ordered within e all is =
    rw is (record { count = counted; own = own })
  where
    many : length xs ≡ end - first
    many = as-many s plan windows first end xs e

    counted : first + length (map markers_in xs) ≡ end
    counted = let mapped = length-map xs markers_in in omega (arith, mapped, many, ordered)

    answered : (k : ℕ) → k < end - first
        → Answers (tile_job_of s plan windows only_run (first + k)) (get_or (map markers_in xs) k [])
    answered k small = elim (slice_get_cases xs k).1 [
      | inl found ↦ answered-at s plan windows first end xs k found.0 e all found.1 small found.3
      | inr past ↦ absurd (let over = past.0 in omega (arith, over, small, many))
    ]

    own : (k : ℕ) → k < length (map markers_in xs)
        → IsOfTile s (first + k) (get_or (map markers_in xs) k [])
    own k less =
        let mapped = length-map xs markers_in in
        let small : k < end - first = omega (arith, less, mapped, many) in
        let tile : first + k < tiles plan = omega (arith, small, within) in
        record {
          plan = plan;
          planned = is_cut.planned;
          within = tile;
          window = slice_index_or windows (first + k) [];
          shows = shows-tile s plan windows (first + k) is_cut.planned is_cut.stand tile;
          answered = answered k small;
        }

-- ---- how many tiles there are

-- With a plan, the tiles are its tiles.
pub count-planned : (deck : Deck) (extent : Option Box2) (plan : Tiling) (total : ℕ)
    → plan_over deck extent ≡ Some plan
    → count_over extent (plan_over deck extent) ≡ Some total → total ≡ tiles plan
count-planned deck None plan total e counted = absurd cc
count-planned deck (Some extent) plan total e counted =
    let same : option_map tiles (Some plan) ≡ Some total =
    subst (λ p. option_map tiles p ≡ Some total) e counted in cc

-- Without one, but with a number, there are no shapes, and no tiles.
pub count-unplanned : (deck : Deck) (extent : Option Box2) (total : ℕ)
    → plan_over deck extent ≡ None
    → count_over extent (plan_over deck extent) ≡ Some total → (extent ≡ None) × (total ≡ 0)
count-unplanned deck None total e counted = (refl, cc)
count-unplanned deck (Some extent) total e counted = absurd (
    let same : option_map tiles None ≡ Some total =
    subst (λ p. option_map tiles p ≡ Some total) e counted in cc
    )

-- Tiles that exist are tiles of the plan.
pub within_plan : (s : Snapshot) (first end : ℕ) (plan : Tiling) → AreTiles s first end
    → plan_for s ≡ Some plan → (first ≤ end) × (end ≤ tiles plan)
within_plan s first end plan there planned =
    let total = count-planned s.deck (shown_extent s) plan there.total planned there.counted in
    (there.ordered, let within = there.within in omega (arith, within, total))

-- Without a plan there are none.
pub none_there : (s : Snapshot) (first end : ℕ) (lists : List (List Marker))
    → AreTiles s first end → plan_for s ≡ None → lists ≡ [] → AreOfTiles s first end lists
none_there s first end lists there unplanned none =
    let total = (count-unplanned s.deck (shown_extent s) there.total unplanned there.counted).1 in
    let ordered = there.ordered in
    let within = there.within in
    rw none (record {
      count = omega (arith, total, ordered, within);
      own = λ k less. absurd (omega (arith, less));
    })

-- All tiles exist.
pub all_there : (s : Snapshot) (total : ℕ) → tile_count s ≡ Some total → AreTiles s 0 total
all_there s total counted =
    record { ordered = omega arith; total = total; counted = counted; within = omega arith }
