-- What holds of checks, and of the book.
use Rattle.std.proofs.Common.{◌≡◌, ℕ, ◌<◌, ◌≤◌, List, [], length, get_or, Some, sym, subst, ap, ◌∙◌, inl, inr, arith, length-set}
use Rattle.std.specs.Prelude.{slice_get, slice_set}
use Rattle.std.proofs.Math.ListN.{length-replicate}
use Rattle.std.proofs.lemmas.Bool.{cases_eq}
use Rattle.std.proofs.lemmas.Option.{slice_get_within, same_Some}
use Rattle.mpw_tiles.proofs.Cells.{some_columns, columns_few}
use Rattle.mpw_tiles.specs.declared.listing.Rectangle.{Rectangle}
use Rattle.mpw_tiles.specs.Plan.{Tiling, tiles}
use Rattle.mpw_tiles.specs.Snapshots.{Snapshot, StandFor}
use Rattle.mpw_markers.specs.declared.marker.Marker.{Marker}
use Rattle.mpw_markers.specs.Markers.{IsFilled}
use Rattle.std.proofs.lemmas.List.{get_or_default}
use Rattle.std.proofs.lemmas.List.Elements.{All-contains}
use Rattle.mpw_job.proofs.Filled.{all_filled}
use Rattle.mpw_job.specs.Answers.{Answers}
use Rattle.mpw_job.specs.Laws.{tile_job_of, AnswerTiles, AnswersMakeTheLayout}
use Rattle.mpw_job.specs.Layout.{AreLayoutMarkers}
use Rattle.mpw_run.specs.Run.{Planned, Tile, Checks, answers_of, answered, IsPlanned, IsChecks}
use Rattle.mpw_run.specs.Step.{job_of_tile, with_tiles, raised, answered_by, new_tiles}
use Rattle.mpw_run.specs.Stitching.{stitched, AreFilled}
use Rattle.mpw_run.specs.Laws.{StitchedComputes}
use Rattle.mpw_run.proofs.TileLists.{same_tile, other_tile, raised_same, new_answered, new_open, all_answered}

-- ---- what holds of checks

-- a plan has a tile
pub some_tile : (plan : Tiling) → 1 ≤ tiles plan
some_tile plan = omega (arith, some_columns plan.grid, columns_few plan.grid)

-- setting a tile preserves it, if its answer is right and an unanswered tile is left
pub set_keeps : (run : ℕ) (c : Checks) (k : ℕ) (x y : Tile) → IsChecks run c
    → slice_get c.tiles k ≡ Some x
    → ((markers : List Marker) → y.answer ≡ Some markers
    → Answers (tile_job_of c.planned.snapshot c.planned.plan c.windows run k) markers)
    → answered (slice_set c.tiles k y) < tiles c.planned.plan
    → IsChecks run (with_tiles c (slice_set c.tiles k y))
set_keeps run c k x y h e right less = record {
  windows = h.windows;
  count = length-set c.tiles k y ∙ h.count;
  kept = λ j t m g a. elim (cases_eq j k) [
    | inl s ↦
        let own : y ≡ t = same_Some y t (sym
        (same_tile c.tiles k y (slice_get_within c.tiles k x e))
        ∙ ap (slice_get (slice_set c.tiles k y)) (sym s) ∙ g) in
        subst (λ (n : ℕ). Answers (tile_job_of c.planned.snapshot c.planned.plan c.windows run n) m)
        (sym s) (right m (ap (λ (u : Tile). u.answer) own ∙ a))
    | inr ne ↦ h.kept j t m (sym (other_tile c.tiles k j y ne) ∙ g) a
  ];
  left = less;
}

pub raise_keeps : (run : ℕ) (c : Checks) (k : ℕ) (x : Tile) → IsChecks run c
    → slice_get c.tiles k ≡ Some x → IsChecks run (with_tiles c (slice_set c.tiles k (raised x)))
raise_keeps run c k x h e =
    let l = h.left in
    set_keeps run c k x (raised x) h e (λ m a. h.kept k x m e a)
    (omega (arith, l, raised_same c.tiles k x e))

pub answer_keeps : (run : ℕ) (c : Checks) (k : ℕ) (x : Tile) (m : List Marker) → IsChecks run c
    → slice_get c.tiles k ≡ Some x → Answers (job_of_tile run c k) m
    → answered (slice_set c.tiles k (answered_by m x)) < tiles c.planned.plan
    → IsChecks run (with_tiles c (slice_set c.tiles k (answered_by m x)))
answer_keeps run c k x m h e right less =
    set_keeps run c k x (answered_by m x) h e
    (λ n a. subst (Answers (job_of_tile run c k)) (same_Some m n a) right) less

pub begins : (run : ℕ) (planned : Planned) (windows : List (List Rectangle))
    → StandFor planned.snapshot windows
    → IsChecks run (let c : Checks = record {
      planned = planned;
      windows = windows;
      tiles = new_tiles (tiles planned.plan);
    } in c)
begins run planned windows h = record {
  windows = h;
  count = length-replicate (tiles planned.plan) _;
  kept = λ k t m g a. absurd (new_open (tiles planned.plan) k t m g a);
  left = omega (arith, new_answered (tiles planned.plan), some_tile planned.plan);
}

-- ---- the book

-- the stored answers of all tiles answer them
pub answers_tiles : (run : ℕ) (planned : Planned) (windows : List (List Rectangle)) (xs : List Tile)
    → length xs ≡ tiles planned.plan → answered xs ≡ tiles planned.plan
    → ((k : ℕ) (t : Tile) (m : List Marker) → slice_get xs k ≡ Some t → t.answer ≡ Some m
    → Answers (tile_job_of planned.snapshot planned.plan windows run k) m)
    → AnswerTiles planned.snapshot planned.plan windows run (answers_of xs)
answers_tiles run planned windows xs count all right = record {
  count = all;
  answered = λ k l.
      let a = all_answered xs (all ∙ sym count) k (omega (arith, l, count)) in
      right k a.0 (get_or (answers_of xs) k []) a.1 a.2;
}

-- answers have rows, and touch submissions with ascending numbers
pub filled_lists : (s : Snapshot) (plan : Tiling) (windows : List (List Rectangle)) (run : ℕ)
    (lists : List (List Marker)) → AnswerTiles s plan windows run lists → AreFilled lists
filled_lists s plan windows run lists a m p =
    let k : ℕ = p.1.0 in
    let within : k < tiles plan = omega (arith, p.1.1, a.count) in
    let same : get_or lists k [] ≡ p.0 = get_or_default lists k [] p.0 p.1.1 ∙ p.1.2 in
    let right : Answers (tile_job_of s plan windows run k) p.0 =
    subst (Answers (tile_job_of s plan windows run k)) same (a.answered k within) in (
      All-contains IsFilled p.0 m (all_filled (tile_job_of s plan windows run k) p.0 right) p.2,
      (right.sound m p.2).met.ascending,
    )

-- the last tile's answer answers all
pub answers_all : (run : ℕ) (c : Checks) (k : ℕ) (x : Tile) (m : List Marker) → IsChecks run c
    → slice_get c.tiles k ≡ Some x → Answers (job_of_tile run c k) m
    → answered (slice_set c.tiles k (answered_by m x)) ≡ tiles c.planned.plan
    → AnswerTiles c.planned.snapshot c.planned.plan c.windows run
    (answers_of (slice_set c.tiles k (answered_by m x)))
answers_all run c k x m h e right all = answers_tiles run c.planned c.windows now
    (length-set c.tiles k (answered_by m x) ∙ h.count) all tile
  where
    now : List Tile
    now = slice_set c.tiles k (answered_by m x)

    tile : (j : ℕ) (t : Tile) (n : List Marker) → slice_get now j ≡ Some t → t.answer ≡ Some n
        → Answers (tile_job_of c.planned.snapshot c.planned.plan c.windows run j) n
    tile j t n g a = elim (cases_eq j k) [
      | inl s ↦
          let own : answered_by m x ≡ t = same_Some _ t
          (sym (same_tile c.tiles k (answered_by m x) (slice_get_within c.tiles k x e))
          ∙ ap (slice_get now) (sym s) ∙ g) in
          let same : m ≡ n = same_Some m n (ap (λ (u : Tile). u.answer) own ∙ a) in
          subst (λ (i : ℕ). Answers (tile_job_of c.planned.snapshot c.planned.plan c.windows run i) n)
          (sym s) (subst (Answers (job_of_tile run c k)) same right)
      | inr ne ↦ h.kept j t n (sym (other_tile c.tiles k j (answered_by m x) ne) ∙ g) a
    ]

-- and makes the book that of the flat layout
pub finishes : AnswersMakeTheLayout → StitchedComputes
    → (run : ℕ) (c : Checks) (k : ℕ) (x : Tile) (m : List Marker)
    → IsPlanned c.planned → IsChecks run c → slice_get c.tiles k ≡ Some x
    → Answers (job_of_tile run c k) m
    → answered (slice_set c.tiles k (answered_by m x)) ≡ tiles c.planned.plan
    → AreLayoutMarkers c.planned.snapshot
    (stitched (answers_of (slice_set c.tiles k (answered_by m x))))
finishes law computes run c k x m p h e right all =
    let a = answers_all run c k x m h e right all in
    let lists : List (List Marker) = answers_of (slice_set c.tiles k (answered_by m x)) in
    law c.planned.snapshot c.planned.plan c.windows run lists (stitched lists) p.snapshot p.plan
    h.windows a
    (computes lists (filled_lists c.planned.snapshot c.planned.plan c.windows run lists a))
