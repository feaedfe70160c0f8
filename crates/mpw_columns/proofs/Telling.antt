-- What the markers of a layout of one submission touch, and which runs the keys of a column are.
use Rattle.std.proofs.Common.{◌≡◌, ℕ, ◌<◌, true, List, [], ◌∷◌, length, map, inl, inr, refl, sym, subst, ap, ◌∙◌, arith}
use Rattle.std.specs.Prelude.{Contains, All, Some, ◌↔◌}
use Rattle.std.specs.Ordering.{eq_by_cmp}
use Rattle.std.proofs.lemmas.Int.{ints}
use Rattle.std.proofs.lemmas.List.{length-map, get_or-map}
use Rattle.std.proofs.lemmas.List.Elements.{All-contains, Contains-append_right, Contains-append_cases, Contains-push_cases}
use Rattle.mpw_geom.specs.declared.plane.Box2.{Box2}
use Rattle.mpw_edges.specs.Computed.{TestDecidesPairSteps}
use Rattle.mpw_hier.specs.Items.{Item}
use Rattle.mpw_tiles.specs.Snapshots.{Snapshot, shown, shown_extent}
use Rattle.mpw_markers.specs.declared.marker.Key.{Key}
use Rattle.mpw_edges.specs.Pieces.{box_of}
use Rattle.mpw_markers.specs.Markers.{line_of_key}
use Rattle.mpw_markers.specs.Met.{IsAscending}
use Rattle.mpw_geom.specs.Meeting.{IsMet}
use Rattle.mpw_job.specs.Computed.{steps_of, shown_on}
use Rattle.mpw_job.specs.Layers.{first_squares, second_squares}
use Rattle.mpw_tiles.specs.Shown.{HasShown}
use Rattle.mpw_job.proofs.Edges.{some_met, TellsSeen}
use Rattle.mpw_job.proofs.Shapes.{tests_tell}
use Rattle.mpw_job.proofs.Tests.{rule_of, step_on}
use Rattle.mpw_columns_keys.specs.declared.column.Column.{Column}
use Rattle.mpw_columns_keys.specs.Columns.{seen_box, upright}
use Rattle.mpw_columns_keys.specs.Keys.{key_cmp, of_first}
use Rattle.mpw_markers.proofs.Marked.{same_key}
use Rattle.mpw_columns_keys.proofs.SameKey.{same_line}
use Rattle.mpw_columns.specs.Seen.{seen_on}
use Rattle.mpw_columns.specs.Laws.{ColumnsHaveWholeRuns}
use Rattle.mpw_columns.specs.Runs.{IsRunOf, IsRunWithin}
use Rattle.mpw_columns.specs.Lists.{MeetsShown}
use Rattle.mpw_columns.specs.Found.{IsFound}
use Rattle.mpw_columns.proofs.OneLine.{same_end, ruled, is_tied}
use Rattle.mpw_columns.proofs.SeenSteps.{found_maximal, maximal_found}

-- ---- mapped lists

pub of_map : {X Y : Type 0} (f : X → Y) (xs : List X) (y : Y) → Contains (map f xs) y
    → (x : X) × Contains xs x × (f x ≡ y)
of_map f [] y c = absurd (omega (arith, c.1))
of_map f (x ∷ xs) y c = elim (Contains-append_cases (f x ∷ []) (map f xs) y c) [
  | inl h ↦ elim (Contains-push_cases [] (f x) y h) [
    | inl n ↦ absurd (omega (arith, n.1))
    | inr e ↦ (x, (0, omega arith, refl), e)
  ]
  | inr h ↦ let p = of_map f xs y h in (p.0, Contains-append_right (x ∷ []) xs p.0 p.1, p.2)
]

pub to_map : {X Y : Type 0} (f : X → Y) (xs : List X) (x : X) → Contains xs x
    → Contains (map f xs) (f x)
to_map f xs x c =
    let same : length (map f xs) ≡ length xs = length-map xs f in
    let lt = c.1 in
    (c.0, omega arith, get_or-map f xs c.0 x (f x) c.1 ∙ ap f c.2)

-- ---- what is touched

shown_seen : (items : List Item) → TellsSeen (shown_on items) (HasShown items)
shown_seen items layer i j e =
    let p = (tests_tell items layer).shown i j e in (p.0, (layer, p.1))

-- all shapes are of the first submission
abbrev pub AreOfFirst : List Item → Type 0
AreOfFirst items = All (λ (i : Item). i.origin ≡ 0) items

pub all_of_first : (items : List Item) (count : ℕ) → All (λ (i : Item). i.origin < count) items
    → count ≡ 1 → AreOfFirst items
all_of_first items count h e k d lt = let less = h k d lt in omega (arith, less, e)

met_first : (items : List Item) (b : Box2) (origin : ℕ) → AreOfFirst items
    → IsMet (HasShown items) b origin → origin ≡ 0
met_first items b origin h m =
    let shape = m.1.1 in
    sym shape.2.of_origin
    ∙ All-contains (λ (i : Item). i.origin ≡ 0) items shape.0 h shape.1

one_origin : (items : List Item) (b : Box2) (some origin : ℕ) → AreOfFirst items
    → IsMet (HasShown items) b some → Contains (0 ∷ []) origin
    ↔ IsMet (HasShown items) b origin
one_origin items b some origin h m = (
  λ c. elim (Contains-push_cases [] 0 origin c) [
    | inl none ↦ absurd (omega (arith, none.1))
    | inr e ↦ subst (IsMet (HasShown items) b) (met_first items b some h m ∙ e) m
  ],
  λ n. subst (Contains (0 ∷ [])) (sym (met_first items b origin h n)) (0, omega arith, refl),
)

ascending_one : IsAscending (0 ∷ [])
ascending_one i j d lt within = absurd (omega arith)

-- the markers of runs, each of which touches the first submission alone, touch what their boxes touch
pub meets_first : TestDecidesPairSteps → (s : Snapshot) (k : Key) → AreOfFirst (shown s)
    → IsRunOf s k → MeetsShown s (of_first k)
meets_first law s k first run =
    let on = shown_on (shown s) in
    let r = rule_of s.deck.rules on (line_of_key k) k.piece.y0
    (run.rows k.piece.y0 (omega (arith, ints)) run.filled) in
    let some =
    some_met r.rule on (HasShown (shown s)) (shown_seen (shown s)) k.piece.axis k.piece.side
    k.piece.x1 k.piece.x2 k.piece.y0 k.piece.y1 run.filled
    (step_on law r.rule (first_squares r.rule.check on) (second_squares r.rule.check on)
    k.piece.axis
    k.piece.side k.piece.x1 k.piece.x2 k.piece.y0 r.step) in
    record {
      ascending = ascending_one;
      met = λ origin. one_origin (shown s) (box_of k.piece) some.0 origin first some.1;
    }

-- ---- the keys of a column

-- the keys are those that are found in the column's core
abbrev pub AreKeysOf : Snapshot → Box2 → Column → List Key → Type 0
AreKeysOf s extent c keys = (k : Key) → Contains keys k
    ↔ IsFound s.deck.rules c.axis (seen_on c.axis (shown_on (shown s)))
    (upright (seen_box c.axis extent) c) k

-- they are the runs within the column
pub runs_within : TestDecidesPairSteps → ColumnsHaveWholeRuns → (s : Snapshot) (extent : Box2)
    (c : Column) (keys : List Key) → shown_extent s ≡ Some extent → AreKeysOf s extent c keys
    → (k : Key) → Contains keys k ↔ IsRunWithin s c k
runs_within law whole s extent c keys found are k =
    let on = shown_on (shown s) in (
      λ there. (whole s extent c k found).0
          (found_maximal law s.deck.rules on extent c k ((are k).0 there)),
      λ run. (are k).1 (maximal_found law s.deck.rules on extent c k
          ((whole s extent c k found).1 run)),
    )

-- those at one place are one
pub one_place : TestDecidesPairSteps → (s : Snapshot) (c : Column) (k l : Key) → IsRunWithin s c k
    → IsRunWithin s c l → eq_by_cmp key_cmp k l ≡ true → k ≡ l
one_place law s c k l m n e =
    let tied = is_tied k l e in
    let first = ruled law s k m.run in
    let second = ruled law s l n.run in
    let numbers = tied.list in
    let small = first.side in
    let little = second.side in
    let rule : k.rule ≡ l.rule = omega (arith, numbers, small, little) in
    let side : k.piece.side ≡ l.piece.side = omega (arith, numbers, small, little) in
    let line =
    same_line (line_of_key k) (line_of_key l) rule (m.on_axis ∙ sym n.on_axis) side tied.x1
    tied.x2 in
    same_key k l line tied.y0 (same_end (steps_of s.deck.rules (shown_on (shown s))) k l m.run n.run
    line tied.y0)
