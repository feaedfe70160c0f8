-- The list of a column that repeats another one is that one's, displaced.
use Rattle.std.proofs.Common.{◌≡◌, ◌∙◌, ℕ, ◌<◌, ◌≤◌, ◌^◌, ℤ, pos, neg_ℤ, ◌+ℤ◌, ◌-ℤ◌, ◌≤ℤ◌, ◌<ℤ◌, List, map, get_or, sym, subst, ap, arith}
use Rattle.std.specs.Prelude.{◌↔◌, All, Contains, Some}
use Rattle.std.proofs.lemmas.Int.{ints}
use Rattle.std.proofs.lemmas.List.Elements.{All-contains, Contains-get_or}
use Rattle.mpw_geom.specs.declared.plane.Box2.{Box2}
use Rattle.mpw_geom.specs.declared.plane.Layer.{Layer}
use Rattle.mpw_deck.specs.declared.rule.Check.{Check}
use Rattle.mpw_deck.specs.declared.rule.Check.TheVariants.{Width, Space, Separation, Enclosing}
use Rattle.mpw_deck.specs.declared.rule.Rule.{Rule}
use Rattle.mpw_edges.specs.declared.run.Axis.{Axis}
use Rattle.mpw_edges.specs.Computed.{TestDecidesPairSteps}
use Rattle.mpw_edges.specs.Edges.{Squares}
use Rattle.mpw_edges.specs.Steps.{IsPair}
use Rattle.mpw_tiles.specs.Snapshots.{Snapshot, shown, shown_extent}
use Rattle.mpw_markers.specs.declared.marker.Key.{Key}
use Rattle.mpw_markers.specs.Markers.{line_of_key}
use Rattle.mpw_job.specs.Computed.{shown_on}
use Rattle.mpw_job.specs.Layers.{Coverage}
use Rattle.mpw_job.proofs.Tests.{get_contains, rule_of}
use Rattle.mpw_columns_keys.specs.declared.column.Column.{Column}
use Rattle.mpw_columns_keys.specs.Columns.{seen_box, upright}
use Rattle.mpw_columns_keys.specs.Keys.{displaced_key, HasNearEdges}
use Rattle.mpw_columns_keys.proofs.KeyOrder.{order_kept}
use Rattle.mpw_columns.specs.Seen.{seen_on}
use Rattle.mpw_columns.specs.Displaced.{displaced, IsDisplaced}
use Rattle.mpw_columns.specs.Found.{IsFound}
use Rattle.mpw_columns.specs.Laws.{ColumnsHaveWholeRuns, DisplacedColumnsFindDisplacedRuns, DisplacedColumnsHaveDisplacedLists}
use Rattle.mpw_columns.specs.Runs.{IsRunOf, IsRunWithin}
use Rattle.mpw_columns.specs.Lists.{IsColumnList}
use Rattle.mpw_columns.specs.Internal.Found.{IsLook, IsUpright}
use Rattle.mpw_columns.proofs.KeySides.{there_and_back}
use Rattle.mpw_columns.proofs.SeenSteps.{found_maximal, maximal_found, step_on_seen}
use Rattle.mpw_columns.proofs.Telling.{of_map, to_map}

-- ---- the core of a displaced column

abbrev core_in : Box2 → Column → Box2
core_in extent c = upright (seen_box c.axis extent) c

core_is : (extent : Box2) (by : ℤ) (c e : Column) → IsDisplaced by c e
    → core_in extent e ≡ displaced by (core_in extent c)
core_is extent by c e d =
    let seen = seen_box c.axis extent in
    ap (λ (a : Axis). upright (seen_box a extent) e) d.axis
    ∙ ap (λ (x : ℤ). let b : Box2 = record { x0 = x; y0 = seen.y0; x1 = e.to; y1 = seen.y1 } in b)
    d.from
    ∙ ap (λ (x : ℤ). let b : Box2 = record {
      x0 = c.from +ℤ by;
      y0 = seen.y0;
      x1 = x;
      y1 = seen.y1;
    } in b) d.to

-- what is found in the column's core, from what the items have
abbrev FoundIn : Snapshot → Box2 → Column → Key → Type 0
FoundIn s extent c k = IsFound s.deck.rules c.axis (seen_on c.axis (shown_on (shown s)))
    (core_in extent c) k

in_displaced : (s : Snapshot) (extent : Box2) (by : ℤ) (c e : Column) (k : Key) → IsDisplaced by c e
    → FoundIn s extent e k
    ↔ IsFound s.deck.rules c.axis (seen_on c.axis (shown_on (shown s)))
    (displaced by (core_in extent c)) k
in_displaced s extent by c e k d =
    let rules = s.deck.rules in
    let on = shown_on (shown s) in
    let on_core : Box2 → Type 0 = λ b. IsFound rules e.axis (seen_on e.axis on) b k in
    let on_axis : Axis → Type 0 =
    λ a. IsFound rules a (seen_on a on) (displaced by (core_in extent c)) k in (
      λ f. subst on_axis d.axis (subst on_core (core_is extent by c e d) f),
      λ f. subst on_core (sym (core_is extent by c e d)) (subst on_axis (sym d.axis) f),
    )

-- ---- runs of a column

run_of_found : TestDecidesPairSteps → ColumnsHaveWholeRuns → (s : Snapshot) (extent : Box2)
    (c : Column) (k : Key) → shown_extent s ≡ Some extent
    → FoundIn s extent c k ↔ IsRunWithin s c k
run_of_found law whole s extent c k found =
    let on = shown_on (shown s) in (
      λ f. (whole s extent c k found).0 (found_maximal law s.deck.rules on extent c k f),
      λ r. maximal_found law s.deck.rules on extent c k ((whole s extent c k found).1 r),
    )

pub displaced_lists : TestDecidesPairSteps → ColumnsHaveWholeRuns
    → DisplacedColumnsFindDisplacedRuns → DisplacedColumnsHaveDisplacedLists
displaced_lists law whole finds s extent layers greatest by c e keys found short layered d shows
    list = record {
      exact = λ l. (
        λ there. let p = of_map (displaced_key by) keys l there in
            subst (IsRunWithin s e) p.2 ((move p.0).0 ((list.exact p.0).0 p.1)),
        λ run.
            let k = displaced_key (neg_ℤ by) l in
            let same = there_and_back by l in
            subst (Contains (map (displaced_key by) keys)) same
            (to_map (displaced_key by) keys k
            ((list.exact k).1 ((move k).1 (subst (IsRunWithin s e) (sym same) run)))),
      );
      ordered = order_kept by keys list.ordered;
    }
  where
    on : Coverage
    on = seen_on c.axis (shown_on (shown s))

    move : (k : Key) → IsRunWithin s c k ↔ IsRunWithin s e (displaced_key by k)
    move k =
        let step =
        finds s.deck.rules layers greatest c.axis on on (core_in extent c) by short layered
        shows k in
        let here = run_of_found law whole s extent c k found in
        let other = run_of_found law whole s extent e (displaced_key by k) found in
        let same = in_displaced s extent by c e (displaced_key by k) d in (
          λ r. other.0 (same.1 (step.0 (here.1 r))),
          λ r. here.0 (step.1 (same.0 (other.1 r))),
        )

-- ---- keys of a column that is within bounds

ordered : (check : Check) (a b : Squares) (side : ℕ) (x1 x2 j : ℤ) → IsPair check a b side x1 x2 j
    → x1 ≤ℤ x2
ordered (Width l) a b side x1 x2 j w = let h = w.3 in omega (arith, ints, h)
ordered (Space l) a b side x1 x2 j w = let h = w.3 in omega (arith, ints, h)
ordered (Separation l m) a b side x1 x2 j w = w.0
ordered (Enclosing l m) a b side x1 x2 j w = w.0

-- the second edge of a run is no further from the first than the greatest distance
pub record IsNarrow (k : Key) (distance : ℕ) : Type 0 where
  pub ordered : k.piece.x1 ≤ℤ k.piece.x2
  pub near : (k.piece.x2 -ℤ k.piece.x1) <ℤ pos distance

narrow : TestDecidesPairSteps → (s : Snapshot) (layers : List Layer) (distance : ℕ) (k : Key)
    → IsLook s.deck.rules layers distance → IsRunOf s k → IsNarrow k distance
narrow law s layers distance k look m =
    let on = shown_on (shown s) in
    let r = rule_of s.deck.rules on (line_of_key k) k.piece.y0
    (m.rows k.piece.y0 (omega (arith, ints)) m.filled) in
    let step = (step_on_seen law r.rule on k.piece.axis k.piece.side k.piece.x1 k.piece.x2
    k.piece.y0).0 r.step in
    let short : r.rule.distance ≤ distance =
    All-contains (λ (rule : Rule). rule.distance ≤ distance) s.deck.rules r.rule look.near
    (get_contains s.deck.rules k.rule r.rule r.at) in
    let less = step.1 in
    record {
      ordered = ordered r.rule.check _ _ k.piece.side k.piece.x1 k.piece.x2 k.piece.y0 step.0;
      near = omega (arith, ints, less, short);
    }

near_edges : (k : Key) (distance : ℕ) (extent : Box2) (c : Column) (s : Snapshot)
    → IsUpright (core_in extent c) → distance < 2 ^ 32 → IsNarrow k distance → IsRunWithin s c k
    → HasNearEdges k
near_edges k distance extent c s u short n r =
    let low = u.left in
    let high = u.right in
    let from = r.left in
    let to = r.right in
    let le = n.ordered in
    let near = n.near in
    record {
      first = record {
        low = omega (arith, ints, low, from);
        high = omega (arith, ints, high, to);
      };
      second = record {
        low = omega (arith, ints, low, from, le);
        high = omega (arith, ints, high, to, near, short);
      };
    }

pub list_near : TestDecidesPairSteps → (s : Snapshot) (extent : Box2) (layers : List Layer)
    (distance : ℕ) (c : Column) (keys : List Key) → IsLook s.deck.rules layers distance
    → distance < 2 ^ 32 → IsUpright (core_in extent c) → IsColumnList s c keys
    → All HasNearEdges keys
list_near law s extent layers distance c keys look short u list i d lt =
    let k = get_or keys i d in
    let run = (list.exact k).0 (Contains-get_or keys i d lt) in
    near_edges k distance extent c s u short (narrow law s layers distance k look run.run) run
