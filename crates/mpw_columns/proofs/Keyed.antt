-- The keys of separate runs are those of the maximal runs at their positions.
use Rattle.std.proofs.Common.{◌≡◌, ℕ, ◌<◌, ◌+◌, ℤ, List, [], ◌∷◌, ◌++◌, length, get_or, take, map, Option, Some, ◌⊎◌, inl, inr, subst, refl, sym, ap, ◌∙◌, arith, append_assoc}
use Rattle.std.specs.Prelude.{◌↔◌, Contains, slice_get}
use Rattle.std.proofs.lemmas.List.{map_more}
use Rattle.std.proofs.lemmas.List.Elements.{Contains-append_left, Contains-append_right, Contains-append_cases}
use Rattle.mpw_geom.specs.declared.plane.Box2.{Box2}
use Rattle.mpw_deck.specs.declared.rule.Rule.{Rule}
use Rattle.mpw_region.specs.declared.runs.Line.{Line}
use Rattle.mpw_region.specs.declared.runs.Run.{Run}
use Rattle.mpw_region.specs.Runs.{AreApart}
use Rattle.mpw_region.proofs.Held.{held_map, map_held}
use Rattle.mpw_region.proofs.Joins.{no_run}
use Rattle.mpw_edges.specs.declared.run.Axis.{Axis}
use Rattle.mpw_edges.specs.Pieces.{HasVerticalStep}
use Rattle.mpw_edges.proofs.Maximal.{HoldJust, run_of, run_is_maximal as run_of_apart, maximal_is_run as apart_has_run}
use Rattle.mpw_markers.specs.declared.marker.Key.{Key}
use Rattle.mpw_job.specs.Layers.{Coverage, first_squares, second_squares}
use Rattle.mpw_columns.specs.Found.{IsRun, HasStepAt, IsFound}
use Rattle.mpw_columns.specs.Internal.Found.{AddsRule, AddsFirst, key_of_run}

-- ---- separate runs

pub run_is_maximal : (runs : List Run) (P : Line → ℤ → Type 0) (r : Run) → AreApart runs
    → HoldJust runs P → Contains runs r → IsRun (P r.line) r.from r.to
run_is_maximal runs P r h same c =
    let m = run_of_apart runs P r h same c in
    record { filled = m.filled; rows = m.steps; below = m.below; above = m.above }

pub maximal_is_run : (runs : List Run) (P : Line → ℤ → Type 0) (r : Run) → AreApart runs
    → HoldJust runs P → IsRun (P r.line) r.from r.to → Contains runs r
maximal_is_run runs P r h same m =
    apart_has_run runs P r h same
    (record { filled = m.filled; steps = m.rows; below = m.below; above = m.above })

-- ---- keys

same_key : (place : ℕ) (axis : Axis) (k : Key) → k.rule ≡ place → k.piece.axis ≡ axis
    → key_of_run place axis (run_of k.piece) ≡ k
same_key place axis k e f =
    ap (λ (n : ℕ). key_of_run n axis (run_of k.piece)) (sym e)
    ∙ ap (λ (a : Axis). key_of_run k.rule a (run_of k.piece)) (sym f)

same_rule : (o : Option Rule) (a b : Rule) → o ≡ Some a → o ≡ Some b → a ≡ b
same_rule o a b e f = cc

abbrev pub RowsOf : Rule → Coverage → Box2 → Line → ℤ → Type 0
RowsOf rule on core line j = HasVerticalStep rule (first_squares rule.check on)
    (second_squares rule.check on) core line.side line.first line.second j

pub rule_keys : (place : ℕ) (rules : List Rule) (axis : Axis) (on : Coverage) (core : Box2)
    (rule : Rule) (runs : List Run) (old new : List Key) → slice_get rules place ≡ Some rule
    → AreApart runs → HoldJust runs (RowsOf rule on core)
    → new ≡ old ++ map (key_of_run place axis) runs
    → AddsRule place rules axis on core old new
rule_keys place rules axis on core rule runs old new at apart just is k =
    subst (λ (ks : List Key). Contains ks k
    ↔ (Contains old k ⊎ ((k.rule ≡ place) × IsFound rules axis on core k))) (sym is) (to, from)
  where
    to : Contains (old ++ map (key_of_run place axis) runs) k
        → Contains old k ⊎ ((k.rule ≡ place) × IsFound rules axis on core k)
    to c = elim (Contains-append_cases old (map (key_of_run place axis) runs) k c) [
      | inl o ↦ inl o
      | inr m ↦
          let h = held_map (key_of_run place axis) runs no_run (λ q. q ≡ k) (k, m, refl) in
          inr (subst (λ (q : Key). (q.rule ≡ place) × IsFound rules axis on core q) h.2 (
            refl,
            record {
              rule = rule;
              at = at;
              on_axis = refl;
              run = run_is_maximal runs (RowsOf rule on core) h.0 apart just h.1;
            },
          ))
    ]

    from : Contains old k ⊎ ((k.rule ≡ place) × IsFound rules axis on core k)
        → Contains (old ++ map (key_of_run place axis) runs) k
    from (inl o) = Contains-append_left old (map (key_of_run place axis) runs) k o
    from (inr f) =
        let same : f.1.rule ≡ rule = same_rule (slice_get rules place) f.1.rule rule
        (ap (slice_get rules) (sym f.0) ∙ f.1.at) at in
        let run =
        subst (λ (r : Rule). IsRun (HasStepAt r on core k) k.piece.y0 k.piece.y1) same f.1.run
        in
        let there = maximal_is_run runs (RowsOf rule on core) (run_of k.piece) apart just run in
        let m = map_held (key_of_run place axis) runs (λ q. q ≡ k) (run_of k.piece) there
        (same_key place axis k f.0 f.1.on_axis) in
        Contains-append_right old (map (key_of_run place axis) runs) k
        (subst (λ (q : Key). Contains (map (key_of_run place axis) runs) q) m.2 m.1)

-- ---- the keys of runs, one by one

pub adds_one : (place : ℕ) (axis : Axis) (runs : List Run) (n : ℕ) (d : Run) (old new : List Key)
    (k : Key) → n < length runs
    → new ≡ old ++ map (key_of_run place axis) (take n runs)
    → k ≡ key_of_run place axis (get_or runs n d)
    → new ++ k ∷ [] ≡ old ++ map (key_of_run place axis) (take (n + 1) runs)
adds_one place axis runs n d old new k lt e f =
    ap (λ (ks : List Key). ks ++ k ∷ []) e
    ∙ append_assoc old (map (key_of_run place axis) (take n runs)) (k ∷ [])
    ∙ ap (λ (x : Key). old ++ (map (key_of_run place axis) (take n runs) ++ x ∷ [])) f
    ∙ ap (λ (ks : List Key). old ++ ks) (sym (map_more (key_of_run place axis) runs n d lt))

-- ---- rule by rule

pub no_rules : (rules : List Rule) (axis : Axis) (on : Coverage) (core : Box2) (old : List Key)
    → AddsFirst 0 rules axis on core old old
no_rules rules axis on core old k =
    (λ c. inl c, λ f. elim f [ inl c ↦ c | inr g ↦ absurd (omega (arith, g.0)) ])

pub rule_more : (n : ℕ) (rules : List Rule) (axis : Axis) (on : Coverage) (core : Box2)
    (old mid new : List Key) → AddsFirst n rules axis on core old mid
    → AddsRule n rules axis on core mid new
    → AddsFirst (n + 1) rules axis on core old new
rule_more n rules axis on core old mid new f g k = (
  λ c. elim ((g k).0 c) [
    | inl m ↦ elim ((f k).0 m) [ inl o ↦ inl o | inr h ↦ inr (omega (arith, h.0), h.1) ]
    | inr h ↦ inr (omega (arith, h.0), h.1)
  ],
  λ c. elim c [
    | inl o ↦ (g k).1 (inl ((f k).1 (inl o)))
    | inr h ↦ elim (cases_place k.rule n h.0) [
      | inl less ↦ (g k).1 (inl ((f k).1 (inr (less, h.1))))
      | inr same ↦ (g k).1 (inr (same, h.1))
    ]
  ],
)
  where
    cases_place : (place n : ℕ) → place < n + 1 → (place < n) ⊎ (place ≡ n)
    cases_place place n lt = grind arith
