-- The markers of a flat layout, by tests and by relations.
use Rattle.std.proofs.Common.{◌≡◌, ℕ, Bool, true, List, sym, subst, ◌∙◌}
use Rattle.std.specs.Prelude.{ℤ, pos, ◌-ℤ◌, ◌↔◌}
use Rattle.std.proofs.lemmas.Bool.{false≢true}
use Rattle.std.proofs.lemmas.List.Elements.{All-contains}
use Rattle.mpw_geom.specs.declared.plane.Layer.{Layer}
use Rattle.mpw_geom.specs.Plane.{Square}
use Rattle.mpw_geom.proofs.Tests.{same_tests}
use Rattle.mpw_deck.specs.declared.rule.Rule.{Rule}
use Rattle.mpw_edges.specs.Computed.{TestDecidesPairSteps}
use Rattle.mpw_hier.specs.Items.{Item}
use Rattle.mpw_tiles.specs.Shown.{HasShown, AreShownOn}
use Rattle.mpw_markers.specs.declared.marker.Key.{Key}
use Rattle.mpw_markers.specs.declared.marker.Line.{Line}
use Rattle.mpw_markers.specs.declared.marker.Marker.{Marker}
use Rattle.mpw_markers.specs.Book.{IsBook}
use Rattle.mpw_markers.specs.Markers.{line_of_key}
use Rattle.mpw_markers.specs.Maximal.{IsMaximalRun, AreMarkersOfRuns}
use Rattle.mpw_markers.specs.Met.{IsAscending}
use Rattle.mpw_markers.specs.Whole.{IsMaximal, AreMarkersOf}
use Rattle.mpw_job.specs.Computed.{steps_of, shown_on, AreTestedMarkers}
use Rattle.mpw_job.specs.Layers.{Coverage, HasPairStep}
use Rattle.mpw_job.specs.Layout.{AreFlatMarkers}
use Rattle.mpw_job.specs.Laws.{TestsTellMarkers}
use Rattle.mpw_job.proofs.Shapes.{tests_tell}
use Rattle.mpw_job.proofs.Tests.{is_false, row_has_step, row_passes}

-- ---- maximal runs

-- the test passes exactly the rows of the relation
abbrev pub Decides : (Line → ℤ → Bool) → (Line → ℤ → Type 0) → Type 0
Decides steps Passes = (line : Line) (j : ℤ) → (steps line j ≡ true) ↔ Passes line j

run_of_test : (steps : Line → ℤ → Bool) (Passes : Line → ℤ → Type 0) → Decides steps Passes
    → (k : Key) → IsMaximal steps k → IsMaximalRun Passes k
run_of_test steps Passes same k m = record {
  filled = m.filled;
  rows = λ j l h. (same (line_of_key k) j).0 (m.rows j l h);
  below = λ p. false≢true (sym m.below ∙ (same (line_of_key k) (k.piece.y0 -ℤ pos 1)).1 p);
  above = λ p. false≢true (sym m.above ∙ (same (line_of_key k) k.piece.y1).1 p);
}

test_of_run : (steps : Line → ℤ → Bool) (Passes : Line → ℤ → Type 0) → Decides steps Passes
    → (k : Key) → IsMaximalRun Passes k → IsMaximal steps k
test_of_run steps Passes same k m = record {
  filled = m.filled;
  rows = λ j l h. (same (line_of_key k) j).1 (m.rows j l h);
  below = is_false _ (λ e. m.below ((same (line_of_key k) (k.piece.y0 -ℤ pos 1)).0 e));
  above = is_false _ (λ e. m.above ((same (line_of_key k) k.piece.y1).0 e));
}

of_runs : (steps : Line → ℤ → Bool) (Passes : Line → ℤ → Type 0) → Decides steps Passes
    → (has : ℕ → Square → Type 0) (markers : List Marker) → AreMarkersOf steps has markers
    → AreMarkersOfRuns Passes has markers
of_runs steps Passes same has markers h = record {
  sound = λ m c. run_of_test steps Passes same _ (h.sound m c).run;
  complete = λ k r. h.complete k (test_of_run steps Passes same k r);
  met = λ m origin c. (h.sound m c).met origin;
}

of_tests : (steps : Line → ℤ → Bool) (Passes : Line → ℤ → Type 0) → Decides steps Passes
    → (has : ℕ → Square → Type 0) (markers : List Marker) → IsBook markers
    → AreMarkersOfRuns Passes has markers → AreMarkersOf steps has markers
of_tests steps Passes same has markers book h = record {
  sound = λ m c. record {
    run = test_of_run steps Passes same _ (h.sound m c);
    ascending = All-contains (λ (n : Marker). IsAscending n.met) markers m book.ascending c;
    met = λ origin. h.met m origin c;
  };
  complete = λ k m. h.complete k (run_of_test steps Passes same k m);
}

-- ---- layouts

-- a test that agrees with the shapes is the computed one
same_coverage : (items : List Item) (on : Coverage)
    → ((layer : Layer) → AreShownOn items layer (on layer)) → on ≡ shown_on items
same_coverage items on shown = λ k layer i j. at layer i j k
  where
    at : (layer : Layer) (i j : ℤ) → on layer i j ≡ shown_on items layer i j
    at layer i j = same_tests (on layer i j) (shown_on items layer i j)
        (λ e. let p = (shown layer).shown i j e in (tests_tell items layer).all i j p.0 p.1)
        (λ e. let p = (tests_tell items layer).shown i j e in (shown layer).all i j p.0 p.1)

rows_decided : TestDecidesPairSteps → (rules : List Rule) (on : Coverage)
    → Decides (steps_of rules on) (HasPairStep rules on)
rows_decided law rules on line j =
    (row_has_step law rules on line j, row_passes law rules on line j)

pub flat_from : TestDecidesPairSteps → (rules : List Rule) (items : List Item)
    (markers : List Marker) → AreTestedMarkers rules items markers
    → AreFlatMarkers rules items markers
flat_from law rules items markers h = record {
  book = h.0;
  on = shown_on items;
  shown_on = tests_tell items;
  runs = of_runs (steps_of rules (shown_on items)) (HasPairStep rules (shown_on items))
      (rows_decided law rules (shown_on items)) (HasShown items) markers h.1;
}

pub tested_from : TestDecidesPairSteps → (rules : List Rule) (items : List Item)
    (markers : List Marker) → AreFlatMarkers rules items markers
    → AreTestedMarkers rules items markers
tested_from law rules items markers h = (
  h.book,
  of_tests (steps_of rules (shown_on items)) (HasPairStep rules (shown_on items))
      (rows_decided law rules (shown_on items)) (HasShown items) markers h.book
      (subst (λ (on : Coverage). AreMarkersOfRuns (HasPairStep rules on) (HasShown items) markers)
      (same_coverage items h.on h.shown_on) h.runs),
)

pub tests_tell_markers : TestDecidesPairSteps → TestsTellMarkers
tests_tell_markers law rules items markers =
    (flat_from law rules items markers, tested_from law rules items markers)
