-- The markers of a layout with one submission touch that one.
use Rattle.std.proofs.Common.{◌≡◌, ◌∙◌, ◌<◌, ℕ, List, [], ◌∷◌, length, sym, ap, arith}
use Rattle.std.specs.Prelude.{All, Contains}
use Rattle.std.specs.List.{flat_map}
use Rattle.std.proofs.lemmas.List.Elements.{All-append, All-contains, All-map}
use Rattle.mpw_hier.specs.Items.{Item}
use Rattle.mpw_hier.specs.Shelved.{ShapesAreOfEarlier}
use Rattle.mpw_hier.specs.Values.{flat}
use Rattle.mpw_hier.specs.declared.submission.Submission.{Submission}
use Rattle.mpw_job.specs.Laws.{EachMarkerMeetsSome}
use Rattle.mpw_job.specs.Layout.{AreLayoutMarkers}
use Rattle.mpw_markers.specs.declared.marker.Marker.{Marker}
use Rattle.mpw_tiles.specs.Snapshots.{Snapshot, shown}
use Rattle.mpw_walk.specs.Turns.{flat_root, flat_roots}
use Rattle.mpw_walk.specs.declared.root.Root.{Root}

-- A marker touches a submission, and none but the first.
pub record TouchesFirst (m : Marker) : Type 0 where
  pub some : (number : ℕ) × Contains m.met number
  pub first : (number : ℕ) → Contains m.met number → number ≡ 0

abbrev pub TouchFirst : List Marker → Type 0
TouchFirst book = (m : Marker) → Contains book m → TouchesFirst m

module _ (law : ShapesAreOfEarlier) (shelf : List Submission) where
  abbrev IsWithin : Item → Type 0
  IsWithin i = i.origin < length shelf

  flat_within : (number : ℕ) → All IsWithin (flat shelf number)
  flat_within number k d l = (law shelf number k d l).within

  root_within : (root : Root) → All IsWithin (flat_root shelf root)
  root_within root =
      All-map IsWithin _ (flat shelf root.submission) (flat_within root.submission)

  all_within : (roots : List Root) → All IsWithin (flat_map (flat_root shelf) roots)
  all_within [] = λ k d l. absurd (omega (arith, l))
  all_within (root ∷ roots) =
      All-append IsWithin (flat_root shelf root) (flat_map (flat_root shelf) roots) (root_within root)
      (all_within roots)

  roots_within : (roots : List Root) → All IsWithin (flat_roots shelf roots)
  unfolding flat_roots
  roots_within roots = all_within roots

only_first : (number many : ℕ) → number < many → many ≡ 1 → number ≡ 0
only_first number many within one = omega (arith, within, one)

pub touch_first : ShapesAreOfEarlier → EachMarkerMeetsSome → (layout : Snapshot)
    (book : List Marker) (s : Submission) → layout.shelf ≡ s ∷ [] → AreLayoutMarkers layout book
    → TouchFirst book
touch_first origins meets layout book s alone are m c = record {
  some = meets layout book m are c;
  first = λ number met.
      let is = (are.runs.met m number c).0 met in
      let from = is.1.1 in
      let item = from.0 in
      let within = All-contains (IsWithin origins layout.shelf) (shown layout) item
      (roots_within origins layout.shelf layout.roots) from.1 in
      sym from.2.of_origin ∙ only_first item.origin (length layout.shelf) within
      (ap (λ (shelf : List Submission). length shelf) alone);
}
