-- The result of placing, by the two calls that decide it: the number of the cell's present submission, and
-- the refusal.
use Rattle.std.proofs.Common.{◌≡◌, ℕ, ◌+◌, ◌^◌, ◌<◌, false, length, List, [], ◌∷◌, ◌++◌, Option, Some, None, Ok, Err, sym, ap, ◌∙◌}
use Rattle.std.specs.Prelude.{nat_lt, nat_le}
use Rattle.std.proofs.lemmas.Bool.{leb-false}
use Rattle.mpw_geom.specs.declared.placing.Placing.{Placing}
use Rattle.mpw_hier.specs.declared.submission.Submission.{Submission}
use Rattle.mpw_hier.specs.Shelf.{present}
use Rattle.mpw_hier.specs.Values.{count}
use Rattle.mpw_walk.specs.declared.root.Root.{Root}
use Rattle.mpw_placings.specs.declared.fault.PlacingFault.{PlacingFault}
use Rattle.mpw_placings.specs.declared.fault.PlacingFault.TheVariants.{NoCell, Known, Extent, Shapes, Full, Unknown, Memory}
use Rattle.mpw_placings.specs.declared.placement.Placement.{Placement}
use Rattle.mpw_walk.specs.Roots.{root_extent}
use Rattle.mpw_placings.specs.Placements.{is_taken, is_far, shape_count}
use Rattle.mpw_placings.proofs.Inverted.{first_none}
use Rattle.mpw_placings.specs.Rows.{refusal, behind, placed_number, placings_with, Refuses}

abbrev rooted : ℕ → Placing → Root
rooted number placing = record { submission = number; placing = placing }

module _ (ss : List Submission) (ps : List Placement) (cell label : List ℕ) (placing : Placing) where
  pub without_cell : None ≡ present ss cell
      → placings_with ss ps cell label placing ≡ Err NoCell
  unfolding placings_with
  without_cell e = ap (placed_number ss ps cell label placing) (sym e)

  decided : (number : ℕ) (test : Option PlacingFault) → Some number ≡ present ss cell
      → test ≡ refusal ss ps cell label (rooted number placing)
      → placings_with ss ps cell label placing
      ≡ behind ps (record { cell = cell; label = label; root = rooted number placing }) test
  unfolding placings_with
  decided number test e f =
      ap (placed_number ss ps cell label placing) (sym e)
      ∙ ap (behind ps (record { cell = cell; label = label; root = rooted number placing })) (sym f)

  pub placed : (number : ℕ) → Some number ≡ present ss cell
      → None ≡ refusal ss ps cell label (rooted number placing)
      → placings_with ss ps cell label placing
      ≡ Ok (ps ++ record { cell = cell; label = label; root = rooted number placing } ∷ [])
  placed number e f = decided number None e f

  -- a placement that isn't refused is new
  pub is_new : (number : ℕ) → None ≡ refusal ss ps cell label (rooted number placing)
      → is_taken ps cell label ≡ false
  is_new number e = (first_none (is_taken ps cell label) Known _ (sym e)).0

  -- and has room
  pub has_room : (number : ℕ) → None ≡ refusal ss ps cell label (rooted number placing)
      → length ps < 4096
  has_room number e =
      let new = first_none (is_taken ps cell label) Known _ (sym e) in
      let near = first_none (is_far (root_extent ss (rooted number placing))) Extent _ new.1 in
      let small =
      first_none (nat_lt (2 ^ 20) (shape_count ss ps + count ss number)) Shapes _ near.1 in
      leb-false 4096 (length ps) (first_none (nat_le 4096 (length ps)) Full None small.1).0

  pub refused : (number : ℕ) (fault : PlacingFault) → Some number ≡ present ss cell
      → Some fault ≡ refusal ss ps cell label (rooted number placing)
      → Refuses fault (placings_with ss ps cell label placing)
  refused number fault e f = told fault (decided number (Some fault) e f)
    where
      told : (fault : PlacingFault) → placings_with ss ps cell label placing ≡ Err fault
          → Refuses fault (placings_with ss ps cell label placing)
      told NoCell e = e
      told Known e = e
      told Extent e = e
      told Shapes e = e
      told Full e = e
      told Unknown e = e
      told Memory e = tt
