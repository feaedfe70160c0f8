-- What an accepted change says: each test passed, and the table after it.
use Rattle.std.proofs.Common.{◌≡◌, ℕ, ◌+◌, ◌^◌, Bool, true, false, not, List, [], ◌∷◌, ◌++◌, length, Option, Some, None, Ok, Err, refl}
use Rattle.std.specs.Prelude.{nat_lt, nat_le, filter, if◌then◌else◌}
use Rattle.mpw_geom.specs.declared.placing.Placing.{Placing}
use Rattle.mpw_hier.specs.declared.submission.Submission.{Submission}
use Rattle.mpw_hier.specs.Shelf.{present}
use Rattle.mpw_hier.specs.Values.{count}
use Rattle.mpw_walk.specs.declared.root.Root.{Root}
use Rattle.mpw_walk.specs.Roots.{root_extent}
use Rattle.mpw_placings.specs.declared.fault.PlacingFault.{PlacingFault}
use Rattle.mpw_placings.specs.declared.fault.PlacingFault.TheVariants.{Known, Extent, Shapes, Full, Unknown}
use Rattle.mpw_placings.specs.declared.placement.Placement.{Placement}
use Rattle.mpw_placings.specs.Placements.{is_at, is_taken, is_far, shape_count}
use Rattle.mpw_placings.specs.Rows.{refusal, behind, placed_root, placed_number, placings_with, placings_without}

abbrev pub placement_of : List ℕ → List ℕ → Placing → ℕ → Placement
placement_of cell label placing number =
    record { cell = cell; label = label; root = record { submission = number; placing = placing } }

pub record IsPlaced (ss : List Submission) (ps after : List Placement) (cell label : List ℕ)
    (placing : Placing) : Type 0 where
  pub number : ℕ
  pub is : present ss cell ≡ Some number
  pub new : is_taken ps cell label ≡ false
  pub near : is_far (root_extent ss (record { submission = number; placing = placing })) ≡ false
  pub small : nat_lt (2 ^ 20) (shape_count ss ps + count ss number) ≡ false
  pub room : nat_le 4096 (length ps) ≡ false
  pub all : after ≡ ps ++ placement_of cell label placing number ∷ []

pub first_none : (t : Bool) (fault : PlacingFault) (rest : Option PlacingFault)
    → (if t then Some fault else rest) ≡ None → (t ≡ false) × (rest ≡ None)
first_none true fault rest e = absurd cc
first_none false fault rest e = (refl, e)

behind_ok : (ps after : List Placement) (p : Placement) (o : Option PlacingFault)
    → behind ps p o ≡ Ok after → (o ≡ None) × (after ≡ ps ++ p ∷ [])
behind_ok ps after p None e = (refl, cc)
behind_ok ps after p (Some fault) e = absurd cc

root_is : (ss : List Submission) (ps after : List Placement) (cell label : List ℕ)
    (placing : Placing) (number : ℕ) → present ss cell ≡ Some number
    → placed_root ss ps cell label (record { submission = number; placing = placing }) ≡ Ok after
    → IsPlaced ss ps after cell label placing
root_is ss ps after cell label placing number is e =
    let root : Root = record { submission = number; placing = placing } in
    let b = behind_ok ps after (placement_of cell label placing number)
    (refusal ss ps cell label root) e in
    let new = first_none (is_taken ps cell label) Known _ b.0 in
    let near = first_none (is_far (root_extent ss root)) Extent _ new.1 in
    let small =
    first_none (nat_lt (2 ^ 20) (shape_count ss ps + count ss number)) Shapes _ near.1 in
    let room = first_none (nat_le 4096 (length ps)) Full None small.1 in
    record {
      number = number;
      is = is;
      new = new.0;
      near = near.0;
      small = small.0;
      room = room.0;
      all = b.1;
    }

pub placed_is : (ss : List Submission) (ps after : List Placement) (cell label : List ℕ)
    (placing : Placing) → placings_with ss ps cell label placing ≡ Ok after
    → IsPlaced ss ps after cell label placing
unfolding placings_with
placed_is ss ps after cell label placing e = go (present ss cell) refl e
  where
    go : (o : Option ℕ) → present ss cell ≡ o → placed_number ss ps cell label placing o ≡ Ok after
        → IsPlaced ss ps after cell label placing
    go None is e = absurd cc
    go (Some number) is e = root_is ss ps after cell label placing number is e

-- the same for a removed placement
pub unplaced_is : (ps after : List Placement) (cell label : List ℕ)
    → placings_without ps cell label ≡ Ok after → after ≡ filter (λ p. not (is_at cell label p)) ps
unfolding placings_without
unplaced_is ps after cell label e = go (is_taken ps cell label) e
  where
    go : (t : Bool) → (if t then Ok (filter (λ p. not (is_at cell label p)) ps) else Err Unknown)
        ≡ Ok after → after ≡ filter (λ p. not (is_at cell label p)) ps
    go true e = cc
    go false e = absurd cc
