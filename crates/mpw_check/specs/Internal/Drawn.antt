-- For private functions and proofs: a library's top, placed where it was drawn, under a deck.
use Rattle.std.specs.Prelude.{◌≡◌, ℕ, ◌^◌, List, []}
use Rattle.mpw_hier.specs.declared.submission.Submission.{Submission}
use Rattle.mpw_hier.specs.Limits.{KeepsLimits}
use Rattle.mpw_hier.specs.Outside.{AreExternals}
use Rattle.mpw_structures.specs.declared.structures.Structure.{Structure}
use Rattle.mpw_check.specs.Drawn.{offered, drawn_shelf}

-- A shelf with a library's top, which names nothing outside the library and meets the limits of a submission.
pub record IsShelved (top : List ℕ) (library : List Structure) (shelf : List Submission) :
    Type 0 where
  pub whole : AreExternals library top []
  pub limited : KeepsLimits (2 ^ 40) [] (offered top library)
  pub shelf_is : shelf ≡ drawn_shelf top library
