-- The properties of every shelf.
use Rattle.std.proofs.Common.{ℕ, ◌≤◌, ◌^◌, List, get_or}
use Rattle.std.proofs.lemmas.Option.{slice_get-get_or}
use Rattle.mpw_hier.specs.declared.submission.Submission.{Submission}
use Rattle.mpw_hier.specs.Limits.{IsShelf}
use Rattle.mpw_hier.specs.Shelved.{ShelvesAreLimited}
use Rattle.mpw_hier.specs.Values.{count, height}
use Rattle.mpw_walk.specs.Way.{AreRead}

-- libraries as reading gives them, and submissions within the limits
pub record IsKept (ss : List Submission) : Type 0 where
  pub read : AreRead ss
  pub counts : (number : ℕ) → count ss number ≤ 2 ^ 40
  pub heights : (number : ℕ) → height ss number ≤ 64

pub shelf_kept : ShelvesAreLimited → (ss : List Submission) → IsShelf ss → IsKept ss
shelf_kept limits ss w = record {
  read = λ k d h. (w k (get_or ss k d) (slice_get-get_or ss k d h)).read;
  counts = λ number. (limits ss w number).few;
  heights = λ number. (limits ss w number).low;
}
