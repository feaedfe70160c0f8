-- For private functions and proofs: which submissions a submission reaches.
use Rattle.std.specs.Prelude.{◌≡◌, ℕ, ◌+◌, ◌<◌, ◌≤◌, Bool, true, false, List, length, slice_get, slice_index_or, Some}
use Rattle.mpw_hier.specs.declared.bindings.Binding.{Binding}
use Rattle.mpw_hier.specs.declared.submission.Submission.{Submission}
use Rattle.mpw_hier.specs.Values.{bound_number}

abbrev pub is_marked : List Bool → ℕ → Bool
is_marked marks n = slice_index_or marks n false

-- Some submissions below a number were marked, and no mark was removed.
pub record IsMore (below : ℕ) (old new : List Bool) : Type 0 where
  pub many : length new ≡ length old
  pub kept : (n : ℕ) → below ≤ n → is_marked new n ≡ is_marked old n
  pub more : (n : ℕ) → is_marked old n ≡ true → is_marked new n ≡ true

-- The submissions of the first bindings are marked if they are below a number.
pub record AreMarked (bindings : List Binding) (many below : ℕ) (old new : List Bool) : Type 0 where
  pub more : IsMore below old new
  pub each : (k : ℕ) (b : Binding) → k < many → slice_get bindings k ≡ Some b
      → b.submission < below → is_marked new b.submission ≡ true

-- The submission with a number is marked. If a submission from a number on is marked, then those to which it is bound are marked too, if
-- they come before it.
pub record AreReached (ss : List Submission) (number from : ℕ) (marks : List Bool) : Type 0 where
  pub many : length marks ≡ number + 1
  pub first : is_marked marks number ≡ true
  pub bound : (n to : ℕ) (s : Submission) (name : List ℕ) → from ≤ n → is_marked marks n ≡ true
      → slice_get ss n ≡ Some s → bound_number s.bound name ≡ Some to → to < n
      → is_marked marks to ≡ true
