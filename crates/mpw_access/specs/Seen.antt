-- Which submissions a session sees.
use Rattle.std.specs.Prelude.{ℕ, Bool, List, map}
use Rattle.mpw_hier.specs.declared.submission.Submission.{Submission}
use Rattle.mpw_permissions.specs.declared.permission.Operation.TheVariants.{Read}
use Rattle.mpw_permissions.specs.declared.permission.Object.TheVariants as object
use Rattle.mpw_rbac.specs.Policy.{Policy, permits}

-- The session may read the cell of the submission.
abbrev pub may_read : Policy → ℕ → Submission → Bool
may_read policy connection s = permits policy connection Read (object.Cell s.cell)

-- The same for each submission, by number.
abbrev pub seen_by : Policy → ℕ → List Submission → List Bool
seen_by policy connection shelf = map (may_read policy connection) shelf
