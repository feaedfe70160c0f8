-- What a session may do by one operation: the answer of `permits` for each object (CheckAccess).
use Rattle.std.specs.Prelude.{ℕ}
use Rattle.mpw_permissions.specs.declared.permission.Operation.{Operation}
use Rattle.mpw_rbac.specs.Policy.{Policy}

pub record Access : Type 0 where
  pub policy : Policy
  pub connection : ℕ
  pub operation : Operation
