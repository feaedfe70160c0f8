-- The lines of an accepted request, and which of them name a cell.
use Rattle.std.specs.Prelude.{◌≡◌, ℕ, true, ⊤, List, All}
use Rattle.mpw_permissions.specs.declared.permission.Operation.TheVariants.{Read}
use Rattle.mpw_permissions.specs.declared.permission.Object.TheVariants as object
use Rattle.mpw_rbac.specs.Policy.{Policy, permits}
use Rattle.mpw_replies.specs.declared.reply.Line.TheVariants.{User, Active, Authorized, Version, Run, Idle, Cutting, Checking, Finished, Asked, Signed, Clean, Open, Stale}
use Rattle.mpw_replies.specs.declared.reply.Line.TheVariants as line
use Rattle.mpw_replies.specs.Listing.{Listed, stored, shape, marker, masked, entry}
use Rattle.mpw_replies.specs.declared.row.Done.{Done}
use Rattle.mpw_replies.specs.declared.row.Done.TheVariants.{Lists, Changes}

-- The lines of a decision table whose tests pass.
abbrev pub lines_of : {P : Type 0} → Done P → List Listed
lines_of (Lists lines) = lines
lines_of (Changes part lines) = lines

-- The line of a cell or of a shape is of a cell that the session may read, and so is each cell that the line
-- of a marker names. The other lines that a session sees name none. A request of the trail has its own
-- permission.
abbrev pub IsOfReadable : Policy → ℕ → Listed → Type 0
IsOfReadable policy connection (stored (line.Cell cell version submitter)) =
    permits policy connection Read (object.Cell cell) ≡ true
IsOfReadable policy connection (shape cell version placing element) =
    permits policy connection Read (object.Cell cell) ≡ true
IsOfReadable policy connection (stored (User user)) = ⊤
IsOfReadable policy connection (stored (Active role)) = ⊤
IsOfReadable policy connection (stored (Authorized role)) = ⊤
IsOfReadable policy connection (stored (Version version)) = ⊤
IsOfReadable policy connection (stored (Run number)) = ⊤
IsOfReadable policy connection (stored Idle) = ⊤
IsOfReadable policy connection (stored (Cutting number)) = ⊤
IsOfReadable policy connection (stored (Checking number done total)) = ⊤
IsOfReadable policy connection (stored (Finished number)) = ⊤
IsOfReadable policy connection (stored (Asked named asker)) = ⊤
IsOfReadable policy connection (stored (Signed named asker signer)) = ⊤
IsOfReadable policy connection (stored Clean) = ⊤
IsOfReadable policy connection (stored (Open number)) = ⊤
IsOfReadable policy connection (stored Stale) = ⊤
IsOfReadable policy connection (marker rule key cells) =
    All (λ cell. permits policy connection Read (object.Cell cell) ≡ true) cells
IsOfReadable policy connection (masked rule number) = ⊤
IsOfReadable policy connection (entry number e) = ⊤
