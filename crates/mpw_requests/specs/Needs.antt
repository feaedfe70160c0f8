-- What each request needs of the connection that asks it. It is tested before any other test of the request. The file
-- of each group has the needs of its requests.
use Rattle.mpw_permissions.specs.declared.permission.Object.TheVariants.{Desk}
use Rattle.mpw_permissions.specs.declared.permission.Operation.TheVariants as to
use Rattle.mpw_requests.specs.declared.need.Need.{Need}
use Rattle.mpw_requests.specs.declared.need.Need.TheVariants.{Session, Permission}
use Rattle.mpw_requests.specs.declared.request.Request.{Request}
use Rattle.mpw_requests.specs.declared.request.Request.TheVariants as ask
pub use Rattle.mpw_requests.specs.Layouts.{layout_need}
pub use Rattle.mpw_requests.specs.Policy.{policy_need}
pub use Rattle.mpw_requests.specs.Run.{run_need}
pub use Rattle.mpw_requests.specs.SignOff.{sign_off_need}
pub use Rattle.mpw_requests.specs.Wafer.{wafer_need}

-- What a request needs, by its group.
abbrev pub need_of : Request → Need
need_of (ask.Policy request) = policy_need request
need_of ask.Whoami = Session
need_of (ask.Layout request) = layout_need request
need_of (ask.Wafer request) = wafer_need request
need_of (ask.Run request) = run_need request
need_of (ask.SignOff request) = sign_off_need request
need_of ask.Trail = Permission to.Audit Desk
