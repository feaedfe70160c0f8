-- The requests that list what a session may know, and those that a view decides.
use Rattle.std.specs.Prelude.{Bool, true, false}
use Rattle.mpw_requests.specs.declared.layouts.LayoutRequest.{LayoutRequest}
use Rattle.mpw_requests.specs.declared.layouts.LayoutRequest.TheVariants.{Cells, Shapes}
use Rattle.mpw_requests.specs.declared.request.Request.{Request}
use Rattle.mpw_requests.specs.declared.request.Request.TheVariants as ask
use Rattle.mpw_requests.specs.declared.run.RunRequest.{RunRequest}
use Rattle.mpw_requests.specs.declared.run.RunRequest.TheVariants.{Status, Markers}
use Rattle.mpw_requests.specs.declared.sign_off.SignOffRequest.{SignOffRequest}
use Rattle.mpw_requests.specs.declared.sign_off.SignOffRequest.TheVariants.{Waive, Sign, Waivers}

abbrev pub is_of_cells : LayoutRequest → Bool
is_of_cells Cells = true
is_of_cells (Shapes cell) = true
is_of_cells request = false

abbrev pub is_of_run : RunRequest → Bool
is_of_run Status = true
is_of_run Markers = true
is_of_run request = false

abbrev pub lists_waivers : SignOffRequest → Bool
lists_waivers Waivers = true
lists_waivers request = false

-- `whoami`, `cells`, `shapes`, `status` and `markers`, and those sign-off requests that pass the test.
abbrev pub is_of : (SignOffRequest → Bool) → Request → Bool
is_of of_waivers ask.Whoami = true
is_of of_waivers (ask.Layout request) = is_of_cells request
is_of of_waivers (ask.Run request) = is_of_run request
is_of of_waivers (ask.SignOff request) = of_waivers request
is_of of_waivers request = false

-- `whoami`, `cells`, `shapes`, `status`, `markers` and `waivers`.
abbrev pub is_listing : Request → Bool
is_listing request = is_of lists_waivers request

-- These, and `waive` and `sign`.
abbrev pub is_of_waivers : SignOffRequest → Bool
is_of_waivers (Waive marker) = true
is_of_waivers (Sign marker) = true
is_of_waivers Waivers = true
is_of_waivers request = false

abbrev pub is_of_view : Request → Bool
is_of_view request = is_of is_of_waivers request
