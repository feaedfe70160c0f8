-- What a prepared answer must be.
use Rattle.std.specs.Prelude.{Bool}
use Rattle.mpw_run.specs.declared.phase.RunReply.{RunReply}
use Rattle.mpw_events.specs.declared.event.Response.{Response}
use Rattle.mpw_events.specs.declared.event.Response.TheVariants as response
use Rattle.mpw_core.specs.declared.tables.Tables.{Tables}
use Rattle.mpw_events.specs.Step.{State}

-- the state of a desk with these tables
abbrev pub state_of_tables : Tables → Bool → State
state_of_tables tables closed = record {
  policy = tables.policy;
  shelf = tables.shelf;
  wafer = tables.wafer;
  run = tables.run;
  waivers = tables.waivers;
  trail = tables.trail.entries;
  closed = closed;
}

-- the response with the run's reply
abbrev pub run_response : RunReply → Response
run_response reply = response.Run reply
