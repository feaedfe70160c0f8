-- Answers to the goals of `parts_of` in `src/desk.rt`.
use Rattle.std.proofs.Common.{refl}
use Rattle.sqlite.specs.Held.{state}
use Rattle.mpw_server.proofs.StoredLemmas.{nothing_kept, stored_by, told_by, told_of_none}
use Rattle.mpw_server.proofs.desk.parts_of.Goals as goal

pub returns-in-Some : goal.returns-in-Some
returns-in-Some g c = record {
  told = told_by c.args.keeper c.in-Some.keeper c.into_parts-conn.result.1 c.in-Some.ensures c.into_parts-conn.ensures.told;
  comes = stored_by c.args.keeper c.in-Some.keeper (state g.S.Store c.into_parts-conn.result.0)
      c.into_parts-conn.result.1 c.in-Some.ensures c.into_parts-conn.ensures.rows c.into_parts-conn.ensures.open
      c.into_parts-conn.ensures.fault;
}

pub returns-in-None : goal.returns-in-None
returns-in-None g c = record {
  told = told_of_none c.args.keeper _ refl c.in-None.ensures;
  comes = nothing_kept c.args.keeper c.in-None.ensures;
}
