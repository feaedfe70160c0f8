-- Answers to the goals of `serve_named` in `src/service.rt`.
use Rattle.std.proofs.Common.{rules}
use Rattle.mpw_service.proofs.service.serve_named.Goals as goal

pub returns-in-Ok : goal.returns-in-Ok
returns-in-Ok g c =
    let gathered = c.serve.result in
    record {
      passes = c.into_parts-passes.result.0.items;
      finished = c.in-Ok.ensures;
      served = gathered.served;
      whole = λ well. search rules;
    }
