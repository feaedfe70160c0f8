-- Answers to the goals of `serve_lines` in `src/serve.rt`.
use Rattle.std.proofs.Common.{rules, refl, ap, Ok, Err, Some}
use Rattle.mpw_serve.proofs.ServingLemmas.{start, advance, finish, finish_at, spent, leaves_behind}
use Rattle.mpw_serve.proofs.serve.serve_lines.Goals as goal

pub loop-init : goal.loop-init
loop-init g c = (start g.A.Responder.told _ _ _, refl, refl, λ none. none)

pub loop-preserved : goal.loop-preserved
loop-preserved g c = (
  advance g.A.Responder.told _ _ _ _ _ _ _ _ _ _ c.loop.invariant.0 _
      (ap (λ e. Ok e) c.in-Ok-None.field-0-is)
      c.in-Ok-None.ensures.line,
  search rules,
  search rules,
  λ none. c.in-Ok-None.ensures.handed
      (c.loop.invariant.3 none),
)

pub returns-in-Err-clause-lines : goal.returns-in-Err-clause-lines
returns-in-Err-clause-lines g c =
    finish g.A.Responder.told _ _ _ _ _ _ _ _ _ _ c.loop.invariant.0 (search rules)
    (Err c.in-Err.fault)
    (Err c.in-Err.fault) refl c.in-Err.ensures.line

pub returns-clause-lines : goal.returns-clause-lines
returns-clause-lines g c = spent g.A.Responder.told _ _ _ _ _ _ _ c.loop.invariant.0 (search rules)

pub returns-in-Err-clause-handed : goal.returns-in-Err-clause-handed
returns-in-Err-clause-handed g c =
    leaves_behind (Some c.in-Err.fault) _ _ _ c.loop.invariant.3 c.in-Err.ensures.handed

pub returns-in-Ok-Some-clause-lines : goal.returns-in-Ok-Some-clause-lines
returns-in-Ok-Some-clause-lines g c =
    finish_at g.A.Responder.told _ _ _ _ _ _ _ _ _ _ c.loop.invariant.0 (search rules) _
    c.in-Ok-Some.end
    (ap (λ o. Ok o) c.in-Ok-Some.field-0-is) c.in-Ok-Some.ensures.line
