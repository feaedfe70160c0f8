-- Answers to the goals of `take_bytes` in `src/line.rt`.
use Rattle.std.proofs.Common.{rules, arith, ◌<◌, ◌≡◌, ◌++◌, ◌∷◌, ◌+◌, [], length, refl, ap, ◌∙◌}
use Rattle.std.proofs.KnownBytes.{Consumes-kept}
use Rattle.std.specs.Io.Iter.{u64_saturate}
use Rattle.mpw_wire.proofs.ReadingLemmas.{given_byte, given_none, length_more}
use Rattle.mpw_wire.proofs.line.take_bytes.Goals as goal

pub returns-in-Err-push-clause-fault : goal.returns-in-Err-push-clause-fault
returns-in-Err-push-clause-fault g c =
    let less : c.loop.counter < c.args.length = search rules in
    let more = c.loop.bytes.items ++ c.in-Ok-Some.byte ∷ [] in
    let counted : length more ≡ c.loop.counter + 1 =
    length_more _ _ _ _ refl c.loop.invariant.1 in (
      more,
      omega (arith, counted, less),
      given_byte _ _ _ _ _ _ _ c.in-Ok-Some.field-0-is refl c.loop.invariant.0
          c.in-Ok-Some.ensures.byte,
    )

pub returns-in-Err-push-clause-failures : goal.returns-in-Err-push-clause-failures
returns-in-Err-push-clause-failures g c = c.in-Ok-Some.ensures.failures ∙ c.loop.invariant.2

pub returns-in-Ok-None-clause-taken : goal.returns-in-Ok-None-clause-taken
returns-in-Ok-None-clause-taken g c =
    let less : c.loop.counter < c.args.length = search rules in
    let last = given_none _ _ _ _ _ c.in-Ok-None.field-0-is c.loop.invariant.0
    c.in-Ok-None.ensures.byte in
    (c.loop.bytes.items, omega (arith, c.loop.invariant.1, less), last.0, last.1)

pub returns-in-Ok-None-clause-failures : goal.returns-in-Ok-None-clause-failures
returns-in-Ok-None-clause-failures g c = c.in-Ok-None.ensures.failures ∙ c.loop.invariant.2

pub returns-in-Err-clause-fault : goal.returns-in-Err-clause-fault
returns-in-Err-clause-fault g c =
    let less : c.loop.counter < c.args.length = search rules in (
      c.loop.bytes.items,
      omega (arith, c.loop.invariant.1, less),
      Consumes-kept _ _ _ _ c.loop.invariant.0 c.in-Err.ensures.byte,
    )

pub returns-in-Err-clause-failures : goal.returns-in-Err-clause-failures
returns-in-Err-clause-failures g c =
    c.in-Err.ensures.failures ∙ ap (λ n. u64_saturate (n + 1)) c.loop.invariant.2

pub loop-preserved : goal.loop-preserved
loop-preserved g c =
    let pushed = c.in-Ok.ensures.items in (
      given_byte _ _ _ _ _ _ _ c.in-Ok-Some.field-0-is pushed c.loop.invariant.0
          c.in-Ok-Some.ensures.byte,
      length_more _ _ _ _ pushed c.loop.invariant.1,
      c.in-Ok-Some.ensures.failures ∙ c.loop.invariant.2,
    )

pub returns-clause-failures : goal.returns-clause-failures
returns-clause-failures g c = c.loop.invariant.2
