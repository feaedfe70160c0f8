-- Answers to the goals of `take_line` in `src/line.rt`.
use Rattle.std.proofs.Common.{rules, arith, ◌<◌, ◌≡◌, ◌≤◌, ◌++◌, ◌∷◌, ◌+◌, [], length, inl, inr, refl, ap, ◌∙◌, Some}
use Rattle.std.proofs.KnownBytes.{Consumes-kept}
use Rattle.std.specs.Io.Iter.{u64_saturate}
use Rattle.mpw_wire.proofs.ReadingLemmas.{given_byte, given_none, length_more, unbroken_more}
use Rattle.mpw_wire.proofs.line.take_line.Goals as goal

pub returns-in-Ok-Some-eq10-clause-taken : goal.returns-in-Ok-Some-eq10-clause-taken
returns-in-Ok-Some-eq10-clause-taken g c =
    let less : c.loop.counter < 4097 = search rules in (
      c.loop.invariant.1,
      omega (arith, c.loop.invariant.2, less),
      inl (given_byte _ _ _ _ _ _ 10
          (c.in-Ok-Some-eq10.field-0-is ∙ ap (λ b. Some b) c.in-Ok-Some-eq10.field-0-0-test) refl
          c.loop.invariant.0 c.in-Ok-Some-eq10.ensures.byte),
    )

pub returns-in-Ok-Some-eq10-clause-failures : goal.returns-in-Ok-Some-eq10-clause-failures
returns-in-Ok-Some-eq10-clause-failures g c =
    c.in-Ok-Some-eq10.ensures.failures ∙ c.loop.invariant.3

pub returns-in-Err-push-clause-fault : goal.returns-in-Err-push-clause-fault
returns-in-Err-push-clause-fault g c =
    let less : c.loop.counter < 4097 = search rules in
    let more = c.loop.line.items ++ c.in-Ok-Some.byte ∷ [] in
    let counted : length more ≡ c.loop.counter + 1 =
    length_more _ _ _ _ refl c.loop.invariant.2 in
    inl (
      more,
      unbroken_more _ _ _ refl c.loop.invariant.1 c.in-Ok-Some.byte-test.1,
      omega (arith, counted, less),
      given_byte _ _ _ _ _ _ _ c.in-Ok-Some.field-0-is refl c.loop.invariant.0
          c.in-Ok-Some.ensures.byte,
    )

pub returns-in-Err-push-clause-failures : goal.returns-in-Err-push-clause-failures
returns-in-Err-push-clause-failures g c = c.in-Ok-Some.ensures.failures ∙ c.loop.invariant.3

pub returns-in-Ok-None-clause-failures : goal.returns-in-Ok-None-clause-failures
returns-in-Ok-None-clause-failures g c = c.in-Ok-None.ensures.failures ∙ c.loop.invariant.3

pub returns-in-Ok-None-2-clause-taken : goal.returns-in-Ok-None-2-clause-taken
returns-in-Ok-None-2-clause-taken g c =
    let less : c.loop.counter < 4097 = search rules in
    let some : 1 ≤ length c.loop.line.items = search rules in
    let last = given_none _ _ _ _ _ c.in-Ok-None.field-0-is c.loop.invariant.0
    c.in-Ok-None.ensures.byte in (
      c.loop.invariant.1,
      omega (arith, c.loop.invariant.2, less),
      inr (some, last.0, last.1),
    )

pub returns-in-Ok-None-2-clause-failures : goal.returns-in-Ok-None-2-clause-failures
returns-in-Ok-None-2-clause-failures g c = c.in-Ok-None.ensures.failures ∙ c.loop.invariant.3

pub returns-in-Err-clause-fault : goal.returns-in-Err-clause-fault
returns-in-Err-clause-fault g c =
    let less : c.loop.counter < 4097 = search rules in (
      c.loop.line.items,
      c.loop.invariant.1,
      omega (arith, c.loop.invariant.2, less),
      Consumes-kept _ _ _ _ c.loop.invariant.0 c.in-Err.ensures.byte,
    )

pub returns-in-Err-clause-failures : goal.returns-in-Err-clause-failures
returns-in-Err-clause-failures g c =
    c.in-Err.ensures.failures ∙ ap (λ n. u64_saturate (n + 1)) c.loop.invariant.3

pub loop-preserved : goal.loop-preserved
loop-preserved g c =
    let pushed = c.in-Ok.ensures.items in (
      given_byte _ _ _ _ _ _ _ c.in-Ok-Some.field-0-is pushed c.loop.invariant.0
          c.in-Ok-Some.ensures.byte,
      unbroken_more _ _ _ pushed c.loop.invariant.1 c.in-Ok-Some.byte-test.1,
      length_more _ _ _ _ pushed c.loop.invariant.2,
      c.in-Ok-Some.ensures.failures ∙ c.loop.invariant.3,
    )

pub returns-clause-taken : goal.returns-clause-taken
returns-clause-taken g c = (c.loop.line.items, c.loop.invariant.1, search rules, c.loop.invariant.0)

pub returns-clause-failures : goal.returns-clause-failures
returns-clause-failures g c = c.loop.invariant.3
