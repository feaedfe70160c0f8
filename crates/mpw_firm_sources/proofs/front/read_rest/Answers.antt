-- Answers to the goals of `read_rest` in `src/front.rt`.
use Rattle.std.proofs.lemmas.Result.{IfOk-weaker}
use Rattle.mpw_firm_sources.proofs.Fronts.{none_on, takes_none, whole_on}
use Rattle.mpw_firm_sources.proofs.front.read_rest.Goals as goal

pub returns-in-Some : goal.returns-in-Some
returns-in-Some g c =
    IfOk-weaker c.read_on.result _ _
    (λ endless p. (
      p.0,
      whole_on c.args.content c.in-Some.from _ _ _ _ _ endless c.in-Some.ensures.from
          c.as_slice.ensures.value c.requires.long p.0 p.1,
    ))
    c.read_on.ensures

pub returns-in-None : goal.returns-in-None
returns-in-None g c = (
  takes_none _ _,
  none_on c.args.content _ _ _ c.in-None.ensures.from c.as_slice.ensures.value c.requires.long,
)
