-- Answers to the goals of `parse` in `src/request.rt`.
use Rattle.std.proofs.Common.{◌≡◌, ◌∙◌, map, IfOk, ap, subst}
use Rattle.mpw_wire.specs.Words.{words}
use Rattle.mpw_wire.specs.Request.{ask_by}
use Rattle.mpw_wire.proofs.request.parse.Goals as goal

pub returns : goal.returns
unfolding words
returns c =
    subst (λ ws. IfOk c.ask.result (λ ask. ask ≡ ask_by c.args.origin ws))
    (ap (map (λ word. word.now)) c.deref.ensures.value ∙ c.in_ok-words.ensures) c.ask.ensures
