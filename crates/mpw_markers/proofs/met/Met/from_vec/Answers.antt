-- Answers to the goals of `Met::from_vec` in `src/met.rt`.
use Rattle.std.proofs.Common.{subst, sym, ◌∙◌, List, ℕ}
use Rattle.std.specs.Prelude.{Contains, ◌↔◌}
use Rattle.std.proofs.lemmas.Result.{IfOk-weaker}
use Rattle.mpw_markers.specs.Met.{IsAscending}
use Rattle.mpw_markers.proofs.met.Met.from_vec.Goals as goal

pub returns-clause-ascending : goal.returns-clause-ascending
returns-clause-ascending c = IfOk-weaker c.of.result _ _
    (λ met e. subst IsAscending (sym (e ∙ c.as_slice.ensures.value))
    c.sort_each_once.ensures.ascending) c.of.ensures

pub returns-clause-same : goal.returns-clause-same
returns-clause-same c =
    IfOk-weaker c.of.result _ _ (λ met e. subst (λ (ns : List ℕ). (n : ℕ)
    → Contains ns n ↔ Contains c.args.numbers.items n) (sym (e ∙ c.as_slice.ensures.value))
    c.sort_each_once.ensures.same) c.of.ensures
