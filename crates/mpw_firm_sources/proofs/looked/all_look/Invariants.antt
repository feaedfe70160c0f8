-- The invariants of the loops of `all_look` in `src/looked.rt`.
use Rattle.std.proofs.Common.{◌≡◌, drop}
use Rattle.std.specs.Prelude.{is_none}
use Rattle.std.specs.List.{list_all}
use Rattle.mpw_firm_sources.specs.Looks.{empty_layer}
use Rattle.mpw_firm_sources.proofs.looked.all_look.Given as goal

-- each rule so far has shapes on its layers
abbrev pub invariant-loop-rule : goal.invariant-loop-rule
invariant-loop-rule l =
    list_all (λ rule. is_none (empty_layer l.snapshot rule.check)) (drop l.rule-index l.rules)
    ≡ list_all (λ rule. is_none (empty_layer l.snapshot rule.check)) l.rules
