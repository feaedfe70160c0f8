-- The invariants of the loops of `is_named` in `src/named.rt`.
use Rattle.std.proofs.Common.{◌≡◌, drop}
use Rattle.mpw_firm_layers.specs.Unnamed.{is_named}
use Rattle.mpw_firm_layers.proofs.named.is_named.Given as goal

-- none of the rules so far names the layer
abbrev pub invariant-loop-rule : goal.invariant-loop-rule
invariant-loop-rule l = is_named (drop l.rule-index l.rules) l.layer ≡ is_named l.rules l.layer
