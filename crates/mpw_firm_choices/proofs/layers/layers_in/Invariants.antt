-- The invariants of the loops of `layers_in` in `src/layers.rt`.
use Rattle.std.proofs.Common.{◌≡◌, ◌++◌, drop, map, option_map}
use Rattle.mpw_firm_choices.specs.Layers.{layers_in}
use Rattle.mpw_firm_choices.proofs.layers.layers_in.Given as goal

-- with those of the remaining words these are all
abbrev pub invariant-loop-word : goal.invariant-loop-word
invariant-loop-word l =
    option_map (λ more. l.layers.items ++ more) (layers_in (map (λ x. x.now) (drop l.word-index l.words)))
    ≡ layers_in (map (λ x. x.now) l.words)
