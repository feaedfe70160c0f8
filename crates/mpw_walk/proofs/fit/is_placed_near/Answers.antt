-- Answers to the goals of `is_placed_near` in `src/fit.rt`.
use Rattle.std.proofs.Common.{◌≡◌, Bool, false, IsTrue, sym, ◌∙◌}
use Rattle.mpw_walk.proofs.Close.{far_placed}
use Rattle.mpw_walk.proofs.fit.is_placed_near.Goals as goal

not_true : (b : Bool) → b ≡ false → IsTrue b → ⊥
not_true b e t = absurd cc

pub returns-else-is_short : goal.returns-else-is_short
returns-else-is_short c =
    c.if-is_short.false ∙ sym (far_placed c.args.placing c.args.b c.requires
    (λ w. not_true c.is_short.result c.if-is_short.false (c.is_short.ensures.1 w)))
