-- Answers to the goals of `Shared::first_markers` in `src/placed.rt`.
use Rattle.std.proofs.Common.{◌≡◌, ◌∙◌, ℕ, map, ap, refl, arith}
use Rattle.mpw_columns_keys.specs.Keys.{of_first}
use Rattle.mpw_columns_keys.specs.Firsts.{first_placed}
use Rattle.mpw_columns_keys.proofs.Room.{next_first}
use Rattle.mpw_columns_keys.proofs.placed.Shared.first_markers.Goals as goal

pub loop-rule-preserved : goal.loop-rule-preserved
loop-rule-preserved c =
    let shared = c.args.self.now in (
      omega (arith, c.loop-rule-test.true),
      next_first c.args.most shared.firsts.now shared.upright.now shared.across.now c.loop-rule.rule
          (record { markers = c.loop-rule.together.markers; room = c.args.most })
          c.add_rule.new.together refl c.loop-rule.invariant.1 c.in_ok-add_rule.ensures,
    )

pub returns : goal.returns
returns c =
    let shared = c.args.self.now in
    let reached = c.loop-rule.invariant.0 in
    let all : c.loop-rule.rule ≡ c.args.rules = omega (arith, reached, c.loop-rule-test.false) in
    c.loop-rule.invariant.1
    ∙ ap (λ (n : ℕ). map of_first (first_placed c.args.most shared.firsts.now shared.upright.now
    shared.across.now n)) all
