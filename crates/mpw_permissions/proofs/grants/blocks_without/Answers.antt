-- Each block is filtered by itself.
use Rattle.std.proofs.Common.{◌∙◌, ◌++◌, not}
use Rattle.mpw_permissions.specs.Grant.{grant_eq}
use Rattle.mpw_permissions.proofs.BlockLemmas.{kept-next}
use Rattle.mpw_permissions.proofs.grants.blocks_without.Goals as goal

pub loop-block-preserved : goal.loop-block-preserved
loop-block-preserved c =
    c.in_ok-keep.ensures
    ∙ (λ i. c.loop-block.invariant i ++ c.in_ok-without.ensures i)
    ∙ kept-next (λ other. not (grant_eq c.args.grant.now other)) c.args.blocks.now
    c.loop-block.block-index c.block-item.result c.block-item.result c.loop-block-test.true
    c.block-item.is
