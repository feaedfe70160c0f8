-- Answers to the goals of `count_before` in `src/layers.rt`.
use Rattle.std.proofs.Common.{rules}
use Rattle.std.proofs.lemmas.List.Sorted.{IsPartitionedBy-ltb, IsPartitionPoint-from_clause}
use Rattle.mpw_work.proofs.ByLayer.{code_of, IsFront, before, behind}
use Rattle.mpw_work.proofs.layers.count_before.Goals as goal

pub returns-clause-before : goal.returns-clause-before
returns-clause-before c =
    before c.args.rectangles.now c.args.code c.partition_point.result
    (IsPartitionPoint-from_clause (IsFront c.args.code) c.args.rectangles.now
    c.partition_point.result c.partition_point.ensures.partitioned
    (IsPartitionedBy-ltb code_of c.args.rectangles.now c.args.code c.requires)
    (λ a r f k. search rules))

pub returns-clause-behind : goal.returns-clause-behind
returns-clause-behind c =
    behind c.args.rectangles.now c.args.code c.partition_point.result
    (IsPartitionPoint-from_clause (IsFront c.args.code) c.args.rectangles.now
    c.partition_point.result c.partition_point.ensures.partitioned
    (IsPartitionedBy-ltb code_of c.args.rectangles.now c.args.code c.requires)
    (λ a r f k. search rules))
