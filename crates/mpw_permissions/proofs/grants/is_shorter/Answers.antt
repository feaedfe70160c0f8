-- A block that doesn't fit leaves no room.
use Rattle.std.proofs.Common.{sym, ap, length, ◌++◌, arith}
use Rattle.std.specs.List.{flat_map}
use Rattle.std.proofs.lemmas.List.{length-append}
use Rattle.mpw_permissions.proofs.BlockLemmas.{flat-long, not_less}
use Rattle.mpw_permissions.proofs.grants.is_shorter.Goals as goal

pub returns-then-count-room : goal.returns-then-count-room
returns-then-count-room c =
    let flat = flat_map (λ b. b) c.args.blocks.now in
    let last = c.args.last.now in
    let long = flat-long c.args.blocks.now c.loop-block.block-index c.block-item.result
    c.block-item.result c.loop-block-test.true c.block-item.is in
    let same = ap length c.as_slice-count.ensures in
    let over = c.if-count-room.true in
    let room = c.loop-block.invariant in
    let all = length-append flat last in
    sym (not_less (length (flat ++ last)) c.args.limit (omega (arith, long, same, over, room, all)))
