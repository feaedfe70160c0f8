-- Answers to the goals of `Earlier::like` in `src/earlier.rt`.
use Rattle.std.proofs.Common.{sym, subst, arith}
use Rattle.mpw_columns.specs.Internal.Like.{IsKept}
use Rattle.mpw_columns.proofs.earlier.Earlier.like.Goals as goal

pub are_like-requires-clause-earlier : goal.are_like-requires-clause-earlier
are_like-requires-clause-earlier c =
    let within = c.if-at-len.false in
    let long = c.len.ensures in
    (subst (IsKept c.args.all.now.layout.now) (sym c.index-kept.ensures)
    (c.requires.kept _ _ (omega (arith, within, long)))).upright

pub are_like-requires-clause-first : goal.are_like-requires-clause-first
are_like-requires-clause-first c =
    let within = c.if-at-len.false in
    let long = c.len.ensures in
    (subst (IsKept c.args.all.now.layout.now) (sym c.index-kept.ensures)
    (c.requires.kept _ _ (omega (arith, within, long)))).contents

pub returns-then-are_like : goal.returns-then-are_like
returns-then-are_like c = c.are_like.ensures c.if-are_like.true
