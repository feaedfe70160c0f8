-- Answers to the goals of `Earlier::add` in `src/earlier.rt`.
use Rattle.std.proofs.Common.{ℕ, Option, length, subst, IfSome}
use Rattle.mpw_columns.specs.Internal.Like.{AreAlike}
use Rattle.mpw_columns.proofs.Blocked.{told_block}
use Rattle.mpw_columns.proofs.earlier.Earlier.+add.Goals as goal

pub returns-in-Some : goal.returns-in-Some
returns-in-Some t c =
    let l = c.args.all.now.layout.now in
    let columns = c.args.all.now.list.now in
    let n = length c.args.self.now.likes.items in
    told_block c.add_like.result l columns c.in-Some.earlier c.args.count c.args.self.now c.look.new.self
    c.add_like.new.self c.requires.told
    (subst (λ (o : Option ℕ). IfSome o (λ earlier. AreAlike l columns earlier n c.args.count)) c.in-Some.is
    c.in_ok-earlier.ensures.like)
    c.in_ok-earlier.ensures.likes c.in_ok-earlier.ensures.kept c.add_like.ensures.likes c.add_like.ensures.kept
