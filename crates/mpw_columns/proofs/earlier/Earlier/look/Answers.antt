-- Answers to the goals of `Earlier::look` in `src/earlier.rt`.
use Rattle.std.proofs.Common.{List, Option, subst, IfSome}
use Rattle.mpw_columns_contents.specs.declared.thing.Thing.{Thing}
use Rattle.mpw_columns.specs.Internal.Like.{AreContentsOf}
use Rattle.mpw_columns.proofs.Alike.{kept_more}
use Rattle.mpw_columns.proofs.earlier.Earlier.look.Goals as goal

pub returns-in_ok-keep-in-None-clause-kept : goal.returns-in_ok-keep-in-None-clause-kept
returns-in_ok-keep-in-None-clause-kept c =
    let l = c.args.all.now.layout.now in
    kept_more l (record { block = c.in-Some.block; contents = c.in-Some-2.contents })
    c.args.self.now.kept.items c.keep.new.self.kept.items c.requires.kept
    (record {
      upright = c.in-Some.ensures.upright;
      contents = subst (λ (o : Option (List Thing)). IfSome o (λ things. AreContentsOf l c.in-Some.block.whole things))
          c.in-Some-2.is c.in_ok-contents.ensures;
    })
    c.in_ok-keep-in-None.ensures.kept
