-- Answers to the goals of `Contents::top`.
use Rattle.mpw_columns_contents.proofs.Tops.{top_alone}
use Rattle.mpw_columns_contents.proofs.contents.Contents.top.Goals as goal

pub returns-clause-shown : goal.returns-clause-shown
returns-clause-shown c =
    top_alone c.of-layout.result c.args.shelf.now c.in-Some.array c.new-things.result.items
    c.push.new.self.items c.of-layout.ensures.shelf c.new-things.ensures.items
    c.in_ok-push.ensures.items c.in-Some.ensures.shown
