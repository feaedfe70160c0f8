-- Answers to the goals of `Layout::put_array` in `src/opening.rt`.
use Rattle.std.proofs.lemmas.Result.{on_ok_weaker}
use Rattle.mpw_walk.proofs.Fronts.{found}
use Rattle.mpw_columns_contents.proofs.Arrays.{near, nothing_shown, none_left, some_left}
use Rattle.mpw_columns_contents.proofs.layout.Layout.put_array.Goals as goal

pub returns-in_default-extent : goal.returns-in_default-extent
returns-in_default-extent c =
    let l = c.args.self.now in
    let a = c.args.array in
    let at = found l.nodes.now a.node c.get.result c.in-Some.node c.in-Some.is
    c.get.ensures.lookup.0 c.get.ensures.lookup.1 in
    nothing_shown c.names_are_opened.ensures l c.requires.layout a c.requires.array
    c.in-Some.node.now at c.in_default-extent.is c.args.things.now.items

pub fitted-requires-clause-near : goal.fitted-requires-clause-near
fitted-requires-clause-near c =
    let l = c.args.self.now in
    let a = c.args.array in
    let at = found l.nodes.now a.node c.get.result c.in-Some.node c.in-Some.is
    c.get.ensures.lookup.0 c.get.ensures.lookup.1 in
    near c.names_are_opened.ensures l c.requires.layout a c.requires.array c.in-Some.node.now at
    c.in-Some-extent.extent c.in-Some-extent.is

pub returns-in-Some-fitted : goal.returns-in-Some-fitted
returns-in-Some-fitted c =
    let l = c.args.self.now in
    let a = c.args.array in
    let at = found l.nodes.now a.node c.get.result c.in-Some.node c.in-Some.is
    c.get.ensures.lookup.0 c.get.ensures.lookup.1 in
    on_ok_weaker c.push.result
    (λ e. some_left c.names_are_opened.ensures l c.requires.layout a c.requires.array
    c.in-Some.node.now at c.in-Some-extent.extent c.in-Some-extent.is
    c.in-Some-fitted.array c.in-Some-fitted.ensures.some c.args.things.now.items
    c.push.new.things.items e) c.push.ensures.added

pub returns-in-None : goal.returns-in-None
returns-in-None c =
    let l = c.args.self.now in
    let a = c.args.array in
    let at = found l.nodes.now a.node c.get.result c.in-Some.node c.in-Some.is
    c.get.ensures.lookup.0 c.get.ensures.lookup.1 in
    none_left c.names_are_opened.ensures l c.requires.layout a c.requires.array c.in-Some.node.now
    at c.in-Some-extent.extent c.in-Some-extent.is
    c.in-None.ensures.none c.args.things.now.items
