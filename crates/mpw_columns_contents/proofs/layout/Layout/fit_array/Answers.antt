-- Answers to the goals of `Layout::fit_array` in `src/part.rt`.
use Rattle.std.proofs.Common.{arith}
use Rattle.std.proofs.lemmas.Result.{on_ok_weaker}
use Rattle.mpw_walk.proofs.Fronts.{found}
use Rattle.mpw_columns_contents.specs.declared.thing.Thing.TheVariants as things
use Rattle.mpw_columns_contents.specs.Things.{thing_items}
use Rattle.mpw_columns_contents.proofs.Adding.{adds_through}
use Rattle.mpw_columns_contents.proofs.Arrays.{own_array, near, nothing_shown, none_left, left_is, left_shows}
use Rattle.mpw_columns_contents.proofs.layout.Layout.fit_array.Goals as goal

pub returns-in_default-extent : goal.returns-in_default-extent
returns-in_default-extent c =
    let l = c.args.self.now in
    let a = c.args.array.now in
    let at = found l.nodes.now a.node c.get.result c.in-Some.node c.in-Some.is
    c.get.ensures.lookup.0 c.get.ensures.lookup.1 in
    let h = own_array l a c.in-Some.node.now at (omega (arith, c.if-node-array.false))
    c.requires.near in
    nothing_shown c.requires.law l c.requires.layout a h c.in-Some.node.now at
    c.in_default-extent.is c.args.things.now.items

pub fitted-requires-clause-near : goal.fitted-requires-clause-near
fitted-requires-clause-near c =
    let l = c.args.self.now in
    let a = c.args.array.now in
    let at = found l.nodes.now a.node c.get.result c.in-Some.node c.in-Some.is
    c.get.ensures.lookup.0 c.get.ensures.lookup.1 in
    let h = own_array l a c.in-Some.node.now at (omega (arith, c.if-node-array.false))
    c.requires.near in
    near c.requires.law l c.requires.layout a h c.in-Some.node.now at
    c.in-Some-extent.extent c.in-Some-extent.is

pub pass_array-requires-clause-array : goal.pass_array-requires-clause-array
pass_array-requires-clause-array c =
    let l = c.args.self.now in
    let a = c.args.array.now in
    let at = found l.nodes.now a.node c.get.result c.in-Some.node c.in-Some.is
    c.get.ensures.lookup.0 c.get.ensures.lookup.1 in
    let h = own_array l a c.in-Some.node.now at (omega (arith, c.if-node-array.false))
    c.requires.near in
    left_is c.requires.law l c.requires.layout a h c.in-Some.node.now at
    c.in-Some-extent.extent c.in-Some-fitted.array c.in-Some-fitted.ensures.some

pub returns-in-Some-fitted : goal.returns-in-Some-fitted
returns-in-Some-fitted c =
    let l = c.args.self.now in
    let a = c.args.array.now in
    let at = found l.nodes.now a.node c.get.result c.in-Some.node c.in-Some.is
    c.get.ensures.lookup.0 c.get.ensures.lookup.1 in
    let h = own_array l a c.in-Some.node.now at (omega (arith, c.if-node-array.false))
    c.requires.near in
    let b = c.in-Some-fitted.array in
    on_ok_weaker c.pass_array.result
    (λ more. adds_through l (thing_items l.shelf.now (things.Array a))
    (thing_items l.shelf.now (things.Array b)) c.args.things.now.items
    c.pass_array.new.things.items
    (left_shows c.requires.law l c.requires.layout a h c.in-Some.node.now at
    c.in-Some-extent.extent c.in-Some-extent.is b c.in-Some-fitted.ensures.some) more)
    c.pass_array.ensures

pub returns-in-None : goal.returns-in-None
returns-in-None c =
    let l = c.args.self.now in
    let a = c.args.array.now in
    let at = found l.nodes.now a.node c.get.result c.in-Some.node c.in-Some.is
    c.get.ensures.lookup.0 c.get.ensures.lookup.1 in
    let h = own_array l a c.in-Some.node.now at (omega (arith, c.if-node-array.false))
    c.requires.near in
    none_left c.requires.law l c.requires.layout a h c.in-Some.node.now at
    c.in-Some-extent.extent c.in-Some-extent.is c.in-None.ensures.none c.args.things.now.items

pub fit_single-requires-clause-array : goal.fit_single-requires-clause-array
fit_single-requires-clause-array c =
    let l = c.args.self.now in
    let a = c.args.array.now in
    let at = found l.nodes.now a.node c.get.result c.in-Some.node c.in-Some.is
    c.get.ensures.lookup.0 c.get.ensures.lookup.1 in
    own_array l a c.in-Some.node.now at (omega (arith, c.if-node-array.false)) c.requires.near

pub fit_single-requires-clause-extent : goal.fit_single-requires-clause-extent
fit_single-requires-clause-extent c =
    let l = c.args.self.now in
    let a = c.args.array.now in record {
      node = c.in-Some.node.now;
      at = found l.nodes.now a.node c.get.result c.in-Some.node c.in-Some.is
          c.get.ensures.lookup.0 c.get.ensures.lookup.1;
      structure = omega (arith, c.if-node-array.false);
      extent_is = c.in-Some-extent.is;
    }
