-- Answers to the goals of `Hierarchy::link` in `src/hierarchy.rt`.
use Rattle.std.proofs.Common.{length, refl, sym, ap, subst, ◌∙◌, arith}
use Rattle.std.specs.Option.{IfSome, option_copied}
use Rattle.std.proofs.lemmas.Option.{slice_get_read}
use Rattle.mpw_hier.specs.Sizes.{IsSizeOf}
use Rattle.mpw_hier.specs.Values.{flat, height}
use Rattle.mpw_hier.proofs.Linked.{place_known, own_within, own_node, own_size, outer_within, outer_size, some_size}
use Rattle.mpw_hier.proofs.hierarchy.Hierarchy.link.Goals as goal

pub index-requires-in-Some : goal.index-requires-in-Some
index-requires-in-Some c =
    let w = c.requires.linked in
    let name = c.args.name.now in
    let named = c.in-Some.ensures in
    let at = place_known _ _ _ _ _ w name c.in-Some.place c.unwrap-number.result c.index.result.now
    named c.index.ensures c.unwrap-number.ensures in
    omega (
      arith,
      own_within _ _ _ _ _ w name c.in-Some.place c.unwrap-number.result at,
      c.args.self.now.nodes.ok.0,
    )

pub returns-in-Some-clause-target : goal.returns-in-Some-clause-target
returns-in-Some-clause-target c =
    let w = c.requires.linked in
    let name = c.args.name.now in
    let named = c.in-Some.ensures in
    let at = place_known _ _ _ _ _ w name c.in-Some.place c.unwrap-number.result c.index.result.now
    named c.index.ensures c.unwrap-number.ensures in
    own_node _ _ _ _ _ w name c.in-Some.place c.unwrap-number.result (sym named) at

pub returns-in-Some-clause-size : goal.returns-in-Some-clause-size
returns-in-Some-clause-size c =
    let w = c.requires.linked in
    let name = c.args.name.now in
    let named = c.in-Some.ensures in
    let nodes = c.args.self.now.nodes.items in
    let at = place_known _ _ _ _ _ w name c.in-Some.place c.unwrap-number.result c.index.result.now
    named c.index.ensures c.unwrap-number.ensures in
    let within = own_within _ _ _ _ _ w name c.in-Some.place c.unwrap-number.result at in
    own_size _ _ _ _ _ w name c.in-Some.place c.unwrap-number.result c.index-in-Some.result.now
    (sym named) at (slice_get_read nodes (length nodes) c.unwrap-number.result
    c.index-in-Some.result.now refl within c.index-in-Some.ensures)

pub unwrap-size-requires : goal.unwrap-size-requires
unwrap-size-requires c =
    let w = c.requires.linked in
    let name = c.args.name.now in
    let none = sym (c.in-None.ensures) in
    let n = c.unwrap-number-in-None.result.now in
    let bound = sym (w.bindings.at name) ∙ sym c.get.ensures.value
    ∙ ap option_copied c.unwrap-number-in-None.ensures in
    some_size c.args.self.now.shelf.now n c.size.result
    (outer_within _ _ _ _ _ w name n c.requires.known none bound) c.size.ensures.none

pub returns-in-None-clause-size : goal.returns-in-None-clause-size
returns-in-None-clause-size c =
    let w = c.requires.linked in
    let name = c.args.name.now in
    let ss = c.args.self.now.shelf.now in
    let none = sym (c.in-None.ensures) in
    let n = c.unwrap-number-in-None.result.now in
    let bound = sym (w.bindings.at name) ∙ sym c.get.ensures.value
    ∙ ap option_copied c.unwrap-number-in-None.ensures in
    outer_size _ _ _ _ _ w name n c.unwrap-size.result none bound
    (subst (λ o. IfSome o (IsSizeOf (flat ss n) (height ss n))) c.unwrap-size.ensures
    c.size.ensures.some)
