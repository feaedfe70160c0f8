-- Answers to the goals of `Shelf::bind` in `src/shelf.rt`.
use Rattle.std.proofs.Common.{◌+◌, drop, sym, ap, ◌∙◌, append-nil}
use Rattle.std.proofs.lemmas.List.{at_drop_all}
use Rattle.mpw_hier.specs.Shelf.{bound_before, bound_to}
use Rattle.mpw_hier.proofs.Bound.{bound_behind, bound_more, bound_one}
use Rattle.mpw_hier.proofs.shelf.Shelf.bind.Goals as goal

pub returns-in_default-clause-faults : goal.returns-in_default-clause-faults
returns-in_default-clause-faults c =
    let ss = c.args.self.now in
    let names = c.args.names.now in
    let none = sym c.present.ensures ∙ c.in_default.is in
    let here = bound_more ss names c.loop-name.name-index c.name-item.result c.loop-name-test.true
    c.name-item.is ∙ ap (λ o. bound_before c.name-item.result o
    (bound_to ss (drop (c.loop-name.name-index + 1) names))) none in
    sym c.loop-name.invariant ∙ ap (bound_behind c.loop-name.bindings.items) here

pub loop-name-preserved : goal.loop-name-preserved
loop-name-preserved c =
    let ss = c.args.self.now in
    let names = c.args.names.now in
    let rest = bound_to ss (drop (c.loop-name.name-index + 1) names) in
    let some = sym c.present.ensures ∙ c.in-Some.is in
    let here = bound_more ss names c.loop-name.name-index c.name-item.result c.loop-name-test.true
    c.name-item.is ∙ ap (λ o. bound_before c.name-item.result o rest) some in
    rw (
      c.in_ok-push.ensures.items,
      c.in_ok-name.ensures,
      bound_one c.loop-name.bindings.items
          (record { name = c.name-item.result; submission = c.in-Some.submission }) rest,
      ← here,
    )
    c.loop-name.invariant

pub returns-clause-ok : goal.returns-clause-ok
unfolding bound_to
returns-clause-ok c =
    let ss = c.args.self.now in
    let all =
    at_drop_all (bound_to ss) c.args.names.now c.loop-name.name-index c.loop-name-test.false in
    rw c.in_ok-from_vec.ensures (sym (rw append-nil at (rw all at c.loop-name.invariant)))
