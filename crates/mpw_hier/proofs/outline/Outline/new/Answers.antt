-- Answers to the goals of `Outline::new` in `src/outline.rt`.
use Rattle.std.proofs.Common.{ℕ, ◌<◌, List, length, Option, IfSome, IfNone, Vec, Global, All, sym, ap, subst, ◌∙◌, arith}
use Rattle.mpw_geom.specs.Names.{contains_name, by_name}
use Rattle.mpw_hier.specs.Graph.{IsFromBelow}
use Rattle.mpw_hier.specs.Internal.Graph.{IsGraph, HasCycle}
use Rattle.mpw_hier.specs.Internal.Outside.{outside_from_all}
use Rattle.mpw_hier.proofs.Leading.{leads_within}
use Rattle.mpw_hier.proofs.Linking.{place_within, graph_length, graph_within, cycle_named, acyclic}
use Rattle.mpw_geom.proofs.NamesLemmas.{in_by_name}
use Rattle.mpw_hier.proofs.Shown.{shown, only_shown}
use Rattle.mpw_hier.proofs.outline.Outline.new.Goals as goal

pub order_from_below-requires-clause-graph : goal.order_from_below-requires-clause-graph
order_from_below-requires-clause-graph c =
    subst IsGraph (sym c.in_ok-graph.ensures) (graph_within c.args.library.now)

pub order_from_below-requires-clause-top : goal.order_from_below-requires-clause-top
order_from_below-requires-clause-top c =
    let ss = c.args.library.now in
    let e = sym c.position.ensures ∙ c.in-Some.is in
    rw c.in_ok-graph.ensures (omega (
      arith,
      graph_length ss,
      place_within ss c.args.top.now
          c.in-Some.place e,
    ))

pub returns-in_default-2-clause-faults : goal.returns-in_default-2-clause-faults
returns-in_default-2-clause-faults c =
    let ss = c.args.library.now in
    let place = c.in-Some.place in
    let e = sym c.position.ensures ∙ c.in-Some.is in
    let h = subst (λ (found : Option (Vec ℕ Global)).
    IfNone found (HasCycle c.in_ok-graph.graph place)) c.in_default-2.is
    c.in_ok-order.ensures.cycle in
    cycle_named ss c.args.top.now place e (subst (λ g. HasCycle g place) c.in_ok-graph.ensures h)

pub outside_from-requires : goal.outside_from-requires
outside_from-requires c =
    let ss = c.args.library.now in
    let place = c.in-Some.place in
    let e = sym c.position.ensures ∙ c.in-Some.is in
    let order = c.in-Some-2.order in
    let o = subst (λ g. IsFromBelow g place order.items) c.in_ok-graph.ensures
    (subst (λ (found : Option (Vec ℕ Global)).
    IfSome found (λ items. IsFromBelow c.in_ok-graph.graph place items.items)) c.in-Some-2.is
    c.in_ok-order.ensures.order) in
    subst (All (λ (k : ℕ). k < length ss)) (sym c.deref.ensures.value)
    (λ k d h. omega (
      arith,
      graph_length ss,
      leads_within (graph_within ss) (o.found k d h)
          (omega (arith, graph_length ss, place_within ss c.args.top.now place e)),
    ))

pub returns-clause-ok : goal.returns-clause-ok
returns-clause-ok c =
    let ss = c.args.library.now in
    let place = c.in-Some.place in
    let e = sym c.position.ensures ∙ c.in-Some.is in
    let order = c.in-Some-2.order in
    let o = subst (λ g. IsFromBelow g place order.items) c.in_ok-graph.ensures
    (subst (λ (found : Option (Vec ℕ Global)).
    IfSome found (λ items. IsFromBelow c.in_ok-graph.graph place items.items)) c.in-Some-2.is
    c.in_ok-order.ensures.order) in
    let made = c.in_ok-sort.ensures.ok
    ∙ ap by_name (c.in_ok-names.ensures ∙ ap (outside_from_all ss) c.deref.ensures.value) in
    let same = λ (name : List ℕ). ap (λ names. contains_name names name) made
    ∙ in_by_name name (outside_from_all ss order.items) in
    record {
      found = e;
      from_below = o;
      externals = record {
        place = place;
        found = e;
        acyclic = acyclic ss c.args.top.now place e order.items o;
        by_name = record { given = outside_from_all ss order.items; same = made };
        outside = λ name. (
          λ h. only_shown ss c.args.top.now place e order.items o name
              (sym (same name) ∙ h),
          λ h. same name ∙ shown ss c.args.top.now place e order.items o
              name h,
        );
      };
    }
