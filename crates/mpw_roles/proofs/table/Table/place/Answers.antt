-- A role's index is that of its name's number.
use Rattle.std.proofs.Common.{◌∙◌, sym, ap, is_some, eqb}
use Rattle.std.specs.Prelude.{position}
use Rattle.mpw_geom.specs.Names.{name_eq}
use Rattle.mpw_roles.specs.Hierarchy.{role_names}
use Rattle.mpw_roles.specs.Internal.Table.{entries_of}
use Rattle.mpw_roles.proofs.EntryLemmas.{place-found, place-none, distinct-entries, role-unnumbered}
use Rattle.mpw_roles.proofs.PositionLemmas.{position-any}
use Rattle.mpw_roles.proofs.table.Table.place.Goals as goal

pub returns-in-Some-clause-place : goal.returns-in-Some-clause-place
returns-in-Some-clause-place c =
    let in' = c.self.inside in
    let inv = c.self.invariant in
    rw (← c.self.view_is) (c.place_of.ensures
    ∙ ap (position (λ m. eqb c.in-Some.number m)) c.deref.ensures.value
    ∙ place-found in'.names in'.pairs.items in'.order.items inv.known inv.names_once c.args.role.now
    c.in-Some.number c.in-Some.ensures.number)

pub returns-in-Some-clause-found : goal.returns-in-Some-clause-found
returns-in-Some-clause-found c =
    let in' = c.self.inside in
    let inv = c.self.invariant in
    let names = role_names (entries_of in'.names in'.pairs.items in'.order.items) in
    rw (← c.self.view_is) (ap is_some (c.place_of.ensures
    ∙ ap (position (λ m. eqb c.in-Some.number m)) c.deref.ensures.value
    ∙ place-found in'.names in'.pairs.items in'.order.items inv.known inv.names_once c.args.role.now
    c.in-Some.number c.in-Some.ensures.number)
    ∙ position-any (name_eq c.args.role.now) names)

pub returns-in-Some-clause-once : goal.returns-in-Some-clause-once
returns-in-Some-clause-once c = let in' = c.self.inside in let inv = c.self.invariant in
    rw (← c.self.view_is)
    (distinct-entries in'.names in'.pairs.items in'.order.items inv.known inv.names_once inv.once)

pub returns-in-None-clause-place : goal.returns-in-None-clause-place
returns-in-None-clause-place c = let in' = c.self.inside in
    rw (← c.self.view_is) (place-none in'.names in'.pairs.items in'.order.items
    c.self.invariant.known
    c.args.role.now (sym c.in-None.ensures.number))

pub returns-in-None-clause-found : goal.returns-in-None-clause-found
returns-in-None-clause-found c = let in' = c.self.inside in
    rw (← c.self.view_is) (sym (role-unnumbered in'.names in'.pairs.items in'.order.items
    c.self.invariant.known c.args.role.now (sym c.in-None.ensures.number)))

pub returns-in-None-clause-once : goal.returns-in-None-clause-once
returns-in-None-clause-once c = let in' = c.self.inside in let inv = c.self.invariant in
    rw (← c.self.view_is)
    (distinct-entries in'.names in'.pairs.items in'.order.items inv.known inv.names_once inv.once)
