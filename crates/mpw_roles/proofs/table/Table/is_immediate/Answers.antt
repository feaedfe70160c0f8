-- A pair is stored as two numbers.
use Rattle.std.proofs.Common.{◌∙◌, sym, ap}
use Rattle.std.specs.List.{list_any}
use Rattle.mpw_geom.specs.Names.{contains_name}
use Rattle.mpw_roles.specs.Internal.Table.{is_pair, juniors_of}
use Rattle.mpw_roles.proofs.EntryLemmas.{linked-number, linked-unnumbered}
use Rattle.mpw_roles.proofs.PairLemmas.{pair-number, juniors-there}
use Rattle.mpw_roles.proofs.NumberLemmas.{contains-number, contains-unnumbered}
use Rattle.mpw_roles.proofs.table.Table.is_immediate.Goals as goal

pub returns-in_default : goal.returns-in_default
returns-in_default c =
    let in' = c.self.inside in
    rw (← c.self.view_is) (ap (λ l. contains_name l c.args.junior.now)
    (sym (linked-unnumbered in'.names in'.pairs.items in'.order.items c.self.invariant.known
    c.args.senior.now (sym c.in_default.ensures.number))))

pub returns-in_default-number : goal.returns-in_default-number
returns-in_default-number c =
    let in' = c.self.inside in
    let inv = c.self.invariant in
    let s = c.in-Some.senior in
    rw (← c.self.view_is) (sym (ap (λ l. contains_name l c.args.junior.now)
    (linked-number in'.names in'.pairs.items in'.order.items inv.known inv.names_once inv.between
    c.args.senior.now s c.in-Some.ensures.number)
    ∙ contains-unnumbered in'.names (juniors_of in'.pairs.items s)
    (λ k there. inv.known k (juniors-there in'.pairs.items in'.order.items s inv.between k there))
    c.args.junior.now (sym c.in_default-number.ensures.number)))

pub returns : goal.returns
returns c =
    let in' = c.self.inside in
    let inv = c.self.invariant in
    let s = c.in-Some.senior in
    let j = c.in-Some-number.junior in
    rw (← c.self.view_is) (c.has_pair.ensures
    ∙ ap (list_any (is_pair s j)) c.deref.ensures.value
    ∙ sym (ap (λ l. contains_name l c.args.junior.now)
    (linked-number in'.names in'.pairs.items in'.order.items inv.known inv.names_once inv.between
    c.args.senior.now s c.in-Some.ensures.number)
    ∙ contains-number in'.names (juniors_of in'.pairs.items s)
    (λ k there. inv.known k (juniors-there in'.pairs.items in'.order.items s inv.between k there))
    inv.names_once c.args.junior.now j c.in-Some-number.ensures.number
    ∙ pair-number in'.pairs.items s j))
