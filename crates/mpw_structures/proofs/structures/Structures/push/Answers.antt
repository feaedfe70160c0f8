-- Answers to the goals of `Structures::push` in `src/structures.rt`.
use Rattle.std.proofs.Common.{◌≡◌, ℕ, List, cond, Some, None, subst, sym, arith}
use Rattle.std.specs.BTreeMap as tree
use Rattle.std.specs.Cmp.Lexicographic.{slice_cmp}
use Rattle.std.specs.Ordering.{nat_cmp, is_eq}
use Rattle.mpw_structures.specs.declared.structures.Structure.{Structure}
use Rattle.mpw_structures.specs.Places.{place_of}
use Rattle.mpw_structures.proofs.Indexed.{indexed_push}
use Rattle.mpw_structures.proofs.structures.Structures.push.Goals as goal

pub invariant_of-self-2 : goal.invariant_of-self-2
invariant_of-self-2 c =
    let old = c.self.inside in
    let s = c.args.structure in
    let new = subst (λ (ss : List Structure). place_of ss s.name ≡ None) (sym c.self.view_is)
    c.requires in
    let updates = subst (λ (name : List ℕ). (q : List ℕ)
    → tree.get (slice_cmp nat_cmp) c.insert.new.self q ≡ cond (is_eq (slice_cmp nat_cmp name q))
    (Some c.len-place.result) (tree.get (slice_cmp nat_cmp) old.places q)) c.in_ok-name.ensures
    c.in_ok-insert.ensures.updates.0 in
    rw (c.in_ok-push.ensures.items, c.in_ok-reserve.ensures.items)
    (indexed_push old.places c.insert.new.self old.items.items s c.len-place.result
    (omega (arith, c.len-place.ensures, c.in_ok-reserve.ensures.len, old.items.ok.0))
    c.self.invariant new updates)
