-- The new set is added at the end.
use Rattle.std.proofs.Common.{◌≡◌, ◌∙◌, ◌++◌, ◌∷◌, [], ap, sym, false, true, Ok, arith}
use Rattle.std.specs.Map.{values_of}
use Rattle.std.specs.Prelude.{nat_lt, length}
use Rattle.std.proofs.lemmas.Bool.{lt-ltb}
use Rattle.indexmap.specs.IndexMap.{insert_entry}
use Rattle.mpw_geom.specs.Names.{name_eq}
use Rattle.mpw_separation.specs.Internal.{with_names}
use Rattle.mpw_separation.specs.Separation.{has_set}
use Rattle.mpw_separation.proofs.NamedLemmas.{insert-with_names, with_names-values, values-with_names}
use Rattle.mpw_separation.proofs.named.NamedSets.make.Goals.{Joined-branch-3}
use Rattle.mpw_separation.proofs.named.NamedSets.make.Goals as goal

new : (c : Joined-branch-3) → has_set c.args.self.now c.args.set.name ≡ false
new c = sym (c.contains.ensures ∙ ap (has_set c.args.self.now) c.name.ensures) ∙ c.if-contains.false

entries : (c : Joined-branch-3)
    → c.insert.new.self.entries ≡ with_names (c.args.self.now ++ c.args.set ∷ [])
entries c = c.in_ok-insert.ensures.entries
    ∙ (λ t. insert_entry name_eq ((c.self.invariant ∙ ap with_names c.self.view_is) t)
    ((c.in_ok-name.ensures ∙ c.name-2.ensures) t) c.args.set)
    ∙ insert-with_names c.args.self.now c.args.set (new c)

pub invariant_of-self-2 : goal.invariant_of-self-2
invariant_of-self-2 c = with_names-values _ _ (entries c)

pub returns-clause-ok : goal.returns-clause-ok
returns-clause-ok c =
    let added = ap values_of (entries c) ∙ values-with_names _ in
    let room : nat_lt (length c.args.self.now) 64 ≡ true =
    lt-ltb _ _ (omega (arith, c.len.ensures, c.if-len-ge-MAX_SETS.false)) in
    rw (new c, room) (ap Ok (sym added))
