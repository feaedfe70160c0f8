-- The set is removed, and the others stay.
use Rattle.std.proofs.Common.{◌≡◌, ◌∙◌, ap, sym, subst, is_some, None, Ok, refl}
use Rattle.std.specs.Map.{lookup, values_of}
use Rattle.mpw_geom.specs.Names.{name_eq}
use Rattle.mpw_separation.specs.Internal.{with_names}
use Rattle.mpw_separation.specs.Separation.{has_set, without_set}
use Rattle.mpw_separation.proofs.NamedLemmas.{remove-entries, with_names-values, values-with_names, lookup-with_names}
use Rattle.mpw_separation.proofs.named.NamedSets.remove.Goals.{Joined-shift_remove-2, in-Some, in-None}
use Rattle.mpw_separation.proofs.named.NamedSets.remove.Goals as goal

entries : (c : Joined-shift_remove-2)
    → c.shift_remove.new.self.entries ≡ with_names (without_set c.args.self.now c.args.name.now)
entries c =
    let test = name_eq c.args.name.now in
    let is = c.shift_remove.ensures.entries in
    is ∙ remove-entries test c.self.inside.sets.entries c.args.self.now
    (c.self.invariant ∙ ap with_names c.self.view_is)
    (subst (λ es. lookup test es ≡ None) is c.shift_remove.ensures.updates.1)

there : (c : Joined-shift_remove-2)
    → is_some c.shift_remove.result ≡ has_set c.args.self.now c.args.name.now
there c =
    let test = name_eq c.args.name.now in
    ap is_some c.shift_remove.ensures.value
    ∙ ap (λ es. is_some (lookup test es)) (c.self.invariant ∙ ap with_names c.self.view_is)
    ∙ lookup-with_names test c.args.self.now

pub invariant_of-self : goal.invariant_of-self
invariant_of-self c = with_names-values _ _ (entries c)

pub returns-clause-ok : goal.returns-clause-ok
returns-clause-ok c = elim c.match-shift_remove.branch [
  | in-Some w ↦ rw w.result-is (rw (sym (there c) ∙ ap is_some w.in-Some.is)
      (ap Ok (sym (ap values_of (entries c) ∙ values-with_names _))))
  | in-None w ↦ rw w.result-is tt
]

pub returns-clause-refused : goal.returns-clause-refused
returns-clause-refused c = elim c.match-shift_remove.branch [
  | in-Some w ↦ rw w.result-is tt
  | in-None w ↦ rw w.result-is (rw (sym (there c) ∙ ap is_some w.in-None.is) refl)
]
