-- The decision tables of a set of either kind, and the policy after them.
use Rattle.std.proofs.Common.{[], ◌≡◌, Bool, true, false, cond, not, ◌⊎◌, inl, inr, List, ◌∷◌, ◌++◌, length, Ok, Err, Some, None, refl, sym, ap, subst, ◌∙◌}
use Rattle.std.specs.Prelude.{nat_lt}
use Rattle.std.specs.List.{list_all}
use Rattle.mpw_roles.specs.Decided.{decided}
use Rattle.mpw_roles.specs.Hierarchy.{is_role}
use Rattle.mpw_separation.specs.declared.fault.SetsFault.{SetsFault}
use Rattle.mpw_separation.specs.declared.fault.SetsFault.TheVariants as set_faults
use Rattle.mpw_separation.specs.declared.set.Kind.{Kind}
use Rattle.mpw_separation.specs.declared.set.Kind.TheVariants.{Static, Dynamic}
use Rattle.mpw_separation.specs.Rows.{make}
use Rattle.mpw_separation.specs.Separation.{Sets, sets_of, least_broken, is_broken, has_set}
use Rattle.mpw_separation.specs.Set.{SeparationSet}
use Rattle.mpw_rbac.specs.declared.refusal.Refusal.TheVariants.{Full}
use Rattle.mpw_rbac.specs.Fault.{fault_of_sets}
use Rattle.mpw_rbac.specs.Internal.Kinds.{other, kind_sets, sets_with, with_sets, bound_lists, set_refusal, make_set}
use Rattle.mpw_rbac.specs.Laws.{KeepsSound}
use Rattle.mpw_rbac.specs.Policy.{Policy}
use Rattle.mpw_rbac.specs.Rows as rows
use Rattle.mpw_rbac.specs.Sound.{Sound}
use Rattle.mpw_rbac.proofs.HolderLemmas.{least-new}
use Rattle.mpw_rbac.proofs.KeepLemmas.{kind-holds}
use Rattle.mpw_rbac.proofs.LawLemmas.{sound-ssd, sound-dsd}

-- sets of which only those of one kind have changed
pub changed-sets : (kind : Kind) (old new : Sets) (left : List SeparationSet)
    → sets_of kind new ≡ left → sets_of (other kind) new ≡ sets_of (other kind) old
    → new ≡ sets_with kind old left
changed-sets Static old new left is others = λ i. record { ssd = is i; dsd = others i }
changed-sets Dynamic old new left is others = λ i. record { ssd = others i; dsd = is i }

pub sound-made : (kind : Kind) (set : SeparationSet) → nat_lt 0 set.cardinality ≡ true
    → KeepsSound (λ p. make_set kind p set)
sound-made Static set = sound-ssd set
sound-made Dynamic set = sound-dsd set

-- a new name is refused only if there is no room
full-fault : (sets : List SeparationSet) (set : SeparationSet) (fault : SetsFault)
    → has_set sets set.name ≡ false → make sets set ≡ Err fault → (nat_lt (length sets) 64 ≡ false)
    × (fault ≡ set_faults.Full)
full-fault sets set fault new e = by (has_set sets set.name) (nat_lt (length sets) 64) new e
  where
    by : (x y : Bool) → x ≡ false → decided ((not x, set_faults.Known) ∷ (y, set_faults.Full) ∷ [])
        (sets ++ set ∷ []) ≡ Err fault → (y ≡ false) × (fault ≡ set_faults.Full)
    by true y n f = cc
    by false true n f = cc
    by false false n f = (refl, cc)

-- what the decision table of a new set answers, by whether the set is broken
pub record TellsSet (kind : Kind) (p : Policy) (set : SeparationSet) : Type 0 where
  pub made : is_broken p.roles (bound_lists kind p) set ≡ false
      → nat_lt (length (kind_sets kind p)) 64 ≡ true
      → make_set kind p set ≡ Ok (with_sets kind p (kind_sets kind p ++ set ∷ []))
  pub broken : is_broken p.roles (bound_lists kind p) set ≡ true
      → make_set kind p set ≡ Err (set_refusal kind set.name)
  pub refused : is_broken p.roles (bound_lists kind p) set ≡ false → (fault : SetsFault)
      → (fault ≡ set_faults.Memory) ⊎ (make (kind_sets kind p) set ≡ Err fault)
      → rows.IsFaultOf (make_set kind p set) (fault_of_sets fault)

-- a new name, and roles that exist
module _ (kind : Kind) (p : Policy) (set : SeparationSet) (s : Sound p)
    (new : has_set (kind_sets kind p) set.name ≡ false)
    (known : list_all (is_role p.roles) set.roles ≡ true) where
  least : (b : Bool) → is_broken p.roles (bound_lists kind p) set ≡ b
      → least_broken p.roles (kind_sets kind p ++ set ∷ []) (bound_lists kind p)
      ≡ cond b (Some set.name) None
  least b is = least-new p.roles (kind_sets kind p) set (bound_lists kind p) (kind-holds kind p s)
      ∙ ap (λ x. cond x (Some set.name) None) is

  set-made : is_broken p.roles (bound_lists kind p) set ≡ false
      → nat_lt (length (kind_sets kind p)) 64 ≡ true
      → make_set kind p set ≡ Ok (with_sets kind p (kind_sets kind p ++ set ∷ []))
  set-made apart room =
      let none : least_broken p.roles (kind_sets kind p ++ set ∷ []) (bound_lists kind p) ≡ None =
      least false apart in
      rw (new, known, none, room)

  set-broken : is_broken p.roles (bound_lists kind p) set ≡ true
      → make_set kind p set ≡ Err (set_refusal kind set.name)
  set-broken broken =
      let some : least_broken p.roles (kind_sets kind p ++ set ∷ []) (bound_lists kind p)
      ≡ Some set.name = least true broken in
      rw (new, known, some)

  set-full : is_broken p.roles (bound_lists kind p) set ≡ false
      → nat_lt (length (kind_sets kind p)) 64 ≡ false → make_set kind p set ≡ Err Full
  set-full apart full =
      let none : least_broken p.roles (kind_sets kind p ++ set ∷ []) (bound_lists kind p) ≡ None =
      least false apart in
      rw (new, known, none, full)

  set-refused : is_broken p.roles (bound_lists kind p) set ≡ false → (fault : SetsFault)
      → (fault ≡ set_faults.Memory) ⊎ (make (kind_sets kind p) set ≡ Err fault)
      → rows.IsFaultOf (make_set kind p set) (fault_of_sets fault)
  set-refused apart fault (inl memory) =
      subst (λ f. rows.IsFaultOf (make_set kind p set) (fault_of_sets f)) (sym memory) tt
  set-refused apart fault (inr refused) =
      let is = full-fault (kind_sets kind p) set fault new refused in
      subst (λ f. rows.IsFaultOf (make_set kind p set) (fault_of_sets f)) (sym is.1)
      (set-full apart is.0)

  pub tells-set : TellsSet kind p set
  tells-set = record { made = set-made; broken = set-broken; refused = set-refused }
