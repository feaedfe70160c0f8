-- The parts of a decision table, in terms of the shelf.
use Rattle.std.proofs.Common.{◌≡◌, ℕ, ◌^◌, Bool, true, false, List, [], ◌∷◌, ◌++◌, length, Option, Some, None, Result, Ok, Err, refl, sym, ap, ◌∙◌}
use Rattle.std.specs.Prelude.{slice_get, ◌↔◌}
use Rattle.mpw_structures.specs.declared.structures.Structure.{Structure}
use Rattle.mpw_structures.specs.Places.{place_of}
use Rattle.mpw_hier.specs.declared.fault.HierFault.{HierFault}
use Rattle.mpw_hier.specs.declared.fault.HierFault.TheVariants as hier
use Rattle.mpw_hier.specs.declared.submission.Submission.{Submission}
use Rattle.mpw_hier.specs.Outside.{AreExternals, IsOfExternals}
use Rattle.mpw_hier.specs.Limits.{IsFar, KeepsLimits, IsRefused, numbered}
use Rattle.mpw_hier.specs.Reach.{is_cyclic, is_far, CyclesAreFound, ExternalsAreOne, FarExtentsAreFound}
use Rattle.mpw_replies.specs.Rows.{Told}
use Rattle.mpw_layouts.specs.Internal.Answers.{fault_of}
use Rattle.mpw_layouts.specs.Layouts.{outside, within_limits}

never_true : (b : Bool) → (b ≡ true → ⊥) → b ≡ false
never_true true never = absurd (never refl)
never_true false never = refl

-- ---- names outside

pub outside-ok : CyclesAreFound → ExternalsAreOne
    → (library : List Structure) (top : List ℕ) (names : List (List ℕ))
    → AreExternals library top names → outside library top ≡ Ok names
outside-ok cycles_found externals_one library top names x =
    let free : is_cyclic library top ≡ false = never_true (is_cyclic library top)
    (λ t. x.acyclic ((cycles_found library top).0 t)) in
    rw (x.found, free) (ap (λ n. Ok n) (sym (externals_one library top names x)))

pub outside-err : CyclesAreFound → {A : Type 0} (library : List Structure) (top : List ℕ)
    (result : Result A HierFault) (fault : HierFault) → result ≡ Err fault
    → ((result ≡ Err hier.NoTop) ↔ (place_of library top ≡ None)) → IsOfExternals library top fault
    → Told (fault_of fault) (outside library top)
outside-err cycles_found library top result hier.Memory is no_top why = tt
outside-err cycles_found library top result hier.NoTop is no_top why = rw why refl
outside-err cycles_found library top result hier.Cycle is no_top why =
    go (place_of library top) refl
  where
    go : (o : Option ℕ) → place_of library top ≡ o
        → Told (fault_of hier.Cycle) (outside library top)
    go None none = absurd (let both = sym is ∙ no_top.1 none in cc)
    go (Some place) some = rw (some, (cycles_found library top).1 why) refl
outside-err cycles_found library top result hier.NoCell is no_top why = absurd why
outside-err cycles_found library top result hier.Extent is no_top why = absurd why
outside-err cycles_found library top result hier.Shapes is no_top why = absurd why
outside-err cycles_found library top result hier.Deep is no_top why = absurd why
outside-err cycles_found library top result hier.Full is no_top why = absurd why

-- ---- limits

not_far : FarExtentsAreFound → (ss : List Submission) (s : Submission) → (IsFar ss s → ⊥)
    → is_far ss s ≡ false
not_far far_found ss s near = never_true (is_far ss s) (λ t. near ((far_found ss s).0 t))

pub kept-ok : FarExtentsAreFound → (ss : List Submission) (s : Submission) → KeepsLimits (2 ^ 20) ss s
    → within_limits ss s ≡ Ok (numbered ss s)
unfolding within_limits
kept-ok far_found ss s k = rw (not_far far_found ss s k.near, k.small, k.low, k.room) refl

pub kept-err : FarExtentsAreFound → (ss : List Submission) (s : Submission) (fault : HierFault)
    → IsRefused (2 ^ 20) ss s fault → Told (fault_of fault) (within_limits ss s)
unfolding within_limits
kept-err far_found ss s hier.Memory why = tt
kept-err far_found ss s hier.Extent why = rw ((far_found ss s).1 why) refl
kept-err far_found ss s hier.Shapes why = rw (not_far far_found ss s why.0, why.1) refl
kept-err far_found ss s hier.Deep why = rw (not_far far_found ss s why.0, why.1.0, why.1.1) refl
kept-err far_found ss s hier.Full why =
    rw (not_far far_found ss s why.0, why.1.0, why.1.1.0, why.1.1.1) refl
kept-err far_found ss s hier.NoTop why = absurd why
kept-err far_found ss s hier.Cycle why = absurd why
kept-err far_found ss s hier.NoCell why = absurd why

-- the last of a list
pub last_get : {A : Type 0} (xs : List A) (x : A) → slice_get (xs ++ x ∷ []) (length xs) ≡ Some x
last_get [] x = refl
last_get (y ∷ ys) x = last_get ys x
