-- The masks of the sets stay right, and say which sets are broken.
use Rattle.std.proofs.Common.{◌≡◌, ℕ, zero, suc, ◌+◌, ◌<◌, true, false, ◌||◌, List, [], ◌∷◌, ◌++◌, length, take, get_or, Some, Ok, sym, ap, subst, ◌∙◌, arith}
use Rattle.std.specs.Prelude.{slice_get}
use Rattle.std.proofs.lemmas.List.{take_more}
use Rattle.mpw_roles.specs.Hierarchy.{Name, Hierarchy, role_names}
use Rattle.mpw_roles.specs.Rows as hierarchy
use Rattle.mpw_roles.proofs.CallerLemmas.{names-with_juniors, or_right}
use Rattle.mpw_separation.proofs.BrokenLemmas.{broken-last}
use Rattle.mpw_separation.specs.Placed.{KeptSets, AreSetsPlaced, IsBelow}
use Rattle.mpw_separation.specs.Separation.{breaks, is_broken}
use Rattle.mpw_separation.specs.Set.{SeparationSet}
use Rattle.mpw_rbac.specs.Internal.Pairs.{pair_row}
use Rattle.mpw_rbac.specs.declared.active.Active.{Active}
use Rattle.mpw_rbac.specs.declared.hierarchy.PairChange.{PairChange}
use Rattle.mpw_rbac.specs.declared.hierarchy.PairChange.TheVariants.{Inherit, Uninherit}
use Rattle.mpw_rbac.proofs.SessionLemmas.{AreActive, active-head, active-tail}
use Rattle.mpw_rbac.proofs.RowFacts.{inherited-pair, uninherited-pair}

-- adding or removing a pair moves no role
pub names-inherited : (h : Hierarchy) (senior junior : Name) (after : Hierarchy)
    → hierarchy.inherit h senior junior ≡ Ok after → role_names after ≡ role_names h
names-inherited h senior junior after made =
    ap role_names (inherited-pair h senior junior after made).1
    ∙ names-with_juniors h senior _

pub names-uninherited : (h : Hierarchy) (senior junior : Name) (after : Hierarchy)
    → hierarchy.uninherit h senior junior ≡ Ok after → role_names after ≡ role_names h
names-uninherited h senior junior after made =
    ap role_names (uninherited-pair h senior junior after made).1
    ∙ names-with_juniors h senior _

pub names-changed : (change : PairChange) (h : Hierarchy) (senior junior : Name)
    (after : Hierarchy) → pair_row change h senior junior ≡ Ok after
    → role_names after ≡ role_names h
names-changed Inherit = names-inherited
names-changed Uninherit = names-uninherited

-- a change of the sets leaves their masks right
pub placed-after : (h k : Hierarchy) → k ≡ h → (old new : KeptSets)
    → (AreSetsPlaced (role_names k) old → AreSetsPlaced (role_names k) new)
    → AreSetsPlaced (role_names h) old → AreSetsPlaced (role_names h) new
placed-after h k same old new keeps placed =
    subst (λ (r : Hierarchy). AreSetsPlaced (role_names r) new) same
    (keeps (subst (λ (r : Hierarchy). AreSetsPlaced (role_names r) old) (sym same) placed))

-- the holders so far, by their masks
pub unbroken-list : (h : Hierarchy) (set : SeparationSet) (lists : List (List Name)) (i : ℕ)
    → i < length lists → is_broken h (take i lists) set ≡ false
    → breaks h (get_or lists i []) set ≡ false → is_broken h (take (i + 1) lists) set ≡ false
unbroken-list h set lists i inside before here =
    let more : take (i + 1) lists ≡ take i lists ++ get_or lists i [] ∷ [] =
    take_more lists i [] inside in
    ap (λ l. is_broken h l set) more
    ∙ broken-last h (take i lists) (get_or lists i []) set ∙ (λ j. before j || here j)

pub broken-list : (h : Hierarchy) (set : SeparationSet) (lists : List (List Name)) (i : ℕ)
    → i < length lists → breaks h (get_or lists i []) set ≡ true → is_broken h lists set ≡ true
broken-list h set [] i inside here = absurd (omega arith)
broken-list h set (l ∷ ls) zero inside here = ap (λ b. b || is_broken h ls set) here
broken-list h set (l ∷ ls) (suc i) inside here =
    or_right (breaks h l set) (is_broken h ls set) (broken-list h set ls i (omega arith) here)

-- the mask of the session at an index
pub acting-at : (h : Hierarchy) (es : List (ℕ × Active)) (i : ℕ) (e : ℕ × Active)
    → slice_get es i ≡ Some e → AreActive h es → IsBelow h e.1.session.active e.1.acting
acting-at h [] i e at w = cc
acting-at h (x ∷ xs) zero e at w = let same : x ≡ e = cc in
    subst (λ (y : ℕ × Active). IsBelow h y.1.session.active y.1.acting) same (active-head h x xs w)
acting-at h (x ∷ xs) (suc i) e at w = acting-at h xs i e at (active-tail h x xs w)
