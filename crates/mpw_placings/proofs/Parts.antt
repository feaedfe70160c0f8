-- Settled placements and the latest ones, as one list.
use Rattle.std.proofs.Common.{◌≡◌, ℕ, ◌<◌, ◌≤◌, Bool, true, false, cond, not, List, [], ◌∷◌, ◌++◌, length, Some, None, refl, sym, ap, subst, ◌∙◌, append_assoc, arith}
use Rattle.std.specs.Prelude.{AllPairs, filter}
use Rattle.std.specs.List.{find}
use Rattle.std.specs.Option.{option_map}
use Rattle.std.proofs.lemmas.List.{length-append}
use Rattle.std.proofs.lemmas.List.Elements.{filter-append}
use Rattle.std.proofs.lemmas.List.Filters.{length-filter_both}
use Rattle.std.proofs.lemmas.List.Folds.{list_any-append}
use Rattle.std.proofs.lemmas.List.Kept.{AllPairs-filter}
use Rattle.std.proofs.lemmas.List.Quantifiers.{all_pairs_push}
use Rattle.mpw_walk.specs.declared.root.Root.{Root}
use Rattle.mpw_placings.specs.declared.placement.Placement.{Placement}
use Rattle.mpw_placings.specs.Internal.Maps.{root_at, IsTable}
use Rattle.mpw_placings.specs.Placements.{is_at, is_taken, DifferInName}
use Rattle.mpw_placings.proofs.Maps.{neither}
use Rattle.mpw_placings.proofs.Tests.{apart_from_all}

-- ---- what is found

-- the root under a cell and a label is that of the settled ones if they have one, else that of the latest
pub root_settled : (xs ys : List Placement) (cell label : List ℕ) (root : Root)
    → Some root ≡ root_at xs cell label → Some root ≡ root_at (xs ++ ys) cell label
root_settled [] ys cell label root e = absurd cc
root_settled (x ∷ xs) ys cell label root e = by (is_at cell label x) e
    (root_settled xs ys cell label root)
  where
    by : (b : Bool) → Some root ≡ option_map (λ (p : Placement). p.root)
        (cond b (Some x) (find (is_at cell label) xs))
        → (Some root ≡ root_at xs cell label → Some root ≡ root_at (xs ++ ys) cell label)
        → Some root ≡ option_map (λ (p : Placement). p.root)
        (cond b (Some x) (find (is_at cell label) (xs ++ ys)))
    by true e rest = e
    by false e rest = rest e

pub root_latest : (xs ys : List Placement) (cell label : List ℕ)
    → None ≡ root_at xs cell label → root_at ys cell label ≡ root_at (xs ++ ys) cell label
root_latest [] ys cell label e = refl
root_latest (x ∷ xs) ys cell label e = by (is_at cell label x) e (root_latest xs ys cell label)
  where
    by : (b : Bool) → None ≡ option_map (λ (p : Placement). p.root)
        (cond b (Some x) (find (is_at cell label) xs))
        → (None ≡ root_at xs cell label → root_at ys cell label ≡ root_at (xs ++ ys) cell label)
        → root_at ys cell label ≡ option_map (λ (p : Placement). p.root)
        (cond b (Some x) (find (is_at cell label) (xs ++ ys)))
    by true e rest = absurd cc
    by false e rest = rest e

-- ---- a change

-- if all placements are the settled and the latest ones, one more comes after both
module _ (settled latest all : List Placement) (is : settled ++ latest ≡ all) where
  pub one_more : (p : Placement) → IsTable settled latest → is_taken all p.cell p.label ≡ false
      → length all < 4096 → IsTable (settled ++ latest) (p ∷ [])
  one_more p table new room = record {
    apart = all_pairs_push DifferInName (settled ++ latest) p table.apart
        (apart_from_all (settled ++ latest) p (ap (λ ps. is_taken ps p.cell p.label) is ∙ new));
    few = omega (arith, length-append (settled ++ latest) (p ∷ []), ap length is, room);
  }

  pub one_latest : (p : Placement) → IsTable settled latest → is_taken all p.cell p.label ≡ false
      → length all < 4096 → IsTable settled (latest ++ p ∷ [])
  one_latest p table new room =
      let more = one_more p table new room in
      let same = append_assoc settled latest (p ∷ []) in record {
        apart = subst (AllPairs DifferInName) same more.apart;
        few = subst (λ (ps : List Placement). length ps ≤ 4096) same more.few;
      }

  pub none_latest : (cell label : List ℕ) → is_taken all cell label ≡ false
      → is_taken latest cell label ≡ false
  none_latest cell label new = (neither (is_taken settled cell label) (is_taken latest cell label)
      (sym (list_any-append (is_at cell label) settled latest)
      ∙ ap (λ ps. is_taken ps cell label) is ∙ new)).1

-- and removing from each part removes from the whole
pub some_less : (settled latest : List Placement) (keep : Placement → Bool)
    → IsTable settled latest → IsTable (filter keep settled) (filter keep latest)
some_less settled latest keep table =
    let same = filter-append keep settled latest in
    let both = length-filter_both keep (λ p. not (keep p)) (λ p. refl) (settled ++ latest) in
    let few = table.few in record {
      apart = subst (AllPairs DifferInName) same
          (AllPairs-filter DifferInName keep (settled ++ latest) table.apart);
      few = subst (λ (ps : List Placement). length ps ≤ 4096) same (omega (arith, both, few));
    }
