-- What holds of placements is preserved at each change, and when the shelf grows.
use Rattle.std.proofs.Common.{◌≡◌, ℕ, ◌+◌, ◌^◌, ◌<◌, ◌≤◌, Bool, false, not, List, [], ◌∷◌, ◌++◌, length, Ok, refl, sym, ap, subst, ◌∙◌, arith}
use Rattle.std.specs.Prelude.{All, filter, ◌↔◌, nat_lt, nat_le}
use Rattle.std.specs.List.{fold}
use Rattle.std.proofs.lemmas.Bool.{ltb-false, leb-false}
use Rattle.std.proofs.lemmas.List.{length-append, length-map, map-append}
use Rattle.std.proofs.lemmas.List.Elements.{All-nil, All-cons, All-head, All-tail, All-push, All-weaker, All-map, All-filter}
use Rattle.std.proofs.lemmas.List.Filters.{length-filter_both, sum_by-filter_both}
use Rattle.std.proofs.lemmas.List.Kept.{AllPairs-filter}
use Rattle.std.proofs.lemmas.List.Quantifiers.{all_pairs_push}
use Rattle.std.proofs.lemmas.List.Sums.{sum_by-append}
use Rattle.mpw_geom.specs.declared.placing.Placing.{Placing}
use Rattle.mpw_hier.specs.declared.submission.Submission.{Submission}
use Rattle.mpw_hier.specs.Shelved.{IsOfCell, PresentAreOfTheirCell, EarlierStay}
use Rattle.mpw_hier.specs.Values.{count}
use Rattle.mpw_walk.specs.declared.root.Root.{Root}
use Rattle.mpw_walk.specs.Roots.{roots_count}
use Rattle.mpw_walk.specs.Turns.{flat_roots}
use Rattle.mpw_walk.specs.Walk.{IsRoot}
use Rattle.mpw_tiles.specs.Snapshots.{AreRoots}
use Rattle.mpw_placings.specs.declared.placement.Placement.{Placement}
use Rattle.mpw_placings.specs.Placements.{is_at, roots_of, shape_count, DifferInName, IsOfItsCell, ArePlacings}
use Rattle.mpw_placings.specs.Rows.{placings_with, placings_without}
use Rattle.mpw_placings.proofs.Inverted.{placement_of, IsPlaced, placed_is, unplaced_is}
use Rattle.mpw_placings.proofs.Tests.{root_from_test, apart_from_all}

-- ---- shapes

counts_from : (ss : List Submission) (n : ℕ) (ps : List Placement)
    → fold (λ m (root : Root). m + count ss root.submission) n (roots_of ps)
    ≡ fold (λ m (p : Placement). m + count ss p.root.submission) n ps
counts_from ss n [] = refl
counts_from ss n (p ∷ ps) = counts_from ss (n + count ss p.root.submission) ps

pub counts_same : (ss : List Submission) (ps : List Placement)
    → roots_count ss (roots_of ps) ≡ shape_count ss ps
counts_same ss ps = counts_from ss 0 ps

one_more : (ss : List Submission) (ps : List Placement) (p : Placement)
    → shape_count ss (ps ++ p ∷ []) ≡ shape_count ss ps + (0 + count ss p.root.submission)
one_more ss ps p = sum_by-append (λ q. count ss q.root.submission) ps (p ∷ [])

-- with at most 2^20 shapes a snapshot can have the roots
few_shapes : (ss : List Submission) (ps : List Placement) → shape_count ss ps ≤ 2 ^ 20
    → roots_count ss (roots_of ps) ≤ 2 ^ 40
few_shapes ss ps small = let same = counts_same ss ps in omega (arith, same, small)

all_roots : (P : Root → Type 0) (ps : List Placement) → All P (roots_of ps) → All (λ p. P p.root) ps
all_roots P [] all = All-nil (λ p. P p.root)
all_roots P (p ∷ ps) all = All-cons (λ p. P p.root) p ps (All-head P p.root (roots_of ps) all)
    (all_roots P ps (All-tail P p.root (roots_of ps) all))

-- ---- none

pub none_kept : (ss : List Submission) → ArePlacings ss []
none_kept ss = record {
  apart = λ i j d lt within. absurd (omega arith);
  cells = All-nil (IsOfItsCell ss);
  small = omega arith;
  roots = record { few = omega arith; fit = All-nil (IsRoot ss); small = omega arith };
}

-- ---- one more

more_roots : (ss : List Submission) (ps after : List Placement) (cell label : List ℕ)
    (placing : Placing) → IsPlaced ss ps after cell label placing → (number : ℕ)
    → IsRoot ss (record { submission = number; placing = placing })
    → shape_count ss (ps ++ placement_of cell label placing number ∷ []) ≤ 2 ^ 20
    → nat_le 4096 (length ps) ≡ false → AreRoots ss (roots_of ps)
    → AreRoots ss (roots_of (ps ++ placement_of cell label placing number ∷ []))
more_roots ss ps after cell label placing is number root small room roots =
    let p : Placement = placement_of cell label placing number in
    let long : length (roots_of (ps ++ p ∷ [])) ≡ length ps + 1 =
    length-map (ps ++ p ∷ []) (λ q. q.root) ∙ length-append ps (p ∷ []) in
    let fewer : length ps < 4096 = leb-false 4096 (length ps) room in
    record {
      few = omega (arith, long, fewer);
      fit = subst (All (IsRoot ss)) (sym (map-append (λ q. q.root) ps (p ∷ [])))
          (All-push (IsRoot ss) (roots_of ps) p.root roots.fit root);
      small = few_shapes ss (ps ++ p ∷ []) small;
    }

place_more : (ss : List Submission) (ps after : List Placement) (cell label : List ℕ)
    (placing : Placing) → PresentAreOfTheirCell → ArePlacings ss ps
    → (is : IsPlaced ss ps after cell label placing)
    → ArePlacings ss (ps ++ placement_of cell label placing is.number ∷ [])
place_more ss ps after cell label placing present_are kept is =
    let p : Placement = placement_of cell label placing is.number in
    let of_cell : IsOfCell ss cell is.number = present_are ss cell is.number is.is in
    let most : shape_count ss ps + count ss is.number ≤ 2 ^ 20 =
    ltb-false (2 ^ 20) (shape_count ss ps + count ss is.number) is.small in
    let small : shape_count ss (ps ++ p ∷ []) ≤ 2 ^ 20 = omega (arith, one_more ss ps p, most) in
    record {
      apart = all_pairs_push DifferInName ps p kept.apart (apart_from_all ps p is.new);
      cells = All-push (IsOfItsCell ss) ps p kept.cells of_cell;
      small = small;
      roots = more_roots ss ps after cell label placing is is.number
          (root_from_test ss p.root of_cell.within is.near) small is.room kept.roots;
    }

pub place_kept : PresentAreOfTheirCell
    → (ss : List Submission) (ps after : List Placement) (cell label : List ℕ) (placing : Placing)
    → ArePlacings ss ps → placings_with ss ps cell label placing ≡ Ok after → ArePlacings ss after
place_kept present_are ss ps after cell label placing kept e =
    let is = placed_is ss ps after cell label placing e in
    subst (ArePlacings ss) (sym is.all)
    (place_more ss ps after cell label placing present_are kept is)

-- ---- one fewer

filter_kept : (ss : List Submission) (ps : List Placement) (keep : Placement → Bool)
    → ArePlacings ss ps → ArePlacings ss (filter keep ps)
filter_kept ss ps keep kept =
    let long : length (roots_of (filter keep ps)) ≡ length (filter keep ps) =
    length-map (filter keep ps) (λ q. q.root) in
    let whole : length (roots_of ps) ≡ length ps = length-map ps (λ q. q.root) in
    let both = length-filter_both keep (λ q. not (keep q)) (λ q. refl) ps in
    let sums = sum_by-filter_both keep (λ q. not (keep q)) (λ q. refl)
    (λ q. count ss q.root.submission) ps in
    let few = kept.roots.few in
    let small : shape_count ss (filter keep ps) ≤ 2 ^ 20 = omega (arith, sums, kept.small) in
    record {
      apart = AllPairs-filter DifferInName keep ps kept.apart;
      cells = All-filter keep (IsOfItsCell ss) ps kept.cells;
      small = small;
      roots = record {
        few = omega (arith, long, whole, both, few);
        fit = All-map (IsRoot ss) (λ q. q.root) (filter keep ps)
            (All-filter keep (λ q. IsRoot ss q.root) ps (all_roots (IsRoot ss) ps kept.roots.fit));
        small = few_shapes ss (filter keep ps) small;
      };
    }

pub unplace_kept : (ss : List Submission) (ps after : List Placement) (cell label : List ℕ)
    → ArePlacings ss ps → placings_without ps cell label ≡ Ok after → ArePlacings ss after
unplace_kept ss ps after cell label kept e =
    subst (ArePlacings ss) (sym (unplaced_is ps after cell label e))
    (filter_kept ss ps (λ p. not (is_at cell label p)) kept)

-- ---- a longer shelf

abbrev RootsStay : Type 0
RootsStay = (ss later : List Submission) (root : Root) → root.submission < length ss
    → IsRoot ss root ↔ IsRoot (ss ++ later) root

abbrev pub RootsShowAgain : Type 0
RootsShowAgain = (ss later : List Submission) (roots : List Root) → All (IsRoot ss) roots
    → flat_roots (ss ++ later) roots ≡ flat_roots ss roots

abbrev RootsAreCounted : Type 0
RootsAreCounted =
    (ss : List Submission) (roots : List Root) → length (flat_roots ss roots) ≡ roots_count ss roots

cell_stays : EarlierStay → (ss later : List Submission) (p : Placement) → IsOfItsCell ss p
    → IsOfItsCell (ss ++ later) p
cell_stays stay ss later p of = record {
  within = omega (arith, length-append ss later, of.within);
  submission = of.submission;
  is = (stay ss later p.root.submission of.within).submission ∙ of.is;
  same = of.same;
}

pub later_kept : EarlierStay → RootsStay → RootsShowAgain → RootsAreCounted
    → (ss later : List Submission) (ps : List Placement) → ArePlacings ss ps
    → ArePlacings (ss ++ later) ps
later_kept stay roots_stay again counted ss later ps kept =
    let fit = kept.roots.fit in
    let sum : roots_count (ss ++ later) (roots_of ps) ≡ roots_count ss (roots_of ps) =
    sym (counted (ss ++ later) (roots_of ps)) ∙ ap length (again ss later (roots_of ps) fit)
    ∙ counted ss (roots_of ps) in
    let small : shape_count (ss ++ later) ps ≤ 2 ^ 20 = omega (
      arith,
      sum,
      counts_same ss ps,
      counts_same (ss ++ later) ps,
      kept.small,
    ) in
    record {
      apart = kept.apart;
      cells = All-weaker (IsOfItsCell ss) (IsOfItsCell (ss ++ later)) (cell_stays stay ss later) ps
          kept.cells;
      small = small;
      roots = record {
        few = kept.roots.few;
        fit = All-weaker (IsRoot ss) (IsRoot (ss ++ later))
            (λ root is. (roots_stay ss later root is.present).0 is) (roots_of ps) fit;
        small = few_shapes (ss ++ later) ps small;
      };
    }
