-- The indexes of sorted names, and the cells that a marker touches by the ranks of its submissions.
use Rattle.std.proofs.Common.{◌≡◌, ℕ, zero, suc, ◌+◌, ◌<◌, ◌≤◌, Bool, true, false, cond, ◌||◌, ◌==◌, Option, Some, Err, List, []}
use Rattle.std.proofs.Common.{◌∷◌, ◌++◌, length, get_or, take, drop, replicate, inl, inr, refl, sym, ap, ◌∙◌, arith, subst}
use Rattle.std.specs.Prelude.{AllPairs, slice_get, slice_index_or, filter}
use Rattle.std.specs.List.{list_any}
use Rattle.std.specs.List.Sorted.{IsBinarySearchResult, IsSortedBy}
use Rattle.std.specs.Ordering.{is_lt, is_eq, ordering_reverse}
use Rattle.std.specs.declared.cmp.Ordering.{Ordering}
use Rattle.std.specs.declared.cmp.Ordering.TheVariants.{Less, Equal, Greater}
use Rattle.std.specs.Cmp.Lexicographic.{nat_list_cmp_total, texts_ties}
use Rattle.std.proofs.lemmas.Bool.{eq-eqb}
use Rattle.std.proofs.lemmas.Bool.Decides.{nat_tests}
use Rattle.std.proofs.lemmas.Cmp.{tied_itself}
use Rattle.std.proofs.lemmas.Bool.{cases_lt}
use Rattle.std.proofs.lemmas.List.{take_more, length-take-le, length_push, at_drop_more, at_drop_all, get_or-replicate}
use Rattle.std.proofs.lemmas.List.{get_or_default}
use Rattle.std.proofs.lemmas.List.Sorted.{searchable_from_sorted}
use Rattle.std.proofs.lemmas.Map.Lookups.{exact_bytes}
use Rattle.std.proofs.lemmas.Option.{get_or_from_slice_get, slice_get_within}
use Rattle.mpw_geom.specs.Names.{name_eq, name_cmp, by_name}
use Rattle.mpw_hier.specs.declared.submission.Submission.{Submission}
use Rattle.mpw_roles.specs.Hierarchy.{Name}
use Rattle.mpw_replies.specs.declared.met.Turn.{Turn}
use Rattle.mpw_replies.specs.Ranks.{AreMarks, met_left, is_at, is_met_at, cell_if, met_from, met_of}
use Rattle.mpw_replies.specs.Internal.Ranks.{IsRank, AreRanks}
use Rattle.mpw_replies.specs.Sight.{is_of, cells_on, met_cells}
use Rattle.mpw_replies.proofs.NamesRise.{rising}

risen : (names cells : List Name) → cells ≡ by_name names
    → AllPairs (λ a b. name_cmp a b ≡ Less) cells
risen names cells is = subst (AllPairs (λ a b. name_cmp a b ≡ Less)) (sym is) (rising names)

turned : (x y : Name) → name_cmp x y ≡ Less → name_cmp y x ≡ Greater
turned x y e = nat_list_cmp_total.antisymm y x ∙ ap ordering_reverse e

alike : {x y u v : Name} → x ≡ u → y ≡ v → name_cmp u v ≡ Less → name_cmp x y ≡ Less
alike e f less = (λ i. name_cmp (e i) (f i)) ∙ less

differ : (x y : Name) (o : Ordering) → name_cmp x y ≡ o → is_eq o ≡ false → name_eq x y ≡ false
differ x y o e not_eq = texts_ties x y ∙ ap is_eq e ∙ not_eq

-- ---- what a search finds

pub rank_found : (names cells : List Name) (name : Name) (i : ℕ) → cells ≡ by_name names
    → i < length cells
    → ((d : Name) → name_cmp (get_or cells i d) name ≡ Equal) → IsRank cells name i
rank_found names cells name i is l found place cell at =
    let inside : place < length cells = slice_get_within cells place cell at in
    let cell_is : get_or cells place name ≡ cell = get_or_from_slice_get cells place cell name at in
    let name_is : get_or cells i name ≡ name = exact_bytes _ _ (found name) in
    elim (cases_lt i place) [
      | inl lt ↦
          let up : name_cmp (get_or cells i name) (get_or cells place name) ≡ Less =
          risen names cells is i place name lt inside in
          let apart : name_cmp name cell ≡ Less = alike (sym name_is) (sym cell_is) up in
          let no : (i == place) ≡ false = grind (arith, nat_tests, lt) in
          no ∙ sym (differ cell name Greater (turned name cell apart) refl)
      | inr le ↦ elim (cases_lt place i) [
        | inl lt ↦
            let up : name_cmp (get_or cells place name) (get_or cells i name) ≡ Less =
            risen names cells is place i name lt l in
            let apart : name_cmp cell name ≡ Less = alike (sym cell_is) (sym name_is) up in
            let no : (i == place) ≡ false = grind (arith, nat_tests, lt) in
            no ∙ sym (differ cell name Less apart refl)
        | inr ge ↦
            let same : i ≡ place = omega (arith, le, ge) in
            let one : cell ≡ name = sym cell_is ∙ ap (λ k. get_or cells k name) (sym same)
            ∙ name_is in
            eq-eqb i place same ∙ sym (texts_ties cell name
            ∙ ap is_eq (ap (name_cmp cell) (sym one) ∙ tied_itself nat_list_cmp_total cell))
      ]
    ]

sorted : (names cells : List Name) → cells ≡ by_name names
    → IsSortedBy (λ x y. is_lt (name_cmp x y)) cells
sorted names cells is k d low high =
    ap is_lt (turned (get_or cells k d) (get_or cells (k + 1) d)
    (risen names cells is k (k + 1) d (omega arith) high))

pub rank_none : (names cells : List Name) (name : Name) (k : ℕ) → cells ≡ by_name names
    → IsBinarySearchResult (λ y. name_cmp y name) cells (Err k) → IsRank cells name (length cells)
rank_none names cells name k is answer place cell at =
    let inside : place < length cells = slice_get_within cells place cell at in
    let cell_is : get_or cells place name ≡ cell = get_or_from_slice_get cells place cell name at in
    let split = answer (searchable_from_sorted nat_list_cmp_total (λ y. y) cells name
    (sorted names cells is)) in
    let no : (length cells == place) ≡ false = grind (arith, nat_tests, inside) in
    elim (cases_lt place k) [
      | inl lt ↦ no ∙ sym (differ cell name Less
          (subst (λ c. name_cmp c name ≡ Less) cell_is (split.0 place name (omega arith) lt)) refl)
      | inr le ↦ no ∙ sym (differ cell name Greater
          (subst (λ c. name_cmp c name ≡ Greater) cell_is (split.1 place name le inside)) refl)
    ]

-- ---- the cells of touched submissions

any_alike : (p q : ℕ → Bool) → ((n : ℕ) → p n ≡ q n) → (ns : List ℕ) → list_any p ns ≡ list_any q ns
any_alike p q same [] = refl
any_alike p q same (n ∷ ns) = λ i. same n i || any_alike p q same ns i

abbrev is_met : List Submission → List ℕ → Name → Bool
is_met shelf met cell = list_any (λ number. is_of cell (slice_get shelf number)) met

front : (b : Bool) (cell : Name) (cells : List Name)
    → cell_if b cell ++ cells ≡ cond b (cell ∷ cells) cells
front true cell cells = refl
front false cell cells = refl

from_place : (shelf : List Submission) (ranks met : List ℕ) (place : ℕ) (cells : List Name)
    → ((number i : ℕ) (cell : Name) → slice_get cells i ≡ Some cell
    → is_at (place + i) (slice_get ranks number) ≡ is_of cell (slice_get shelf number))
    → met_from ranks met place cells ≡ filter (is_met shelf met) cells
unfolding met_from is_met_at
from_place shelf ranks met place [] are = refl
from_place shelf ranks met place (cell ∷ cells) are =
    let tells : ℕ → ℕ → Name → Type 0 = λ number p c. is_at p (slice_get ranks number)
    ≡ is_of c (slice_get shelf number) in
    let none : place + 0 ≡ place = omega arith in
    let one : (i : ℕ) → place + suc i ≡ (place + 1) + i = λ i. omega arith in
    let here : is_met_at ranks met place ≡ is_met shelf met cell =
    any_alike (λ number. is_at place (slice_get ranks number))
    (λ number. is_of cell (slice_get shelf number))
    (λ number. subst (λ p. tells number p cell) none (are number 0 cell refl)) met in
    let rest = from_place shelf ranks met (place + 1) cells
    (λ number i c at. subst (λ p. tells number p c) (one i) (are number (suc i) c at)) in
    ap (λ cs. cell_if (is_met_at ranks met place) cell ++ cs) rest
    ∙ ap (λ b. cell_if b cell ++ filter (is_met shelf met) cells) here
    ∙ front (is_met shelf met cell) cell (filter (is_met shelf met) cells)

-- the cells at the ranks of the touched submissions are theirs
pub met_are : (shelf : List Submission) (cells : List Name) (ranks : List ℕ)
    → cells ≡ cells_on shelf → AreRanks cells shelf ranks
    → (met : List ℕ) → met_of cells ranks met ≡ met_cells shelf met
unfolding met_cells
met_are shelf cells ranks is are met =
    let none : (i : ℕ) → i ≡ 0 + i = λ i. omega arith in
    from_place shelf ranks met 0 cells
    (λ number i cell at. subst (λ p. is_at p (slice_get ranks number)
    ≡ is_of cell (slice_get shelf number)) (none i) (are number i cell at))
    ∙ ap (filter (is_met shelf met)) is

-- ---- one more submission

ranks_push : (cells : List Name) (shelf : List Submission) (ranks : List ℕ) (s : Submission)
    (rank : ℕ) → length ranks ≡ length shelf
    → AreRanks cells shelf ranks → IsRank cells s.cell rank
    → AreRanks cells (shelf ++ s ∷ []) (ranks ++ rank ∷ [])
ranks_push cells [] [] s rank l are one zero place cell at = one place cell at
ranks_push cells [] [] s rank l are one (suc number) place cell at = refl
ranks_push cells [] (r ∷ ranks) s rank l are one number place cell at = absurd (omega (arith, l))
ranks_push cells (x ∷ shelf) [] s rank l are one number place cell at = absurd (omega (arith, l))
ranks_push cells (x ∷ shelf) (r ∷ ranks) s rank l are one zero place cell at =
    are zero place cell at
ranks_push cells (x ∷ shelf) (r ∷ ranks) s rank l are one (suc number) place cell at =
    ranks_push cells shelf ranks s rank (omega (arith, l)) (λ n p c a. are (suc n) p c a) one number
    place cell at

pub ranks_on : (cells : List Name) (shelf : List Submission) (i : ℕ) (s : Submission)
    (ranks new : List ℕ) (rank : ℕ) → i < length shelf
    → s ≡ get_or shelf i s → length ranks ≡ i
    → new ≡ ranks ++ rank ∷ [] → AreRanks cells (take i shelf) ranks → IsRank cells s.cell rank
    → AreRanks cells (take (i + 1) shelf) new × (length new ≡ i + 1)
ranks_on cells shelf i s ranks new rank l at many is are one =
    let shelf_is : take (i + 1) shelf ≡ take i shelf ++ s ∷ [] = take_more shelf i s l
    ∙ ap (λ x. take i shelf ++ x ∷ []) (sym at) in
    let same : length ranks ≡ length (take i shelf) =
    omega (arith, many, length-take-le i shelf (omega (arith, l))) in
    let pushed = ranks_push cells (take i shelf) ranks s rank same are one in (
      subst (λ ss. AreRanks cells ss new) (sym shelf_is)
          (subst (λ rs. AreRanks cells (take i shelf ++ s ∷ []) rs) (sym is) pushed),
      ap length is ∙ length_push ranks rank ∙ ap (λ n. n + 1) many,
    )

-- ---- marks, and one turn over the cells

or_none : (a : Bool) → a ≡ (a || false)
or_none true = refl
or_none false = refl

or_more : (a b c : Bool) → ((a || b) || c) ≡ (a || (b || c))
or_more true b c = refl
or_more false b c = refl

pub no_marks : (i : ℕ) → i < 64 → slice_index_or (replicate 64 false) i false ≡ false
no_marks i l = get_or-replicate 64 i false false l

pub marks_on : (ranks met : List ℕ) (base k n : ℕ) (marks new : List Bool) (rank : Option ℕ)
    → k < length met → n ≡ get_or met k n
    → rank ≡ slice_get ranks n
    → ((i : ℕ) → i < 64 → (slice_index_or marks i false || is_met_at ranks (drop k met) (base + i))
    ≡ is_met_at ranks met (base + i))
    → ((i : ℕ) → i < 64 → slice_index_or new i false
    ≡ (slice_index_or marks i false || is_at (base + i) rank))
    → (i : ℕ) → i < 64 → (slice_index_or new i false
    || is_met_at ranks (drop (k + 1) met) (base + i)) ≡ is_met_at ranks met (base + i)
unfolding is_met_at
marks_on ranks met base k n marks new rank l at is before now i near =
    let p = base + i in
    let rest = is_met_at ranks (drop (k + 1) met) p in
    let first_is : is_met_at ranks (drop k met) p ≡ (is_at p rank || rest) =
    at_drop_more (λ ns. is_met_at ranks ns p) met k n l
    ∙ ap (λ x. is_at p (slice_get ranks x) || rest) (sym at)
    ∙ ap (λ o. is_at p o || rest) (sym is) in
    ap (λ b. b || rest) (now i near) ∙ or_more (slice_index_or marks i false) (is_at p rank) rest
    ∙ ap (λ b. slice_index_or marks i false || b) (sym first_is) ∙ before i near

pub marks_all : (ranks met : List ℕ) (base k : ℕ) (marks : List Bool) → length met ≤ k
    → ((i : ℕ) → i < 64 → (slice_index_or marks i false || is_met_at ranks (drop k met) (base + i))
    ≡ is_met_at ranks met (base + i))
    → AreMarks ranks met base marks
unfolding is_met_at
marks_all ranks met base k marks l before i near =
    let over = at_drop_all (λ ns. is_met_at ranks ns (base + i)) met k l in
    or_none (slice_index_or marks i false) ∙ ap (λ b. slice_index_or marks i false || b) (sym over)
    ∙ before i near

-- a touched cell comes next, and another is skipped
pub met_on : (cells : List Name) (ranks met : List ℕ) (turn new : Turn) (names : List Name)
    (cell : Name) (b : Bool)
    → names ≡ met_left cells ranks met turn → turn.at < length cells
    → cell ≡ get_or cells turn.at cell → is_met_at ranks met turn.at ≡ b → new.at ≡ turn.at + 1
    → names ≡ cell_if b cell ++ met_left cells ranks met new
unfolding met_from
met_on cells ranks met turn new names cell b before l at is next =
    before ∙ at_drop_more (met_from ranks met turn.at) cells turn.at cell l
    ∙ ap (λ x. met_from ranks met turn.at (x ∷ drop (turn.at + 1) cells)) (sym at)
    ∙ ap (λ x. cell_if x cell ++ met_from ranks met (turn.at + 1) (drop (turn.at + 1) cells)) is
    ∙ ap (λ k. cell_if b cell ++ met_from ranks met k (drop k cells)) (sym next)

pub met_over : (cells : List Name) (ranks met : List ℕ) (turn : Turn) (names : List Name)
    → names ≡ met_left cells ranks met turn
    → length cells ≤ turn.at → names ≡ []
unfolding met_from
met_over cells ranks met turn names before l =
    before ∙ at_drop_all (met_from ranks met turn.at) cells turn.at l

pub with_cell : {P : Type 0} (cells : List Name) (i : ℕ) → i < length cells
    → ((cell : Name) → cell ≡ get_or cells i cell → P) → P
with_cell cells i l f = f (get_or cells i []) (get_or_default cells i _ _ l)
