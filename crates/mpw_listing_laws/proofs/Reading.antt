-- Which markers a session may read, by the tests of a listing; and the cells that a marker touches.
use Rattle.std.proofs.Common.{◌≡◌, ◌∙◌, ℕ, Bool, true, false, not, cond, List, [], ◌∷◌, map, Option, None, Some, option_map, refl, sym, ap, subst, inl, inr, ◌⊎◌, arith}
use Rattle.std.specs.Prelude.{slice_get, filter, AllPairs, Contains, ◌↔◌}
use Rattle.std.specs.List.{list_all, list_any}
use Rattle.std.specs.Cmp.Lexicographic.{bytes_decides}
use Rattle.std.specs.declared.cmp.Ordering.TheVariants.{Less}
use Rattle.std.proofs.lemmas.Bool.{true≢false, and_parts, and_from}
use Rattle.std.proofs.lemmas.List.Kept.{AllPairs-filter}
use Rattle.std.proofs.lemmas.Option.{slice_get-map}
use Rattle.mpw_geom.specs.Names.{name_eq, name_cmp, contains_name}
use Rattle.mpw_geom.proofs.NamesLemmas.{in_by_name}
use Rattle.mpw_hier.specs.declared.submission.Submission.{Submission}
use Rattle.mpw_markers.specs.declared.marker.Marker.{Marker}
use Rattle.mpw_markers.proofs.Unique.{cons_cases, Contains-head, Contains-tail}
use Rattle.mpw_job.proofs.Tests.{some_passes, passes_some, get_contains}
use Rattle.mpw_roles.specs.Hierarchy.{Name}
use Rattle.mpw_replies.specs.Listing.{is_seen}
use Rattle.mpw_replies.proofs.NamesRise.{rising}
use Rattle.mpw_replies.specs.Sight.{is_full, is_masked, is_of, cells_on, met_cells}
use Rattle.mpw_access.specs.Seen.{may_read, seen_by}
use Rattle.mpw_listing_laws.specs.Markers.{Sight, Meets, MayRead, IsReadable, IsHalfReadable}

-- ---- lists

all_pass : {X : Type 0} (p : X → Bool) (xs : List X) (x : X) → list_all p xs ≡ true
    → Contains xs x → p x ≡ true
all_pass p [] x e c = absurd (omega (arith, c.1))
all_pass p (y ∷ ys) x e c =
    let both = and_parts (p y) (list_all p ys) e in
    elim (cons_cases y ys x c) [
      | inl same ↦ ap p (sym same) ∙ both.0
      | inr rest ↦ all_pass p ys x both.1 rest
    ]

pass_all : {X : Type 0} (p : X → Bool) (xs : List X) → ((x : X) → Contains xs x → p x ≡ true)
    → list_all p xs ≡ true
pass_all p [] h = refl
pass_all p (y ∷ ys) h = and_from (p y) (list_all p ys) (h y (Contains-head y ys))
    (pass_all p ys (λ x c. h x (Contains-tail y ys x c)))

in_filter_on : {X : Type 0} (p : X → Bool) (y : X) (ys : List X) (x : X) (b : Bool) → p y ≡ b
    → (Contains (filter p ys) x → Contains ys x × (p x ≡ true))
    → Contains (cond b (y ∷ filter p ys) (filter p ys)) x → Contains (y ∷ ys) x × (p x ≡ true)
in_filter_on p y ys x true e rest c = elim (cons_cases y (filter p ys) x c) [
  | inl same ↦ (
    subst (Contains (y ∷ ys)) same (Contains-head y ys),
    ap p (sym same) ∙ e,
  )
  | inr behind ↦ let h = rest behind in (Contains-tail y ys x h.0, h.1)
]
in_filter_on p y ys x false e rest c = let h = rest c in (Contains-tail y ys x h.0, h.1)

to_filter_on : {X : Type 0} (p : X → Bool) (y : X) (ys : List X) (x : X) (b : Bool) → p y ≡ b
    → (Contains ys x → Contains (filter p ys) x) → (y ≡ x) ⊎ Contains ys x → p x ≡ true
    → Contains (cond b (y ∷ filter p ys) (filter p ys)) x
to_filter_on p y ys x true f rest (inl same) e =
    subst (Contains (y ∷ filter p ys)) same (Contains-head y (filter p ys))
to_filter_on p y ys x true f rest (inr behind) e =
    Contains-tail y (filter p ys) x (rest behind)
to_filter_on p y ys x false f rest (inl same) e =
    absurd (true≢false (sym e ∙ ap p (sym same) ∙ f))
to_filter_on p y ys x false f rest (inr behind) e = rest behind

pub in_filter : {X : Type 0} (p : X → Bool) (xs : List X) (x : X) → Contains (filter p xs) x
    → Contains xs x × (p x ≡ true)
in_filter p [] x c = absurd (omega (arith, c.1))
in_filter p (y ∷ ys) x c = in_filter_on p y ys x (p y) refl (in_filter p ys x) c

pub to_filter : {X : Type 0} (p : X → Bool) (xs : List X) (x : X) → Contains xs x → p x ≡ true
    → Contains (filter p xs) x
to_filter p [] x c e = absurd (omega (arith, c.1))
to_filter p (y ∷ ys) x c e =
    to_filter_on p y ys x (p y) refl (λ d. to_filter p ys x d e) (cons_cases y ys x c) e

-- ---- which markers

abbrev sees : Sight → ℕ → Bool
sees v number = is_seen (slice_get (seen_by v.policy v.connection v.shelf) number)

seen_as : (v : Sight) (number : ℕ)
    → sees v number ≡ is_seen (option_map (may_read v.policy v.connection)
    (slice_get v.shelf number))
seen_as v number = ap is_seen (slice_get-map (may_read v.policy v.connection) v.shelf number)

seen_reads : (v : Sight) (number : ℕ) → sees v number ≡ true → MayRead v number
seen_reads v number e = by (slice_get v.shelf number) refl (sym (seen_as v number) ∙ e)
  where
    by : (o : Option Submission) → slice_get v.shelf number ≡ o
        → is_seen (option_map (may_read v.policy v.connection) o) ≡ true → MayRead v number
    by None is e = absurd (true≢false (sym e))
    by (Some s) is e = record { submission = s; is = is; permitted = e }

reads_seen : (v : Sight) (number : ℕ) → MayRead v number → sees v number ≡ true
reads_seen v number h = seen_as v number
    ∙ ap (λ o. is_seen (option_map (may_read v.policy v.connection) o)) h.is ∙ h.permitted

pub full_reads : (v : Sight) (m : Marker)
    → is_full (seen_by v.policy v.connection v.shelf) m ≡ true → IsReadable v m
full_reads v m e number c = seen_reads v number (all_pass (sees v) m.met number e c)

pub reads_full : (v : Sight) (m : Marker) → IsReadable v m
    → is_full (seen_by v.policy v.connection v.shelf) m ≡ true
reads_full v m h = pass_all (sees v) m.met (λ number c. reads_seen v number (h number c))

not_true : (b : Bool) → not b ≡ true → b ≡ false
not_true true e = absurd (true≢false (sym e))
not_true false e = refl

not_not : (b : Bool) → not (not b) ≡ true → b ≡ true
not_not true e = refl
not_not false e = absurd (true≢false (sym e))

pub masked_half : (v : Sight) (m : Marker)
    → is_masked (seen_by v.policy v.connection v.shelf) m ≡ true → IsHalfReadable v m
masked_half v m e =
    let both = and_parts _ _ e in
    let some = some_passes (sees v) m.met (not_not (list_any (sees v) m.met) both.1) in
    record {
      number = some.0;
      met = some.1;
      readable = seen_reads v some.0 some.2;
      not_all = λ h. true≢false (sym (reads_full v m h) ∙ not_true _ both.0);
    }

pub half_masked : (v : Sight) (m : Marker) → IsHalfReadable v m
    → is_masked (seen_by v.policy v.connection v.shelf) m ≡ true
half_masked v m h =
    and_from _ _ (by (is_full (seen_by v.policy v.connection v.shelf) m) refl)
    (ap (λ b. not (not b))
    (passes_some (sees v) m.met h.number h.met (reads_seen v h.number h.readable)))
  where
    by : (b : Bool) → is_full (seen_by v.policy v.connection v.shelf) m ≡ b → not b ≡ true
    by true e = absurd (h.not_all (full_reads v m e))
    by false e = refl

-- ---- the cells that a marker touches

in_names : (names : List Name) (name : Name) → contains_name names name ≡ true
    → Contains names name
in_names names name e =
    let p = some_passes (name_eq name) names e in
    subst (Contains names) (sym ((bytes_decides name p.0).0 p.2)) p.1

of_names : (names : List Name) (name : Name) → Contains names name
    → contains_name names name ≡ true
of_names names name c =
    passes_some (name_eq name) names name c ((bytes_decides name name).1 refl)

-- a cell of a submission on the shelf
in_map : {X Y : Type 0} (f : X → Y) (xs : List X) (n : ℕ) (x : X) → slice_get xs n ≡ Some x
    → Contains (map f xs) (f x)
in_map f xs n x at = get_contains (map f xs) n (f x)
    (slice_get-map f xs n ∙ ap (option_map f) at)

of_reads : (cell : Name) (o : Option Submission) → is_of cell o ≡ true
    → (s : Submission) × (o ≡ Some s) × (s.cell ≡ cell)
of_reads cell None e = absurd (true≢false (sym e))
of_reads cell (Some s) e = (s, refl, sym ((bytes_decides cell s.cell).0 e))

pub cells_in_order : (shelf : List Submission) (met : List ℕ)
    → AllPairs (λ a b. name_cmp a b ≡ Less) (met_cells shelf met)
unfolding met_cells
cells_in_order shelf met =
    AllPairs-filter (λ a b. name_cmp a b ≡ Less)
    (λ cell. list_any (λ number. is_of cell (slice_get shelf number)) met) (cells_on shelf)
    (rising (map (λ (s : Submission). s.cell) shelf))

pub cells_met : (shelf : List Submission) (m : Marker) (cell : Name)
    → Contains (met_cells shelf m.met) cell ↔ Meets shelf m cell
unfolding met_cells
cells_met shelf m cell = (
  λ c.
      let h = in_filter (λ cell. list_any (λ number. is_of cell (slice_get shelf number)) m.met)
      (cells_on shelf) cell c in
      let p = some_passes (λ number. is_of cell (slice_get shelf number)) m.met h.1 in
      let s = of_reads cell (slice_get shelf p.0) p.2 in
      record { number = p.0; submission = s.0; met = p.1; is = s.1; of_cell = s.2 },
  λ h.
      let named : Contains (map (λ (s : Submission). s.cell) shelf) cell =
      subst (Contains (map (λ (s : Submission). s.cell) shelf)) h.of_cell
      (in_map (λ (s : Submission). s.cell) shelf h.number h.submission h.is) in
      to_filter (λ cell. list_any (λ number. is_of cell (slice_get shelf number)) m.met)
      (cells_on shelf) cell
      (in_names (cells_on shelf) cell
      (in_by_name cell (map (λ (s : Submission). s.cell) shelf)
      ∙ of_names (map (λ (s : Submission). s.cell) shelf) cell named))
      (passes_some (λ number. is_of cell (slice_get shelf number)) m.met h.number h.met
      (ap (is_of cell) h.is ∙ (bytes_decides cell h.submission.cell).1 (sym h.of_cell))),
)
