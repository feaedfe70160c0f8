-- The masks of the table of roles, pair by pair.
use Rattle.std.proofs.Common.{◌≡◌, ℕ, zero, suc, ◌<◌, ◌≤◌, true, false, cond, ◌||◌, ◌&&◌, inl, inr, List, [], ◌∷◌, ◌++◌, length, take, eqb, eq-eqb, Some, None, is_some, refl, sym, ap, subst, ◌∙◌, true≢false, arith}
use Rattle.std.specs.Prelude.{position}
use Rattle.std.specs.List.{list_all}
use Rattle.std.specs.Cmp.{both_ways}
use Rattle.std.proofs.lemmas.Bool.{cases_eq, cases_lt, lt-ltb, le-ltb, ne_eqb}
use Rattle.std.proofs.lemmas.List.{length-map}
use Rattle.mpw_geom.specs.Names.{name_eq, contains_name}
use Rattle.mpw_geom.specs.Links.{same, chain}
use Rattle.mpw_geom.proofs.Linked.{same_name, name_eq-refl, leads-sound, leads-complete}
use Rattle.mpw_roles.specs.declared.mask.Mask.{Mask}
use Rattle.mpw_roles.specs.declared.pairs.Pair.{Pair}
use Rattle.mpw_roles.specs.Hierarchy.{Name, role_names, is_role, immediate_juniors}
use Rattle.mpw_roles.specs.Internal.Table.{name_of, entry_of, entries_of, has_number, is_between, IsTable}
use Rattle.mpw_roles.specs.Mask.{has}
use Rattle.mpw_roles.specs.Order.{at_least, IsAtLeast}
use Rattle.mpw_roles.specs.Places.{name_at, mask_at, IsMasked}
use Rattle.mpw_roles.proofs.EntryLemmas.{role-number, place-found, distinct-entries, with-pair-entries}
use Rattle.mpw_roles.proofs.MarksLemmas.{length-names}
use Rattle.mpw_roles.proofs.NumberLemmas.{name-number, own-number}
use Rattle.mpw_roles.proofs.PlacesLemmas.{IsMasked-with_pair}
use Rattle.mpw_roles.proofs.PositionLemmas.{position-any}
use Rattle.mpw_roles.proofs.BoolLemmas.{and_parts, and_both}

-- without pairs a role is at least itself alone
no-juniors : (ns : List Name) (os : List ℕ) (a : Name)
    → immediate_juniors (entries_of ns [] os) a ≡ []
no-juniors ns [] a = refl
no-juniors ns (o ∷ os) a = elim (name_eq a (name_of ns o)) as
    (λ b. cond b [] (immediate_juniors (entries_of ns [] os) a) ≡ [])
    [ true ↦ refl | false ↦ no-juniors ns os a ]

alone : (ns : List Name) (os : List ℕ) (a b : Name) → IsAtLeast (entries_of ns [] os) a b
    → name_eq a b ≡ true
alone ns os a b same = name_eq-refl a
alone ns os a b (chain {middle = m} pair rest) =
    absurd (true≢false (sym pair ∙ ap (λ l. contains_name l m) (no-juniors ns os a)))

order-alone : (ns : List Name) (os : List ℕ) (a b : Name)
    → name_eq a b ≡ at_least (entries_of ns [] os) a b
order-alone ns os a b = both_ways _ _
    (λ equal. leads-complete (entries_of ns [] os) a b
    (subst (IsAtLeast (entries_of ns [] os) a) (same_name a b equal) same))
    (λ down. alone ns os a b (leads-sound (entries_of ns [] os) a b down))

pub masked-alone : (ns : List Name) (ps : List Pair) (os : List ℕ) (ms : List Mask)
    → IsTable ns ps os → length os ≤ length ms
    → ((p : ℕ) → p < length os → (q : ℕ) → has (mask_at ms p) q ≡ eqb q p)
    → IsMasked (entries_of ns [] os) ms
masked-alone ns ps os ms table long own =
    let h = entries_of ns [] os in
    let size : length h ≡ length os = length-map os (entry_of ns []) in
    let names = role_names h in
    let once = distinct-entries ns [] os table.known table.names_once table.once in
    record {
      long = omega (arith, size, long);
      exact = λ p inside q.
          let within : p < length names = omega (arith, inside, length-names h) in
          own p (omega (arith, inside, size)) q
          ∙ elim (cases_lt q (length h)) [
            | inl there ↦
                turned q p
                ∙ sym (name-number names once (name_at h p) p (own-number names once p within) q
                (omega (arith, there, length-names h)))
                ∙ order-alone ns os (name_at h p) (name_at h q)
                ∙ ap (λ b. b && at_least h (name_at h p) (name_at h q))
                (sym (lt-ltb q (length h) there))
            | inr past ↦
                ne_eqb q p (λ is. absurd (omega (arith, is, inside, past)))
                ∙ ap (λ b. b && at_least h (name_at h p) (name_at h q))
                (sym (le-ltb q (length h) past))
          ];
    }
  where
    turned : (a b : ℕ) → eqb a b ≡ eqb b a
    turned a b = elim (cases_eq a b) [
      | inl is ↦ eq-eqb a b is ∙ sym (eq-eqb b a (sym is))
      | inr other ↦ ne_eqb a b other ∙ sym (ne_eqb b a (λ is. other (sym is)))
    ]

-- the table without its last pair
pub table-front : (ns : List Name) (ps : List Pair) (p : Pair) (os : List ℕ)
    → IsTable ns (ps ++ p ∷ []) os → IsTable ns ps os × (is_between os p ≡ true)
table-front ns ps p os table = (
  record {
    names_once = table.names_once;
    once = table.once;
    known = table.known;
    between = (split ps table.between).0;
  },
  (split ps table.between).1,
)
  where
    split : (qs : List Pair) → list_all (is_between os) (qs ++ p ∷ []) ≡ true
        → (list_all (is_between os) qs ≡ true) × (is_between os p ≡ true)
    split [] all = (refl, (and_parts (is_between os p) true all).0)
    split (q ∷ qs) all =
        let both = and_parts (is_between os q) (list_all (is_between os) (qs ++ p ∷ [])) all in
        let rest = split qs both.1 in
        (and_both (is_between os q) _ both.0 rest.0, rest.1)

-- a number that is there has an index
pub placed : (os : List ℕ) (n : ℕ) → has_number os n ≡ true → position (λ m. eqb n m) os ≡ None → ⊥
placed os n there none =
    true≢false (sym (position-any (λ m. eqb n m) os ∙ there) ∙ ap is_some none)

-- one more pair
pub masked-more : (ns : List Name) (ps : List Pair) (p : Pair) (os : List ℕ) (i k : ℕ)
    (old new : List Mask) → IsTable ns (ps ++ p ∷ []) os
    → Some i ≡ position (λ m. eqb p.senior m) os → Some k ≡ position (λ m. eqb p.junior m) os
    → length new ≡ length old
    → ((r : ℕ) → r < length old → (q : ℕ)
    → has (mask_at new r) q ≡ (has (mask_at old r) q
    || (has (mask_at old r) i && has (mask_at old k) q)))
    → IsMasked (entries_of ns ps os) old → IsMasked (entries_of ns (ps ++ p ∷ []) os) new
masked-more ns ps p os i k old new whole at_s at_j long joined masked =
    let table = table-front ns ps p os whole in
    let t = table.0 in
    let ends = and_parts (has_number os p.senior) (has_number os p.junior) table.1 in
    let s = name_of ns p.senior in
    let j = name_of ns p.junior in
    let own_s = own-number ns t.names_once p.senior (t.known p.senior ends.0) in
    let own_j = own-number ns t.names_once p.junior (t.known p.junior ends.1) in
    let there : is_role (entries_of ns ps os) s ≡ true =
    role-number ns ps os t.known t.names_once s p.senior own_s ∙ ends.0 in
    subst (λ h. IsMasked h new)
    (with-pair-entries ns ps os t.known t.names_once t.once t.between p s own_s)
    (IsMasked-with_pair (entries_of ns ps os) s j i k old new there
    (at_s ∙ place-found ns ps os t.known t.names_once s p.senior own_s)
    (at_j ∙ place-found ns ps os t.known t.names_once j p.junior own_j) masked long joined)

-- the table of the first pairs
pub table-take : (ns : List Name) (ps : List Pair) (os : List ℕ) (n : ℕ) → IsTable ns ps os
    → IsTable ns (take n ps) os
table-take ns ps os n table = record {
  names_once = table.names_once;
  once = table.once;
  known = table.known;
  between = all-taken ps n table.between;
}
  where
    all-taken : (qs : List Pair) (k : ℕ) → list_all (is_between os) qs ≡ true
        → list_all (is_between os) (take k qs) ≡ true
    all-taken [] zero all = refl
    all-taken [] (suc k) all = refl
    all-taken (q ∷ qs) zero all = refl
    all-taken (q ∷ qs) (suc k) all =
        let both = and_parts (is_between os q) (list_all (is_between os) qs) all in
        and_both (is_between os q) _ both.0 (all-taken qs k both.1)
