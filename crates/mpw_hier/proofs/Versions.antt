-- Versions of a cell, and how many cells a shelf has.
use Rattle.std.proofs.Common.{◌≡◌, ℕ, suc, ◌+◌, Bool, true, false, cond, ◌||◌, List, [], ◌∷◌, length, get_or, take, map, Option, Some, None, refl, sym, ap, subst, ◌∙◌, arith}
use Rattle.std.specs.Prelude.{slice_get, is_some}
use Rattle.std.specs.List.{IsDistinct, list_any}
use Rattle.std.proofs.lemmas.Option.{slice_get_within, slice_get_read}
use Rattle.std.specs.Set.{distinct_count, is_member}
use Rattle.std.specs.Cmp.{IsEquivalence}
use Rattle.std.specs.BTreeMap as tree
use Rattle.std.specs.BTreeMap.{BTreeMap, btree_map_len}
use Rattle.std.specs.Cmp.Lexicographic.{texts_ties}
use Rattle.std.specs.Ordering.{eq_by_cmp}
use Rattle.std.proofs.lemmas.Map.Made.{is_some-lookup, length-from_keys}
use Rattle.std.proofs.lemmas.Map.Keys.{IsDistinct-from_sorted}
use Rattle.std.proofs.lemmas.List.Sums.{sum_by-cons}
use Rattle.std.proofs.lemmas.Map.Entries.{length-keys_of}
use Rattle.mpw_geom.specs.Names.{name_eq, name_cmp}
use Rattle.mpw_hier.specs.declared.submission.Submission.{Submission}
use Rattle.mpw_hier.specs.Shelf.{later, present_from, present, versions}
use Rattle.mpw_hier.specs.Limits.{IsShelf}
use Rattle.mpw_hier.proofs.Linking.{same_name, name_itself}

-- ---- the version of the present submission

record Last (k : ℕ) (ss : List Submission) (cell : List ℕ) (n : ℕ) : Type 0 where
  index : ℕ
  at : n ≡ k + index
  submission : Submission
  is : slice_get ss index ≡ Some submission
  same : name_eq submission.cell cell ≡ true
  count : versions ss cell ≡ versions (take index ss) cell + 1

versions_first : (s : Submission) (ss : List Submission) (cell : List ℕ)
    → versions (s ∷ ss) cell ≡ cond (name_eq s.cell cell) 1 0 + versions ss cell
versions_first s ss cell = sum_by-cons (λ (t : Submission). cond (name_eq t.cell cell) 1 0) s ss

none_yet : (k : ℕ) (ss : List Submission) (cell : List ℕ) → present_from k ss cell ≡ None
    → versions ss cell ≡ 0
none_yet k [] cell e = refl
none_yet k (s ∷ ss) cell e = versions_first s ss cell
    ∙ go (name_eq s.cell cell) (present_from (k + 1) ss cell) refl (λ h. none_yet (k + 1) ss cell h)
    e
  where
    go : (b : Bool) (o : Option ℕ) → o ≡ present_from (k + 1) ss cell
        → (present_from (k + 1) ss cell ≡ None → versions ss cell ≡ 0)
        → later o (cond b (Some k) None) ≡ None → cond b 1 0 + versions ss cell ≡ 0
    go true None is more e = absurd cc
    go true (Some m) is more e = absurd cc
    go false None is more e = omega (arith, more (sym is))
    go false (Some m) is more e = absurd cc

last_of : (k : ℕ) (ss : List Submission) (cell : List ℕ) (n : ℕ) → present_from k ss cell ≡ Some n
    → Last k ss cell n
last_of k [] cell n e = absurd cc
last_of k (s ∷ ss) cell n e = go (name_eq s.cell cell) refl (present_from (k + 1) ss cell) refl
    (λ m h. last_of (k + 1) ss cell m h) e
  where
    go : (b : Bool) → name_eq s.cell cell ≡ b → (o : Option ℕ) → o ≡ present_from (k + 1) ss cell
        → ((m : ℕ) → present_from (k + 1) ss cell ≡ Some m → Last (k + 1) ss cell m)
        → later o (cond b (Some k) None) ≡ Some n → Last k (s ∷ ss) cell n
    go b t (Some m) is more e =
        let same : m ≡ n = cc in
        let h = more n (sym is ∙ ap (λ x. Some x) same) in
        record {
          index = suc h.index;
          at = omega (arith, h.at);
          submission = h.submission;
          is = h.is;
          same = h.same;
          count = omega (
            arith,
            h.count,
            versions_first s ss cell,
            versions_first s (take h.index ss) cell,
          );
        }
    go true t None is more e =
        let same : k ≡ n = cc in
        let rest = none_yet (k + 1) ss cell (sym is) in
        let first : cond {A = ℕ} (name_eq s.cell cell) 1 0 ≡ 1 = ap (λ c. cond {A = ℕ} c 1 0) t in
        record {
          index = 0;
          at = omega (arith, same);
          submission = s;
          is = refl;
          same = t;
          count = omega (arith, rest, first, versions_first s ss cell);
        }
    go false t None is more e = absurd cc

pub first_version : (ss : List Submission) (cell : List ℕ) → present ss cell ≡ None
    → versions ss cell ≡ 0
unfolding present
first_version ss cell e = none_yet 0 ss cell e

pub present_is : (ss : List Submission) (cell : List ℕ) (n : ℕ) → present ss cell ≡ Some n
    → (s : Submission) × (slice_get ss n ≡ Some s) × (s.cell ≡ cell)
unfolding present
present_is ss cell n e =
    let h = last_of 0 ss cell n e in
    let at : h.index ≡ n = omega (arith, h.at) in (
      h.submission,
      subst (λ k. slice_get ss k ≡ Some h.submission) at h.is,
      same_name h.submission.cell cell h.same,
    )

next_version : (ss : List Submission) (cell : List ℕ) (n : ℕ) (s : Submission) → IsShelf ss
    → present ss cell ≡ Some n → slice_get ss n ≡ Some s → s.version ≡ versions ss cell
unfolding present
next_version ss cell n s numbered e is =
    let h = last_of 0 ss cell n e in
    let at : h.index ≡ n = omega (arith, h.at) in
    let there : slice_get ss n ≡ Some h.submission = subst (λ k. slice_get ss k ≡ Some h.submission)
    at h.is in
    let both : Some h.submission ≡ Some s = sym there ∙ is in
    let one : h.submission ≡ s = cc in
    let cells : s.cell ≡ cell = ap (λ (t : Submission). t.cell) (sym one)
    ∙ same_name h.submission.cell cell h.same in
    let own : s.version ≡ versions (take n ss) cell + 1 =
    subst (λ c. s.version ≡ versions (take n ss) c + 1) cells (numbered n s is).version in
    own ∙ sym (subst (λ k. versions ss cell ≡ versions (take k ss) cell + 1) at h.count)

-- the same for what is at its number
pub version_read : (ss : List Submission) (cell : List ℕ) (n : ℕ) (s : Submission) → IsShelf ss
    → present ss cell ≡ Some n → s ≡ get_or ss n s → s.version ≡ versions ss cell
version_read ss cell n s numbered e read =
    let h = present_is ss cell n e in
    let within = slice_get_within ss n h.0 h.1 in
    next_version ss cell n s numbered e (slice_get_read ss (length ss) n s refl within read)

-- ---- cells

cmp_eq : eq_by_cmp name_cmp ≡ name_eq
cmp_eq = λ i q k. sym (texts_ties q k) i

names_alike : IsEquivalence name_eq
names_alike = record {
  refl = λ x. name_itself x;
  symm = λ x y. go x y (name_eq x y) refl (name_eq y x) refl;
  congr = λ x y z e. ap (λ n. name_eq n z) (same_name x y e);
}
  where
    go : (x y : List ℕ) (a : Bool) → name_eq x y ≡ a → (b : Bool) → name_eq y x ≡ b
        → name_eq x y ≡ name_eq y x
    go x y true e b h = e ∙ sym (ap (λ n. name_eq n x) (sym (same_name x y e)) ∙ name_itself x)
    go x y false e true h = absurd (let q = sym e ∙ ap (λ n. name_eq x n) (same_name y x h)
        ∙ name_itself x in cc)
    go x y false e false h = e ∙ sym h

present_some : (k : ℕ) (ss : List Submission) (q : List ℕ)
    → is_some (present_from k ss q) ≡ is_member name_eq (map (λ s. s.cell) ss) q
present_some k [] q = refl
present_some k (s ∷ ss) q = go (present_from (k + 1) ss q) (name_eq s.cell q)
    (present_some (k + 1) ss q) ∙ ap (λ b. b || is_member name_eq (map (λ s. s.cell) ss) q)
    (names_alike.symm s.cell q)
  where
    go : (o : Option ℕ) (b : Bool) {rest : Bool} → is_some o ≡ rest
        → is_some (later o (cond b (Some k) None)) ≡ (b || rest)
    go None true e = refl
    go None false e = e
    go (Some m) true e = refl
    go (Some m) false e = e

-- a table of the present submissions has an entry for each cell
pub cells_of : (table : BTreeMap (List ℕ) ℕ) (ss : List Submission) → tree.IsOrdered name_cmp table
    → ((q : List ℕ) → tree.get name_cmp table q ≡ present ss q)
    → btree_map_len table ≡ distinct_count name_eq (map (λ s. s.cell) ss)
unfolding present
cells_of table ss ordered at =
    let apart : IsDistinct name_eq (tree.keys table) = subst (λ e. IsDistinct e (tree.keys table))
    cmp_eq (IsDistinct-from_sorted name_cmp (tree.keys table) ordered) in
    let same = λ (q : List ℕ). ap (λ (e : List ℕ → List ℕ → Bool). list_any (e q) (tree.keys table))
    (sym cmp_eq) ∙ sym (is_some-lookup (tree.is_at (name_cmp q)) table.entries)
    ∙ ap is_some (at q) ∙ present_some 0 ss q in
    sym (length-keys_of table.entries) ∙ length-from_keys names_alike (tree.keys table)
    (map (λ s. s.cell) ss) apart same
