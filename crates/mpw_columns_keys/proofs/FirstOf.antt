-- What is joined from the first keys of lists is the first of each rule of what is joined from all.
use Rattle.std.proofs.Common.{◌≡◌, ◌∙◌, ◌≢◌, inl, inr, ℕ, zero, suc, ◌+◌, ◌*◌, ◌<◌, ◌≤◌, ◌==◌, Bool, cond, List, [], ◌∷◌, ◌++◌, length, take, map, sum_by, filter, All}
use Rattle.std.proofs.Common.{length-append, append-nil, map-id, take-take, sym, refl, ap, ap₂, subst, le_refl, eqb-true, eq-eqb, ne_eqb, arith}
use Rattle.std.specs.List.{AllZip, range_with_len}
use Rattle.std.proofs.Math.Seq.{take-nil}
use Rattle.std.proofs.lemmas.Bool.{cases_lt}
use Rattle.std.proofs.lemmas.Bool.Decides.{eqb_tells}
use Rattle.std.proofs.lemmas.List.{length-map, take-map}
use Rattle.std.proofs.lemmas.List.Elements.{All-nil, All-head, All-tail, All-append, All-filter, All-take, filter-append, filter_passes}
use Rattle.std.proofs.lemmas.List.FromFn.{fill_by_all, get_or-map-range_with_len, length-map-range_with_len, sum_by-map-range_with_len_more}
use Rattle.mpw_markers.specs.declared.marker.Key.{Key}
use Rattle.mpw_markers.specs.declared.marker.Marker.{Marker}
use Rattle.mpw_columns_keys.specs.Keys.{is_of_list, list_of, lists_of_rule, lists_of_sides, of_first, together}
use Rattle.mpw_columns_keys.specs.Firsts.{capped, first_placed, of_rule, rule_counted, AreFirstOf, HasSide, IsListed, SharedListsHaveTheFirst}
use Rattle.mpw_columns_keys.specs.declared.first.Firsts.{Firsts}
use Rattle.mpw_columns_keys.specs.declared.placed.Placed.{Placed}
use Rattle.mpw_columns_keys.proofs.Agree.{filter_mapped, rule_agrees, rule_counts}

-- ---- the rule of a list's keys

abbrev AreOf : ℕ → List Key → Type 0
AreOf rule keys = All (λ k. k.rule ≡ rule) keys

module _ (rule n : ℕ) (low : 2 * rule ≤ n) (high : n < 2 * rule + 2) where
  list_has_rule : (keys : List Key) → All HasSide keys → AreOf rule (filter (is_of_list n) keys)
  list_has_rule keys sides = λ i d lt.
      let side = All-filter (is_of_list n) HasSide keys sides i d lt in
      let same = eqb-true _ _ (filter_passes (is_of_list n) keys i d lt) in
      omega (arith, side, same, low, high)

  lists_have_rule : (ls : List (List Key)) → All (All HasSide) ls → AreOf rule (list_of n ls)
  lists_have_rule [] h = All-nil (λ k. k.rule ≡ rule)
  lists_have_rule (l ∷ ls) h =
      All-append (λ k. k.rule ≡ rule) (filter (is_of_list n) l) (list_of n ls)
      (list_has_rule l (All-head (All HasSide) l ls h))
      (lists_have_rule ls (All-tail (All HasSide) l ls h))

sides_have_rule : (rule : ℕ) (ls : List (List Key)) → All (All HasSide) ls
    → AreOf rule (lists_of_sides rule ls)
sides_have_rule rule ls h =
    All-append (λ k. k.rule ≡ rule) (list_of (2 * rule) ls) (list_of (2 * rule + 1) ls)
    (lists_have_rule rule (2 * rule) (omega arith) (omega arith) ls h)
    (lists_have_rule rule (2 * rule + 1) (omega arith) (omega arith) ls h)

-- ---- keys of one rule after those of another

abbrev has_rule : ℕ → Key → Bool
has_rule place k = k.rule == place

of_this : (rule : ℕ) (keys : List Key) → AreOf rule keys → filter (has_rule rule) keys ≡ keys
of_this rule [] h = refl
of_this rule (k ∷ ks) h =
    ap (λ (b : Bool). cond b (k ∷ filter (has_rule rule) ks) (filter (has_rule rule) ks))
    (eq-eqb k.rule rule (All-head (λ l. l.rule ≡ rule) k ks h))
    ∙ ap (λ (ls : List Key). k ∷ ls) (of_this rule ks (All-tail (λ l. l.rule ≡ rule) k ks h))

of_other : (rule place : ℕ) (keys : List Key) → rule ≢ place → AreOf rule keys
    → filter (has_rule place) keys ≡ []
of_other rule place [] ne h = refl
of_other rule place (k ∷ ks) ne h =
    ap (λ (b : Bool). cond b (k ∷ filter (has_rule place) ks) (filter (has_rule place) ks))
    (ne_eqb k.rule place (λ e. ne (sym (All-head (λ l. l.rule ≡ rule) k ks h) ∙ e)))
    ∙ of_other rule place ks ne (All-tail (λ l. l.rule ≡ rule) k ks h)

-- h n is the concatenation of what g gives for the first n rules
record AreJoined (rules : ℕ) (g h : ℕ → List Key) : Type 0 where
  none : h 0 ≡ []
  more : (n : ℕ) → n < rules → h (suc n) ≡ h n ++ g n
  each : (n : ℕ) → n < rules → AreOf n (g n)

module _ (rules : ℕ) (g h : ℕ → List Key) (j : AreJoined rules g h) where
  none_later : (n place : ℕ) → n ≤ rules → n ≤ place → filter (has_rule place) (h n) ≡ []
  none_later zero place le before = ap (filter (has_rule place)) j.none
  none_later (suc n) place le before =
      ap (filter (has_rule place)) (j.more n (omega arith))
      ∙ filter-append (has_rule place) (h n) (g n)
      ∙ ap₂ (λ (ks ls : List Key). ks ++ ls) (none_later n place (omega arith) (omega arith))
      (of_other n place (g n) (omega arith) (j.each n (omega arith)))

  those_of : (n place : ℕ) → n ≤ rules → place < n → filter (has_rule place) (h n) ≡ g place
  those_of zero place le lt = absurd (omega (arith, lt))
  those_of (suc n) place le lt =
      ap (filter (has_rule place)) (j.more n (omega arith))
      ∙ filter-append (has_rule place) (h n) (g n)
      ∙ elim (eqb_tells n place) as (λ t. filter (has_rule place) (h n)
      ++ filter (has_rule place) (g n) ≡ g place) [
        | inl s ↦
            subst (λ (r : ℕ). filter (has_rule r) (h n) ++ filter (has_rule r) (g n) ≡ g r) s.1
            (ap₂ (λ (ks ls : List Key). ks ++ ls) (none_later n n (omega arith) (omega arith))
            (of_this n (g n) (j.each n (omega arith))))
        | inr s ↦
            ap₂ (λ (ks ls : List Key). ks ++ ls) (those_of n place (omega arith) (before s.1))
            (of_other n place (g n) s.1 (j.each n (omega arith)))
            ∙ append-nil (g place)
      ]
    where
      before : n ≢ place → place < n
      before ne = omega (arith, ne, lt)

  joined_count : (c : ℕ → ℕ) → ((r : ℕ) → r < rules → c r ≡ length (g r)) → (n : ℕ) → n ≤ rules
      → sum_by c (range_with_len 0 n) ≡ length (h n)
  joined_count c same zero le = sym (ap (λ (ks : List Key). length ks) j.none)
  joined_count c same (suc n) le =
      one_more
      ∙ ap₂ (λ (a b : ℕ). a + b) (joined_count c same n (omega arith)) (same n (omega arith))
      ∙ sym (length-append (h n) (g n))
      ∙ ap (λ (ks : List Key). length ks) (sym (j.more n (omega arith)))
    where
      next : n + 1 ≡ suc n
      next = omega arith

      at : 0 + n ≡ n
      at = omega arith

      one_more : sum_by c (range_with_len 0 (suc n)) ≡ sum_by c (range_with_len 0 n) + c n
      one_more =
          ap (λ (m : ℕ). sum_by c (range_with_len 0 m)) (sym next)
          ∙ ap (sum_by c) (sym (map-id (range_with_len 0 (n + 1))))
          ∙ sum_by-map-range_with_len_more c (λ r. r) 0 n n at
          ∙ ap (λ (rs : List ℕ). sum_by c rs + c n) (map-id (range_with_len 0 n))

-- ---- the law

module _ (most rules : ℕ) (firsts : List Firsts) (upright across : List Placed)
    (vs hs : List (List Key)) (v : AllZip (IsListed most (2 * rules) firsts) upright vs)
    (h : AllZip (IsListed most (2 * rules) firsts) across hs) (sides_v : All (All HasSide) vs)
    (sides_h : All (All HasSide) hs) where
  abbrev whole : ℕ → List Key
  whole rule = lists_of_rule vs hs rule

  abbrev book : List Marker
  book = map of_first (together rules vs hs)

  abbrev first : List Marker
  first = map of_first (first_placed most firsts upright across rules)

  whole_has_rule : (rule : ℕ) → AreOf rule (whole rule)
  whole_has_rule rule =
      All-append (λ k. k.rule ≡ rule) (lists_of_sides rule vs) (lists_of_sides rule hs)
      (sides_have_rule rule vs sides_v) (sides_have_rule rule hs sides_h)

  book_joined : AreJoined rules whole (λ n. together n vs hs)
  book_joined = record { none = refl; more = λ n lt. refl; each = λ n lt. whole_has_rule n }

  first_joined : AreJoined rules (λ rule. take most (whole rule))
      (λ n. first_placed most firsts upright across n)
  first_joined = record {
    none = refl;
    more = λ n lt. ap (λ (ks : List Key). first_placed most firsts upright across n ++ ks)
        (rule_agrees most rules firsts n lt upright across vs hs v h);
    each = λ n lt. All-take (λ k. k.rule ≡ n) most (whole n) (whole_has_rule n);
  }

  of_book : (place : ℕ) → place < rules → of_rule book place ≡ map of_first (whole place)
  of_book place lt =
      filter_mapped (λ m. m.key.rule == place) of_first (together rules vs hs)
      ∙ ap (map of_first) (those_of rules whole (λ n. together n vs hs) book_joined rules place
      (le_refl rules) lt)

  -- the keys of a rule, all and the first; none after the last rule
  record AtPlace (place : ℕ) : Type 0 where
    keys : List Key
    all : of_rule book place ≡ map of_first keys
    some : of_rule first place ≡ map of_first (take most keys)

  at_place : (place : ℕ) → AtPlace place
  at_place place =
      elim (cases_lt place rules) as (λ t. AtPlace place) [
        | inl lt ↦ record {
          keys = whole place;
          all = of_book place lt;
          some =
              filter_mapped (λ m. m.key.rule == place) of_first
              (first_placed most firsts upright across rules)
              ∙ ap (map of_first) (those_of rules (λ rule. take most (whole rule))
              (λ n. first_placed most firsts upright across n) first_joined rules place
              (le_refl rules) lt);
        }
        | inr le ↦ record {
          keys = [];
          all = filter_mapped (λ m. m.key.rule == place) of_first (together rules vs hs)
              ∙ ap (map of_first) (none_later rules whole (λ n. together n vs hs) book_joined rules
              place
              (le_refl rules) le);
          some =
              filter_mapped (λ m. m.key.rule == place) of_first
              (first_placed most firsts upright across rules)
              ∙ ap (map of_first) (none_later rules (λ rule. take most (whole rule))
              (λ n. first_placed most firsts upright across n) first_joined rules place
              (le_refl rules) le
              ∙ sym (take-nil most));
        }
      ]

  same_first : (place : ℕ) → take most (of_rule first place) ≡ take most (of_rule book place)
  same_first place =
      let p = at_place place in
      ap (take most) p.some ∙ take-map of_first most (take most p.keys)
      ∙ ap (map of_first) (take-take most most p.keys (le_refl most))
      ∙ sym (take-map of_first most p.keys) ∙ ap (take most) (sym p.all)

  few_of_rule : (place : ℕ) → take most (of_rule first place) ≡ of_rule first place
  few_of_rule place =
      let p = at_place place in
      ap (take most) p.some ∙ take-map of_first most (take most p.keys)
      ∙ ap (map of_first) (take-take most most p.keys (le_refl most)) ∙ sym p.some

  same_count : (rule : ℕ) → rule < rules
      → capped (rule_counted firsts upright across rule) ≡ capped (length (of_rule book rule))
  same_count rule lt =
      ap capped (rule_counts most rules firsts rule lt upright across vs hs v h
      ∙ sym (length-map (whole rule) of_first)
      ∙ ap (λ (ms : List Marker). length ms) (sym (of_book rule lt)))

  are_first : AreFirstOf most rules book first
      (map (λ rule. capped (rule_counted firsts upright across rule)) (range_with_len 0 rules))
      (capped (sum_by (rule_counted firsts upright across) (range_with_len 0 rules)))
  are_first = record {
    first_are = same_first;
    few = few_of_rule;
    counts_are = fill_by_all _ _ rules 0 (length-map-range_with_len _ 0 rules)
        (λ k lt. get_or-map-range_with_len _ 0 rules k k 0 lt (omega arith) ∙ same_count k lt);
    all_is = ap capped (joined_count rules whole (λ n. together n vs hs) book_joined
        (rule_counted firsts upright across)
        (λ r lt. rule_counts most rules firsts r lt upright across vs hs v h) rules (le_refl rules)
        ∙ sym (length-map (together rules vs hs) of_first));
  }

pub first_of_each : SharedListsHaveTheFirst
first_of_each most rules firsts upright across vs hs v h sides_v sides_h =
    are_first most rules firsts upright across vs hs v h sides_v sides_h
