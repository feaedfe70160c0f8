-- The pairs of roles by numbers: the juniors of a number, and whose pairs they are.
use Rattle.std.proofs.Common.{◌≡◌, ℕ, Bool, true, false, cond, not, ◌||◌, ◌&&◌, List, [], ◌∷◌, ◌++◌, map, filter, eqb, refl, sym, ap, ◌∙◌, true≢false}
use Rattle.std.specs.List.{list_all, list_any}
use Rattle.mpw_roles.specs.declared.pairs.Pair.{Pair}
use Rattle.mpw_roles.specs.Internal.Table.{juniors_of, has_number, is_between, is_pair, is_end}
use Rattle.mpw_roles.proofs.NumberLemmas.{eqb-back, has-more, has-filter}
use Rattle.mpw_roles.proofs.BoolLemmas.{refuted, and_parts, and_both, neither}

-- a number that is no role's has no pairs
pub juniors-none : (ps : List Pair) (os : List ℕ) (n : ℕ) → has_number os n ≡ false
    → list_all (is_between os) ps ≡ true → juniors_of ps n ≡ []
juniors-none [] os n none between = refl
juniors-none (p ∷ ps) os n none between =
    let both = and_parts (is_between os p) (list_all (is_between os) ps) between in
    let ends = and_parts (has_number os p.senior) (has_number os p.junior) both.0 in
    let other : eqb n p.senior ≡ false = refuted (eqb n p.senior) (λ is.
    true≢false (sym ends.0 ∙ ap (has_number os) (sym (eqb-back n p.senior is)) ∙ none)) in
    ap (λ b. map (λ (q : Pair). q.junior) (cond b
    (p ∷ filter (λ (q : Pair). eqb n q.senior) ps) (filter (λ (q : Pair). eqb n q.senior) ps)))
    other
    ∙ juniors-none ps os n none both.1

-- the juniors of roles are roles
pub juniors-there : (ps : List Pair) (os : List ℕ) (n : ℕ) → list_all (is_between os) ps ≡ true
    → (k : ℕ) → has_number (juniors_of ps n) k ≡ true → has_number os k ≡ true
juniors-there [] os n between k there = absurd (true≢false (sym there))
juniors-there (p ∷ ps) os n between k there =
    let both = and_parts (is_between os p) (list_all (is_between os) ps) between in
    let ends = and_parts (has_number os p.senior) (has_number os p.junior) both.0 in
    elim (eqb n p.senior) as (λ b. has_number (map (λ (q : Pair). q.junior) (cond b
    (p ∷ filter (λ (q : Pair). eqb n q.senior) ps) (filter (λ (q : Pair). eqb n q.senior) ps))) k
    ≡ true → has_number os k ≡ true) [
      | true ↦ λ now. elim (eqb k p.junior) as (λ b. eqb k p.junior ≡ b
          → (b || has_number (juniors_of ps n) k) ≡ true → has_number os k ≡ true) [
            | true ↦ λ here _. ap (has_number os) (eqb-back k p.junior here) ∙ ends.1
            | false ↦ λ _ later. juniors-there ps os n both.1 k later
          ] refl now
      | false ↦ λ now. juniors-there ps os n both.1 k now
    ] there

pub juniors-more : (ps : List Pair) (p : Pair) (n : ℕ)
    → juniors_of (ps ++ p ∷ []) n ≡ juniors_of ps n ++ cond (eqb n p.senior) (p.junior ∷ []) []
juniors-more [] p n =
    elim (eqb n p.senior) as (λ b. map (λ (q : Pair). q.junior) (cond b (p ∷ []) [])
    ≡ cond b (p.junior ∷ []) []) [ true ↦ refl | false ↦ refl ]
juniors-more (q ∷ ps) p n = elim (eqb n q.senior) as (λ b.
    map (λ (x : Pair). x.junior) (cond b
    (q ∷ filter (λ (x : Pair). eqb n x.senior) (ps ++ p ∷ []))
    (filter (λ (x : Pair). eqb n x.senior) (ps ++ p ∷ [])))
    ≡ map (λ (x : Pair). x.junior) (cond b
    (q ∷ filter (λ (x : Pair). eqb n x.senior) ps) (filter (λ (x : Pair). eqb n x.senior) ps))
    ++ cond (eqb n p.senior) (p.junior ∷ []) []) [
      | true ↦ ap (λ l. q.junior ∷ l) (juniors-more ps p n)
      | false ↦ juniors-more ps p n
    ]

-- whether a pair was commanded
pub pair-number : (ps : List Pair) (s j : ℕ)
    → has_number (juniors_of ps s) j ≡ list_any (is_pair s j) ps
pair-number [] s j = refl
pair-number (p ∷ ps) s j = elim (eqb s p.senior) as (λ b. has_number
    (map (λ (q : Pair). q.junior) (cond b (p ∷ filter (λ (q : Pair). eqb s q.senior) ps)
    (filter (λ (q : Pair). eqb s q.senior) ps))) j
    ≡ ((b && eqb j p.junior) || list_any (is_pair s j) ps)) [
      | true ↦ ap (λ b. eqb j p.junior || b) (pair-number ps s j)
      | false ↦ pair-number ps s j
    ]

at-head : (p : Pair) (qs : List Pair) (s : ℕ) → eqb s p.senior ≡ true
    → juniors_of (p ∷ qs) s ≡ p.junior ∷ juniors_of qs s
at-head p qs s is = ap (λ b. map (λ (q : Pair). q.junior) (cond b
    (p ∷ filter (λ (q : Pair). eqb s q.senior) qs) (filter (λ (q : Pair). eqb s q.senior) qs))) is

pub past-head : (p : Pair) (qs : List Pair) (s : ℕ) → eqb s p.senior ≡ false
    → juniors_of (p ∷ qs) s ≡ juniors_of qs s
past-head p qs s is = ap (λ b. map (λ (q : Pair). q.junior) (cond b
    (p ∷ filter (λ (q : Pair). eqb s q.senior) qs) (filter (λ (q : Pair). eqb s q.senior) qs))) is

pub same-head : (p : Pair) (qs rs : List Pair) (s : ℕ) → juniors_of qs s ≡ juniors_of rs s
    → juniors_of (p ∷ qs) s ≡ juniors_of (p ∷ rs) s
same-head p qs rs s same = elim (eqb s p.senior) as (λ b. eqb s p.senior ≡ b
    → juniors_of (p ∷ qs) s ≡ juniors_of (p ∷ rs) s) [
      | true ↦ λ is. at-head p qs s is ∙ ap (λ l. p.junior ∷ l) same ∙ sym (at-head p rs s is)
      | false ↦ λ is. past-head p qs s is ∙ same ∙ sym (past-head p rs s is)
    ] refl

pub juniors-less : (ps : List Pair) (s j : ℕ)
    → juniors_of (filter (λ (p : Pair). not (is_pair s j p)) ps) s
    ≡ filter (λ k. not (eqb j k)) (juniors_of ps s)
juniors-less [] s j = refl
juniors-less (p ∷ ps) s j = elim (eqb s p.senior) as (λ b. eqb s p.senior ≡ b
    → juniors_of (cond (not (b && eqb j p.junior))
    (p ∷ filter (λ (q : Pair). not (is_pair s j q)) ps)
    (filter (λ (q : Pair). not (is_pair s j q)) ps)) s
    ≡ filter (λ k. not (eqb j k)) (map (λ (q : Pair). q.junior) (cond b
    (p ∷ filter (λ (q : Pair). eqb s q.senior) ps) (filter (λ (q : Pair). eqb s q.senior) ps)))) [
      | true ↦ λ here. elim (eqb j p.junior) as (λ b. juniors_of (cond (not b)
          (p ∷ filter (λ (q : Pair). not (is_pair s j q)) ps)
          (filter (λ (q : Pair). not (is_pair s j q)) ps)) s
          ≡ cond (not b) (p.junior ∷ filter (λ k. not (eqb j k)) (juniors_of ps s))
          (filter (λ k. not (eqb j k)) (juniors_of ps s))) [
            | true ↦ juniors-less ps s j
            | false ↦ at-head p (filter (λ (q : Pair). not (is_pair s j q)) ps) s here
                ∙ ap (λ l. p.junior ∷ l) (juniors-less ps s j)
          ]
      | false ↦ λ other. past-head p (filter (λ (q : Pair). not (is_pair s j q)) ps) s other
          ∙ juniors-less ps s j
    ] refl

-- one role fewer
pub juniors-without : (ps : List Pair) (n m : ℕ) → eqb n m ≡ false
    → juniors_of (filter (λ (p : Pair). not (is_end n p)) ps) m
    ≡ filter (λ k. not (eqb n k)) (juniors_of ps m)
juniors-without [] n m apart = refl
juniors-without (p ∷ ps) n m apart =
    let qs = filter (λ (q : Pair). not (is_end n q)) ps in
    elim (eqb m p.senior) as (λ b. eqb m p.senior ≡ b
    → juniors_of (cond (not (is_end n p)) (p ∷ qs) qs) m
    ≡ filter (λ k. not (eqb n k)) (map (λ (q : Pair). q.junior) (cond b
    (p ∷ filter (λ (q : Pair). eqb m q.senior) ps) (filter (λ (q : Pair). eqb m q.senior) ps)))) [
      | true ↦ λ here.
          let kept : eqb n p.senior ≡ false = ap (eqb n) (sym (eqb-back m p.senior here)) ∙ apart in
          ap (λ b. juniors_of (cond (not (b || eqb n p.junior)) (p ∷ qs) qs) m) kept
          ∙ elim (eqb n p.junior) as (λ b. juniors_of (cond (not b) (p ∷ qs) qs) m
          ≡ cond (not b) (p.junior ∷ filter (λ k. not (eqb n k)) (juniors_of ps m))
          (filter (λ k. not (eqb n k)) (juniors_of ps m))) [
            | true ↦ juniors-without ps n m apart
            | false ↦ at-head p qs m here ∙ ap (λ l. p.junior ∷ l) (juniors-without ps n m apart)
          ]
      | false ↦ λ other. elim (is_end n p) as (λ b. juniors_of (cond (not b) (p ∷ qs) qs) m
          ≡ filter (λ k. not (eqb n k)) (juniors_of ps m)) [
            | true ↦ juniors-without ps n m apart
            | false ↦ past-head p qs m other ∙ juniors-without ps n m apart
          ]
    ] refl

-- the invariant of a table's pairs
pub between-more : (ps : List Pair) (os : List ℕ) (n : ℕ) → list_all (is_between os) ps ≡ true
    → list_all (is_between (os ++ n ∷ [])) ps ≡ true
between-more [] os n between = refl
between-more (p ∷ ps) os n between =
    let both = and_parts (is_between os p) (list_all (is_between os) ps) between in
    let ends = and_parts (has_number os p.senior) (has_number os p.junior) both.0 in
    and_both (is_between (os ++ n ∷ []) p) _
    (and_both (has_number (os ++ n ∷ []) p.senior) _ (still p.senior ends.0)
    (still p.junior ends.1))
    (between-more ps os n both.1)
  where
    still : (k : ℕ) → has_number os k ≡ true → has_number (os ++ n ∷ []) k ≡ true
    still k there = has-more os n k ∙ ap (λ b. b || eqb k n) there

pub between-pair : (ps : List Pair) (os : List ℕ) (p : Pair) → list_all (is_between os) ps ≡ true
    → is_between os p ≡ true → list_all (is_between os) (ps ++ p ∷ []) ≡ true
between-pair [] os p between is = and_both (is_between os p) true is refl
between-pair (q ∷ ps) os p between is =
    let both = and_parts (is_between os q) (list_all (is_between os) ps) between in
    and_both (is_between os q) _ both.0 (between-pair ps os p both.1 is)

pub between-less : (f : Pair → Bool) (ps : List Pair) (os : List ℕ)
    → list_all (is_between os) ps ≡ true → list_all (is_between os) (filter f ps) ≡ true
between-less f [] os between = refl
between-less f (p ∷ ps) os between =
    let both = and_parts (is_between os p) (list_all (is_between os) ps) between in
    let rest = between-less f ps os both.1 in
    elim (f p) as (λ b. list_all (is_between os) (cond b (p ∷ filter f ps) (filter f ps)) ≡ true)
    [ true ↦ and_both (is_between os p) _ both.0 rest | false ↦ rest ]

pub between-left : (ps : List Pair) (os : List ℕ) (n : ℕ) → list_all (is_between os) ps ≡ true
    → list_all (is_between (filter (λ o. not (eqb n o)) os))
    (filter (λ (p : Pair). not (is_end n p)) ps) ≡ true
between-left [] os n between = refl
between-left (p ∷ ps) os n between =
    let left = filter (λ o. not (eqb n o)) os in
    let qs = filter (λ (q : Pair). not (is_end n q)) ps in
    let both = and_parts (is_between os p) (list_all (is_between os) ps) between in
    let ends = and_parts (has_number os p.senior) (has_number os p.junior) both.0 in
    let rest = between-left ps os n both.1 in
    elim (is_end n p) as (λ b. is_end n p ≡ b
    → list_all (is_between left) (cond (not b) (p ∷ qs) qs) ≡ true) [
      | true ↦ λ _. rest
      | false ↦ λ apart.
          let no_end = neither (eqb n p.senior) (eqb n p.junior) apart in
          and_both (is_between left p) _
          (and_both (has_number left p.senior) _
          (has-filter n os p.senior ∙ (λ t. ends.0 t && not (no_end.0 t)))
          (has-filter n os p.junior ∙ (λ t. ends.1 t && not (no_end.1 t))))
          rest
    ] refl
