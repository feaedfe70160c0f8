-- The table of roles by numbers, in terms of the hierarchy.
use Rattle.std.proofs.Common.{◌≡◌, ℕ, zero, suc, ◌<◌, ◌≤◌, get_or, arith, refl, Option, true, false, cond, not, ◌||◌, ◌&&◌, List, [], ◌∷◌, ◌++◌, length, map, filter, eqb, eq-eqb, None, Some, sym, ap, ◌∙◌, true≢false}
use Rattle.std.specs.Prelude.{position, slice_get}
use Rattle.std.specs.List.{list_all}
use Rattle.mpw_geom.specs.Names.{name_eq, contains_name, without_name}
use Rattle.mpw_roles.specs.Hierarchy.{Name, Hierarchy, role_names, is_role, immediate_juniors, with_juniors, entries_without, with_role, without_role, with_pair, without_pair}
use Rattle.mpw_roles.specs.Order.{are_distinct}
use Rattle.mpw_roles.specs.declared.pairs.Pair.{Pair}
use Rattle.mpw_roles.specs.Internal.Table.{name_of, juniors_of, entry_of, entries_of, has_number, are_once, is_between, is_pair, is_end}
use Rattle.mpw_roles.proofs.NumberLemmas.{or_later, eqb-same, eqb-back, name-number, contains-number, contains-unnumbered, place-number, place-unnumbered, distinct-numbered}
use Rattle.mpw_roles.proofs.PairLemmas.{juniors-none, juniors-there, juniors-more, past-head, same-head, juniors-less, juniors-without}
use Rattle.mpw_roles.proofs.PositionLemmas.{item-there}
use Rattle.mpw_roles.proofs.BoolLemmas.{refuted, and_parts, not_true}

pub names-entries : (ns : List Name) (ps : List Pair) (os : List ℕ)
    → role_names (entries_of ns ps os) ≡ map (name_of ns) os
names-entries ns ps [] = refl
names-entries ns ps (o ∷ os) = ap (λ l. name_of ns o ∷ l) (names-entries ns ps os)

-- whether a name is a role
pub role-number : (ns : List Name) (ps : List Pair) (os : List ℕ)
    → ((k : ℕ) → has_number os k ≡ true → k < length ns) → are_distinct ns ≡ true
    → (r : Name) (n : ℕ) → Some n ≡ position (name_eq r) ns
    → is_role (entries_of ns ps os) r ≡ has_number os n
role-number ns ps os known once r n found =
    ap (λ l. contains_name l r) (names-entries ns ps os)
    ∙ contains-number ns os known once r n found

pub role-unnumbered : (ns : List Name) (ps : List Pair) (os : List ℕ)
    → ((k : ℕ) → has_number os k ≡ true → k < length ns) → (r : Name)
    → position (name_eq r) ns ≡ None → is_role (entries_of ns ps os) r ≡ false
role-unnumbered ns ps os known r none =
    ap (λ l. contains_name l r) (names-entries ns ps os) ∙ contains-unnumbered ns os known r none

-- the immediate juniors of a role
linked-there : (ns : List Name) (ps : List Pair) (os : List ℕ)
    → ((k : ℕ) → has_number os k ≡ true → k < length ns) → are_distinct ns ≡ true
    → (r : Name) (n : ℕ) → Some n ≡ position (name_eq r) ns
    → immediate_juniors (entries_of ns ps os) r
    ≡ cond (has_number os n) (map (name_of ns) (juniors_of ps n)) []
linked-there ns ps [] known once r n found = refl
linked-there ns ps (o ∷ os) known once r n found =
    let rest =
    linked-there ns ps os (λ k there. known k (or_later (eqb k o) _ there)) once r n found in
    ap (λ b. cond b (map (name_of ns) (juniors_of ps o))
    (immediate_juniors (entries_of ns ps os) r))
    (name-number ns once r n found o (known o (ap (λ b. b || has_number os o) (eqb-same o))))
    ∙ elim (eqb n o) as (λ b. eqb n o ≡ b
    → cond b (map (name_of ns) (juniors_of ps o)) (immediate_juniors (entries_of ns ps os) r)
    ≡ cond (b || has_number os n) (map (name_of ns) (juniors_of ps n)) []) [
      | true ↦ λ here. ap (λ k. map (name_of ns) (juniors_of ps k)) (sym (eqb-back n o here))
      | false ↦ λ _. rest
    ] refl

pub linked-number : (ns : List Name) (ps : List Pair) (os : List ℕ)
    → ((k : ℕ) → has_number os k ≡ true → k < length ns) → are_distinct ns ≡ true
    → list_all (is_between os) ps ≡ true → (r : Name) (n : ℕ) → Some n ≡ position (name_eq r) ns
    → immediate_juniors (entries_of ns ps os) r ≡ map (name_of ns) (juniors_of ps n)
linked-number ns ps os known once between r n found =
    linked-there ns ps os known once r n found
    ∙ elim (has_number os n) as (λ b. has_number os n ≡ b
    → cond b (map (name_of ns) (juniors_of ps n)) [] ≡ map (name_of ns) (juniors_of ps n)) [
      | true ↦ λ _. refl
      | false ↦ λ none. ap (map (name_of ns)) (sym (juniors-none ps os n none between))
    ] refl

pub linked-unnumbered : (ns : List Name) (ps : List Pair) (os : List ℕ)
    → ((k : ℕ) → has_number os k ≡ true → k < length ns) → (r : Name)
    → position (name_eq r) ns ≡ None → immediate_juniors (entries_of ns ps os) r ≡ []
linked-unnumbered ns ps os known r none = stranger-linked (entries_of ns ps os) r
    (role-unnumbered ns ps os known r none)
  where
    stranger-linked : (h : Hierarchy) (q : Name) → is_role h q ≡ false → immediate_juniors h q ≡ []
    stranger-linked [] q out = refl
    stranger-linked (e ∷ es) q out = elim (name_eq q e.0) as (λ b. (b || is_role es q) ≡ false
        → cond b e.1 (immediate_juniors es q) ≡ [])
        [ true ↦ λ is. absurd (true≢false is) | false ↦ λ is. stranger-linked es q is ] out

-- the same roles with other pairs of one of them
same-entries : (ns : List Name) (ps qs : List Pair) (os : List ℕ)
    → ((m : ℕ) → has_number os m ≡ true → juniors_of qs m ≡ juniors_of ps m)
    → entries_of ns ps os ≡ entries_of ns qs os
same-entries ns ps qs [] same = refl
same-entries ns ps qs (o ∷ os) same = λ t. (
  name_of ns o,
  map (name_of ns)
      (sym (same o (ap (λ b. b || has_number os o) (eqb-same o))) t),
)
    ∷ same-entries ns ps qs os (λ m there. same m (or_later (eqb m o) _ there)) t

with-juniors-entries : (ns : List Name) (ps qs : List Pair) (os : List ℕ)
    → ((k : ℕ) → has_number os k ≡ true → k < length ns) → are_distinct ns ≡ true
    → are_once os ≡ true → (r : Name) (n : ℕ) → Some n ≡ position (name_eq r) ns
    → ((m : ℕ) → eqb n m ≡ false → juniors_of qs m ≡ juniors_of ps m)
    → with_juniors (entries_of ns ps os) r (map (name_of ns) (juniors_of qs n))
    ≡ entries_of ns qs os
with-juniors-entries ns ps qs [] known names once r n found same = refl
with-juniors-entries ns ps qs (o ∷ os) known names once r n found same =
    let p = and_parts (not (has_number os o)) (are_once os) once in
    let rest =
    with-juniors-entries ns ps qs os (λ k there. known k (or_later (eqb k o) _ there)) names
    p.1 r n found same in
    let js = map (name_of ns) (juniors_of qs n) in
    ap (λ b. cond b ((name_of ns o, js) ∷ entries_of ns ps os)
    (entry_of ns ps o ∷ with_juniors (entries_of ns ps os) r js))
    (name-number ns names r n found o (known o (ap (λ b. b || has_number os o) (eqb-same o))))
    ∙ elim (eqb n o) as (λ b. eqb n o ≡ b
    → cond b ((name_of ns o, js) ∷ entries_of ns ps os)
    (entry_of ns ps o ∷ with_juniors (entries_of ns ps os) r js) ≡ entries_of ns qs (o ∷ os)) [
      | true ↦ λ here.
          let is = eqb-back n o here in
          λ t. (name_of ns o, map (name_of ns) (juniors_of qs (is t)))
          ∷ same-entries ns ps qs os (λ m there. same m (refuted (eqb n m) (λ also.
          true≢false (sym there
          ∙ ap (has_number os) (sym (eqb-back n m also) ∙ is) ∙ not_true (has_number os o) p.0)))) t
      | false ↦ λ other. λ t. (name_of ns o, map (name_of ns) (sym (same o other) t)) ∷ rest t
    ] refl

map-more : (ns : List Name) (ks : List ℕ) (k : ℕ)
    → map (name_of ns) ks ++ name_of ns k ∷ [] ≡ map (name_of ns) (ks ++ k ∷ [])
map-more ns [] k = refl
map-more ns (x ∷ xs) k = ap (λ l. name_of ns x ∷ l) (map-more ns xs k)

append-nil : (xs : List ℕ) → xs ++ [] ≡ xs
append-nil [] = refl
append-nil (x ∷ xs) = ap (λ l. x ∷ l) (append-nil xs)

-- one more pair
pub with-pair-entries : (ns : List Name) (ps : List Pair) (os : List ℕ)
    → ((k : ℕ) → has_number os k ≡ true → k < length ns) → are_distinct ns ≡ true
    → are_once os ≡ true → list_all (is_between os) ps ≡ true → (p : Pair) (a : Name)
    → Some p.senior ≡ position (name_eq a) ns
    → with_pair (entries_of ns ps os) a (name_of ns p.junior) ≡ entries_of ns (ps ++ p ∷ []) os
with-pair-entries ns ps os known names once between p a found =
    let h = entries_of ns ps os in
    let grown : juniors_of (ps ++ p ∷ []) p.senior ≡ juniors_of ps p.senior ++ p.junior ∷ [] =
    juniors-more ps p p.senior
    ∙ ap (λ b. juniors_of ps p.senior ++ cond b (p.junior ∷ []) []) (eqb-same p.senior) in
    ap (with_juniors h a) (ap (λ l. l ++ name_of ns p.junior ∷ [])
    (linked-number ns ps os known names between a p.senior found)
    ∙ map-more ns (juniors_of ps p.senior) p.junior
    ∙ ap (map (name_of ns)) (sym grown))
    ∙ with-juniors-entries ns ps (ps ++ p ∷ []) os known names once a p.senior found (λ m other.
    juniors-more ps p m
    ∙ ap (λ b. juniors_of ps m ++ cond b (p.junior ∷ []) []) (refuted (eqb m p.senior) (λ is.
    true≢false (sym (eq-eqb p.senior m (sym (eqb-back m p.senior is))) ∙ other)))
    ∙ append-nil (juniors_of ps m))

-- fewer names
without-numbered : (ns : List Name) → are_distinct ns ≡ true → (r : Name) (n : ℕ)
    → Some n ≡ position (name_eq r) ns → (ks : List ℕ)
    → ((k : ℕ) → has_number ks k ≡ true → k < length ns)
    → without_name (map (name_of ns) ks) r ≡ map (name_of ns) (filter (λ k. not (eqb n k)) ks)
without-numbered ns names r n found [] known = refl
without-numbered ns names r n found (x ∷ xs) known =
    let rest =
    without-numbered ns names r n found xs (λ k there. known k (or_later (eqb k x) _ there)) in
    ap (λ b. cond (not b) (name_of ns x ∷ without_name (map (name_of ns) xs) r)
    (without_name (map (name_of ns) xs) r))
    (name-number ns names r n found x (known x (ap (λ b. b || has_number xs x) (eqb-same x))))
    ∙ elim (eqb n x) as (λ b. cond (not b) (name_of ns x ∷ without_name (map (name_of ns) xs) r)
    (without_name (map (name_of ns) xs) r)
    ≡ map (name_of ns) (cond (not b) (x ∷ filter (λ k. not (eqb n k)) xs)
    (filter (λ k. not (eqb n k)) xs))) [
      | true ↦ rest
      | false ↦ ap (λ l. name_of ns x ∷ l) rest
    ]

-- the index of a role
pub place-found : (ns : List Name) (ps : List Pair) (os : List ℕ)
    → ((k : ℕ) → has_number os k ≡ true → k < length ns) → are_distinct ns ≡ true
    → (r : Name) (n : ℕ) → Some n ≡ position (name_eq r) ns
    → position (λ m. eqb n m) os ≡ position (name_eq r) (role_names (entries_of ns ps os))
place-found ns ps os known names r n found =
    place-number ns os known names r n found
    ∙ ap (position (name_eq r)) (sym (names-entries ns ps os))

pub place-none : (ns : List Name) (ps : List Pair) (os : List ℕ)
    → ((k : ℕ) → has_number os k ≡ true → k < length ns) → (r : Name)
    → position (name_eq r) ns ≡ None → None ≡ position (name_eq r)
    (role_names (entries_of ns ps os))
place-none ns ps os known r none =
    sym (ap (position (name_eq r)) (names-entries ns ps os) ∙ place-unnumbered ns os known r none)

pub distinct-entries : (ns : List Name) (ps : List Pair) (os : List ℕ)
    → ((k : ℕ) → has_number os k ≡ true → k < length ns) → are_distinct ns ≡ true
    → are_once os ≡ true → are_distinct (role_names (entries_of ns ps os)) ≡ true
distinct-entries ns ps os known names once =
    ap are_distinct (names-entries ns ps os) ∙ distinct-numbered ns os known names once

-- one pair fewer
pub without-pair-entries : (ns : List Name) (ps : List Pair) (os : List ℕ)
    → ((k : ℕ) → has_number os k ≡ true → k < length ns) → are_distinct ns ≡ true
    → are_once os ≡ true → list_all (is_between os) ps ≡ true → (a b : Name) (s j : ℕ)
    → Some s ≡ position (name_eq a) ns → Some j ≡ position (name_eq b) ns
    → without_pair (entries_of ns ps os) a b
    ≡ entries_of ns (filter (λ (p : Pair). not (is_pair s j p)) ps) os
without-pair-entries ns ps os known names once between a b s j at_a at_b =
    let h = entries_of ns ps os in
    let qs = filter (λ (p : Pair). not (is_pair s j p)) ps in
    ap (with_juniors h a)
    (ap (λ l. without_name l b) (linked-number ns ps os known names between a s at_a)
    ∙ without-numbered ns names b j at_b (juniors_of ps s)
    (λ k there. known k (juniors-there ps os s between k there))
    ∙ ap (map (name_of ns)) (sym (juniors-less ps s j)))
    ∙ with-juniors-entries ns ps qs os known names once a s at_a (λ m other. others ps m other)
  where
    others : (ps : List Pair) (m : ℕ) → eqb s m ≡ false
        → juniors_of (filter (λ (p : Pair). not (is_pair s j p)) ps) m ≡ juniors_of ps m
    others [] m apart = refl
    others (p ∷ ps) m apart = elim (eqb s p.senior) as (λ b. eqb s p.senior ≡ b
        → juniors_of (cond (not (b && eqb j p.junior))
        (p ∷ filter (λ (q : Pair). not (is_pair s j q)) ps)
        (filter (λ (q : Pair). not (is_pair s j q)) ps)) m ≡ juniors_of (p ∷ ps) m) [
          | true ↦ λ here.
              let past : eqb m p.senior ≡ false = refuted (eqb m p.senior) (λ is.
              true≢false (sym (eq-eqb s m (eqb-back s p.senior here
              ∙ sym (eqb-back m p.senior is))) ∙ apart)) in
              elim (eqb j p.junior) as (λ b. juniors_of (cond (not b)
              (p ∷ filter (λ (q : Pair). not (is_pair s j q)) ps)
              (filter (λ (q : Pair). not (is_pair s j q)) ps)) m ≡ juniors_of (p ∷ ps) m) [
                | true ↦ others ps m apart ∙ sym (past-head p ps m past)
                | false ↦ past-head p (filter (λ (q : Pair). not (is_pair s j q)) ps) m past
                    ∙ others ps m apart ∙ sym (past-head p ps m past)
              ]
          | false ↦ λ _. same-head p (filter (λ (q : Pair). not (is_pair s j q)) ps) ps m
              (others ps m apart)
        ] refl

pub without-role-entries : (ns : List Name) (ps : List Pair) (os : List ℕ)
    → ((k : ℕ) → has_number os k ≡ true → k < length ns)
    → ((m k : ℕ) → has_number (juniors_of ps m) k ≡ true → k < length ns)
    → are_distinct ns ≡ true → (r : Name) (n : ℕ) → Some n ≡ position (name_eq r) ns
    → without_role (entries_of ns ps os) r
    ≡ entries_of ns (filter (λ (p : Pair). not (is_end n p)) ps) (filter (λ o. not (eqb n o)) os)
without-role-entries ns ps [] known below names r n found = refl
without-role-entries ns ps (o ∷ os) known below names r n found =
    let qs = filter (λ (p : Pair). not (is_end n p)) ps in
    let left = filter (λ m. not (eqb n m)) os in
    let rest = without-role-entries ns ps os (λ k there. known k (or_later (eqb k o) _ there)) below
    names r n found in
    let f : Name × List Name → Name × List Name = λ e. (e.0, without_name e.1 r) in
    ap (λ b. map f (cond (not b) (entry_of ns ps o ∷ entries_without (entries_of ns ps os) r)
    (entries_without (entries_of ns ps os) r)))
    (name-number ns names r n found o (known o (ap (λ b. b || has_number os o) (eqb-same o))))
    ∙ elim (eqb n o) as (λ b. eqb n o ≡ b
    → map f (cond (not b) (entry_of ns ps o ∷ entries_without (entries_of ns ps os) r)
    (entries_without (entries_of ns ps os) r))
    ≡ entries_of ns qs (cond (not b) (o ∷ left) left)) [
      | true ↦ λ _. rest
      | false ↦ λ other.
          ap (λ js. entry (name_of ns o) js ∷ without_role (entries_of ns ps os) r)
          (without-numbered ns names r n found (juniors_of ps o) (below o)
          ∙ ap (map (name_of ns)) (sym (juniors-without ps n o other)))
          ∙ ap (λ l. entry_of ns qs o ∷ l) rest
    ] refl
  where
    entry : Name → List Name → Name × List Name
    entry name juniors = (name, juniors)

-- more names
pub more-names : (ns ms : List Name) (ps : List Pair) (os : List ℕ)
    → ((k : ℕ) → has_number os k ≡ true → k < length ns)
    → ((m k : ℕ) → has_number (juniors_of ps m) k ≡ true → k < length ns)
    → ((k : ℕ) → k < length ns → name_of ms k ≡ name_of ns k)
    → entries_of ms ps os ≡ entries_of ns ps os
more-names ns ms ps [] known below kept = refl
more-names ns ms ps (o ∷ os) known below kept = λ t. (
  kept o (known o (ap (λ b. b || has_number os o) (eqb-same o))) t,
  mapped (juniors_of ps o) (below o) t,
)
    ∷ more-names ns ms ps os (λ k there. known k (or_later (eqb k o) _ there)) below kept t
  where
    mapped : (ks : List ℕ) → ((k : ℕ) → has_number ks k ≡ true → k < length ns)
        → map (name_of ms) ks ≡ map (name_of ns) ks
    mapped [] inside = refl
    mapped (k ∷ ks) inside = λ t.
        kept k (inside k (ap (λ b. b || has_number ks k) (eqb-same k))) t
        ∷ mapped ks (λ m there. inside m (or_later (eqb m k) _ there)) t

-- one more role
pub with-role-entries : (ns : List Name) (ps : List Pair) (os : List ℕ) (r : Name) (n : ℕ)
    → list_all (is_between os) ps ≡ true → has_number os n ≡ false → name_of ns n ≡ r
    → with_role (entries_of ns ps os) r ≡ entries_of ns ps (os ++ n ∷ [])
with-role-entries ns ps os r n between new is = sym (split os
    ∙ (λ t. entries_of ns ps os ++ (is t, map (name_of ns) (juniors-none ps os n new between t))
    ∷ []))
  where
    split : (ks : List ℕ) → entries_of ns ps (ks ++ n ∷ []) ≡ entries_of ns ps ks
        ++ entry_of ns ps n ∷ []
    split [] = refl
    split (k ∷ ks) = ap (λ l. entry_of ns ps k ∷ l) (split ks)

-- the name at an index
pub name-at-place : (ns : List Name) (ps : List Pair) (os : List ℕ) (i n : ℕ) (r : Option Name)
    → ((k : ℕ) → has_number os k ≡ true → k < length ns) → i < length os → get_or os i n ≡ n
    → r ≡ slice_get ns n → r ≡ slice_get (role_names (entries_of ns ps os)) i
name-at-place ns ps [] i n r known inside at is = absurd (omega arith)
name-at-place ns ps (o ∷ os) zero n r known inside at is =
    let within : n < length ns = known n (ap (λ b. b || has_number os n) (eq-eqb n o (sym at))) in
    is ∙ item-there ns n (name_of ns n) [] within refl ∙ ap (λ k. Some (name_of ns k)) (sym at)
name-at-place ns ps (o ∷ os) (suc i) n r known inside at is =
    name-at-place ns ps os i n r (λ k there. known k (or_later (eqb k o) _ there)) (omega arith) at
    is

pub no-name-at : (ns : List Name) (ps : List Pair) (os : List ℕ) (i : ℕ) → length os ≤ i
    → None ≡ slice_get (role_names (entries_of ns ps os)) i
no-name-at ns ps [] i past = refl
no-name-at ns ps (o ∷ os) zero past = absurd (omega arith)
no-name-at ns ps (o ∷ os) (suc i) past = no-name-at ns ps os i (omega arith)
