-- Sessions by connection, each with its mask: what is found of a connection, and what remains after one
-- changes.
use Rattle.std.proofs.Common.{◌≡◌, ℕ, zero, suc, ◌+◌, Bool, true, false, cond, ◌==◌, List, [], ◌∷◌, ◌++◌, map, filter, Option, None, Some, option_map, refl, sym, ap, subst, ◌∙◌}
use Rattle.std.specs.Prelude.{position, slice_index_or, slice_set}
use Rattle.std.specs.Map.{lookup}
use Rattle.std.specs.List.Retain.{RetainsInTurn}
use Rattle.mpw_roles.specs.Hierarchy.{Name, Hierarchy}
use Rattle.mpw_roles.proofs.PositionLemmas.{position-cons}
use Rattle.mpw_rbac.specs.Masked.{IsBelow, AreBelow, sessions_in, masks_in}
use Rattle.mpw_rbac.specs.Policy.{active_lists}
use Rattle.mpw_rbac.specs.Table.{value_at, insert_entry}
use Rattle.mpw_rbac.specs.declared.active.Active.{Active}
use Rattle.mpw_rbac.specs.declared.session.Session.{Session}
use Rattle.mpw_rbac.proofs.MaskedLemmas.{below-nil, below-cons, below-head, below-tail}

-- the active roles of each session
abbrev pub active_in : ℕ × Active → List Name
active_in entry = entry.1.session.active

pub active-lists : (es : List (ℕ × Active)) → map active_in es ≡ active_lists (sessions_in es)
active-lists [] = refl
active-lists (e ∷ es) = ap (λ (l : List (List Name)). e.1.session.active ∷ l) (active-lists es)

abbrev same_connection : ℕ → ℕ → Bool
same_connection a b = a == b

abbrev pub is_connected : ℕ → ℕ × Active → Bool
is_connected connection entry = connection == entry.0

abbrev pub AreActive : Hierarchy → List (ℕ × Active) → Type 0
AreActive h es = AreBelow h (active_lists (sessions_in es)) (masks_in es)

active-cons : (h : Hierarchy) (connection : ℕ) (a : Active) (es : List (ℕ × Active))
    → IsBelow h a.session.active a.acting → AreActive h es → AreActive h ((connection, a) ∷ es)
active-cons h connection a es here rest =
    below-cons h a.session.active (active_lists (sessions_in es)) a.acting (masks_in es) here rest

pub active-head : (h : Hierarchy) (e : ℕ × Active) (es : List (ℕ × Active)) → AreActive h (e ∷ es)
    → IsBelow h e.1.session.active e.1.acting
active-head h e es w =
    below-head h e.1.session.active (active_lists (sessions_in es)) e.1.acting (masks_in es) w

pub active-tail : (h : Hierarchy) (e : ℕ × Active) (es : List (ℕ × Active)) → AreActive h (e ∷ es)
    → AreActive h es
active-tail h e es w =
    below-tail h e.1.session.active (active_lists (sessions_in es)) e.1.acting (masks_in es) w

-- the session of a connection
pub session-found : (es : List (ℕ × Active)) (connection : ℕ)
    → option_map (λ (a : Active). a.session) (lookup (same_connection connection) es)
    ≡ value_at same_connection
    (sessions_in es) connection
session-found [] connection = refl
session-found (e ∷ es) connection = elim (connection == e.0) as
    (λ b. option_map (λ (a : Active). a.session)
    (cond b (Some e.1) (lookup (same_connection connection) es))
    ≡ cond b (Some e.1.session) (value_at same_connection (sessions_in es) connection)) [
      | true ↦ refl
      | false ↦ session-found es connection
    ]

pub acting-found : (h : Hierarchy) (es : List (ℕ × Active)) (connection : ℕ) (a : Active)
    → AreActive h es → Some a ≡ lookup (same_connection connection) es
    → IsBelow h a.session.active a.acting
acting-found h [] connection a w at = cc
acting-found h (e ∷ es) connection a w at =
    elim (connection == e.0) as
    (λ b. Some a ≡ cond b (Some e.1) (lookup (same_connection connection) es)
    → IsBelow h a.session.active a.acting) [
      | true ↦ λ is. let same : e.1 ≡ a = cc in
          subst (λ (x : Active). IsBelow h x.session.active x.acting) same (active-head h e es w)
      | false ↦ λ later. acting-found h es connection a (active-tail h e es w) later
    ] at

-- the entry at a connection's first index is what is found of it
pub found-at : (es : List (ℕ × Active)) (connection i : ℕ) (other : ℕ × Active)
    → Some i ≡ position (is_connected connection) es
    → Some (slice_index_or es i other).1 ≡ lookup (same_connection connection) es
found-at [] connection i other at = cc
found-at (x ∷ xs) connection i other at =
    elim (connection == x.0) as (λ b. Some i ≡ cond b (Some 0)
    (option_map suc (position (is_connected connection) xs))
    → Some (slice_index_or (x ∷ xs) i other).1
    ≡ cond b (Some x.1) (lookup (same_connection connection) xs)) [
      | true ↦ λ first. let zero : i ≡ 0 = cc in
          ap (λ k. Some (slice_index_or (x ∷ xs) k other).1) zero
      | false ↦ later (position (is_connected connection) xs)
          (λ j found. found-at xs connection j other found)
    ] (at ∙ position-cons (is_connected connection) x xs)
  where
    later : (o : Option ℕ)
        → ((j : ℕ) → Some j ≡ o
        → Some (slice_index_or xs j other).1 ≡ lookup (same_connection connection) xs)
        → Some i ≡ option_map suc o
        → Some (slice_index_or (x ∷ xs) i other).1 ≡ lookup (same_connection connection) xs
    later None rest next = cc
    later (Some j) rest next = let behind : i ≡ suc j = cc in
        ap (λ k. Some (slice_index_or (x ∷ xs) k other).1) behind ∙ rest j refl

-- without an index nothing is found
pub found-nowhere : (es : List (ℕ × Active)) (connection : ℕ)
    → None ≡ position (is_connected connection) es → None ≡ lookup (same_connection connection) es
found-nowhere [] connection nowhere = refl
found-nowhere (x ∷ xs) connection nowhere =
    elim (connection == x.0) as (λ b. None ≡ cond b (Some 0)
    (option_map suc (position (is_connected connection) xs))
    → None ≡ cond b (Some x.1) (lookup (same_connection connection) xs)) [
      | true ↦ λ is. cc
      | false ↦ later (position (is_connected connection) xs)
          (λ none. found-nowhere xs connection none)
    ] (nowhere ∙ position-cons (is_connected connection) x xs)
  where
    later : (o : Option ℕ) → (None ≡ o → None ≡ lookup (same_connection connection) xs)
        → None ≡ option_map suc o → None ≡ lookup (same_connection connection) xs
    later None rest next = rest refl
    later (Some j) rest next = cc

-- another session at its index, or one more at the end
pub put-at : (es : List (ℕ × Active)) (connection i : ℕ) (a : Active) (other : ℕ × Active)
    → Some i ≡ position (is_connected connection) es
    → slice_set es i ((slice_index_or es i other).0, a)
    ≡ insert_entry same_connection es connection a
put-at [] connection i a other at = cc
put-at (x ∷ xs) connection i a other at =
    elim (connection == x.0) as (λ b. Some i ≡ cond b (Some 0)
    (option_map suc (position (is_connected connection) xs))
    → slice_set (x ∷ xs) i ((slice_index_or (x ∷ xs) i other).0, a)
    ≡ cond b ((x.0, a) ∷ xs) (x ∷ insert_entry same_connection xs connection a)) [
      | true ↦ λ first. let zero : i ≡ 0 = cc in
          ap (λ k. slice_set (x ∷ xs) k ((slice_index_or (x ∷ xs) k other).0, a)) zero
      | false ↦ later (position (is_connected connection) xs)
          (λ j found. put-at xs connection j a other found)
    ] (at ∙ position-cons (is_connected connection) x xs)
  where
    later : (o : Option ℕ)
        → ((j : ℕ) → Some j ≡ o → slice_set xs j ((slice_index_or xs j other).0, a)
        ≡ insert_entry same_connection xs connection a)
        → Some i ≡ option_map suc o
        → slice_set (x ∷ xs) i ((slice_index_or (x ∷ xs) i other).0, a)
        ≡ x ∷ insert_entry same_connection xs connection a
    later None rest next = cc
    later (Some j) rest next = let behind : i ≡ suc j = cc in
        ap (λ k. slice_set (x ∷ xs) k ((slice_index_or (x ∷ xs) k other).0, a)) behind
        ∙ ap (λ l. x ∷ l) (rest j refl)

pub put-last : (es : List (ℕ × Active)) (connection : ℕ) (a : Active)
    → None ≡ position (is_connected connection) es
    → es ++ (connection, a) ∷ [] ≡ insert_entry same_connection es connection a
put-last [] connection a nowhere = refl
put-last (x ∷ xs) connection a nowhere =
    elim (connection == x.0) as (λ b. None ≡ cond b (Some 0)
    (option_map suc (position (is_connected connection) xs))
    → x ∷ (xs ++ (connection, a) ∷ [])
    ≡ cond b ((x.0, a) ∷ xs) (x ∷ insert_entry same_connection xs connection a)) [
      | true ↦ λ is. cc
      | false ↦ later (position (is_connected connection) xs)
          (λ none. put-last xs connection a none)
    ] (nowhere ∙ position-cons (is_connected connection) x xs)
  where
    later : (o : Option ℕ)
        → (None ≡ o → xs ++ (connection, a) ∷ [] ≡ insert_entry same_connection xs connection a)
        → None ≡ option_map suc o
        → x ∷ (xs ++ (connection, a) ∷ []) ≡ x ∷ insert_entry same_connection xs connection a
    later None rest next = ap (λ l. x ∷ l) (rest refl)
    later (Some j) rest next = cc

-- another session, or one more
pub sessions-insert : (es : List (ℕ × Active)) (connection : ℕ) (a : Active)
    → sessions_in (insert_entry same_connection es connection a)
    ≡ insert_entry same_connection (sessions_in es) connection a.session
sessions-insert [] connection a = refl
sessions-insert (e ∷ es) connection a = elim (connection == e.0) as
    (λ b. sessions_in (cond b ((e.0, a) ∷ es) (e ∷ insert_entry same_connection es connection a))
    ≡ cond b ((e.0, a.session) ∷ sessions_in es)
    ((e.0, e.1.session) ∷ insert_entry same_connection (sessions_in es) connection a.session)) [
      | true ↦ refl
      | false ↦ ap (λ (l : List (ℕ × Session)). (e.0, e.1.session) ∷ l)
          (sessions-insert es connection a)
    ]

pub acting-insert : (h : Hierarchy) (es : List (ℕ × Active)) (connection : ℕ) (a : Active)
    → AreActive h es → IsBelow h a.session.active a.acting
    → AreActive h (insert_entry same_connection es connection a)
acting-insert h [] connection a w here = active-cons h connection a [] here (below-nil h)
acting-insert h (e ∷ es) connection a w here =
    elim (connection == e.0) as (λ b. AreActive h
    (cond b ((e.0, a) ∷ es) (e ∷ insert_entry same_connection es connection a))) [
      | true ↦ active-cons h e.0 a es here (active-tail h e es w)
      | false ↦ active-cons h e.0 e.1 (insert_entry same_connection es connection a)
          (active-head h e es w)
          (acting-insert h es connection a (active-tail h e es w) here)
    ]

-- one session fewer
pub sessions-filter : (p : ℕ → Bool) (es : List (ℕ × Active))
    → sessions_in (filter (λ (e : ℕ × Active). p e.0) es) ≡ filter (λ (e : ℕ × Session). p e.0)
    (sessions_in es)
sessions-filter p [] = refl
sessions-filter p (e ∷ es) = elim (p e.0) as
    (λ b. sessions_in (cond b (e ∷ filter (λ (x : ℕ × Active). p x.0) es)
    (filter (λ (x : ℕ × Active). p x.0) es))
    ≡ cond b ((e.0, e.1.session) ∷ filter (λ (x : ℕ × Session). p x.0) (sessions_in es))
    (filter (λ (x : ℕ × Session). p x.0) (sessions_in es))) [
      | true ↦ ap (λ (l : List (ℕ × Session)). (e.0, e.1.session) ∷ l) (sessions-filter p es)
      | false ↦ sessions-filter p es
    ]

pub acting-filter : (h : Hierarchy) (p : ℕ → Bool) (es : List (ℕ × Active)) → AreActive h es
    → AreActive h (filter (λ (e : ℕ × Active). p e.0) es)
acting-filter h p [] w = below-nil h
acting-filter h p (e ∷ es) w = elim (p e.0) as
    (λ b. AreActive h (cond b (e ∷ filter (λ (x : ℕ × Active). p x.0) es)
    (filter (λ (x : ℕ × Active). p x.0) es))) [
      | true ↦ active-cons h e.0 e.1 (filter (λ (x : ℕ × Active). p x.0) es) (active-head h e es w)
          (acting-filter h p es (active-tail h e es w))
      | false ↦ acting-filter h p es (active-tail h e es w)
    ]

-- what `retain_mut` leaves, if the closure changes each session by itself and makes its mask
pub sessions-retained : {F : Type 0} (R : F → ℕ × Active → Bool → F → ℕ × Active → Type 0)
    (p : Session → Bool) (change : Session → Session) (h : Hierarchy) (f : F)
    → ((e : ℕ × Active) (b : Bool) (g : F) (after : ℕ × Active) → R f e b g after
    → (b ≡ p e.1.session) × (after.0 ≡ e.0) × (after.1.session ≡ change e.1.session) × (g ≡ f)
    × IsBelow h after.1.session.active after.1.acting)
    → (es kept : List (ℕ × Active)) → RetainsInTurn R f es kept
    → (sessions_in kept ≡ map (λ (e : ℕ × Session). (e.0, change e.1))
    (filter (λ (e : ℕ × Session). p e.1) (sessions_in es))) × AreActive h kept
sessions-retained R p change h f says [] kept r =
    (ap sessions_in r, subst (AreActive h) (sym r) (below-nil h))
sessions-retained R p change h f says (e ∷ es) kept r =
    let s = says e r.0 r.1 r.2 r.3 in
    let rest = sessions-retained R p change h f says es r.4
    (subst (λ g. RetainsInTurn R g es r.4) s.3 r.5) in
    let left : List (ℕ × Session) = filter (λ (x : ℕ × Session). p x.1) (sessions_in es) in
    let there : kept ≡ cond {A = List (ℕ × Active)} (p e.1.session) (r.2 ∷ r.4) r.4 = r.6
    ∙ ap (λ b. cond {A = List (ℕ × Active)} b (r.2 ∷ r.4) r.4) s.0 in
    elim (p e.1.session) as (λ b. kept ≡ cond {A = List (ℕ × Active)} b (r.2 ∷ r.4) r.4
    → (sessions_in kept ≡ map (λ (x : ℕ × Session). (x.0, change x.1))
    (cond {A = List (ℕ × Session)} b ((e.0, e.1.session) ∷ left) left)) × AreActive h kept) [
      | true ↦ λ is. (
        ap sessions_in is ∙ (λ i. (s.1 i, s.2 i) ∷ rest.0 i),
        subst (AreActive h) (sym is) (active-cons h r.2.0 r.2.1 r.4 s.4 rest.1),
      )
      | false ↦ λ is. (ap sessions_in is ∙ rest.0, subst (AreActive h) (sym is) rest.1)
    ] there

pub all-kept : (es : List (ℕ × Session))
    → map (λ (e : ℕ × Session). (e.0, e.1)) (filter (λ (e : ℕ × Session). true) es) ≡ es
all-kept [] = refl
all-kept (e ∷ es) = ap (λ l. e ∷ l) (all-kept es)
