-- Ways in a graph, and membership by index.
use Rattle.std.proofs.Common.{◌≡◌, ℕ, zero, suc, ◌+◌, ◌-◌, ◌<◌, ◌⊎◌, inl, inr, List, length, get_or, set, take, sym, ap, subst, ◌∙◌, arith, Contains, get_or-set_other, get_or-take, length-take-le}
use Rattle.std.proofs.lemmas.Bool.Decides.{eqb_tells}
use Rattle.std.proofs.lemmas.Grind.{get_or-set_at}
use Rattle.std.proofs.lemmas.List.{get_or_default}
use Rattle.mpw_hier.specs.Graph.{targets, Leads, here, on}
use Rattle.mpw_hier.specs.Internal.Graph.{IsGraph}

-- a number that was written, or the old one
pub written : (xs : List ℕ) (i v j : ℕ) → i < length xs → ((j ≡ i) × (get_or (set xs i v) j 0 ≡ v))
    ⊎ ((j ≡ i → ⊥) × (get_or (set xs i v) j 0 ≡ get_or xs j 0))
written xs i v j h = elim (eqb_tells j i) [
  | inl p ↦ inl (p.1, get_or-set_at xs i j v 0 p.1 h)
  | inr p ↦ inr (p.1, get_or-set_other xs i j v 0 p.1)
]

-- the number at an index is among them, and each of them is at an index
pub among : (xs : List ℕ) (k x : ℕ) → k < length xs → get_or xs k 0 ≡ x → Contains xs x
among xs k x h e = (k, h, get_or_default xs k x 0 h ∙ e)

pub place_among : (xs : List ℕ) (x : ℕ) → Contains xs x → (k : ℕ) × (k < length xs)
    × (get_or xs k 0 ≡ x)
place_among xs x c = (c.0, c.1, get_or_default xs c.0 0 x c.1 ∙ c.2)

-- without the last, the others are still there
pub before_last : (xs : List ℕ) (i p : ℕ) → Contains xs i → get_or xs (length xs - 1) 0 ≡ p
    → (i ≡ p → ⊥) → Contains (take (length xs - 1) xs) i
before_last xs i p c last other =
    let n = length xs - 1 in
    let at = place_among xs i c in
    elim (eqb_tells at.0 n) [
      | inl q ↦ absurd (other (sym at.2 ∙ ap (λ k. get_or xs k 0) q.1 ∙ last))
      | inr q ↦
          let lt : at.0 < n = omega (arith, at.1, q.1) in
          among (take n xs) at.0 i (omega (arith, lt, length-take-le n xs (omega arith)))
          (get_or-take n xs at.0 0 lt ∙ at.2)
    ]

pub leads_more : {graph : List (List ℕ)} {a b c : ℕ} → Leads graph a b
    → Contains (targets graph b) c → Leads graph a c
leads_more here e = on e here
leads_more (on d l) e = on d (leads_more l e)

pub leads_along : {graph : List (List ℕ)} {a b c : ℕ} → Leads graph a b → Leads graph b c
    → Leads graph a c
leads_along here m = m
leads_along (on d l) m = on d (leads_along l m)

-- a way whose places are each a target of the one before
pub along : (graph : List (List ℕ)) (path : List ℕ)
    → ((k : ℕ) → k + 1 < length path → Contains (targets graph (get_or path k 0))
    (get_or path (k + 1) 0)) → (k d : ℕ) → k + d < length path
    → Leads graph (get_or path k 0) (get_or path (k + d) 0)
along graph path chained k zero h = let e : k ≡ k + 0 = omega arith in
    subst (λ m. Leads graph (get_or path k 0) (get_or path m 0)) e here
along graph path chained k (suc d) h =
    let e : (k + d) + 1 ≡ k + suc d = omega arith in
    subst (λ m. Leads graph (get_or path k 0) (get_or path m 0)) e
    (leads_more (along graph path chained k d (omega arith)) (chained (k + d) (omega arith)))

-- a way stays in the graph
pub leads_within : {graph : List (List ℕ)} {a b : ℕ} → IsGraph graph → Leads graph a b
    → a < length graph → b < length graph
leads_within g here h = h
leads_within {graph = graph} {a = a} g (on {next = next} edge way) h =
    let at = place_among (targets graph a) next edge in
    leads_within g way (subst (λ i. i < length graph) at.2 (g a at.0 h at.1))
