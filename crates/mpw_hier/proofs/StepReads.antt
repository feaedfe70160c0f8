-- What a step of a search reads: the last place of its path, and its next target.
use Rattle.std.proofs.Common.{◌≡◌, ℕ, ◌+◌, ◌-◌, ◌<◌, ◌≤◌, inl, inr, false, eqb, List, length, get_or, sym, ap, subst, ◌∙◌, arith, vec_len}
use Rattle.std.proofs.lemmas.Bool.Decides.{eqb_tells}
use Rattle.std.proofs.lemmas.List.{get_or_default}
use Rattle.mpw_hier.specs.Graph.{targets}
use Rattle.mpw_hier.specs.Internal.Graph.{IsGraph}
use Rattle.mpw_hier.specs.declared.order.Descent.{Descent}
use Rattle.mpw_hier.specs.Internal.Descent.{IsDescent, IsUnderWay}
use Rattle.mpw_hier.proofs.Steps.{last_within}

pub some_left : (n : ℕ) → false ≡ eqb n 0 → 0 < n
some_left n e =
    elim (eqb_tells n 0) [ inl p ↦ absurd (let q = e ∙ p.0 in cc) | inr p ↦ omega (arith, p.1) ]

pub read : (xs : List ℕ) (i x : ℕ) → i < length xs → x ≡ get_or xs i x → get_or xs i 0 ≡ x
read xs i x h e = get_or_default xs i 0 x h ∙ sym e

pub last_read : (path : List ℕ) (n p : ℕ) → n ≡ length path → 0 < length path
    → p ≡ get_or path (n - 1) p → get_or path (length path - 1) 0 ≡ p
last_read path n p e some h =
    ap (λ k. get_or path (k - 1) 0) (sym e) ∙ read path (n - 1) p (omega (arith, e, some)) h

-- the next target of the last place
pub next_within : (g : List (List ℕ)) (top : ℕ) (left path order : List ℕ) (p m : ℕ)
    → IsDescent g top left path order → 0 < length path → get_or path (length path - 1) 0 ≡ p
    → get_or left p 0 ≡ m + 2 → m < length (targets g p)
next_within g top left path order p m w some last steps =
    let few = subst (λ i. get_or left i 0 ≤ length (targets g i) + 1) last
    (w.entered (length path - 1) (omega arith)) in
    omega (arith, few, steps)

-- the last place of the path, as the code has read it
pub record AtPlace (g : List (List ℕ)) (left path : List ℕ) (p steps : ℕ) : Type 0 where
  pub some : 0 < length path
  pub last : get_or path (length path - 1) 0 ≡ p
  pub placed : p < length g
  pub inside : p < length left
  pub left_are : get_or left p 0 ≡ steps

pub at_place : (s : Descent) {g : List (List ℕ)} {n p steps : ℕ} → IsUnderWay g s
    → n ≡ vec_len s.path → false ≡ eqb (vec_len s.path) 0 → p ≡ get_or s.path.items (n - 1) p
    → steps ≡ get_or s.left.items p steps → AtPlace g s.left.items s.path.items p steps
at_place s {g = g} {n = n} {p = p} {steps = steps} w e many h k =
    let some : 0 < length s.path.items =
    omega (arith, some_left (vec_len s.path) many, s.path.ok.0) in
    let last = last_read s.path.items n p (omega (arith, e, s.path.ok.0)) some h in
    let pg = last_within g s.top s.left.items s.path.items s.order.items p w some last in
    let inside : p < length s.left.items = omega (arith, pg, w.sized) in
    record {
      some = some;
      last = last;
      placed = pg;
      inside = inside;
      left_are = read s.left.items p steps inside k;
    }

-- its next target
pub record AtTarget (g : List (List ℕ)) (left : List ℕ) (p m t : ℕ) : Type 0 where
  pub left_are : get_or left p 0 ≡ m + 2
  pub within : m < length (targets g p)
  pub is : get_or (targets g p) m 0 ≡ t
  pub inside : t < length left

pub at_target : (s : Descent) {g : List (List ℕ)} {p steps t : ℕ} → IsGraph g → IsUnderWay g s
    → AtPlace g s.left.items s.path.items p steps → 1 < steps
    → t ≡ get_or (targets g p) (steps - 2) 0 → AtTarget g s.left.items p (steps - 2) t
at_target s {g = g} {p = p} {steps = steps} {t = t} graph w a more e =
    let left_are : get_or s.left.items p 0 ≡ (steps - 2) + 2 = omega (arith, a.left_are, more) in
    let within = next_within g s.top s.left.items s.path.items s.order.items p (steps - 2) w
    a.some a.last left_are in
    let tg = subst (λ i. i < length g) (sym e) (graph p (steps - 2) a.placed within) in
    record {
      left_are = left_are;
      within = within;
      is = sym e;
      inside = omega (arith, tg, w.sized);
    }
