-- Each step of a search preserves what it has found.
use Rattle.std.proofs.Common.{◌≡◌, ℕ, zero, suc, ◌+◌, ◌-◌, ◌*◌, ◌<◌, ◌≤◌, inl, inr, List, [], ◌∷◌, ◌++◌, length, get_or, set, take, map, sum, refl, sym, ap, subst, ◌∙◌, arith, Contains, length-set, length-append, length-take-le, get_or-take, take_all}
use Rattle.std.specs.List.{sum_by}
use Rattle.std.proofs.lemmas.Bool.Decides.{eqb_tells}
use Rattle.std.proofs.lemmas.List.{get_or_append_left, get_or-append-add, get_or-map, take-append-le, length-map}
use Rattle.std.proofs.lemmas.List.Sums.{sum_by-set, sum_by-cons}
use Rattle.std.proofs.lemmas.List.Elements.{All-push, Contains-push, Contains-append_left}
use Rattle.mpw_hier.specs.Graph.{targets, Leads, here}
use Rattle.mpw_hier.specs.Internal.Graph.{IsGraph, HasCycle}
use Rattle.mpw_hier.specs.Internal.Descent.{is_left, undone, IsDescent}
use Rattle.mpw_hier.proofs.Leading.{written, among, place_among, before_last, leads_more, along}

last_pushed : (xs : List ℕ) (x : ℕ) → get_or (xs ++ x ∷ []) (length xs) 0 ≡ x
last_pushed xs x = let e : length xs ≡ length xs + 0 = omega arith in
    ap (λ i. get_or (xs ++ x ∷ []) i 0) e ∙ get_or-append-add xs (x ∷ []) 0 0

-- the last place of the path
pub last_within : (g : List (List ℕ)) (top : ℕ) (left path order : List ℕ) (p : ℕ)
    → IsDescent g top left path order → 0 < length path → get_or path (length path - 1) 0 ≡ p
    → p < length g
last_within g top left path order p w some last =
    subst (λ i. i < length g) last (w.within (length path - 1) (omega arith))

-- an old number that is at least the new one
lower : (left : List ℕ) (p v i b : ℕ) → p < length left → v ≤ get_or left p 0 → get_or left i 0 ≤ b
    → get_or (set left p v) i 0 ≤ b
lower left p v i b h le old = elim (written left p v i h) [
  | inl q ↦ let e = ap (λ k. get_or left k 0) q.0 in omega (arith, q.1, le, old, e)
  | inr q ↦ omega (arith, q.1, old)
]

-- a number that was 0 and not written, or written as 0
zero_kept : (left : List ℕ) (p v i : ℕ) → p < length left → 0 < get_or left p 0
    → get_or left i 0 ≡ 0 → get_or (set left p v) i 0 ≡ 0
zero_kept left p v i h some old = elim (written left p v i h) [
  | inl q ↦ let e = ap (λ k. get_or left k 0) q.0 in absurd (omega (arith, e, some, old))
  | inr q ↦ q.1 ∙ old
]

one_left : (x : ℕ) → 1 ≤ x → is_left x ≡ 1
one_left zero h = absurd (omega (arith, h))
one_left (suc x) h = refl

-- a write among the steps that are left
rewritten : (left : List ℕ) (p v : ℕ) → p < length left
    → undone (set left p v) + is_left (get_or left p 0) ≡ undone left + is_left v
unfolding undone
rewritten left p v h = sum_by-set is_left left p v 0 h

few_left : (left : List ℕ) → sum_by is_left left ≤ length left
few_left [] = omega arith
few_left (x ∷ xs) = omega (arith, few_left xs, at_most_one x, sum_by-cons is_left x xs)
  where
    at_most_one : (x : ℕ) → is_left x ≤ 1
    at_most_one zero = omega arith
    at_most_one (suc x) = omega arith

undone_few : (left : List ℕ) → undone left ≤ length left
unfolding undone
undone_few left = few_left left

-- after its targets, a place is done
pub ended : (g : List (List ℕ)) (top : ℕ) (left path order : List ℕ) (p : ℕ) → IsGraph g
    → IsDescent g top left path order → 0 < length path → get_or path (length path - 1) 0 ≡ p
    → get_or left p 0 ≤ 1
    → IsDescent g top (set left p 0) (take (length path - 1) path) (order ++ p ∷ [])
ended g top left path order p graph w some last few =
    let n = length path - 1 in
    let shorter : length (take n path) ≡ n = length-take-le n path (omega arith) in
    let pg = last_within g top left path order p w some last in
    let pl : p < length left = omega (arith, pg, w.sized) in
    let same : (k : ℕ) → k < length (take n path) → get_or (take n path) k 0 ≡ get_or path k 0 =
    λ k h. get_or-take n path k 0 (omega (arith, h, shorter)) in
    let old : (k : ℕ) → k < length (take n path)
    → k < length path = λ k h. omega (arith, h, shorter) in
    record {
      sized = length-set left p 0 ∙ w.sized;
      begun = lower left p 0 top (length (targets g top) + 1) pl (omega arith) w.begun;
      within = λ k h. rw (same k h) (w.within k (old k h));
      entered = λ k h. rw (same k h) (lower left p 0 (get_or path k 0)
          (length (targets g (get_or path k 0)) + 1) pl (omega arith) (w.entered k (old k h)));
      chained = λ k h. rw (same k (omega (arith, h)), same (k + 1) h)
          (w.chained k (omega (arith, h, shorter)));
      upto = λ k h. rw (same k h) (w.upto k (old k h));
      apart = λ k m lt h e. w.apart k m lt (old m h) (sym (same k (omega (arith, lt, h))) ∙ e
          ∙ same m h);
      onward = λ k h. rw (same k h) (elim (written left p 0 (get_or path k 0) pl) [
        | inl q ↦ absurd (w.apart k n (omega (arith, h, shorter)) (omega arith) (q.0 ∙ sym last))
        | inr q ↦ omega (arith, q.1, w.onward k (old k h))
      ]);
      counted =
          let one = one_left (get_or left p 0)
          (subst (λ i. 1 ≤ get_or left i 0) last (w.onward n (omega arith))) in
          omega (arith, w.counted, rewritten left p 0 pl, one, length-append order (p ∷ []));
      pathed = λ i hi least most. elim (written left p 0 i pl) [
        | inl q ↦ absurd (omega (arith, q.1, least))
        | inr q ↦ before_last path i p (w.pathed i hi (omega (arith, q.1, least))
            (omega (arith, q.1, most))) last q.0
      ];
      done = λ i hi z. elim (written left p 0 i pl) [
        | inl q ↦ subst (Contains (order ++ p ∷ [])) (sym q.0) (Contains-push order p)
        | inr q ↦ Contains-append_left order (p ∷ []) i (w.done i hi (sym q.1 ∙ z))
      ];
      scanned = λ i m hi hm le. elim (written left p 0 (get_or (targets g i) m 0) pl) [
        | inl q ↦ q.1
        | inr q ↦ q.1 ∙ w.scanned i m hi hm (elim (written left p 0 i pl) [
          | inl r ↦ let e = ap (λ k. get_or left k 0) r.0 in omega (arith, few, e)
          | inr r ↦ omega (arith, r.1, le)
        ])
      ];
      found = All-push (Leads g top) order p w.found
          (subst (Leads g top) last (w.upto n (omega arith)));
      below = λ k j h c. elim (eqb_tells k (length order)) [
        | inl q ↦
            let at : get_or (order ++ p ∷ []) k 0 ≡ p = ap (λ i. get_or (order ++ p ∷ []) i 0) q.1
            ∙ last_pushed order p in
            let front : take k (order ++ p ∷ []) ≡ order = ap (λ i. take i (order ++ p ∷ [])) q.1
            ∙ take-append-le (length order) order (p ∷ []) (omega arith)
            ∙ take_all (length order) order (omega arith) in
            let m = place_among (targets g p) j (subst (λ i. Contains (targets g i) j) at c) in
            rw front (w.done j (subst (λ i. i < length g) m.2 (graph p m.0 pg m.1))
            (ap (λ i. get_or left i 0) (sym m.2) ∙ w.scanned p m.0 pg m.1 (omega (arith, few))))
        | inr q ↦
            let lt : k < length order = omega (arith, h, q.1, length-append order (p ∷ [])) in
            let at : get_or (order ++ p ∷ []) k 0 ≡ get_or order k 0 =
            get_or_append_left order (p ∷ []) 0 k lt in
            let front : take k (order ++ p ∷ []) ≡ take k order = take-append-le k order (p ∷ [])
            (omega (arith, lt)) in
            rw front (w.below k j lt (subst (λ i. Contains (targets g i) j) at c))
      ];
    }

-- past a target that is done
pub passed : (g : List (List ℕ)) (top : ℕ) (left path order : List ℕ) (p m : ℕ)
    → IsDescent g top left path order → 0 < length path → get_or path (length path - 1) 0 ≡ p
    → get_or left p 0 ≡ m + 2 → get_or left (get_or (targets g p) m 0) 0 ≡ 0
    → IsDescent g top (set left p (m + 1)) path order
passed g top left path order p m w some last steps target =
    let n = length path - 1 in
    let pg = last_within g top left path order p w some last in
    let pl : p < length left = omega (arith, pg, w.sized) in
    record {
      sized = length-set left p (m + 1) ∙ w.sized;
      begun =
          lower left p (m + 1) top (length (targets g top) + 1) pl (omega (arith, steps)) w.begun;
      within = w.within;
      entered = λ k h. lower left p (m + 1) (get_or path k 0)
          (length (targets g (get_or path k 0)) + 1) pl (omega (arith, steps)) (w.entered k h);
      chained = w.chained;
      upto = w.upto;
      apart = w.apart;
      onward = λ k h. elim (written left p (m + 1) (get_or path k 0) pl) [
        | inl q ↦ omega (arith, q.1)
        | inr q ↦ omega (arith, q.1, w.onward k h)
      ];
      counted = omega (
        arith,
        w.counted,
        rewritten left p (m + 1) pl,
        one_left (get_or left p 0)
            (omega (arith, steps)),
        one_left (m + 1) (omega arith),
      );
      pathed = λ i hi least most. elim (written left p (m + 1) i pl) [
        | inl q ↦ among path n i (omega arith) (last ∙ sym q.0)
        | inr q ↦ w.pathed i hi (omega (arith, q.1, least)) (omega (arith, q.1, most))
      ];
      done = λ i hi z. elim (written left p (m + 1) i pl) [
        | inl q ↦ absurd (omega (arith, q.1, z))
        | inr q ↦ w.done i hi (sym q.1 ∙ z)
      ];
      scanned = λ i j hi hj le. zero_kept left p (m + 1) (get_or (targets g i) j 0) pl
          (omega (arith, steps)) (elim (written left p (m + 1) i pl) [
            | inl q ↦ elim (eqb_tells j m) [
              | inl r ↦ ap (λ k. get_or left (get_or (targets g k) j 0) 0) q.0
                  ∙ ap (λ k. get_or left (get_or (targets g p) k 0) 0) r.1 ∙ target
              | inr r ↦ let e = ap (λ k. get_or left k 0) q.0 in
                  w.scanned i j hi hj (omega (arith, e, steps, r.1, q.1, le))
            ]
            | inr q ↦ w.scanned i j hi hj (omega (arith, q.1, le))
          ]);
      found = w.found;
      below = w.below;
    }

-- into a target that wasn't entered
pub entered_next : (g : List (List ℕ)) (top : ℕ) (left path order : List ℕ) (p m t : ℕ) → IsGraph g
    → IsDescent g top left path order → 0 < length path → get_or path (length path - 1) 0 ≡ p
    → m < length (targets g p) → get_or (targets g p) m 0 ≡ t
    → length (targets g t) + 1 < get_or left t 0
    → IsDescent g top (set left t (length (targets g t) + 1)) (path ++ t ∷ []) order
entered_next g top left path order p m t graph w some last within is many =
    let n = length path - 1 in
    let v = length (targets g t) + 1 in
    let pg = last_within g top left path order p w some last in
    let tg : t < length g = subst (λ i. i < length g) is (graph p m pg within) in
    let tl : t < length left = omega (arith, tg, w.sized) in
    let longer = length-append path (t ∷ []) in
    let front : (k : ℕ) → k < length path → get_or (path ++ t ∷ []) k 0 ≡ get_or path k 0 =
    λ k h. get_or_append_left path (t ∷ []) 0 k h in
    let back : (k : ℕ) → k ≡ length path → get_or (path ++ t ∷ []) k 0 ≡ t =
    λ k e. ap (λ i. get_or (path ++ t ∷ []) i 0) e ∙ last_pushed path t in
    let edge : Contains (targets g p) t = among (targets g p) m t within is in
    record {
      sized = length-set left t v ∙ w.sized;
      begun = lower left t v top (length (targets g top) + 1) tl (omega (arith, many)) w.begun;
      within = λ k h. elim (eqb_tells k (length path)) [
        | inl q ↦ rw (back k q.1) tg
        | inr q ↦ let lt : k < length path = omega (arith, h, longer, q.1) in
            rw (front k lt) (w.within k lt)
      ];
      entered = λ k h. elim (eqb_tells k (length path)) [
        | inl q ↦ rw (back k q.1) (elim (written left t v t tl) [
          | inl r ↦ omega (arith, r.1)
          | inr r
              ↦ absurd (r.0 refl)
        ])
        | inr q ↦ let lt : k < length path = omega (arith, h, longer, q.1) in
            rw (front k lt) (lower left t v (get_or path k 0)
            (length (targets g (get_or path k 0)) + 1) tl (omega (arith, many)) (w.entered k lt))
      ];
      chained = λ k h. elim (eqb_tells (k + 1) (length path)) [
        | inl q ↦
            let at : get_or (path ++ t ∷ []) k 0 ≡ p = front k (omega (arith, q.1))
            ∙ (let e : k ≡ n = omega (arith, q.1) in ap (λ i. get_or path i 0) e ∙ last) in
            rw (at, back (k + 1) q.1) edge
        | inr q ↦ let lt : k + 1 < length path = omega (arith, h, longer, q.1) in
            rw (front k (omega (arith, lt)), front (k + 1) lt) (w.chained k lt)
      ];
      upto = λ k h. elim (eqb_tells k (length path)) [
        | inl q ↦ rw (back k q.1) (leads_more (subst (Leads g top) last (w.upto n (omega arith)))
            edge)
        | inr q ↦ let lt : k < length path = omega (arith, h, longer, q.1) in
            rw (front k lt) (w.upto k lt)
      ];
      apart = λ k m lt h e. elim (eqb_tells m (length path)) [
        | inl q ↦
            let here : k < length path = omega (arith, lt, q.1) in
            let is_t : get_or path k 0 ≡ t = sym (front k here) ∙ e ∙ back m q.1 in
            let most =
            subst (λ i. get_or left i 0 ≤ length (targets g i) + 1) is_t (w.entered k here) in
            absurd (omega (arith, most, many))
        | inr q ↦
            let there : m < length path = omega (arith, h, longer, q.1) in
            w.apart k m lt there (sym (front k (omega (arith, lt, there))) ∙ e ∙ front m there)
      ];
      onward = λ k h. elim (written left t v (get_or (path ++ t ∷ []) k 0) tl) [
        | inl q ↦ omega (arith, q.1)
        | inr q ↦ elim (eqb_tells k (length path)) [
          | inl r ↦ absurd (q.0 (back k r.1))
          | inr r ↦ let lt : k < length path = omega (arith, h, longer, r.1) in let e =
              ap (λ i. get_or left i 0) (front k lt) in omega (arith, q.1, e, w.onward k lt)
        ]
      ];
      counted = omega (
        arith,
        w.counted,
        rewritten left t v tl,
        one_left (get_or left t 0)
            (omega (arith, many)),
        one_left v (omega arith),
      );
      pathed = λ i hi least most. elim (written left t v i tl) [
        | inl q ↦ subst (Contains (path ++ t ∷ [])) (sym q.0) (Contains-push path t)
        | inr q ↦ Contains-append_left path (t ∷ []) i
            (w.pathed i hi (omega (arith, q.1, least)) (omega (arith, q.1, most)))
      ];
      done = λ i hi z. elim (written left t v i tl) [
        | inl q ↦ absurd (omega (arith, q.1, z))
        | inr q ↦ w.done i hi (sym q.1 ∙ z)
      ];
      scanned = λ i j hi hj le. elim (written left t v i tl) [
        | inl q ↦ let e = ap (λ k. length (targets g k)) q.0 in
            absurd (omega (arith, q.1, le, hj, e))
        | inr q ↦ zero_kept left t v (get_or (targets g i) j 0) tl (omega (arith, many))
            (w.scanned i j hi hj (omega (arith, q.1, le)))
      ];
      found = w.found;
      below = w.below;
    }

-- a target on the path leads back
pub cycle_found : (g : List (List ℕ)) (top : ℕ) (left path order : List ℕ) (p m t : ℕ) → IsGraph g
    → IsDescent g top left path order → 0 < length path → get_or path (length path - 1) 0 ≡ p
    → m < length (targets g p) → get_or (targets g p) m 0 ≡ t → 1 ≤ get_or left t 0
    → get_or left t 0 ≤ length (targets g t) + 1 → HasCycle g top
cycle_found g top left path order p m t graph w some last within is least most =
    let n = length path - 1 in
    let pg = last_within g top left path order p w some last in
    let tg : t < length g = subst (λ i. i < length g) is (graph p m pg within) in
    let at = place_among path t (w.pathed t tg least most) in
    let up : at.0 + (n - at.0) ≡ n = omega (arith, at.1) in
    let way = along g path w.chained at.0 (n - at.0) (omega (arith, at.1)) in
    record {
      place = p;
      next = t;
      found = subst (Leads g top) last (w.upto n (omega arith));
      edge = among (targets g p) m t within is;
      back = subst (λ i. Leads g i p) at.2
          (subst (Leads g (get_or path at.0 0)) (ap (λ i. get_or path i 0) up ∙ last) way);
    }

-- at the beginning only the top is entered
pub begun_at : (g : List (List ℕ)) (top : ℕ) → top < length g
    → IsDescent g top (set (map (λ ts. length ts + 2) g) top (length (targets g top) + 1))
    (top ∷ []) []
begun_at g top within =
    let all = map (λ (ts : List ℕ). length ts + 2) g in
    let v = length (targets g top) + 1 in
    let sized : length all ≡ length g = length-map g (λ (ts : List ℕ). length ts + 2) in
    let tl : top < length all = omega (arith, within, sized) in
    let at : (i : ℕ) → i < length g → get_or all i 0 ≡ length (targets g i) + 2 =
    λ i h. get_or-map (λ (ts : List ℕ). length ts + 2) g i [] 0 h in
    let first : get_or (set all top v) top 0 ≡ v = elim (written all top v top tl)
    [ inl q ↦ q.1 | inr q ↦ absurd (q.0 refl) ] in
    let only : (k : ℕ) → k < 1 → get_or (top ∷ []) k 0 ≡ top =
    λ k h. (let e : k ≡ 0 = omega (arith, h) in ap (λ i. get_or (top ∷ []) i 0) e) in
    record {
      sized = length-set all top v ∙ sized;
      begun = omega (arith, first);
      within = λ k h. rw (only k h) within;
      entered = λ k h. rw (only k h) (omega (arith, first));
      chained = λ k h. absurd (omega (arith, h));
      upto = λ k h. rw (only k h) here;
      apart = λ k m lt h e. omega (arith, lt, h);
      onward = λ k h. rw (only k h) (omega (arith, first));
      counted = omega (arith, undone_few (set all top v), length-set all top v, sized);
      pathed = λ i hi least most. elim (written all top v i tl) [
        | inl q ↦ subst (Contains (top ∷ [])) (sym q.0) (Contains-push [] top)
        | inr q ↦ absurd (omega (arith, q.1, at i hi, most))
      ];
      done = λ i hi z. elim (written all top v i tl) [
        | inl q ↦ absurd (omega (arith, q.1, z))
        | inr q ↦ absurd (omega (arith, q.1, at i hi, z))
      ];
      scanned = λ i j hi hj le. elim (written all top v i tl) [
        | inl q ↦ let e = ap (λ k. length (targets g k)) q.0 in
            absurd (omega (arith, q.1, le, hj, e))
        | inr q ↦ absurd (omega (arith, q.1, at i hi, le, hj))
      ];
      found = λ k d h. absurd (omega (arith, h));
      below = λ k j h c. absurd (omega (arith, h));
    }

-- ---- each step leaves less work

pub work_ended : (left path less : List ℕ) (p : ℕ) → p < length left → 0 < length path
    → less ≡ take (length path - 1) path
    → 2 * sum (set left p 0) + length less < 2 * sum left + length path
work_ended left path less p h some e =
    let n = ap length e ∙ length-take-le (length path - 1) path (omega arith) in
    omega (arith, n, sum_by-set (λ x. x) left p 0 0 h)

pub work_passed : (left path : List ℕ) (p v : ℕ) → p < length left → v < get_or left p 0
    → 2 * sum (set left p v) + length path < 2 * sum left + length path
work_passed left path p v h less = omega (arith, sum_by-set (λ x. x) left p v 0 h)

pub work_entered : (left path more : List ℕ) (t v : ℕ) → t < length left → v < get_or left t 0
    → more ≡ path ++ t ∷ [] → 2 * sum (set left t v) + length more < 2 * sum left + length path
work_entered left path more t v h less e =
    let n = ap length e ∙ length-append path (t ∷ []) in
    omega (arith, n, sum_by-set (λ x. x) left t v 0 h)
