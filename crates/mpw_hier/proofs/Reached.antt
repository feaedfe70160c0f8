-- The places that a submission's top reaches, in order, and the nodes that are made in that order.
use Rattle.std.proofs.Common.{◌≡◌, ℕ, ◌+◌, ◌-◌, ◌<◌, ◌≤◌, inl, inr, true, List, [], ◌∷◌, length, get_or, set, take, Contains, Option, Some, None, Result, Err, Vec, Global, refl, sym, ap, subst, ◌∙◌, arith, length-take, get_or-take, get_or-set_other}
use Rattle.std.specs.Prelude.{slice_get}
use Rattle.std.specs.Result.{IsErrAnd}
use Rattle.std.specs.BTreeMap.{BTreeMap}
use Rattle.std.proofs.lemmas.Bool.Decides.{eqb_tells}
use Rattle.std.proofs.lemmas.Grind.{get_or-set_at}
use Rattle.std.proofs.lemmas.Option.{slice_get_within}
use Rattle.std.proofs.lemmas.List.{length-append, take_more}
use Rattle.std.proofs.lemmas.List.Elements.{Contains-append_cases}
use Rattle.mpw_structures.specs.declared.structures.Structure.{Structure}
use Rattle.mpw_structures.specs.Places.{place_of}
use Rattle.mpw_hier.specs.declared.fault.HierFault.{HierFault}
use Rattle.mpw_hier.specs.declared.fault.HierFault.TheVariants as faults
use Rattle.mpw_hier.specs.declared.node.Node.{Node}
use Rattle.mpw_hier.specs.declared.submission.Submission.{Submission}
use Rattle.mpw_hier.specs.Structures.{referenced_names, structure_at, refers, IsReachable, itself, chain, IsOutside}
use Rattle.mpw_hier.specs.Outside.{graph_of}
use Rattle.mpw_hier.specs.Graph.{targets, IsFromBelow}
use Rattle.mpw_hier.specs.Limits.{IsFar, IsBound}
use Rattle.mpw_hier.specs.Nodes.{IsPlaceReached, AreReached}
use Rattle.mpw_hier.specs.Internal.Building.{number_at, AreLinked, IsKnown, own, outer, IsPlace, IsReady, IsOneMore, IsFarHere, IsHierarchy}
use Rattle.mpw_hier.proofs.Leading.{among, place_among}
use Rattle.mpw_hier.proofs.Linking.{alone, found_at, graph_length, among_places, targets_at, refers_to, named_way, kept_below, front_closed}
use Rattle.mpw_hier.proofs.Bound.{bound_name}
use Rattle.mpw_hier.proofs.Shelving.{more_get}
use Rattle.mpw_hier.proofs.Adding.{last_get}

reach_more : {library : List Structure} {a b c : List ℕ} → IsReachable library a b
    → refers library b c ≡ true → IsReachable library a c
reach_more itself r = chain r itself
reach_more (chain s way) r = chain s (reach_more way r)

-- the numbers of all these places are known
abbrev pub AreNumbered : List (Option ℕ) → List ℕ → Type 0
AreNumbered numbers places = (p : ℕ) → Contains places p → (k : ℕ) × (number_at numbers p ≡ Some k)

module _ {ss : List Submission} {s : Submission} (b : IsBound ss s) {top : ℕ}
    (e : place_of s.library s.top ≡ Some top) {order : List ℕ}
    (o : IsFromBelow (graph_of s.library) top order) where
  record Found (place : ℕ) : Type 0 where
    structure : Structure
    is : slice_get s.library place ≡ Some structure
    named : place_of s.library structure.name ≡ Some place
    below : IsReachable s.library s.top structure.name

  found : (i : ℕ) → i < length order → Found (get_or order i 0)
  found i h =
      let way = named_way s.library (o.found i 0 h) s.top e in
      let f = found_at s.library way.0 (get_or order i 0) way.1 in
      record {
        structure = f.0;
        is = f.1;
        named = subst (λ name. place_of s.library name ≡ Some (get_or order i 0)) (sym f.2) way.1;
        below = subst (λ name. IsReachable s.library s.top name) (sym f.2) way.2;
      }

  pub order_place : (i : ℕ) → i < length order → IsPlace s.library (get_or order i 0)
  order_place i h = let f = found i h in
      record { structure = f.structure; is = f.is; named = f.named }

  pub order_reached : (i : ℕ) → i < length order → IsPlaceReached s (get_or order i 0)
  order_reached i h = let f = found i h in
      record { name = f.structure.name; named = f.named; below = f.below }

  pub order_far : (i : ℕ) → i < length order → IsFarHere ss s (get_or order i 0) → IsFar ss s
  order_far i h far =
      let f = found i h in
      let both : Some f.structure ≡ Some far.structure = sym f.is ∙ far.is in
      let same : f.structure ≡ far.structure = cc in
      record {
        structure = far.structure.name;
        place = get_or order i 0;
        inside = subst (λ (t : Structure). place_of s.library t.name ≡ Some (get_or order i 0)) same
            f.named;
        below = subst (λ (t : Structure). IsReachable s.library s.top t.name) same f.below;
        box = far.box;
        extent = far.extent;
        far = far.far;
      }

  pub order_ready : (i : ℕ) → i < length order → (numbers : List (Option ℕ))
      → AreNumbered numbers (take i order) → IsReady ss s numbers (get_or order i 0)
  order_ready i h numbers known structure is name c = go (place_of s.library name) refl
    where
      go : (a : Option ℕ) → place_of s.library name ≡ a → IsKnown ss s numbers name
      go (Some q) named =
          let edge : Contains (targets (graph_of s.library) (get_or order i 0)) q =
          subst (λ ps. Contains ps q) (sym
          (targets_at s.library (get_or order i 0) structure is))
          (among_places s.library (referenced_names structure.elements) name q c named) in
          let k = known q (o.below i q h edge) in
          own (record { place = q; named = named; number = k.0; at = k.1 })
      go None none =
          let f = found i h in
          let both : Some f.structure ≡ Some structure = sym f.is ∙ is in
          let same : f.structure ≡ structure = cc in
          let named : place_of s.library structure.name ≡ Some (get_or order i 0) =
          subst (λ (t : Structure). place_of s.library t.name ≡ Some (get_or order i 0)) same
          f.named in
          let way : IsReachable s.library s.top structure.name =
          subst (λ (t : Structure). IsReachable s.library s.top t.name) same f.below in
          let shown : IsOutside s.library s.top name =
          record {
            below = reach_more way
                (refers_to s.library structure.name name (get_or order i 0) structure named is ∙ c);
            missing = ap (structure_at s.library) none;
          } in
          let n = bound_name ss b.names s.bound name b.bound ((b.externals.outside name).1 shown) in
          outer n.0 (record { outside = none; bound = n.1; earlier = n.2 })

  -- the places up to the top are all that it reaches
  pub order_whole : (i : ℕ) → i < length order → get_or order i 0 ≡ top
      → (numbers : List (Option ℕ)) → AreNumbered numbers (take (i + 1) order)
      → (name : List ℕ) (place : ℕ) → IsReachable s.library s.top name
      → place_of s.library name ≡ Some place → (k : ℕ) × (number_at numbers place ≡ Some k)
  order_whole i h is numbers known name place way named =
      let le : i + 1 ≤ length order = omega (arith, h) in
      let lt : i < i + 1 = omega arith in
      let first : i < length (take (i + 1) order) = omega (arith, length-take (i + 1) order, h) in
      let top_in : Contains (take (i + 1) order) top = among (take (i + 1) order) i top first
      (get_or-take (i + 1) order i 0 lt ∙ is) in
      known place (kept_below s.library (λ p. Contains (take (i + 1) order) p)
      (front_closed (graph_of s.library) top order o (i + 1) le) way top place e named top_in)

  pub order_few : (i n : ℕ) → n ≡ i → i < length order → n < length s.library
  order_few i n same h = omega (arith, same, h, o.few, graph_length s.library)

-- one place more is known
pub numbered_one : (numbers : List (Option ℕ)) (order : List ℕ) (i n : ℕ) → i < length order
    → get_or order i 0 < length numbers → AreNumbered numbers (take i order)
    → AreNumbered (set numbers (get_or order i 0) (Some n)) (take (i + 1) order)
numbered_one numbers order i n h within known p c = elim (eqb_tells p (get_or order i 0)) [
  | inl q ↦ (n, get_or-set_at numbers (get_or order i 0) p (Some n) None q.1 within)
  | inr q ↦
      let old = known p (elim (Contains-append_cases (take i order) (get_or order i 0 ∷ []) p
      (subst (λ xs. Contains xs p) (take_more order i 0 h) c)) [
        | inl d ↦ d
        | inr d ↦ absurd (q.1 (sym (alone (get_or order i 0) p d)))
      ]) in
      (old.0, get_or-set_other numbers (get_or order i 0) p (Some n) None q.1 ∙ old.1)
]

pub none_numbered : (numbers : List (Option ℕ)) → AreNumbered numbers []
none_numbered numbers p c = absurd (omega (arith, c.1))

-- each node is that of a structure that the top reaches
pub none_reached : (s : Submission) (nodes : List Node) → nodes ≡ [] → AreReached s nodes
none_reached s nodes none k node is =
    let within = slice_get_within nodes k node is in
    absurd (omega (arith, within, ap length none))

pub reached_one : (s : Submission) (place : ℕ) (before after : List Node) → AreReached s before
    → IsOneMore place before after → IsPlaceReached s place → AreReached s after
reached_one s place before after each one here k node is =
    elim (more_get before one.node k node
    (subst (λ (ns : List Node). slice_get ns k ≡ Some node) one.added is)) [
      | inl h ↦ each k node h.1
      | inr h ↦ subst (λ (n : Node). IsPlaceReached s n.structure) (sym h.1)
          (subst (λ p. IsPlaceReached s p) (sym one.at) here)
    ]

-- none of the places so far is the top
pub not_yet : (order : List ℕ) (top i : ℕ) → ((k : ℕ) → k < i → get_or order k 0 ≡ top → ⊥)
    → (get_or order i 0 ≡ top → ⊥) → (k : ℕ) → k < i + 1 → get_or order k 0 ≡ top → ⊥
not_yet order top i before here k lt is = elim (eqb_tells k i) [
  | inl q ↦ here (ap (λ n. get_or order n 0) (sym q.1) ∙ is)
  | inr q ↦ before k (omega (arith, lt, q.1)) is
]

-- the top is among them
pub not_at_all : (order : List ℕ) (top i : ℕ) → Contains order top → length order ≤ i
    → ((k : ℕ) → k < i → get_or order k 0 ≡ top → ⊥) → ⊥
not_at_all order top i c le before =
    let at = place_among order top c in before at.0 (omega (arith, at.1, le)) at.2

-- the nodes of the first i places are made
pub record AreUpTo (ss : List Submission) (s : Submission) (order : List ℕ) (i : ℕ)
    (table : BTreeMap (List ℕ) ℕ) (numbers : List (Option ℕ)) (nodes : List Node) : Type 0 where
  pub linked : AreLinked ss s table numbers nodes
  pub many : length nodes ≡ i
  pub known : AreNumbered numbers (take i order)
  pub reached : AreReached s nodes

module _ {ss : List Submission} {s : Submission} (b : IsBound ss s) {top : ℕ}
    (e : place_of s.library s.top ≡ Some top) {order : List ℕ}
    (o : IsFromBelow (graph_of s.library) top order) where
  pub one_more : {ss' : List Submission} {s' : Submission} {i : ℕ}
      {table table' : BTreeMap (List ℕ) ℕ} {numbers numbers' : List (Option ℕ)}
      {before after : List Node} → (ss' ≡ ss) × (s' ≡ s) → i < length order
      → AreUpTo ss s order i table numbers before → AreLinked ss' s' table' numbers' after
      → numbers' ≡ set numbers (get_or order i 0) (Some (length before))
      → IsOneMore (get_or order i 0) before after
      → AreUpTo ss s order (i + 1) table' numbers' after
  one_more {i = i} {numbers = numbers} {before = before} same h w linked written one =
      let place = order_place b e o i h in
      let within : get_or order i 0 < length numbers =
      omega (
        arith,
        slice_get_within s.library (get_or order i 0) place.structure place.is,
        w.linked.sized,
      ) in
      let long = ap length one.added ∙ length-append before (one.node ∷ []) in record {
        linked = rw (← same.0, ← same.1) linked;
        many = omega (arith, long, w.many);
        known = rw written (numbered_one numbers order i (length before) h within w.known);
        reached =
            reached_one s (get_or order i 0) before _ w.reached one (order_reached b e o i h);
      }

  pub whole : {i : ℕ} {table : BTreeMap (List ℕ) ℕ} {numbers : List (Option ℕ)}
      {before after : List Node} → i < length order → get_or order i 0 ≡ top
      → AreUpTo ss s order (i + 1) table numbers after → IsOneMore (get_or order i 0) before after
      → IsHierarchy ss s after
  whole {i = i} {numbers = numbers} {before = before} {after = after} h is w one =
      let long : length after ≡ length before + 1 = ap length one.added
      ∙ length-append before (one.node ∷ []) in
      let last : length after - 1 ≡ length before = omega (arith, long) in
      let at : slice_get after (length before) ≡ Some one.node =
      ap (λ xs. slice_get xs (length before)) one.added ∙ last_get before one.node in
      record {
        each = w.linked.each;
        reached = w.reached;
        few = w.linked.few;
        some = omega (arith, long);
        top = one.node;
        last = subst (λ k. slice_get after k ≡ Some one.node) (sym last) at;
        top_named = e ∙ ap (λ p. Some p) (sym (one.at ∙ is));
        whole = λ name place way named.
            let k = order_whole b e o i h is numbers w.known name place way named in
            let r = w.linked.numbered place k.0 k.1 in
            (k.0, r.0, r.1, r.2);
      }

-- the fault that is passed on
pub extent_given : (result : Result (Vec Node Global) HierFault) (fault : HierFault)
    → result ≡ Err faults.Extent → IsErrAnd result (λ e. e ≡ fault) → fault ≡ faults.Extent
extent_given result fault is given =
    sym (subst {A = Result (Vec Node Global) HierFault} (λ r. IsErrAnd r (λ e. e ≡ fault)) is given)
