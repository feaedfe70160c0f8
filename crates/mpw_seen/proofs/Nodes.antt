-- The numbers of nodes are those of their structures' contents.
use Rattle.std.proofs.Common.{◌≡◌, ℕ, zero, suc, ◌+◌, ◌-◌, ◌<◌, ◌≤◌, Bool, cond, ◌⊎◌, inl, inr, List, [], ◌∷◌, ◌++◌, length, get_or, take, Option, Some, refl, sym, ap, subst, ◌∙◌, arith}
use Rattle.std.specs.Prelude.{slice_get, slice_index, option_copied, IfSome}
use Rattle.std.specs.Borrow.{Bor}
use Rattle.std.specs.List.{sum_by}
use Rattle.std.proofs.lemmas.Bool.{cases_lt}
use Rattle.std.proofs.lemmas.List.{length-append, length-take, get_or-take, take-append-le}
use Rattle.std.proofs.lemmas.Option.{slice_get_within, slice_get-get_or}
use Rattle.std.proofs.Math.Seq.{take-append_seam, get_or-append_seam}
use Rattle.mpw_structures.specs.declared.structures.Structure.{Structure}
use Rattle.mpw_structures.specs.Places.{place_of}
use Rattle.mpw_hier.specs.declared.node.Node.{Node}
use Rattle.mpw_hier.specs.declared.node.Target.TheVariants as targets
use Rattle.mpw_hier.specs.declared.submission.Submission.{Submission}
use Rattle.mpw_hier.specs.Items.{Item, own_items}
use Rattle.mpw_hier.specs.Nodes.{IsOwn, IsOuter, AreNodes, AreNodesOf}
use Rattle.mpw_hier.specs.Values.{structure_items, flat_of, flat, flats, heights}
use Rattle.mpw_seen.specs.Seen.{is_seen, seen_items}
use Rattle.mpw_seen.specs.Internal.Counts.{told, own_number, child_number, node_number, elements_of, AreNumbers, AreOfBound}
use Rattle.mpw_seen.specs.Internal.Shown.{NamesAreShown}
use Rattle.mpw_seen.proofs.Sums.{told_again}
use Rattle.mpw_seen.proofs.Placed.{seen_append, seen_own, seen_few}
use Rattle.mpw_seen.proofs.Children.{places_many, told_both, shown_below, AreOfTargets, children_told}

pub one : {X : Type 0} (o : Option X) (x y : X) → o ≡ Some x → o ≡ Some y → x ≡ y
one o x y e f = let g : Some x ≡ Some y = sym e ∙ f in cc

among_first : {X : Type 0} (k : ℕ) (xs : List X) (i : ℕ) (x : X) → slice_get (take k xs) i ≡ Some x
    → slice_get xs i ≡ Some x
among_first zero xs i x h = absurd cc
among_first (suc k) [] i x h = h
among_first (suc k) (y ∷ xs) zero x h = h
among_first (suc k) (y ∷ xs) (suc i) x h = among_first k xs i x h

-- the content of a submission is that of its top
flat_is : (law : NamesAreShown) (ss : List Submission) (n : ℕ) (s : Submission)
    → slice_get ss n ≡ Some s → flat ss n ≡ flat_of (flats (take n ss)) s
unfolding flats
flat_is law ss n s is = law.tops ss n s is

-- ---- one number more

pub numbers_more : (library : List Structure) (outer : List ℕ) (seen : Bool) (nodes : List Node)
    (i : ℕ) (node : Node) (old new : List ℕ) (number : ℕ)
    → AreNumbers library outer seen nodes i old → slice_get nodes i ≡ Some node
    → number ≡ told (node_number (elements_of (slice_get library node.structure)) old outer seen
    node)
    → new ≡ old ++ number ∷ [] → AreNumbers library outer seen nodes (i + 1) new
numbers_more library outer seen nodes i node old new number w at is made = record {
  many_are = let h = length-append old (number ∷ []) in let e = ap length made in
      omega (arith, h, e, w.many_are);
  each = λ k other h here. rw made (go k other h here (cases_lt k i));
}
  where
    sized : length old ≡ i
    sized = w.many_are

    whole : take i (old ++ number ∷ []) ≡ old
    whole = subst (λ n. take n (old ++ number ∷ []) ≡ old) sized
        (take-append_seam old (number ∷ []))

    last : slice_index (old ++ number ∷ []) i ≡ number
    last = subst (λ n. get_or (old ++ number ∷ []) n 0 ≡ number) sized
        (get_or-append_seam old number [] 0)

    go : (k : ℕ) (other : Node) → k < i + 1 → slice_get nodes k ≡ Some other → (k < i) ⊎ (i ≤ k)
        → slice_index (old ++ number ∷ []) k
        ≡ told (node_number (elements_of (slice_get library other.structure))
        (take k (old ++ number ∷ [])) outer seen other)
    go k other h here (inl lt) =
        let front : take k (old ++ number ∷ []) ≡ take k old =
        take-append-le k old (number ∷ []) (omega (arith, lt, sized)) in
        let same : get_or (old ++ number ∷ []) k 0 ≡ get_or old k 0 =
        sym (get_or-take i (old ++ number ∷ []) k 0 lt) ∙ ap (λ xs. get_or xs k 0) whole in
        rw front (same ∙ w.each k other lt here)
    go k other h here (inr le) =
        let at_end : k ≡ i = omega (arith, h, le) in
        let e : node ≡ other = one (slice_get nodes i) node other at
        (subst (λ n. slice_get nodes n ≡ Some other) at_end here) in
        subst (λ n. slice_index (old ++ number ∷ []) n
        ≡ told (node_number (elements_of (slice_get library other.structure))
        (take n (old ++ number ∷ [])) outer seen other)) (sym at_end)
        (last ∙ is ∙ ap (λ (m : Node). told (node_number
        (elements_of (slice_get library m.structure)) old outer seen m)) e
        ∙ ap (λ xs. told (node_number (elements_of (slice_get library other.structure)) xs outer
        seen other)) (sym whole))

-- ---- the meaning of the numbers

module _ (law : NamesAreShown) (ss : List Submission) (n : ℕ) (s : Submission)
    (is : slice_get ss n ≡ Some s) (seen : List Bool) (nodes : List Node)
    (w : AreNodesOf (flats (take n ss)) (heights (take n ss)) s nodes) (outer : List ℕ)
    (bound : AreOfBound ss seen n outer) (numbers : List ℕ) where
  abbrev before : List (List Item)
  before = flats (take n ss)

  -- the first nodes have the numbers of their structures, by any names
  abbrev pub AreTold : ℕ → Type 0
  AreTold many = (k : ℕ) (node : Node) (name : List ℕ) → k < many → slice_get nodes k ≡ Some node
      → place_of s.library name ≡ Some node.structure
      → slice_index numbers k ≡ told (seen_items seen (structure_items before s name))

  own_told : (k : ℕ) → AreTold k → (name : List ℕ) (place : ℕ) → IsOwn s (take k nodes) name place
      → told (slice_index (take k numbers) place)
      ≡ told (seen_items seen (structure_items before s name))
  own_told k below name place o =
      let within = slice_get_within (take k nodes) place o.node o.is in
      let lt : place < k = omega (arith, within, length-take k nodes) in
      let at = among_first k nodes place o.node o.is in
      ap told (get_or-take k numbers place 0 lt
      ∙ below place o.node name lt at o.named) ∙ told_again _

  outer_told : (name : List ℕ) (to : ℕ) → IsOuter s (length before) name to
      → told (slice_index outer to) ≡ told (seen_items seen (structure_items before s name))
  outer_told name to o =
      let long : length before ≡ n =
      omega (arith, law.many (take n ss), length-take n ss, slice_get_within ss n s is) in
      let lt : to < n = omega (arith, long, o.earlier) in
      let within : to < length ss = omega (arith, lt, slice_get_within ss n s is) in
      let t = get_or ss to s in
      let there = slice_get-get_or ss to s within in
      let shown = (law.outer ss n s to t name (record {
        is = is;
        outside = o.outside;
        bound = o.bound;
        earlier = lt;
        to_is = there;
      })).items in
      ap told (bound s name to is o.bound lt
      ∙ ap (seen_items seen) (flat_is law ss to t there ∙ sym shown))

  targets_told : (k : ℕ) → AreTold k
      → AreOfTargets s before (take k nodes) seen (take k numbers) outer []
  targets_told k below name (targets.Own place) o = own_told k below name place o
  targets_told k below name (targets.Outer to) o = outer_told name to o

  node_told : AreNumbers s.library outer (is_seen (slice_get seen n)) nodes (length nodes) numbers
      → (k : ℕ) → AreTold k → (node : Node) (name : List ℕ) → slice_get nodes k ≡ Some node
      → place_of s.library name ≡ Some node.structure
      → slice_index numbers k ≡ told (seen_items seen (structure_items before s name))
  node_told made k below node name at named =
      let m = w.each k node at in
      let es = m.structure.elements in
      let shown = (law.own ss n s m.structure node name (record {
        is = is;
        nodes = nodes;
        nodes_are = w;
        place = k;
        at = at;
        structure_is = m.is;
        named = named;
      })).items in
      let own : own_number (is_seen (slice_get seen n)) node ≡ seen_items seen (own_items n es) =
      ap (λ l. cond (is_seen (slice_get seen n)) l 0) (ap length m.shapes ∙ places_many 0 es)
      ∙ sym (seen_own seen n es) in
      let children = children_told s before (take k nodes) seen (take k numbers) outer es
      (targets_told k below) m.children [] refl refl in
      made.each k node (slice_get_within nodes k node at) at
      ∙ ap (λ o. told (node_number (elements_of o) (take k numbers) outer
      (is_seen (slice_get seen n)) node)) m.is
      ∙ told_both (own_number (is_seen (slice_get seen n)) node)
      (sum_by (child_number es (take k numbers) outer) node.children.items)
      (seen_items seen (own_items n es))
      (seen_items seen (shown_below (structure_items before s) es))
      (ap told own) children
      ∙ ap told (sym (ap (seen_items seen) shown
      ∙ seen_append seen (own_items n es) (shown_below (structure_items before s) es)))

  pub nodes_told : AreNumbers s.library outer (is_seen (slice_get seen n)) nodes (length nodes)
      numbers → (many : ℕ) → AreTold many
  nodes_told made zero k node name h at named = absurd (omega (arith, h))
  nodes_told made (suc many) k node name h at named = elim (cases_lt k many) [
    | inl lt ↦ nodes_told made many k node name lt at named
    | inr le ↦ let e : many ≡ k = omega (arith, h, le) in
        node_told made k (subst AreTold e (nodes_told made many)) node name at named
  ]

-- the last number is that of the submission's content
pub top_told : (law : NamesAreShown) (ss : List Submission) (n : ℕ) (seen : List Bool)
    (nodes : List Node) (w : AreNodes ss n nodes) (outer : List ℕ) → AreOfBound ss seen n outer
    → (numbers : List ℕ)
    → AreNumbers w.submission.library outer (is_seen (slice_get seen n)) nodes (length nodes)
    numbers
    → slice_index numbers (length nodes - 1) ≡ seen_items seen (flat ss n)
top_told law ss n seen nodes w outer bound numbers made =
    let s = w.submission in
    let q = w.shown in
    let last : length nodes - 1 < length nodes = omega (arith, q.some) in
    let top = nodes_told law ss n s w.is seen nodes q outer bound numbers made (length nodes)
    (length nodes - 1) q.top s.top last q.last q.top_named in
    let flat_as = flat_is law ss n s w.is in
    let few = (law.last ss n nodes q.top w q.last).few in
    let fits = seen_few seen (flat ss n) in
    top ∙ ap (λ items. told (seen_items seen items)) (sym flat_as)
    ∙ omega (arith, few, fits)

from_is : (o : Option (Bor Submission)) (from : Bor Submission) (p : Option Submission)
    (s : Submission) → o ≡ Some from → option_copied o ≡ p → p ≡ Some s → s ≡ from.now
from_is o from p s is copied at = one p s from.now at (sym copied ∙ ap option_copied is)

-- the same for what a shelf returns
pub count_told : (law : NamesAreShown) (ss : List Submission) (n : ℕ) (seen : List Bool)
    (o : Option (Bor (List Node))) (nodes : Bor (List Node)) → o ≡ Some nodes
    → IfSome o (λ (ns : Bor (List Node)). AreNodes ss n ns.now)
    → (p : Option (Bor Submission)) (from : Bor Submission) → p ≡ Some from
    → option_copied p ≡ slice_get ss n → (library : List Structure) → library ≡ from.now.library
    → (outer : List ℕ) → AreOfBound ss seen n outer → (own : Bool)
    → own ≡ is_seen (slice_get seen n) → (numbers : List ℕ)
    → AreNumbers library outer own nodes.now (length nodes.now) numbers
    → slice_index numbers (length nodes.now - 1) ≡ seen_items seen (flat ss n)
count_told law ss n seen o nodes is shown p from from_is' copied library library_is outer bound own
    own_is numbers made =
    let w : AreNodes ss n nodes.now =
    subst (λ (q : Option (Bor (List Node))).
    IfSome q (λ (ns : Bor (List Node)). AreNodes ss n ns.now)) is shown in
    let same = from_is p from (slice_get ss n) w.submission from_is' copied w.is in
    let here : library ≡ w.submission.library = library_is
    ∙ ap (λ (s : Submission). s.library) (sym same) in
    top_told law ss n seen nodes.now w outer bound numbers
    (subst (λ b. AreNumbers w.submission.library outer b nodes.now (length nodes.now) numbers)
    own_is
    (subst (λ l. AreNumbers l outer own nodes.now (length nodes.now) numbers) here made))
