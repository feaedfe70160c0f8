-- The values of nodes, each of which is a function of the flat list of its structure.
use Rattle.std.proofs.Common.{◌≡◌, ℕ, zero, suc, ◌+◌, ◌-◌, ◌<◌, ◌≤◌, ◌⊎◌, inl, inr, List, [], ◌∷◌, ◌++◌, length, get_or, take, Option, Some, refl, sym, ap, subst, ◌∙◌, arith}
use Rattle.std.proofs.lemmas.List.Elements.{All-get_or}
use Rattle.std.specs.Prelude.{All, slice_get, slice_index_or, option_copied, IfSome}
use Rattle.std.specs.Borrow.{Bor}
use Rattle.std.proofs.lemmas.Bool.{cases_lt}
use Rattle.std.proofs.lemmas.List.{length-append, length-take, get_or-take, take-append-le}
use Rattle.std.proofs.lemmas.Option.{slice_get_within, slice_get-get_or, get_or_from_slice_get}
use Rattle.std.proofs.Math.Seq.{take-append_seam}
use Rattle.mpw_structures.specs.declared.element.Element.{Element}
use Rattle.mpw_structures.specs.declared.structures.Structure.{Structure}
use Rattle.mpw_structures.specs.Element.{IsElement}
use Rattle.mpw_structures.specs.Library.{IsLibrary, IsStructure}
use Rattle.mpw_structures.specs.Places.{place_of}
use Rattle.mpw_hier.specs.declared.node.Child.{Child}
use Rattle.mpw_hier.specs.declared.node.Node.{Node}
use Rattle.mpw_hier.specs.declared.node.Target.{Target}
use Rattle.mpw_hier.specs.declared.node.Target.TheVariants as targets
use Rattle.mpw_hier.specs.declared.submission.Submission.{Submission}
use Rattle.mpw_hier.specs.Items.{Item, own_items}
use Rattle.mpw_hier.specs.Nodes.{IsOwn, IsOuter, IsTarget, AreChildren, AreNodes, AreNodesOf}
use Rattle.mpw_hier.specs.Values.{structure_items, flat_of, flat, flats, heights}
use Rattle.mpw_seen.specs.Internal.Counts.{elements_of}
use Rattle.mpw_seen.specs.Internal.Shown.{NamesAreShown}
use Rattle.mpw_seen.proofs.Children.{shown_below}
use Rattle.mpw_seen.proofs.Nodes.{one}
use Rattle.mpw_firm_layers.specs.Internal.Values.{AreValues, AreOfFirst, target_value}

among_first : {X : Type 0} (k : ℕ) (xs : List X) (i : ℕ) (x : X) → slice_get (take k xs) i ≡ Some x
    → slice_get xs i ≡ Some x
among_first zero xs i x h = absurd cc
among_first (suc k) [] i x h = h
among_first (suc k) (y ∷ xs) zero x h = h
among_first (suc k) (y ∷ xs) (suc i) x h = among_first k xs i x h

get_front : {X : Type 0} (k : ℕ) (xs ys : List X) → k < length xs
    → slice_get (xs ++ ys) k ≡ slice_get xs k
get_front k [] ys h = absurd (omega (arith, h))
get_front zero (x ∷ xs) ys h = refl
get_front (suc k) (x ∷ xs) ys h = get_front k xs ys (omega (arith, h))

pub get_last : {X : Type 0} (xs : List X) (x : X) → slice_get (xs ++ x ∷ []) (length xs) ≡ Some x
get_last [] x = refl
get_last (y ∷ xs) x = get_last xs x

-- the content of a submission is that of its top
pub flat_is : (law : NamesAreShown) (ss : List Submission) (n : ℕ) (s : Submission)
    → slice_get ss n ≡ Some s → flat ss n ≡ flat_of (flats (take n ss)) s
unfolding flats
flat_is law ss n s is = law.tops ss n s is

-- ---- one value more

pub values_more : {V : Type 0} (step : List Element → List V → List Child → V)
    (library : List Structure) (nodes : List Node) (i : ℕ) (node : Node) (old new : List V)
    (value : V)
    → AreValues step library nodes i old → slice_get nodes i ≡ Some node
    → value ≡ step (elements_of (slice_get library node.structure)) old node.children.items
    → new ≡ old ++ value ∷ [] → AreValues step library nodes (i + 1) new
values_more {V} step library nodes i node old new value w at is made = record {
  many_are = let h = length-append old (value ∷ []) in let e = ap length made in
      omega (arith, h, e, w.many_are);
  each = λ k other h here. rw made (go k other h here (cases_lt k i));
}
  where
    sized : length old ≡ i
    sized = w.many_are

    told_by : Node → List V → V
    told_by n values = step (elements_of (slice_get library n.structure)) values n.children.items

    whole : take i (old ++ value ∷ []) ≡ old
    whole = subst (λ n. take n (old ++ value ∷ []) ≡ old) sized
        (take-append_seam old (value ∷ []))

    last : slice_get (old ++ value ∷ []) i ≡ Some value
    last = subst (λ n. slice_get (old ++ value ∷ []) n ≡ Some value) sized (get_last old value)

    go : (k : ℕ) (other : Node) → k < i + 1 → slice_get nodes k ≡ Some other → (k < i) ⊎ (i ≤ k)
        → slice_get (old ++ value ∷ []) k ≡ Some (told_by other (take k (old ++ value ∷ [])))
    go k other h here (inl lt) =
        let front : take k (old ++ value ∷ []) ≡ take k old =
        take-append-le k old (value ∷ []) (omega (arith, lt, sized)) in
        let within : k < length old = omega (arith, lt, sized) in
        rw front (get_front k old (value ∷ []) within ∙ w.each k other lt here)
    go k other h here (inr le) =
        let at_end : k ≡ i = omega (arith, h, le) in
        let e : node ≡ other = one (slice_get nodes i) node other at
        (subst (λ n. slice_get nodes n ≡ Some other) at_end here) in
        subst (λ n. slice_get (old ++ value ∷ []) n
        ≡ Some (told_by other (take n (old ++ value ∷ [])))) (sym at_end)
        (last ∙ ap Some (is ∙ ap (λ (m : Node). told_by m old) e
        ∙ ap (λ xs. told_by other xs) (sym whole)))

past_end : {X : Type 0} (xs : List X) (n : ℕ) (d : X) → length xs ≤ n → get_or xs n d ≡ d
past_end [] n d h = refl
past_end (x ∷ xs) zero d h = absurd (omega (arith, h))
past_end (x ∷ xs) (suc n) d h = past_end xs n d (omega (arith, h))

-- the values of all submissions have this form for any number, even one after the last
pub any_value : {V : Type 0} (nothing : V) (tell : List Item → V) → tell [] ≡ nothing
    → (law : NamesAreShown) (ss : List Submission) (values : List V)
    → AreOfFirst nothing tell ss (length ss) values → (n : ℕ)
    → slice_index_or values n nothing ≡ tell (flat ss n)
any_value nothing tell none law ss values w n = elim (cases_lt n (length ss)) [
  | inl lt ↦ w.each n lt
  | inr le ↦ past_end values n nothing (omega (arith, w.many_are, le)) ∙ sym none
      ∙ ap tell (sym (past_end (flats ss) n [] (omega (arith, law.many ss, le))))
]

-- ---- the meaning of the values

-- the elements of a structure of a library were read
elements_are : (library : List Structure) (place : ℕ) (structure : Structure) → IsLibrary library
    → slice_get library place ≡ Some structure → All IsElement structure.elements
elements_are library place structure read is =
    let within = slice_get_within library place structure is in
    let e : get_or library place structure ≡ structure =
    get_or_from_slice_get library place structure structure is in
    subst (λ (x : Structure). All IsElement x.elements) e
    (All-get_or IsStructure library place structure within read).elements

module _ {V : Type 0} (nothing : V) (tell : List Item → V) (outer : List V) where
  -- the value of each target is that of its name's content
  abbrev pub AreOfTargets : Submission → List (List Item) → List Node → List V → Type 0
  AreOfTargets s before earlier own =
      (name : List ℕ) (target : Target) → IsTarget s (length before) earlier name target
      → target_value nothing own outer target ≡ tell (structure_items before s name)

  -- then the step gives the value of the structure's content
  abbrev pub StepTells : (List Element → List V → List Child → V) → Type 0
  StepTells step =
      (s : Submission) (before : List (List Item)) (earlier : List Node) (own : List V)
      (es : List Element) (cs : List Child) → All IsElement es
      → AreOfTargets s before earlier own
      → AreChildren s before earlier 0 es cs
      → step es own cs
      ≡ tell (own_items (length before) es ++ shown_below (structure_items before s) es)

  module _ (step : List Element → List V → List Child → V) (steps : StepTells step)
      (law : NamesAreShown) (ss : List Submission) (n : ℕ)
      (s : Submission) (is : slice_get ss n ≡ Some s) (nodes : List Node)
      (w : AreNodesOf (flats (take n ss)) (heights (take n ss)) s nodes)
      (bound : AreOfFirst nothing tell ss n outer)
      (values : List V) where
    abbrev before : List (List Item)
    before = flats (take n ss)

    long : length before ≡ n
    long = omega (arith, law.many (take n ss), length-take n ss, slice_get_within ss n s is)

    -- the first nodes have the values of their structures, by any names
    abbrev AreTold : ℕ → Type 0
    AreTold many = (k : ℕ) (node : Node) (name : List ℕ) → k < many → slice_get nodes k ≡ Some node
        → place_of s.library name ≡ Some node.structure
        → slice_get values k ≡ Some (tell (structure_items before s name))

    own_told : (k : ℕ) → AreTold k → (name : List ℕ) (place : ℕ)
        → IsOwn s (take k nodes) name place
        → slice_index_or (take k values) place nothing ≡ tell (structure_items before s name)
    own_told k below name place o =
        let within = slice_get_within (take k nodes) place o.node o.is in
        let lt : place < k = omega (arith, within, length-take k nodes) in
        let at = among_first k nodes place o.node o.is in
        get_or-take k values place nothing lt
        ∙ get_or_from_slice_get values place _ nothing (below place o.node name lt at o.named)

    outer_told : (name : List ℕ) (to : ℕ) → IsOuter s (length before) name to
        → slice_index_or outer to nothing ≡ tell (structure_items before s name)
    outer_told name to o =
        let lt : to < n = omega (arith, long, o.earlier) in
        let within : to < length ss = omega (arith, lt, slice_get_within ss n s is) in
        let t = get_or ss to s in
        let there = slice_get-get_or ss to s within in
        let shown = (law.outer ss n s to t name (record {
          is = is;
          outside = o.outside;
          bound = o.bound;
          earlier = lt;
          to_is = there;
        })).items in
        bound.each to lt ∙ ap tell (flat_is law ss to t there ∙ sym shown)

    targets_told : (k : ℕ) → AreTold k → AreOfTargets s before (take k nodes) (take k values)
    targets_told k below name (targets.Own place) o = own_told k below name place o
    targets_told k below name (targets.Outer to) o = outer_told name to o

    node_told : AreValues step s.library nodes (length nodes) values → (k : ℕ) → AreTold k
        → (node : Node) (name : List ℕ) → slice_get nodes k ≡ Some node
        → place_of s.library name ≡ Some node.structure
        → slice_get values k ≡ Some (tell (structure_items before s name))
    node_told made k below node name at named =
        let m = w.each k node at in
        let es = m.structure.elements in
        let shown = (law.own ss n s m.structure node name (record {
          is = is;
          nodes = nodes;
          nodes_are = w;
          place = k;
          at = at;
          structure_is = m.is;
          named = named;
        })).items in
        made.each k node (slice_get_within nodes k node at) at
        ∙ ap Some (ap (λ o. step (elements_of o) (take k values) node.children.items) m.is
        ∙ steps s before (take k nodes) (take k values) es node.children.items
        (elements_are s.library node.structure m.structure w.library m.is)
        (targets_told k below) m.children
        ∙ ap (λ number. tell (own_items number es ++ shown_below (structure_items before s) es))
        long
        ∙ ap tell (sym shown))

    nodes_told : AreValues step s.library nodes (length nodes) values → (many : ℕ) → AreTold many
    nodes_told made zero k node name h at named = absurd (omega (arith, h))
    nodes_told made (suc many) k node name h at named = elim (cases_lt k many) [
      | inl lt ↦ nodes_told made many k node name lt at named
      | inr le ↦ let e : many ≡ k = omega (arith, h, le) in
          node_told made k (subst AreTold e (nodes_told made many)) node name at named
    ]

    -- the last value is that of the submission's content
    pub last_told : AreValues step s.library nodes (length nodes) values
        → slice_get values (length nodes - 1) ≡ Some (tell (flat ss n))
    last_told made =
        let last : length nodes - 1 < length nodes = omega (arith, w.some) in
        nodes_told made (length nodes) (length nodes - 1) w.top s.top last w.last w.top_named
        ∙ ap (λ items. Some (tell items)) (sym (flat_is law ss n s is))

from_is : (o : Option (Bor Submission)) (from : Bor Submission) (p : Option Submission)
    (s : Submission) → o ≡ Some from → option_copied o ≡ p → p ≡ Some s → s ≡ from.now
from_is o from p s is copied at = one p s from.now at (sym copied ∙ ap option_copied is)

-- the same for what a shelf returns
pub top_value : {V : Type 0} (nothing : V) (tell : List Item → V) (outer : List V)
    (step : List Element → List V → List Child → V)
    → StepTells nothing tell outer step → (law : NamesAreShown) (ss : List Submission) (n : ℕ)
    → AreOfFirst nothing tell ss n outer
    → (o : Option (Bor (List Node))) (nodes : Bor (List Node)) → o ≡ Some nodes
    → IfSome o (λ (ns : Bor (List Node)). AreNodes ss n ns.now)
    → (p : Option (Bor Submission)) (from : Bor Submission) → p ≡ Some from
    → option_copied p ≡ slice_get ss n → (library : List Structure) → library ≡ from.now.library
    → (values : List V) → AreValues step library nodes.now (length nodes.now) values
    → slice_get values (length nodes.now - 1) ≡ Some (tell (flat ss n))
top_value nothing tell outer step steps law ss n bound o nodes is shown p from from_is' copied
    library library_is values made =
    let w : AreNodes ss n nodes.now =
    subst (λ (q : Option (Bor (List Node))).
    IfSome q (λ (ns : Bor (List Node)). AreNodes ss n ns.now)) is shown in
    let same = from_is p from (slice_get ss n) w.submission from_is' copied w.is in
    let here : library ≡ w.submission.library = library_is
    ∙ ap (λ (s : Submission). s.library) (sym same) in
    last_told nothing tell outer step steps law ss n w.submission w.is nodes.now w.shown bound
    values
    (subst (λ l. AreValues step l nodes.now (length nodes.now) values) here made)
