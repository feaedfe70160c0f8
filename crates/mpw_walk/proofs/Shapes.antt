-- The turns of a structure by the indices of its shapes, and by its children.
use Rattle.std.proofs.Common.{◌≡◌, ℕ, zero, suc, ◌+◌, ◌-◌, ◌<◌, ◌≤◌, true, List, [], ◌∷◌, ◌++◌, length, map, Some, refl, sym, ap, subst, ◌∙◌, arith, append_assoc}
use Rattle.std.specs.Prelude.{slice_get}
use Rattle.std.specs.List.{flat_map, range_with_len}
use Rattle.std.proofs.lemmas.List.{length-append}
use Rattle.mpw_geom.specs.declared.placing.Placing.{Placing}
use Rattle.mpw_structures.specs.declared.element.Element.{Element}
use Rattle.mpw_structures.specs.declared.element.Element.TheVariants as elements
use Rattle.mpw_structures.specs.declared.element.Reference.{Reference}
use Rattle.mpw_hier.specs.declared.node.Node.{Node}
use Rattle.mpw_hier.specs.declared.node.Child.{Child}
use Rattle.mpw_hier.specs.declared.submission.Submission.{Submission}
use Rattle.mpw_hier.specs.Structures.{references, is_shape}
use Rattle.mpw_hier.specs.Items.{Item, own_items, instance, row_of, instances}
use Rattle.mpw_hier.specs.Nodes.{shape_places, AreChildren, none, shape, empty, child, IsTarget}
use Rattle.mpw_hier.specs.Values.{structure_items}
use Rattle.mpw_walk.specs.Turns.{Turn, give, entered, placed_turns}
use Rattle.mpw_walk.specs.Frames.{shape_turns, turns_of_shapes, reference_turns, instances_from}

pub get_at : {X : Type 0} (front : List X) (x : X) (xs : List X)
    → slice_get (front ++ x ∷ xs) (length front) ≡ Some x
get_at [] x xs = refl
get_at (y ∷ front) x xs = get_at front x xs

one_longer : {X : Type 0} (front : List X) (x : X) → length (front ++ x ∷ []) ≡ length front + 1
one_longer front x = length-append front (x ∷ [])

-- ---- shapes

pub shapes_all : (n : ℕ) (front es : List Element)
    → turns_of_shapes n (front ++ es) (shape_places (length front) es) ≡ map give (own_items n es)
unfolding shape_places
shapes_all n front [] = refl
shapes_all n front (e ∷ es) =
    let next = append_assoc front (e ∷ []) es in
    let all = front ++ e ∷ es in
    let more = subst (λ m. turns_of_shapes n all (shape_places m es) ≡ map give (own_items n es))
    (one_longer front e) (subst (λ whole. turns_of_shapes n whole
    (shape_places (length (front ++ e ∷ [])) es) ≡ map give (own_items n es)) next
    (shapes_all n (front ++ e ∷ []) es)) in
    go (ap (shape_turns n) (get_at front e es)) more e refl
  where
    go : shape_turns n (slice_get (front ++ e ∷ es) (length front)) ≡ shape_turns n (Some e)
        → turns_of_shapes n (front ++ e ∷ es) (shape_places (length front + 1) es)
        ≡ map give (own_items n es) → (x : Element) → x ≡ e
        → turns_of_shapes n (front ++ e ∷ es) (shape_places (length front) (x ∷ es))
        ≡ map give (own_items n (x ∷ es))
    go here more (elements.Boundary b) is =
        rw (here, ← is) (ap (λ turns. shape_turns n (Some (elements.Boundary b)) ++ turns) more)
    go here more (elements.Path p) is =
        rw (here, ← is) (ap (λ turns. shape_turns n (Some (elements.Path p)) ++ turns) more)
    go here more (elements.Reference r) is = more

-- ---- children

pub nothing_placed : (r : Reference) → placed_turns r [] ≡ []
nothing_placed r = go (instances r)
  where
    go : (ts : List Placing) → flat_map (entered []) ts ≡ []
    go [] = refl
    go (t ∷ ts) = go ts

-- a child, among all elements
pub record IsChild (s : Submission) (before : List (List Item)) (earlier : List Node)
    (es : List Element) (c : Child) : Type 0 where
  pub reference : Reference
  pub is : slice_get es c.element ≡ Some (elements.Reference reference)
  pub shows : 0 < length (structure_items before s reference.name)
  pub target : IsTarget s (length before) earlier reference.name c.target

module _ (s : Submission) (before : List (List Item)) (earlier : List Node)
    (all : List Element) where
  pub children_all : (below : List ℕ → List Turn)
      → ((name : List ℕ) → structure_items before s name ≡ [] → below name ≡ [])
      → {i : ℕ} {es : List Element} {cs : List Child} → AreChildren s before earlier i es cs
      → (front : List Element) → i ≡ length front → all ≡ front ++ es
      → flat_map (λ (c : Child). reference_turns below (slice_get all c.element)) cs
      ≡ flat_map (λ (r : Reference). placed_turns r (below r.name)) (references es)
  children_all below none' none front at split = refl
  children_all below none' (shape {e = e} {es = es} {cs = cs} is rest) front at split =
      children_all below none' rest (front ++ e ∷ []) (omega (arith, at, one_longer front e))
      (split ∙ sym (append_assoc front (e ∷ []) es)) ∙ go e is
    where
      go : (x : Element) → is_shape x ≡ true
          → flat_map (λ (r : Reference). placed_turns r (below r.name)) (references es)
          ≡ flat_map (λ (r : Reference). placed_turns r (below r.name)) (references (x ∷ es))
      go (elements.Boundary b) q = refl
      go (elements.Path p) q = refl
      go (elements.Reference r) q = absurd cc
  children_all below none' (empty {r = r} {es = es} {cs = cs} shows rest) front at split =
      let e = elements.Reference r in
      let more = children_all below none' rest (front ++ e ∷ [])
      (omega (arith, at, one_longer front e)) (split ∙ sym (append_assoc front (e ∷ []) es)) in
      more ∙ ap (λ turns. turns ++ flat_map (λ (r : Reference). placed_turns r (below r.name))
      (references es)) (sym (ap (placed_turns r) (none' r.name shows) ∙ nothing_placed r))
  children_all below none' (child {r = r} {target = target} {es = es} {cs = cs} shows target' rest)
      front at split =
      let e = elements.Reference r in
      let more = children_all below none' rest (front ++ e ∷ [])
      (omega (arith, at, one_longer front e)) (split ∙ sym (append_assoc front (e ∷ []) es)) in
      let here = ap (reference_turns below) (ap (λ i. slice_get all i) at
      ∙ ap (λ es. slice_get es (length front)) split ∙ get_at front e es) in
      rw (here, more) refl

  pub child_at : {i : ℕ} {es : List Element} {cs : List Child}
      → AreChildren s before earlier i es cs → (front : List Element) → i ≡ length front
      → all ≡ front ++ es → (j : ℕ) (c : Child) → slice_get cs j ≡ Some c
      → IsChild s before earlier all c
  child_at none front at split j c is = absurd cc
  child_at (shape {e = e} {es = es} q rest) front at split j c is =
      child_at rest (front ++ e ∷ []) (omega (arith, at, one_longer front e))
      (split ∙ sym (append_assoc front (e ∷ []) es)) j c is
  child_at (empty {r = r} {es = es} shows rest) front at split j c is =
      let e = elements.Reference r in
      child_at rest (front ++ e ∷ []) (omega (arith, at, one_longer front e))
      (split ∙ sym (append_assoc front (e ∷ []) es)) j c is
  child_at (child {r = r} {target = target} {es = es} shows target' rest) front at split zero c is =
      let e = elements.Reference r in
      let same : record { element = length front; target = target } ≡ c =
      let h : Some (record { element = length front; target = target }) ≡ Some c =
      subst (λ i. Some (record { element = i; target = target }) ≡ Some c) at is in cc in
      subst (IsChild s before earlier all) same
      (record {
        reference = r;
        is = ap (λ es. slice_get es (length front)) split
            ∙ get_at front e es;
        shows = shows;
        target = target';
      })
  child_at (child {r = r} {target = target} {es = es} shows target' rest) front at split (suc j) c
      is =
      let e = elements.Reference r in
      child_at rest (front ++ e ∷ []) (omega (arith, at, one_longer front e))
      (split ∙ sym (append_assoc front (e ∷ []) es)) j c is

-- ---- instances

abbrev rows_from : Reference → ℕ → List Placing
rows_from r row = flat_map (row_of r) (range_with_len row (r.rows - row))

rows_more : (r : Reference) (row : ℕ) → row < r.rows → rows_from r row ≡ row_of r row
    ++ rows_from r (row + 1)
rows_more r row h =
    let e : r.rows - row ≡ suc (r.rows - (row + 1)) = omega (arith, h) in
    ap (λ n. flat_map (row_of r) (range_with_len row n)) e

rows_end : (r : Reference) (row : ℕ) → r.rows ≤ row → rows_from r row ≡ []
rows_end r row h =
    let e : r.rows - row ≡ 0 = omega (arith, h) in
    ap (λ n. flat_map (row_of r) (range_with_len row n)) e

abbrev columns_from : Reference → (row column : ℕ) → List Placing
columns_from r row column = map (instance r row) (range_with_len column (r.columns - column))

columns_more : (r : Reference) (row column : ℕ) → column < r.columns
    → columns_from r row column ≡ instance r row column ∷ columns_from r row (column + 1)
columns_more r row column h =
    let e : r.columns - column ≡ suc (r.columns - (column + 1)) = omega (arith, h) in
    ap (λ n. map (instance r row) (range_with_len column n)) e

columns_end : (r : Reference) (row column : ℕ) → r.columns ≤ column → columns_from r row column ≡ []
columns_end r row column h =
    let e : r.columns - column ≡ 0 = omega (arith, h) in
    ap (λ n. map (instance r row) (range_with_len column n)) e

row_front : (r : Reference) (row : ℕ) → row < r.rows → instances_from r row 0 ≡ rows_from r row
row_front r row h =
    let e : r.columns - 0 ≡ r.columns = omega arith in
    ap (λ n. map (instance r row) (range_with_len 0 n) ++ rows_from r (row + 1)) e
    ∙ sym (rows_more r row h)

pub instances_front : (r : Reference) → 0 < r.rows → instances_from r 0 0 ≡ instances r
unfolding instances
instances_front r h =
    let e : r.rows - 0 ≡ r.rows = omega arith in
    row_front r 0 h ∙ ap (λ n. flat_map (row_of r) (range_with_len 0 n)) e

-- after an instance: the next column, the next row, or none
pub next_column : (r : Reference) (row column : ℕ) → column < r.columns
    → instances_from r row column ≡ instance r row column ∷ instances_from r row (column + 1)
next_column r row column h = ap (λ ts. ts ++ rows_from r (row + 1)) (columns_more r row column h)

pub next_row : (r : Reference) (row column : ℕ) → column < r.columns → r.columns ≤ column + 1
    → row + 1 < r.rows → instances_from r row column ≡ instance r row column
    ∷ instances_from r (row + 1) 0
next_row r row column h last more =
    next_column r row column h ∙ ap (λ ts. instance r row column ∷ ts ++ rows_from r (row + 1))
    (columns_end r row (column + 1) last) ∙ ap (λ ts. instance r row column ∷ ts)
    (sym (row_front r (row + 1) more))

pub no_next : (r : Reference) (row column : ℕ) → column < r.columns → r.columns ≤ column + 1
    → r.rows ≤ row + 1 → instances_from r row column ≡ instance r row column ∷ []
no_next r row column h last end =
    next_column r row column h ∙ ap (λ ts. instance r row column ∷ ts ++ rows_from r (row + 1))
    (columns_end r row (column + 1) last) ∙ ap (λ ts. instance r row column ∷ ts)
    (rows_end r (row + 1) end)
