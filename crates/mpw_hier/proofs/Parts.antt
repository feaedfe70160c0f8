-- The parts of a structure, element by element; and bindings in a table, one by one.
use Rattle.std.proofs.Common.{◌≡◌, ℕ, zero, suc, ◌+◌, ◌^◌, min, ◌<◌, ◌≤◌, Bool, true, false, cond, List, [], ◌∷◌, ◌++◌, length, get_or, take, drop, Option, Some, None, refl, sym, ap, ◌∙◌, arith, append_assoc, append-nil}
use Rattle.std.specs.Option.{option_or}
use Rattle.std.specs.BTreeMap as tree
use Rattle.std.specs.BTreeMap.{BTreeMap}
use Rattle.std.specs.Cmp.Lexicographic.{texts_ties}
use Rattle.std.specs.Ordering.{is_eq}
use Rattle.std.specs.List.{AllZip}
use Rattle.std.proofs.lemmas.List.{at_drop_more, take_more}
use Rattle.mpw_geom.specs.Names.{name_eq, name_cmp, contains_name}
use Rattle.mpw_structures.specs.declared.element.Element.{Element}
use Rattle.mpw_structures.specs.declared.element.Element.TheVariants as elements
use Rattle.mpw_structures.specs.declared.element.Reference.{Reference}
use Rattle.mpw_hier.specs.declared.bindings.Binding.{Binding}
use Rattle.mpw_hier.specs.declared.node.Child.{Child}
use Rattle.mpw_hier.specs.declared.node.Node.{Node}
use Rattle.mpw_hier.specs.declared.node.Target.{Target}
use Rattle.mpw_hier.specs.declared.size.Size.{Size}
use Rattle.mpw_hier.specs.declared.submission.Submission.{Submission}
use Rattle.mpw_hier.specs.Structures.{is_shape, referenced_names}
use Rattle.mpw_hier.specs.Items.{Item}
use Rattle.mpw_hier.specs.Nodes.{IsTarget, AreChildren, shape, empty, child, shape_places}
use Rattle.mpw_hier.specs.Internal.Building.{ShowsBindings}
use Rattle.mpw_hier.specs.Values.{bound_number, structure_items, flats, flat_of}
use Rattle.mpw_hier.proofs.Linking.{same_name, name_itself, or_left, or_right}
use Rattle.mpw_hier.proofs.Firsts.{firsts_length}

-- ---- bindings

bound_more_name : (bs : List Binding) (b : Binding) (q : List ℕ)
    → bound_number (bs ++ b ∷ []) q ≡ option_or (bound_number bs q)
    (cond (name_eq b.name q) (Some b.submission) None)
bound_more_name [] b q = refl
bound_more_name (a ∷ bs) b q = go (name_eq a.name q) (bound_more_name bs b q)
  where
    go : (t : Bool) → bound_number (bs ++ b ∷ []) q ≡ option_or (bound_number bs q)
        (cond (name_eq b.name q) (Some b.submission) None)
        → cond t (Some a.submission) (bound_number (bs ++ b ∷ []) q)
        ≡ option_or (cond t (Some a.submission) (bound_number bs q))
        (cond (name_eq b.name q) (Some b.submission) None)
    go true e = refl
    go false e = e

or_none : (o : Option ℕ) → option_or o None ≡ o
or_none None = refl
or_none (Some x) = refl

-- a name that isn't bound yet
pub table_more : (m n : BTreeMap (List ℕ) ℕ) (bs : List Binding) (b : Binding) → ShowsBindings m bs
    → tree.get name_cmp m b.name ≡ None
    → ((q : List ℕ) → tree.get name_cmp n q ≡ cond (is_eq (name_cmp b.name q)) (Some b.submission)
    (tree.get name_cmp m q))
    → ShowsBindings n (bs ++ b ∷ [])
table_more m n bs b w new updates = record {
  at = λ q. updates q ∙ rw (← texts_ties b.name q, w.at q) (go q (name_eq b.name q) refl)
      ∙ sym (bound_more_name bs b q);
}
  where
    go : (q : List ℕ) (t : Bool) → name_eq b.name q ≡ t
        → cond t (Some b.submission) (bound_number bs q) ≡ option_or (bound_number bs q)
        (cond t (Some b.submission) None)
    go q true e = let free : bound_number bs q ≡ None =
        ap (bound_number bs) (sym (same_name b.name q e)) ∙ sym (w.at b.name) ∙ new in rw free refl
    go q false e = sym (or_none (bound_number bs q))

-- a name that is bound already
pub table_kept : (m : BTreeMap (List ℕ) ℕ) (bs : List Binding) (b : Binding) (k : ℕ)
    → ShowsBindings m bs → tree.get name_cmp m b.name ≡ Some k → ShowsBindings m (bs ++ b ∷ [])
table_kept m bs b k w known = record {
  at = λ q. w.at q ∙ go q (name_eq b.name q) refl ∙ sym (bound_more_name bs b q);
}
  where
    go : (q : List ℕ) (t : Bool) → name_eq b.name q ≡ t
        → bound_number bs q ≡ option_or (bound_number bs q) (cond t (Some b.submission) None)
    go q true e = let there : bound_number bs q ≡ Some k =
        ap (bound_number bs) (sym (same_name b.name q e)) ∙ sym (w.at b.name)
        ∙ known in rw there refl
    go q false e = sym (or_none (bound_number bs q))

-- ---- elements

pub drop_one : (es : List Element) (i : ℕ) (e : Element) → i < length es → e ≡ get_or es i e
    → drop i es ≡ e ∷ drop (i + 1) es
drop_one es i e h is = at_drop_more (λ xs. xs) es i e h ∙ ap (λ x. x ∷ drop (i + 1) es) (sym is)

take_one : (es : List Element) (i : ℕ) (e : Element) → i < length es → e ≡ get_or es i e
    → take (i + 1) es ≡ take i es ++ e ∷ []
take_one es i e h is = take_more es i e h ∙ ap (λ x. take i es ++ x ∷ []) (sym is)

pub shape_if : (e : Element) → ((r : Reference) → e ≡ elements.Reference r → ⊥) → is_shape e ≡ true
shape_if (elements.Boundary b) h = refl
shape_if (elements.Path p) h = refl
shape_if (elements.Reference r) h = absurd (h r refl)

names_append : (xs ys : List Element) → referenced_names (xs ++ ys) ≡ referenced_names xs
    ++ referenced_names ys
names_append [] ys = refl
names_append (elements.Boundary b ∷ xs) ys = names_append xs ys
names_append (elements.Path p ∷ xs) ys = names_append xs ys
names_append (elements.Reference r ∷ xs) ys = ap (λ ns. r.name ∷ ns) (names_append xs ys)

no_name : (e : Element) → is_shape e ≡ true → referenced_names (e ∷ []) ≡ []
no_name (elements.Boundary b) h = refl
no_name (elements.Path p) h = refl
no_name (elements.Reference r) h = absurd cc

zip_push : {X Y : Type 0} (R : X → Y → Type 0) (xs : List X) (ys : List Y) (x : X) (y : Y)
    → AllZip R xs ys → R x y → AllZip R (xs ++ x ∷ []) (ys ++ y ∷ [])
zip_push R [] [] x y h r = (r, tt)
zip_push R [] (b ∷ ys) x y h r = absurd h
zip_push R (a ∷ xs) [] x y h r = absurd h
zip_push R (a ∷ xs) (b ∷ ys) x y h r = (h.0, zip_push R xs ys x y h.1 r)

shape_first : (i : ℕ) (e : Element) (es : List Element) → is_shape e ≡ true
    → shape_places i (e ∷ es) ≡ i ∷ shape_places (i + 1) es
unfolding shape_places
shape_first i e es h = ap (λ b. cond b (i ∷ shape_places (i + 1) es) (shape_places (i + 1) es)) h

reference_first : (i : ℕ) (r : Reference) (es : List Element)
    → shape_places i (elements.Reference r ∷ es) ≡ shape_places (i + 1) es
unfolding shape_places
reference_first i r es = refl

pub shapes_end : (i : ℕ) → shape_places i [] ≡ []
unfolding shape_places
shapes_end i = refl

module _ (es : List Element) (i : ℕ) (e : Element) (h : i < length es)
    (is : e ≡ get_or es i e) where
  pub shapes_shape : (front total : List ℕ) → is_shape e ≡ true
      → front ++ shape_places i (drop i es) ≡ total
      → (front ++ i ∷ []) ++ shape_places (i + 1) (drop (i + 1) es) ≡ total
  shapes_shape front total s inv = append_assoc front (i ∷ [])
      (shape_places (i + 1) (drop (i + 1) es))
      ∙ sym (ap (λ xs. front ++ xs) (ap (shape_places i) (drop_one es i e h is)
      ∙ shape_first i e (drop (i + 1) es) s)) ∙ inv

  pub shapes_reference : (r : Reference) (front total : List ℕ) → e ≡ elements.Reference r
      → front ++ shape_places i (drop i es) ≡ total
      → front ++ shape_places (i + 1) (drop (i + 1) es) ≡ total
  shapes_reference r front total at inv =
      sym (ap (λ xs. front ++ xs) (ap (shape_places i)
      (drop_one es i e h is ∙ ap (λ x. x ∷ drop (i + 1) es) at)
      ∙ reference_first i r (drop (i + 1) es))) ∙ inv

  pub sizes_shape : (R : List ℕ → Size → Type 0) (sizes : List Size) → is_shape e ≡ true
      → AllZip R (referenced_names (take i es)) sizes
      → AllZip R (referenced_names (take (i + 1) es)) sizes
  sizes_shape R sizes s inv =
      let same : referenced_names (take (i + 1) es) ≡ referenced_names (take i es) =
      ap referenced_names (take_one es i e h is) ∙ names_append (take i es) (e ∷ [])
      ∙ ap (λ ns. referenced_names (take i es) ++ ns) (no_name e s)
      ∙ append-nil (referenced_names (take i es)) in
      rw same inv

  pub sizes_reference : (R : List ℕ → Size → Type 0) (r : Reference) (sizes : List Size)
      (size : Size) → e ≡ elements.Reference r → R r.name size
      → AllZip R (referenced_names (take i es)) sizes
      → AllZip R (referenced_names (take (i + 1) es)) (sizes ++ size ∷ [])
  sizes_reference R r sizes size at own inv =
      let same : referenced_names (take (i + 1) es) ≡ referenced_names (take i es) ++ r.name
      ∷ [] = ap referenced_names (take_one es i e h is) ∙ names_append (take i es) (e ∷ [])
      ∙ ap (λ x. referenced_names (take i es) ++ referenced_names (x ∷ [])) at in
      rw same (zip_push R (referenced_names (take i es)) sizes r.name size inv own)

  module _ (s : Submission) (before : List (List Item)) (nodes : List Node)
      (front : List Child) where
    pub children_shape : is_shape e ≡ true
        → ((rest : List Child) → AreChildren s before nodes i (drop i es) rest
        → AreChildren s before nodes 0 es (front ++ rest)) → (rest : List Child)
        → AreChildren s before nodes (i + 1) (drop (i + 1) es) rest
        → AreChildren s before nodes 0 es (front ++ rest)
    children_shape t inv rest more = inv rest (rw (drop_one es i e h is) (shape t more))

    pub children_empty : (r : Reference) → e ≡ elements.Reference r
        → structure_items before s r.name ≡ []
        → ((rest : List Child) → AreChildren s before nodes i (drop i es) rest
        → AreChildren s before nodes 0 es (front ++ rest)) → (rest : List Child)
        → AreChildren s before nodes (i + 1) (drop (i + 1) es) rest
        → AreChildren s before nodes 0 es (front ++ rest)
    children_empty r at nothing inv rest more =
        let here : drop i es ≡ elements.Reference r ∷ drop (i + 1) es = drop_one es i e h is
        ∙ ap (λ x. x ∷ drop (i + 1) es) at in
        inv rest (rw here (empty nothing more))

    pub children_child : (r : Reference) (target : Target) → e ≡ elements.Reference r
        → 0 < length (structure_items before s r.name)
        → IsTarget s (length before) nodes r.name target
        → ((rest : List Child) → AreChildren s before nodes i (drop i es) rest
        → AreChildren s before nodes 0 es (front ++ rest)) → (rest : List Child)
        → AreChildren s before nodes (i + 1) (drop (i + 1) es) rest
        → AreChildren s before nodes 0 es ((front ++ record { element = i; target = target } ∷ [])
        ++ rest)
    children_child r target at some means inv rest more =
        let here : drop i es ≡ elements.Reference r ∷ drop (i + 1) es = drop_one es i e h is
        ∙ ap (λ x. x ∷ drop (i + 1) es) at in
        rw append_assoc (inv (record { element = i; target = target } ∷ rest)
        (rw here (child some means more)))

-- a list of which no shape, or at least one, is counted
pub none_told : {X : Type 0} (xs : List X) (told : ℕ) → told ≡ min (2 ^ 40 + 1) (length xs)
    → told ≤ 0 → xs ≡ []
none_told [] told e le = refl
none_told (x ∷ xs) told e le = absurd (omega (arith, e, le))

pub some_told : {X : Type 0} (xs : List X) (told : ℕ) → told ≡ min (2 ^ 40 + 1) (length xs)
    → 0 < told → 0 < length xs
some_told xs told e lt = omega (arith, e, lt)

-- what an element refers to is among what all refer to
pub named_among : (es : List Element) (i : ℕ) (e : Element) (r : Reference) → i < length es
    → e ≡ get_or es i e → e ≡ elements.Reference r
    → contains_name (referenced_names es) r.name ≡ true
named_among [] i e r h is at = absurd (omega (arith, h))
named_among (x ∷ es) zero e r h is at =
    let first : x ≡ elements.Reference r = sym is ∙ at in
    ap (λ y. contains_name (referenced_names (y ∷ es)) r.name) first
    ∙ or_left (name_eq r.name r.name) (contains_name (referenced_names es) r.name)
    (name_itself r.name)
named_among (x ∷ es) (suc i) e r h is at = later x (named_among es i e r (omega (arith, h)) is at)
  where
    later : (x : Element) → contains_name (referenced_names es) r.name ≡ true
        → contains_name (referenced_names (x ∷ es)) r.name ≡ true
    later (elements.Boundary b) c = c
    later (elements.Path p) c = c
    later (elements.Reference q) c = or_right (name_eq r.name q.name)
        (contains_name (referenced_names es) r.name) c

pub flats_length : (ss : List Submission) → length (flats ss) ≡ length ss
unfolding flats
flats_length ss = firsts_length flat_of [] ss ∙ omega arith
