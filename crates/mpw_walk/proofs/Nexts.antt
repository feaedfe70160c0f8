-- The next turn of a frame, and the frame after it.
use Rattle.std.proofs.Common.{◌≡◌, ℕ, zero, suc, ◌+◌, ◌<◌, ◌≤◌, Bool, true, false, List, [], ◌∷◌, ◌++◌, length, get_or, map, take, drop, Some, None, refl, sym, ap, subst, ◌∙◌, arith, append_assoc, nat_lt, if◌then◌else◌}
use Rattle.std.specs.Prelude.{slice_get, slice_index, All, option_map}
use Rattle.std.specs.List.{flat_map}
use Rattle.std.proofs.lemmas.Bool.Decides.{nat_tests}
use Rattle.std.proofs.lemmas.Option.{slice_get_within, get_or_from_slice_get}
use Rattle.std.proofs.lemmas.List.{drop_more, drop_all, map-append}
use Rattle.std.proofs.lemmas.List.Elements.{All-nil, All-cons, All-weaker}
use Rattle.mpw_geom.specs.declared.placing.Placing.{Placing}
use Rattle.mpw_structures.specs.declared.element.Element.{Element}
use Rattle.mpw_structures.specs.declared.element.Element.TheVariants as elements
use Rattle.mpw_structures.specs.declared.element.Reference.{Reference}
use Rattle.mpw_structures.specs.Element.{IsReference}
use Rattle.mpw_hier.specs.declared.node.Child.{Child}
use Rattle.mpw_hier.specs.declared.node.Target.{Target}
use Rattle.mpw_hier.specs.declared.submission.Submission.{Submission}
use Rattle.mpw_hier.specs.Structures.{is_shape}
use Rattle.mpw_hier.specs.Items.{instance, placed_again}
use Rattle.mpw_hier.specs.Boxes.{placed_box, extent_of}
use Rattle.mpw_hier.specs.Nodes.{shape_places}
use Rattle.mpw_hier.specs.Placed.{BoxesArePlacedAgain}
use Rattle.mpw_hier.specs.Values.{flats}
use Rattle.mpw_walk.specs.declared.frame.Frame.{Frame}
use Rattle.mpw_walk.specs.Turns.{Turn, enter, give, given, entered, placed_turn}
use Rattle.mpw_walk.specs.Frames.{named_turns, reference_turns, instance_turns, turns_of_children, instances_from, turns_within, turns_to_come, IsFrame}
use Rattle.mpw_walk.specs.Internal.Frames.{IsNext, HasReference, behind_instance}
use Rattle.mpw_walk.proofs.Fronts.{one, element_read, frame_at}
use Rattle.mpw_walk.proofs.Entered.{children_front}
use Rattle.mpw_walk.proofs.Placings.{placed_here, turns_again}
use Rattle.mpw_walk.proofs.Shapes.{IsChild, child_at, next_column, next_row, no_next}

pub none_past : {X : Type 0} (xs : List X) (k : ℕ) → slice_get xs k ≡ None → length xs ≤ k
none_past [] k e = omega arith
none_past (x ∷ xs) zero e = absurd cc
none_past (x ∷ xs) (suc k) e = omega (arith, none_past xs k e)

pub drop_get : {X : Type 0} (xs : List X) (k : ℕ) (x : X) → slice_get xs k ≡ Some x
    → drop k xs ≡ x ∷ drop (k + 1) xs
drop_get xs k x is =
    drop_more xs k x (slice_get_within xs k x is)
    ∙ ap (λ y. y ∷ drop (k + 1) xs) (get_or_from_slice_get xs k x x is)

-- ---- shapes

places_within : (es : List Element) (i : ℕ)
    → All (λ place. place < i + length es) (shape_places i es)
unfolding shape_places
places_within [] i = All-nil (λ place. place < i + 0)
places_within (e ∷ es) i =
    go (is_shape e) (All-weaker (λ place. place < (i + 1) + length es)
    (λ place. place < i + length (e ∷ es)) (λ place h. omega (arith, h))
    (shape_places (i + 1) es) (places_within es (i + 1)))
  where
    go : (b : Bool) → All (λ place. place < i + length (e ∷ es)) (shape_places (i + 1) es)
        → All (λ place. place < i + length (e ∷ es)) (if b then i ∷ shape_places (i + 1) es
        else shape_places (i + 1) es)
    go true rest = All-cons (λ place. place < i + length (e ∷ es)) i (shape_places (i + 1) es)
        (omega arith) rest
    go false rest = rest

pub shape_within : (ss : List Submission) (f : Frame) → IsFrame ss f
    → f.shape < length f.node.now.shapes
    → slice_index f.node.now.shapes f.shape < length f.elements.now
shape_within ss f q h =
    let m = q.nodes.each q.place f.node.now q.at in
    let same = one (slice_get q.submission.library f.node.now.structure) m.structure q.structure
    m.is q.named in
    let es = m.structure.elements in
    let places = m.shapes in
    let lt : f.shape < length (shape_places 0 es) = subst (λ ps. f.shape < length ps) places h in
    let w : get_or (shape_places 0 es) f.shape 0 < 0 + length es = places_within es 0 f.shape 0
    lt in
    let same_length : length es ≡ length f.elements.now = ap (λ x. length x.elements) same
    ∙ ap length (sym q.elements_are) in
    let here : get_or f.node.now.shapes f.shape 0 ≡ get_or (shape_places 0 es) f.shape 0 =
    ap (λ ps. get_or ps f.shape 0) places in
    omega (arith, w, same_length, here)

pub shape_next : (ss : List Submission) (f : Frame) (e : Element)
    → f.shape < length f.node.now.shapes
    → slice_get f.elements.now (slice_index f.node.now.shapes f.shape) ≡ Some e
    → turns_to_come ss f ≡ give (record { origin = f.submission; placing = f.placing; element = e })
    ∷ turns_to_come ss (record f { shape = f.shape + 1 })
unfolding turns_to_come turns_within
shape_next ss f e h is =
    let places = f.node.now.shapes in
    let next = drop_more places f.shape 0 h in
    rw (next, is, placed_here f.placing) refl

-- ---- children

-- after an instance the frame is at the next column, the next row, or the next child
pub behind_cases : (f : Frame) (r : Reference) (P : Frame → Type 0)
    → (f.column + 1 < r.columns → P (record f { column = f.column + 1 }))
    → (r.columns ≤ f.column + 1 → f.row + 1 < r.rows → P (record f { row = f.row + 1; column = 0 }))
    → (r.columns ≤ f.column + 1 → r.rows ≤ f.row + 1
    → P (record f { child = f.child + 1; row = 0; column = 0 })) → P (behind_instance f r)
behind_cases f r P column row child =
    go (nat_lt (f.column + 1) r.columns) refl (nat_lt (f.row + 1) r.rows) refl
  where
    go : (b : Bool) → nat_lt (f.column + 1) r.columns ≡ b → (d : Bool)
        → nat_lt (f.row + 1) r.rows ≡ d → P (if b then record f { column = f.column + 1 } else if d
        then record f { row = f.row + 1; column = 0 }
        else record f { child = f.child + 1; row = 0; column = 0 })
    go true e d h = column (grind (arith, nat_tests))
    go false e true h = row (grind (arith, nat_tests)) (grind (arith, nat_tests))
    go false e false h = child (grind (arith, nat_tests)) (grind (arith, nat_tests))

pub rows_read : (ss : List Submission) (f : Frame) (q : IsFrame ss f) (i : ℕ) (r : Reference)
    → slice_get f.elements.now i ≡ Some (elements.Reference r) → IsReference r
rows_read ss f q i r e =
    element_read q.submission.library f.node.now.structure q.structure i (elements.Reference r)
    q.nodes.library q.named (subst (λ es. slice_get es i ≡ Some (elements.Reference r))
    q.elements_are e)

pub same_reference : {r t : Reference} → Some (elements.Reference r) ≡ Some (elements.Reference t)
    → r ≡ t
same_reference e = cc

pub behind_frame : (ss : List Submission) (f : Frame) (q : IsFrame ss f) (target : Target)
    (r : Reference) → IsNext f target r → IsFrame ss (behind_instance f r)
behind_frame ss f q target r x =
    let there = q.within x.child r x.child_is x.reference_is in
    let grid : (row column : ℕ) → row < r.rows → column < r.columns → (c : Child) (t : Reference)
    → slice_get f.node.now.children.items f.child ≡ Some c
    → slice_get f.elements.now c.element ≡ Some (elements.Reference t)
    → (row < t.rows) × (column < t.columns) =
    λ row column a b c t at ref.
    let child = one (slice_get f.node.now.children.items f.child) x.child c x.child_is at in
    let both : Some (elements.Reference r) ≡ Some (elements.Reference t) = sym x.reference_is
    ∙ ap (λ (c : Child). slice_get f.elements.now c.element) child ∙ ref in
    let same = same_reference both in (
      subst (λ (t : Reference). row < t.rows) same a,
      subst (λ (t : Reference). column < t.columns)
          same b,
    ) in
    behind_cases f r (IsFrame ss)
    (λ more. frame_at ss f q f.shape f.child f.row (f.column + 1) f.placing
    (grid f.row (f.column + 1) there.0 more) q.near)
    (λ last more. frame_at ss f q f.shape f.child (f.row + 1) 0 f.placing
    (grid (f.row + 1) 0 more (omega (arith, there.1))) q.near)
    (λ last end. frame_at ss f q f.shape (f.child + 1) 0 0 f.placing
    (λ c t at ref. let z = rows_read ss f q c.element t ref in
    (omega (arith, z.rows.least), omega (arith, z.columns.least))) q.near)

pub shape_frame : (ss : List Submission) (f : Frame) (q : IsFrame ss f)
    → IsFrame ss (record f { shape = f.shape + 1 })
shape_frame ss f q = frame_at ss f q (f.shape + 1) f.child f.row f.column f.placing q.within q.near

-- the child of a frame, as its node has it
pub frame_child : (ss : List Submission) (f : Frame) (q : IsFrame ss f) (c : Child)
    → slice_get f.node.now.children.items f.child ≡ Some c
    → IsChild q.submission (flats (take f.submission ss)) (take q.place f.nodes.now) f.elements.now
    c
frame_child ss f q c at =
    let m = q.nodes.each q.place f.node.now q.at in
    let same = one (slice_get q.submission.library f.node.now.structure) m.structure q.structure
    m.is q.named in
    let es : m.structure.elements ≡ f.elements.now = ap (λ x. x.elements) same
    ∙ sym q.elements_are in
    subst (λ es. IsChild q.submission (flats (take f.submission ss)) (take q.place f.nodes.now) es
    c) es (child_at q.submission (flats (take f.submission ss)) (take q.place f.nodes.now)
    m.structure.elements m.children [] refl refl f.child c at)

pub has_reference : (ss : List Submission) (f : Frame) (q : IsFrame ss f) → HasReference f
has_reference ss f q c at = let k = frame_child ss f q c at in (k.reference, k.is)

abbrev children_of : List Submission → Frame → List Turn
children_of ss f = turns_of_children (named_turns ss f.submission) f.elements.now f.row f.column
    (drop f.child f.node.now.children.items)

pub child_next : (ss : List Submission) (f : Frame) (q : IsFrame ss f) (target : Target)
    (r : Reference) → IsNext f target r
    → children_of ss f ≡ entered (named_turns ss f.submission r.name) (instance r f.row f.column)
    ++ children_of ss (behind_instance f r)
child_next ss f q target r x =
    let below = named_turns ss f.submission in
    let es = f.elements.now in
    let cs = f.node.now.children.items in
    let there = q.within x.child r x.child_is x.reference_is in
    let ts = below r.name in
    let left = flat_map (λ (c : Child). reference_turns below (slice_get es c.element))
    (drop (f.child + 1) cs) in
    let split : (row column : ℕ) → turns_of_children below es row column (drop f.child cs)
    ≡ flat_map (entered ts) (instances_from r row column) ++ left =
    λ row column. ap (turns_of_children below es row column)
    (drop_get cs f.child x.child x.child_is)
    ∙ ap (λ o. instance_turns below row column o ++ left) x.reference_is in
    let go : (rest : List Placing) → instances_from r f.row f.column ≡ instance r f.row f.column
    ∷ rest
    → children_of ss f ≡ entered ts (instance r f.row f.column)
    ++ (flat_map (entered ts) rest ++ left) =
    λ rest e. split f.row f.column ∙ ap (λ l. flat_map (entered ts) l ++ left) e
    ∙ append_assoc (entered ts (instance r f.row f.column)) (flat_map (entered ts) rest) left in
    behind_cases f r (λ (g : Frame). children_of ss f ≡ entered ts (instance r f.row f.column)
    ++ children_of ss g)
    (λ more. go (instances_from r f.row (f.column + 1)) (next_column r f.row f.column there.1)
    ∙ ap (λ l. entered ts (instance r f.row f.column) ++ l) (sym (split f.row (f.column + 1))))
    (λ last more. go (instances_from r (f.row + 1) 0) (next_row r f.row f.column there.1 last more)
    ∙ ap (λ l. entered ts (instance r f.row f.column) ++ l) (sym (split (f.row + 1) 0)))
    (λ last end. go [] (no_next r f.row f.column there.1 last end)
    ∙ ap (λ l. entered ts (instance r f.row f.column) ++ l)
    (sym (children_front ss f.submission q.submission q.is below es
    (λ i t e. let z = rows_read ss f q i t e in omega (arith, z.rows.least))
    (drop (f.child + 1) cs))))

pub shapes_over : (ss : List Submission) (f : Frame) → length f.node.now.shapes ≤ f.shape
    → turns_to_come ss f ≡ map (placed_turn f.placing) (children_of ss f)
unfolding turns_to_come turns_within
shapes_over ss f h = rw (drop_all f.shape f.node.now.shapes h) refl

pub frame_over : (ss : List Submission) (f : Frame) → length f.node.now.shapes ≤ f.shape
    → slice_get f.node.now.children.items f.child ≡ None → turns_to_come ss f ≡ []
frame_over ss f h none =
    shapes_over ss f h ∙ rw (drop_all f.child f.node.now.children.items
    (none_past f.node.now.children.items f.child none)) refl

-- an instance that has shapes is entered
pub instance_next : (again : BoxesArePlacedAgain) (ss : List Submission) (f : Frame)
    (q : IsFrame ss f) (target : Target) (r : Reference) → IsNext f target r
    → length f.node.now.shapes ≤ f.shape
    → 0 < length (named_turns ss f.submission r.name)
    → turns_to_come ss f ≡ enter (option_map
    (placed_box (placed_again f.placing (instance r f.row f.column)))
    (extent_of (given (named_turns ss f.submission r.name))))
    ∷ map (placed_turn (placed_again f.placing (instance r f.row f.column)))
    (named_turns ss f.submission r.name)
    ++ turns_to_come ss (behind_instance f r)
instance_next again ss f q target r x over some =
    let ts = named_turns ss f.submission r.name in
    let t = instance r f.row f.column in
    let whole = shapes_over ss f over ∙ ap (map (placed_turn f.placing))
    (child_next ss f q target r x) ∙ map-append (placed_turn f.placing) (entered ts t)
    (children_of ss (behind_instance f r)) in
    let rest : map (placed_turn f.placing) (children_of ss (behind_instance f r)) ≡ turns_to_come ss
    (behind_instance f r) = behind_cases f r
    (λ (g : Frame). map (placed_turn f.placing) (children_of ss g) ≡ turns_to_come ss g)
    (λ _. sym (shapes_over ss (record f { column = f.column + 1 }) over))
    (λ _ _. sym (shapes_over ss (record f { row = f.row + 1; column = 0 }) over))
    (λ _ _. sym (shapes_over ss (record f { child = f.child + 1; row = 0; column = 0 }) over)) in
    whole ∙ ap (λ turns. map (placed_turn f.placing) (entered ts t) ++ turns) rest
    ∙ ap (λ turns. turns ++ turns_to_come ss (behind_instance f r)) (go ts some)
  where
    go : (ts : List Turn) → 0 < length ts
        → map (placed_turn f.placing) (entered ts (instance r f.row f.column))
        ≡ enter (option_map (placed_box (placed_again f.placing (instance r f.row f.column)))
        (extent_of (given ts))) ∷ map (placed_turn
        (placed_again f.placing (instance r f.row f.column))) ts
    go [] h = absurd (omega (arith, h))
    go (turn ∷ turns) h =
        turns_again again f.placing (instance r f.row f.column)
        (enter (extent_of (given (turn ∷ turns))) ∷ turn ∷ turns)
