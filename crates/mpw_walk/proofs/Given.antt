-- The turns give the flat lists, and there are at most as many of them as levels times shapes.
use Rattle.std.proofs.Common.{◌≡◌, ℕ, zero, suc, ◌+◌, ◌*◌, ◌≤◌, ◌<◌, max, List, [], ◌∷◌, ◌++◌, length, map, refl, ap, ◌∙◌, arith, length-append}
use Rattle.std.proofs.lemmas.List.{length-map, map-append}
use Rattle.std.specs.List.{flat_map, fold}
use Rattle.std.proofs.Math.Nat.{mul-add, suc-mul, mul-le-mul_right, le-max_left, le-max_right}
use Rattle.mpw_geom.specs.declared.placing.Placing.{Placing}
use Rattle.mpw_structures.specs.declared.element.Element.{Element}
use Rattle.mpw_structures.specs.declared.element.Element.TheVariants as elements
use Rattle.mpw_structures.specs.declared.element.Reference.{Reference}
use Rattle.mpw_structures.specs.declared.structures.Structure.{Structure}
use Rattle.mpw_hier.specs.declared.submission.Submission.{Submission}
use Rattle.mpw_hier.specs.Structures.{references, referenced_names}
use Rattle.mpw_hier.specs.Items.{Item, own_items, placed_item, placed_items, shown_items, instances}
use Rattle.mpw_hier.specs.Levels.{levels_of}
use Rattle.mpw_hier.specs.Nodes.{structure_levels}
use Rattle.mpw_hier.specs.Values.{bound_number, structure_items, flat_of, flats, flat, shown_height, greatest, height_of, heights, height}
use Rattle.mpw_walk.specs.declared.root.Root.{Root}
use Rattle.mpw_walk.specs.Turns.{Turn, enter, give, given, placed_turn, entered, placed_turns, shown_turns, structure_turns, submission_turns, all_turns, turns_of, root_turns, roots_turns, flat_root, flat_roots, placed_root}
use Rattle.mpw_walk.proofs.Placings.{items_again}
use Rattle.mpw_walk.proofs.Related.{Related, none, related_at, related_lengths, numbers_related, levels_related, firsts_related}

-- ---- what turns give

pub given_append : (a b : List Turn) → given (a ++ b) ≡ given a ++ given b
given_append [] b = refl
given_append (enter e ∷ a) b = given_append a b
given_append (give i ∷ a) b = ap (λ is. i ∷ is) (given_append a b)

pub given_placed : (t : Placing) (a : List Turn)
    → given (map (placed_turn t) a) ≡ map (placed_item t) (given a)
given_placed t [] = refl
given_placed t (enter e ∷ a) = given_placed t a
given_placed t (give i ∷ a) = ap (λ is. placed_item t i ∷ is) (given_placed t a)

pub given_give : (is : List Item) → given (map give is) ≡ is
given_give [] = refl
given_give (i ∷ is) = ap (λ is. i ∷ is) (given_give is)

pub given_entered : (turns : List Turn) (t : Placing)
    → given (entered turns t) ≡ map (placed_item t) (given turns)
given_entered [] t = refl
given_entered (turn ∷ turns) t = given_placed t (turn ∷ turns)

pub given_each : {X : Type 0} (f : X → List Turn) (g : X → List Item)
    → ((x : X) → given (f x) ≡ g x) → (xs : List X) → given (flat_map f xs) ≡ flat_map g xs
given_each f g same [] = refl
given_each f g same (x ∷ xs) =
    given_append (f x) (flat_map f xs) ∙ rw (same x, given_each f g same xs) refl

pub given_placed_turns : (r : Reference) (turns : List Turn)
    → given (placed_turns r turns) ≡ placed_items r (given turns)
given_placed_turns r turns =
    given_each (entered turns) (λ t. map (placed_item t) (given turns)) (given_entered turns)
    (instances r)

-- ---- how many turns

few_append : (k : ℕ) (a b : List Turn) (is js : List Item) → length a ≤ k * length is
    → length b ≤ k * length js → length (a ++ b) ≤ k * length (is ++ js)
few_append k a b is js h l =
    let m : k * length (is ++ js) ≡ k * length is + k * length js =
    ap (λ n. k * n) (length-append is js) ∙ mul-add k (length is) (length js) in
    omega (arith, m, h, l, length-append a b)

few_each : {X : Type 0} (k : ℕ) (f : X → List Turn) (g : X → List Item)
    → ((x : X) → length (f x) ≤ k * length (g x)) → (xs : List X)
    → length (flat_map f xs) ≤ k * length (flat_map g xs)
few_each k f g few [] = omega arith
few_each k f g few (x ∷ xs) =
    few_append k (f x) (flat_map f xs) (g x) (flat_map g xs) (few x) (few_each k f g few xs)

pub few_entered : (k n : ℕ) (turns : List Turn) (t : Placing) (is : List Item)
    → length turns ≤ k * length is → k ≤ n
    → length (entered turns t) ≤ suc n * length (map (placed_item t) is)
few_entered k n [] t is few le = omega arith
few_entered k n (turn ∷ turns) t is few le =
    let more : k * length is ≤ n * length is = mul-le-mul_right (length is) le in
    let whole : suc n * length (map (placed_item t) is) ≡ n * length is + length is =
    ap (λ m. suc n * m) (length-map is (placed_item t)) ∙ suc-mul n (length is) in
    let long : length (map (placed_turn t) (turn ∷ turns)) ≡ length (turn ∷ turns) =
    length-map (turn ∷ turns) (placed_turn t) in
    let some : 0 < length is = some_items (length is) few in
    omega (arith, more, whole, long, few, some)
  where
    some_items : (n : ℕ) → suc (length turns) ≤ k * n → 0 < n
    some_items zero h = absurd (omega (arith, h))
    some_items (suc n) h = omega arith

few_give : (k : ℕ) (is : List Item) → length (map give is) ≤ suc k * length is
few_give k is = omega (arith, length-map is give, suc-mul k (length is))

-- ---- the greatest

pub grows : (ns : List ℕ) (n : ℕ) → n ≤ fold max n ns
grows [] n = omega arith
grows (m ∷ ns) n = omega (arith, grows ns (max n m), le-max_left n m)

grows_with : (ns : List ℕ) (n m : ℕ) → n ≤ m → fold max n ns ≤ fold max m ns
grows_with [] n m h = h
grows_with (k ∷ ns) n m h = grows_with ns (max n k) (max m k) (omega arith)

-- what holds for the references of elements by their heights, each of which is bounded
pub references_few : (k : ℕ) (es : List Element) (turns : List ℕ → List Turn)
    (items : List ℕ → List Item) (levels : List ℕ → ℕ)
    → ((name : List ℕ) → length (turns name) ≤ levels name * length (items name))
    → greatest (map levels (referenced_names es)) ≤ k
    → length (flat_map (λ (r : Reference). placed_turns r (turns r.name)) (references es)) ≤ suc k
    * length (flat_map (λ (r : Reference). placed_items r (items r.name)) (references es))
references_few k [] turns items levels few le = omega arith
references_few k (elements.Boundary b ∷ es) turns items levels few le =
    references_few k es turns items levels few le
references_few k (elements.Path p ∷ es) turns items levels few le =
    references_few k es turns items levels few le
references_few k (elements.Reference r ∷ es) turns items levels few le =
    let rest : greatest (map levels (referenced_names es)) ≤ k =
    omega (
      arith,
      le,
      grows_with (map levels (referenced_names es)) 0 (max 0 (levels r.name))
          (omega arith),
    ) in
    let one : levels r.name ≤ k = omega (
      arith,
      le,
      grows (map levels (referenced_names es)) (max 0 (levels r.name)),
      le-max_right 0 (levels r.name),
    ) in
    few_append (suc k) (placed_turns r (turns r.name)) _ (placed_items r (items r.name))
    _ (few_each (suc k) (entered (turns r.name)) (λ t. map (placed_item t) (items r.name))
    (λ t. few_entered (levels r.name) k (turns r.name) t (items r.name) (few r.name) one)
    (instances r)) (references_few k es turns items levels few rest)

-- ---- all of it together

pub record Gives (turns : List Turn) (items : List Item) (levels : ℕ) : Type 0 where
  pub items_given : given turns ≡ items
  pub few : length turns ≤ levels * length items

pub nothing_given : Gives [] [] 0
nothing_given = record { items_given = refl; few = omega arith }

pub structure_gives : (number : ℕ) (s : Structure) (turns : List ℕ → List Turn) (items : List ℕ
    → List Item) (levels : List ℕ → ℕ)
    → ((target : List ℕ) → Gives (turns target) (items target) (levels target))
    → Gives (shown_turns number s turns) (shown_items number s items) (shown_height s levels)
structure_gives number s turns items levels below =
    let k = greatest (map levels (referenced_names s.elements)) in record {
      items_given =
          given_append (map give (own_items number s.elements))
          _ ∙ rw (given_give (own_items number s.elements))
          (ap (λ is. own_items number s.elements ++ is)
          (given_each (λ (r : Reference). placed_turns r (turns r.name))
          (λ (r : Reference). placed_items r (items r.name))
          (λ r. given_placed_turns r (turns r.name)
          ∙ ap (placed_items r) (below r.name).items_given) (references s.elements)));
      few = few_append (suc k) (map give (own_items number s.elements)) _
          (own_items number s.elements) _ (few_give k (own_items number s.elements))
          (references_few k s.elements turns items levels (λ name. (below name).few) (omega arith));
    }

pub named_gives : (turns : List (List Turn)) (items : List (List Item)) (levels : List ℕ)
    (s : Submission) → Related Gives turns items levels → (name : List ℕ)
    → Gives (structure_turns turns s name) (structure_items items s name)
    (structure_levels levels s name)
named_gives turns items levels s r name =
    let n : length turns ≡ length items = related_lengths r in
    rw n (levels_related Gives (shown_turns (length items)) (shown_items (length items))
    shown_height [] [] 0 _ _ _ (structure_gives (length items)) nothing_given
    (λ outside. numbers_related Gives turns items levels [] [] 0 nothing_given r
    (bound_number s.bound outside)) (levels_of s.library) s.library name)

pub all_give : (ss : List Submission) → Related Gives (all_turns ss) (flats ss) (heights ss)
unfolding all_turns flats heights
all_give ss =
    firsts_related Gives submission_turns flat_of height_of
    (λ turns items levels s r. named_gives turns items levels s r s.top) [] [] [] none ss

pub number_gives : (ss : List Submission) (number : ℕ)
    → Gives (turns_of ss number) (flat ss number) (height ss number)
number_gives ss number = related_at (all_give ss) [] [] 0 nothing_given number

pub root_given : (ss : List Submission) (root : Root)
    → given (root_turns ss root) ≡ flat_root ss root
root_given ss root =
    given_entered (turns_of ss root.submission) root.placing
    ∙ ap (map (placed_item root.placing)) (number_gives ss root.submission).items_given

pub roots_given : (ss : List Submission) (roots : List Root)
    → given (roots_turns ss roots) ≡ flat_roots ss roots
unfolding roots_turns flat_roots
roots_given ss roots = given_each (root_turns ss) (flat_root ss) (root_given ss) roots

pub root_few : (ss : List Submission) (root : Root)
    → length (root_turns ss root) ≤ (height ss root.submission + 1) * length (flat_root ss root)
root_few ss root =
    let n = height ss root.submission in
    let one : n + 1 ≡ suc n = omega arith in
    rw one (few_entered n n (turns_of ss root.submission) root.placing (flat ss root.submission)
    (number_gives ss root.submission).few (omega arith))

pub roots_again : (t : Placing) (ss : List Submission) (roots : List Root)
    → flat_roots ss (map (placed_root t) roots) ≡ map (placed_item t) (flat_roots ss roots)
unfolding flat_roots
roots_again t ss [] = refl
roots_again t ss (root ∷ roots) =
    let items = flat ss root.submission in
    rw (← items_again t root.placing items, roots_again t ss roots, map-append) refl
