-- The numbers of submissions, and of roots, are those of their flat lists.
use Rattle.std.proofs.Common.{◌≡◌, ℕ, zero, suc, ◌+◌, ◌-◌, ◌||◌, Bool, true, false, cond, nat_lt, List, [], ◌∷◌, length, Option, Some, refl, sym, ap, ◌∙◌, arith}
use Rattle.std.specs.Prelude.{slice_get, slice_index, option_copied, IfSome}
use Rattle.std.specs.Borrow.{Bor}
use Rattle.std.specs.List.{sum_by, list_any}
use Rattle.std.proofs.lemmas.Bool.{lt-ltb}
use Rattle.std.proofs.lemmas.List.Sums.{sum_by-cons}
use Rattle.std.proofs.lemmas.Option.{get_or_from_slice_get}
use Rattle.mpw_geom.specs.declared.plane.Layer.{Layer}
use Rattle.mpw_structures.specs.declared.structures.Structure.{Structure}
use Rattle.mpw_hier.specs.declared.node.Node.{Node}
use Rattle.mpw_hier.specs.declared.submission.Submission.{Submission}
use Rattle.mpw_hier.specs.Items.{Item}
use Rattle.mpw_hier.specs.Nodes.{AreNodes}
use Rattle.mpw_hier.specs.Values.{flat}
use Rattle.mpw_walk.specs.declared.root.Root.{Root}
use Rattle.mpw_walk.specs.Turns.{flat_root, flat_roots}
use Rattle.mpw_seen.specs.Internal.Counts.{told}
use Rattle.mpw_seen.proofs.Children.{told_both}
use Rattle.mpw_seen.proofs.Sums.{told_again}
use Rattle.mpw_seen.specs.Internal.Shown.{NamesAreShown}
use Rattle.mpw_firm_layers.specs.Layers.{is_on, layer_items, shows}
use Rattle.mpw_firm_layers.specs.Internal.Values.{AreValues}
use Rattle.mpw_firm_layers.specs.Internal.Counts.{node_number, root_number, told_on, AreCounts}
use Rattle.mpw_firm_layers.proofs.Placed.{none_on, first_on, append_on, placed_on}
use Rattle.mpw_firm_layers.proofs.Values.{top_value, any_value}
use Rattle.mpw_firm_layers.proofs.Children.{numbers_tell}

-- the number of the last node is that of the submission
pub count_told : (layer : Layer) (law : NamesAreShown) (ss : List Submission) (n : ℕ)
    (o : Option (Bor (List Node)))
    (nodes : Bor (List Node)) → o ≡ Some nodes
    → IfSome o (λ (ns : Bor (List Node)). AreNodes ss n ns.now)
    → (p : Option (Bor Submission)) (from : Bor Submission) → p ≡ Some from
    → option_copied p ≡ slice_get ss n → (library : List Structure) → library ≡ from.now.library
    → (outer : List ℕ) → AreCounts ss layer n outer → (numbers : List ℕ)
    → AreValues (node_number layer outer) library nodes.now (length nodes.now) numbers
    → slice_index numbers (length nodes.now - 1) ≡ told_on layer (flat ss n)
count_told layer law ss n o nodes is shown p from from_is copied library library_is outer first
    numbers made =
    get_or_from_slice_get numbers (length nodes.now - 1) _ 0 (top_value 0 (told_on layer) outer
    (node_number layer outer) (numbers_tell layer outer) law ss n first o nodes is shown p from
    from_is copied library library_is numbers made)

-- the numbers of roots are those of their content
pub roots_told : (law : NamesAreShown) (ss : List Submission) (layer : Layer) (numbers : List ℕ)
    → AreCounts ss layer (length ss) numbers → (roots : List Root)
    → told (sum_by (root_number numbers) roots) ≡ told_on layer (flat_roots ss roots)
unfolding flat_roots
roots_told law ss layer numbers w [] = ap told (sym (none_on layer))
roots_told law ss layer numbers w (root ∷ roots) =
    ap told (sum_by-cons (root_number numbers) root roots)
    ∙ told_both (root_number numbers root) (sum_by (root_number numbers) roots)
    (layer_items layer (flat_root ss root)) (layer_items layer (flat_roots ss roots))
    (ap told (any_value 0 (told_on layer) (ap told (none_on layer)) law ss numbers w
    root.submission) ∙ told_again _
    ∙ ap told (sym (placed_on layer root.placing (flat ss root.submission))))
    (roots_told law ss layer numbers w roots)
    ∙ ap told (sym (append_on layer (flat_root ss root) (flat_roots ss roots)))

-- ---- whether there is one

any_if : (layer : Layer) (items : List Item)
    → nat_lt 0 (layer_items layer items) ≡ list_any (λ (i : Item). is_on layer i.element) items
any_if layer [] = ap (nat_lt 0) (none_on layer)
any_if layer (x ∷ xs) = ap (nat_lt 0) (first_on layer x xs)
    ∙ go (is_on layer x.element) (any_if layer xs)
  where
    go : (b : Bool)
        → nat_lt 0 (layer_items layer xs) ≡ list_any (λ (i : Item). is_on layer i.element) xs
        → nat_lt 0 (cond b 1 0 + layer_items layer xs)
        ≡ (b || list_any (λ (i : Item). is_on layer i.element) xs)
    go true more = lt-ltb 0 (1 + layer_items layer xs) (omega arith)
    go false more = let e : 0 + layer_items layer xs ≡ layer_items layer xs = omega arith in
        ap (nat_lt 0) e ∙ more

pub shows_some : (ss : List Submission) (roots : List Root) (layer : Layer) (count : ℕ)
    → count ≡ told_on layer (flat_roots ss roots) → nat_lt 0 count ≡ shows ss roots layer
unfolding shows
shows_some ss roots layer count is =
    ap (nat_lt 0) is ∙ least (layer_items layer (flat_roots ss roots))
    ∙ any_if layer (flat_roots ss roots)
  where
    least : (n : ℕ) → nat_lt 0 (told n) ≡ nat_lt 0 n
    least zero = refl
    least (suc n) = lt-ltb 0 (told (suc n)) (omega arith) ∙ sym (lt-ltb 0 (suc n) (omega arith))
