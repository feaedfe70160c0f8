-- What names refer to in a submission whose nodes are being made.
use Rattle.std.proofs.Common.{◌≡◌, ℕ, ◌<◌, inl, inr, List, [], length, get_or, Option, Some, None, refl, sym, ap, subst, ◌∙◌, arith}
use Rattle.std.specs.Prelude.{slice_get, IfNone}
use Rattle.std.specs.Option.{IsSome}
use Rattle.std.specs.BTreeMap.{BTreeMap}
use Rattle.std.proofs.lemmas.Option.{slice_get_within, slice_get_cases}
use Rattle.std.proofs.lemmas.List.{get_or_default}
use Rattle.mpw_structures.specs.Places.{place_of}
use Rattle.mpw_hier.specs.declared.node.Node.{Node}
use Rattle.mpw_hier.specs.declared.size.Size.{Size}
use Rattle.mpw_hier.specs.declared.submission.Submission.{Submission}
use Rattle.mpw_hier.specs.Structures.{structure_at}
use Rattle.mpw_hier.specs.Items.{shown_items}
use Rattle.mpw_hier.specs.Sizes.{IsSizeOf}
use Rattle.mpw_hier.specs.Nodes.{IsOwn, structure_levels}
use Rattle.mpw_hier.specs.Internal.Building.{number_at, IsSizeHere, AreLinked, IsKnown, own, outer}
use Rattle.mpw_hier.specs.Values.{bound_number, at_number, structure_items, flats, flat, heights, height, shown_height}
use Rattle.mpw_hier.proofs.Unfolding.{unfolds_outside, items_by_targets, heights_by_targets}
use Rattle.mpw_hier.proofs.Linking.{place_within}
use Rattle.mpw_hier.proofs.Tops.{same_place}

-- the entry at an index of the numbers
pub number_known : (numbers : List (Option ℕ)) (place k : ℕ) (o : Option ℕ) → place < length numbers
    → o ≡ get_or numbers place o → o ≡ Some k → number_at numbers place ≡ Some k
number_known numbers place k o within is at =
    get_or_default numbers place None o within ∙ sym is ∙ at

-- a submission with a number on the shelf has a size
pub some_size : (ss : List Submission) (n : ℕ) (o : Option Size) → n < length ss
    → IfNone o (slice_get ss n ≡ None) → IsSome o
some_size ss n (Some v) lt none = refl
some_size ss n None lt none = absurd (elim (slice_get_cases ss n).1 [
  | inl h ↦ let q = sym h.2 ∙ none in cc
  | inr h ↦ omega (arith, lt, h.0)
])

module _ (ss : List Submission) (s : Submission) (table : BTreeMap (List ℕ) ℕ)
    (numbers : List (Option ℕ)) (nodes : List Node) (w : AreLinked ss s table numbers nodes)
    (name : List ℕ) where
  pub place_known : (place k : ℕ) (o : Option ℕ) → Some place ≡ place_of s.library name
      → o ≡ get_or numbers place o → o ≡ Some k → number_at numbers place ≡ Some k
  place_known place k o named is at =
      let within = place_within s.library name place (sym named) in
      number_known numbers place k o (omega (arith, within, w.sized)) is at

  pub own_within : (place k : ℕ) → number_at numbers place ≡ Some k → k < length nodes
  own_within place k at = slice_get_within nodes k (w.numbered place k at).0
      (w.numbered place k at).1

  pub own_node : (place k : ℕ) → place_of s.library name ≡ Some place
      → number_at numbers place ≡ Some k → IsOwn s nodes name k
  own_node place k named at =
      let r = w.numbered place k at in
      record { node = r.0; is = r.1; named = named ∙ ap (λ p. Some p) (sym r.2) }

  pub own_size : (place k : ℕ) (node : Node) → place_of s.library name ≡ Some place
      → number_at numbers place ≡ Some k → slice_get nodes k ≡ Some node
      → IsSizeHere ss s name node.size
  own_size place k node named at is =
      let r = w.numbered place k at in
      let both : Some r.0 ≡ Some node = sym r.1 ∙ is in
      let same : r.0 ≡ node = cc in
      let here = w.each k node is in
      let there : node.structure ≡ place = ap (λ (n : Node). n.structure) (sym same) ∙ r.2 in
      subst (λ q. IsSizeHere ss s q node.size)
      (same_place s.library here.structure.name name place (here.named ∙ ap (λ p. Some p) there)
      named) here.size

  pub outer_within : (n : ℕ) → IsKnown ss s numbers name → place_of s.library name ≡ None
      → bound_number s.bound name ≡ Some n → n < length ss
  outer_within n (own h) none bound = absurd (let q = sym h.named ∙ none in cc)
  outer_within n (outer m h) none bound = let both : Some m ≡ Some n = sym h.bound
      ∙ bound in let same : m ≡ n = cc in subst (λ k. k < length ss) same h.earlier

  pub outer_size : (n : ℕ) (size : Size) → place_of s.library name ≡ None
      → bound_number s.bound name ≡ Some n → IsSizeOf (flat ss n) (height ss n) size
      → IsSizeHere ss s name size
  outer_size n size none bound h =
      let missing = ap (structure_at s.library) none in
      let items : structure_items (flats ss) s name ≡ flat ss n =
      unfolds_outside (shown_items (length (flats ss))) [] _ s.library
      (items_by_targets (length (flats ss))) name missing
      ∙ ap (at_number [] (flats ss)) bound in
      let levels : structure_levels (heights ss) s name ≡ height ss n = unfolds_outside shown_height
      0 _ s.library heights_by_targets name missing ∙ ap (at_number 0 (heights ss)) bound in
      rw (items, levels) h
