-- A marker of a part touches what it touches in the layout, which has one submission.
use Rattle.std.proofs.Common.{◌≡◌, ◌∙◌, ℕ, ◌<◌, Bool, List, length, sym, subst, arith}
use Rattle.std.specs.Prelude.{All, Contains, filter, ◌↔◌}
use Rattle.std.proofs.lemmas.List.Elements.{All-contains, All-contains_itself, All-filter}
use Rattle.mpw_geom.specs.Meeting.{IsMet}
use Rattle.mpw_geom.specs.Plane.{Square}
use Rattle.mpw_geom.specs.declared.plane.Box2.{Box2}
use Rattle.mpw_hier.specs.Items.{Item}
use Rattle.mpw_hier.specs.declared.submission.Submission.{Submission}
use Rattle.mpw_walk.specs.declared.root.Root.{Root}
use Rattle.mpw_walk.specs.Turns.{flat_roots}
use Rattle.mpw_tiles.specs.Shown.{HasShown}
use Rattle.mpw_tiles.specs.Snapshots.{Snapshot, shown}
use Rattle.mpw_check_groups.specs.Layers.{is_named, stays}
use Rattle.mpw_check_groups.specs.Parts.{IsPartOf}

-- Each shape comes from a submission on the shelf.
abbrev pub ComeFromTheShelf : Type 0
ComeFromTheShelf = (ss : List Submission) (roots : List Root)
    → All (λ (i : Item). i.origin < length ss) (flat_roots ss roots)

pub of_filter : {X : Type 0} (p : X → Bool) (xs : List X) (x : X) → Contains (filter p xs) x
    → Contains xs x
of_filter p xs x c = All-contains (Contains xs) (filter p xs) x
    (All-filter p (Contains xs) xs (All-contains_itself xs)) c

module _ (come : ComeFromTheShelf) (s part : Snapshot) (places : List ℕ)
    (is_part : IsPartOf s places part) (alone : length s.shelf ≡ 1) where
  in_layout : (i : Item) → Contains (shown part) i → Contains (shown s) i
  in_layout i c =
      of_filter (λ (item : Item). stays (is_named part.deck.rules) item.element) (shown s) i
      (subst (λ (items : List Item). Contains items i) is_part.shown c)

  has_in_layout : (origin : ℕ) (q : Square) → HasShown (shown part) origin q
      → HasShown (shown s) origin q
  has_in_layout origin q h = (h.0, (h.1.0, in_layout h.1.0 h.1.1, h.1.2))

  met_in_layout : (b : Box2) (origin : ℕ) → IsMet (HasShown (shown part)) b origin
      → IsMet (HasShown (shown s)) b origin
  met_in_layout b origin m = (m.0, has_in_layout origin m.0 m.1, m.2)

  first_alone : (b : Box2) (origin : ℕ) → IsMet (HasShown (shown s)) b origin → origin ≡ 0
  first_alone b origin m =
      let item = m.1.1.0 in
      let below = All-contains (λ (i : Item). i.origin < length s.shelf) (shown s) item
      (come s.shelf s.roots) m.1.1.1 in
      let same = m.1.1.2.of_origin in
      omega (arith, below, same, alone)

  -- what it touches in the part, of which it touches something, is what it touches in the layout
  pub met_same : (b : Box2) (met : List ℕ)
      → ((origin : ℕ) → Contains met origin ↔ IsMet (HasShown (shown part)) b origin)
      → (origin : ℕ) × Contains met origin
      → (origin : ℕ) → Contains met origin ↔ IsMet (HasShown (shown s)) b origin
  met_same b met of_part some origin = (
    λ c. met_in_layout b origin ((of_part origin).0 c),
    λ m.
        let there = first_alone b some.0 (met_in_layout b some.0 ((of_part some.0).0 some.1)) in
        subst (λ (o : ℕ). Contains met o) (there ∙ sym (first_alone b origin m)) some.1,
  )
