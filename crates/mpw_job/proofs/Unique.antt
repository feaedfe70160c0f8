-- A layout has one list of markers.
use Rattle.std.proofs.Common.{◌≡◌, ℕ, Bool, List, inl, inr, refl, sym, subst, ap, arith}
use Rattle.std.specs.Prelude.{ℤ, Contains, AllPairs}
use Rattle.std.proofs.lemmas.Int.{ints}
use Rattle.std.proofs.lemmas.List.Elements.{All-get_or}
use Rattle.mpw_geom.specs.declared.plane.Box2.{Box2}
use Rattle.mpw_geom.specs.Plane.{Square}
use Rattle.mpw_edges.specs.Pieces.{box_of}
use Rattle.mpw_markers.specs.declared.marker.Key.{Key}
use Rattle.mpw_markers.specs.declared.marker.Line.{Line}
use Rattle.mpw_markers.specs.declared.marker.Marker.{Marker}
use Rattle.mpw_markers.specs.Book.{IsBook}
use Rattle.mpw_markers.specs.Markers.{line_of, line_of_key, IsFilled}
use Rattle.mpw_markers.specs.Order.{StandsBefore}
use Rattle.mpw_geom.specs.Meeting.{IsMet}
use Rattle.mpw_markers.specs.Whole.{AreMarkersOf}
use Rattle.mpw_markers.proofs.Order.{line_total, line_before}
use Rattle.mpw_markers.proofs.Marked.{same_marker}
use Rattle.mpw_markers.proofs.Unique.{same_in_order, same_numbers}
use Rattle.mpw_edges.specs.Computed.{TestDecidesPairSteps}
use Rattle.mpw_tiles.specs.Snapshots.{shown}
use Rattle.mpw_job.specs.Laws.{LayoutDeterminesMarkers}
use Rattle.mpw_job.proofs.Flat.{tested_from}

abbrev Precedes : Marker → Marker → Type 0
Precedes m n = StandsBefore m n × IsFilled m × IsFilled n

precedes : (markers : List Marker) → IsBook markers → AllPairs Precedes markers
precedes markers b i j d lt within = (
  b.ordered i j d lt within,
  All-get_or IsFilled markers i d (omega arith) b.filled,
  All-get_or IsFilled markers j d within b.filled,
)

never_both : (m n : Marker) → Precedes m n → Precedes n m → ⊥
never_both m n p q = at p.0 q.0
  where
    at : StandsBefore m n → StandsBefore n m → ⊥
    at (inl f) (inl g) = line_before (line_of m) (line_of m)
        (line_total.trans (line_of m) (line_of n) (line_of m) f g) refl
    at (inl f) (inr g) = line_before (line_of m) (line_of n) f (sym g.0)
    at (inr f) (inl g) = line_before (line_of n) (line_of m) g (sym f.0)
    at (inr f) (inr g) = omega (arith, ints, f.1, g.1, p.1, p.2)

-- the marker of the other list with the same key is equal
in_both : (steps : Line → ℤ → Bool) (has : ℕ → Square → Type 0) (a b : List Marker) (m : Marker)
    → AreMarkersOf steps has a
    → AreMarkersOf steps has b → Contains a m → Contains b m
in_both steps has a b m f g c =
    let own = f.sound m c in
    let other = g.complete m.key own.run in
    let n : Marker = other.0 in
    let keys : n.key ≡ m.key = other.2 in
    let told = g.sound n other.1 in
    let boxes : box_of n.key.piece ≡ box_of m.key.piece = ap (λ (k : Key). box_of k.piece) keys in
    let met : n.met ≡ m.met = same_numbers n.met m.met told.ascending own.ascending (λ origin. (
      λ k. (own.met origin).1 (subst (λ (x : Box2). IsMet has x origin) boxes
          ((told.met origin).0 k)),
      λ k. (told.met origin).1 (subst (λ (x : Box2). IsMet has x origin) (sym boxes)
          ((own.met origin).0 k)),
    )) in
    subst (Contains b) (same_marker n m (ap line_of_key keys) (ap (λ (k : Key). k.piece.y0) keys)
    (ap (λ (k : Key). k.piece.y1) keys) met) other.1

pub one_list : TestDecidesPairSteps → LayoutDeterminesMarkers
one_list law s first second h k =
    let f = tested_from law s.deck.rules (shown s) first h in
    let g = tested_from law s.deck.rules (shown s) second k in
    same_in_order Precedes never_both first second (precedes first f.0) (precedes second g.0)
    (λ m. (in_both _ _ first second m f.1 g.1, in_both _ _ second first m g.1 f.1))
