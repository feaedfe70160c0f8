-- Answers to the goals of `Reference::is_same` in `src/element.rt`.
use Rattle.std.proofs.Common.{◌≡◌, ◌↔◌, Bool, true, false, ◌&&◌, IsTrue, refl, ap}
use Rattle.mpw_structures.specs.declared.element.Reference.{Reference}
use Rattle.mpw_structures.proofs.element.Reference.is_same.Goals as goal

abbrev ArePlacedAlike : Reference → Reference → Type 0
ArePlacedAlike a b = (a.name ≡ b.name) × (a.orient ≡ b.orient) × (a.origin ≡ b.origin)

abbrev HaveSameArray : Reference → Reference → Type 0
HaveSameArray a b = (a.columns ≡ b.columns) × (a.rows ≡ b.rows) × (a.column_step ≡ b.column_step)
    × (a.row_step ≡ b.row_step)

same_parts : (a b : Reference) → ArePlacedAlike a b → HaveSameArray a b → a ≡ b
same_parts a b p q =
    λ i. record {
      name = p.0 i;
      orient = p.1 i;
      origin = p.2 i;
      columns = q.0 i;
      rows = q.1 i;
      column_step = q.2 i;
      row_step = q.3 i;
    }

both : (a b : Reference) (first second : Bool) → IsTrue first ↔ ArePlacedAlike a b
    → IsTrue second ↔ HaveSameArray a b → IsTrue (first && second) ↔ (a ≡ b)
both a b false second p q = (
  λ t. absurd cc,
  λ e. p.1 (
    ap (λ (r : Reference). r.name) e,
    ap (λ (r : Reference). r.orient) e,
    ap (λ (r : Reference). r.origin) e,
  ),
)
both a b true second p q = (
  λ t. same_parts a b (p.0 refl) (q.0 t),
  λ e. q.1 (
    ap (λ (r : Reference). r.columns) e,
    ap (λ (r : Reference). r.rows) e,
    ap (λ (r : Reference). r.column_step) e,
    ap (λ (r : Reference). r.row_step) e,
  ),
)

pub returns : goal.returns
returns c =
    both c.args.self.now c.args.other.now _ _ c.is_placed_alike.ensures c.has_same_array.ensures
