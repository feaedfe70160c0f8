-- Checks that have no difference.
use Rattle.std.proofs.Common.{◌≡◌, ◌∙◌, ◌==◌, ◌&&◌, Bool, true, false, not, cond, Option, Some, None, refl, sym, ap, rules}
use Rattle.std.specs.Ordering.{int_eq}
use Rattle.std.proofs.lemmas.Bool.Decides.{nat_tests, Decides-int_eq}
use Rattle.mpw_geom.specs.Names.{name_eq}
use Rattle.mpw_geom.specs.declared.plane.Box2.{Box2}
use Rattle.mpw_geom.proofs.Boxes.{same_box}
use Rattle.mpw_geom.proofs.Linked.{same_name}
use Rattle.mpw_firm_parts.specs.declared.fault.Difference.TheVariants as other
use Rattle.mpw_firm_parts.specs.Parts.{Checked}
use Rattle.mpw_firm_parts.specs.Stitching.{difference_of, extent_eq}

and_true : (a b : Bool) → (a && b) ≡ true → (a ≡ true) × (b ≡ true)
and_true true b e = (refl, e)
and_true false b e = absurd cc

record AreTrue (l d t p : Bool) : Type 0 where
  library : l ≡ true
  deck : d ≡ true
  top : t ≡ true
  plan : p ≡ true

no_difference : (l d t p : Bool) → cond (not l) (Some other.Library)
    (cond (not d) (Some other.Deck) (cond (not t) (Some other.Top)
    (cond (not p) (Some other.Plan) None))) ≡ None → AreTrue l d t p
no_difference true true true true e =
    record { library = refl; deck = refl; top = refl; plan = refl }
no_difference false d t p e = absurd cc
no_difference true false t p e = absurd cc
no_difference true true false p e = absurd cc
no_difference true true true false e = absurd cc

same_extent : (a b : Option Box2) → extent_eq a b ≡ true → a ≡ b
same_extent None None e = refl
same_extent None (Some b) e = absurd cc
same_extent (Some a) None e = absurd cc
same_extent (Some a) (Some b) e =
    let p =
    and_true (int_eq a.x0 b.x0 && int_eq a.y0 b.y0) (int_eq a.x1 b.x1 && int_eq a.y1 b.y1) e in
    let q = and_true (int_eq a.x0 b.x0) (int_eq a.y0 b.y0) p.0 in
    let r = and_true (int_eq a.x1 b.x1) (int_eq a.y1 b.y1) p.1 in
    ap (λ (x : Box2). Some x) (same_box a b ((Decides-int_eq a.x0 b.x0).0 q.0)
    ((Decides-int_eq a.y0 b.y0).0 q.1) ((Decides-int_eq a.x1 b.x1).0 r.0)
    ((Decides-int_eq a.y1 b.y1).0 r.1))

pub same_checked : (a b : Checked) → difference_of a b ≡ None → b ≡ a
unfolding difference_of
same_checked a b e =
    let all = no_difference (name_eq a.library b.library) (name_eq a.deck b.deck)
    (name_eq a.top b.top) (extent_eq a.extent b.extent && (a.columns == b.columns)) e in
    let plan = and_true (extent_eq a.extent b.extent) (a.columns == b.columns) all.plan in
    let counted = plan.1 in
    let columns : a.columns ≡ b.columns = search (rules, nat_tests, counted) in
    ap (λ x. record {
      library = x;
      deck = b.deck;
      top = b.top;
      extent = b.extent;
      columns = b.columns;
    })
    (sym (same_name a.library b.library all.library))
    ∙ ap (λ x. record {
      library = a.library;
      deck = x;
      top = b.top;
      extent = b.extent;
      columns = b.columns;
    })
    (sym (same_name a.deck b.deck all.deck))
    ∙ ap (λ x. record {
      library = a.library;
      deck = a.deck;
      top = x;
      extent = b.extent;
      columns = b.columns;
    })
    (sym (same_name a.top b.top all.top))
    ∙ ap (λ x. record {
      library = a.library;
      deck = a.deck;
      top = a.top;
      extent = x;
      columns = b.columns;
    })
    (sym (same_extent a.extent b.extent plan.0))
    ∙ ap (λ x. record {
      library = a.library;
      deck = a.deck;
      top = a.top;
      extent = a.extent;
      columns = x;
    })
    (sym columns)
