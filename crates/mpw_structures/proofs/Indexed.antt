-- One more structure with a new name.
use Rattle.std.proofs.Common.{◌≡◌, ℕ, ◌+◌, Bool, true, false, cond, List, [], ◌∷◌, ◌++◌, length, Option, Some, None, refl, sym, ap, ◌∙◌, arith}
use Rattle.std.specs.Prelude.{nat_eq}
use Rattle.std.specs.Option.{option_or}
use Rattle.std.specs.BTreeMap as tree
use Rattle.std.specs.BTreeMap.{BTreeMap}
use Rattle.std.specs.Cmp.Lexicographic.{slice_cmp, pointwise, texts_ties}
use Rattle.std.specs.Ordering.{nat_cmp, is_eq}
use Rattle.std.proofs.lemmas.Slice.Eq.{bytes_eq-Decides}
use Rattle.mpw_structures.specs.declared.structures.Structure.{Structure}
use Rattle.mpw_structures.specs.Places.{place_from, place_of, AreIndexed}

step : (b : Bool) (x : ℕ) (X Y Z : Option ℕ) → X ≡ option_or Y Z
    → cond b (Some x) X ≡ option_or (cond b (Some x) Y) Z
step true x X Y Z e = refl
step false x X Y Z e = e

-- the index of a structure among these and one more
place_push : (i : ℕ) (ss : List Structure) (s : Structure) (q : List ℕ)
    → place_from i (ss ++ s ∷ []) q ≡ option_or (place_from i ss q)
    (cond (pointwise nat_eq s.name q) (Some (i + length ss)) None)
place_push i [] s q =
    let e : i ≡ i + 0 = omega arith in ap (λ n. cond (pointwise nat_eq s.name q) (Some n) None) e
place_push i (t ∷ ss) s q =
    let e : (i + 1) + length ss ≡ i + length (t ∷ ss) = omega arith in
    step (pointwise nat_eq t.name q) i _ (place_from (i + 1) ss q) _
    (place_push (i + 1) ss s q ∙ ap (λ n. option_or (place_from (i + 1) ss q)
    (cond (pointwise nat_eq s.name q) (Some n) None)) e)

or_none : (o : Option ℕ) → option_or o None ≡ o
or_none None = refl
or_none (Some x) = refl

at_q : (b : Bool) (n : ℕ) (o : Option ℕ) → (b ≡ true → o ≡ None)
    → cond b (Some n) o ≡ option_or o (cond b (Some (0 + n)) None)
at_q true n o h = let e : n ≡ 0 + n = omega arith in rw (h refl) (ap Some e)
at_q false n o h = sym (or_none o)

pub indexed_push : (m n : BTreeMap (List ℕ) ℕ) (ss : List Structure) (s : Structure) (place : ℕ)
    → place ≡ length ss → AreIndexed m ss → place_of ss s.name ≡ None
    → ((q : List ℕ) → tree.get (slice_cmp nat_cmp) n q ≡ cond (is_eq (slice_cmp nat_cmp s.name q))
    (Some place) (tree.get (slice_cmp nat_cmp) m q))
    → AreIndexed n (ss ++ s ∷ [])
indexed_push m n ss s place last indexed new updates = record {
  at = λ q.
      let b = pointwise nat_eq s.name q in
      let absent : b ≡ true → place_of ss q ≡ None =
      λ e. ap (place_of ss) (sym ((bytes_eq-Decides s.name q).0 e)) ∙ new in
      updates q ∙ rw (← texts_ties s.name q, indexed.at q, last)
      (at_q b (length ss) (place_of ss q) absent) ∙ sym (place_push 0 ss s q);
}
