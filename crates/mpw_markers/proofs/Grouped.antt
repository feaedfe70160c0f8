-- The run of the first markers, as marker after marker is read.
use Rattle.std.proofs.Common.{◌≡◌, ℕ, ◌+◌, ◌<◌, ◌≤◌, ◌≤ℤ◌, ◌<ℤ◌, List, [], ◌∷◌, ◌++◌, length, get_or, take, drop, inl, inr, refl, sym, subst, ap, ◌∙◌, arith}
use Rattle.std.specs.Prelude.{Contains, All}
use Rattle.std.proofs.lemmas.Int.{ints, clamps, by_lt_z}
use Rattle.std.proofs.lemmas.List.{take_more, take_all, drop_more, length-drop}
use Rattle.std.proofs.lemmas.List.Elements.{Contains-push, Contains-append_left, Contains-push_cases}
use Rattle.mpw_markers.specs.declared.marker.Marker.{Marker}
use Rattle.mpw_markers.specs.declared.marker.Key.{Key}
use Rattle.mpw_markers.specs.Markers.{line_of, line_of_key, IsFilled, LiesIn}
use Rattle.mpw_markers.specs.Order.{StandsBefore}
use Rattle.mpw_markers.specs.Internal.Order.{BeginsFirst, AreInOrder}
use Rattle.mpw_markers.specs.Internal.Runs.{bare, lengthened, IsRunOf, IsFirstRun}
use Rattle.mpw_markers.proofs.Order.{line_before, behind, StandsBefore-begins}
use Rattle.mpw_markers.proofs.Unique.{Contains-tail}

-- the run of the markers before an index, which begins no later than those from there on
pub record Reaches (markers : List Marker) (count : ℕ) (key : Key) : Type 0 where
  pub run : IsRunOf (take count markers) key
  pub begins : (m : Marker) → Contains (drop count markers) m → BeginsFirst (bare key) m

from_begins : (m n : Marker) → BeginsFirst m n → line_of m ≡ line_of n
    → m.key.piece.y0 ≤ℤ n.key.piece.y0
from_begins m n (inl p) e = absurd (line_before (line_of m) (line_of n) p e)
from_begins m n (inr p) e = p.1

later : (markers : List Marker) (count : ℕ) (d m : Marker) → count < length markers
    → Contains (drop (count + 1) markers) m → Contains (drop count markers) m
later markers count d m l c = subst (λ (ys : List Marker). Contains ys m)
    (sym (drop_more markers count d l))
    (Contains-tail (get_or markers count d) (drop (count + 1) markers) m c)

here : (markers : List Marker) (count : ℕ) (d : Marker) → count < length markers
    → Contains (drop count markers) (get_or markers count d)
here markers count d l = subst (λ (ys : List Marker). Contains ys (get_or markers count d))
    (sym (drop_more markers count d l))
    (Contains-append_left (get_or markers count d ∷ []) (drop (count + 1) markers)
    (get_or markers count d) (Contains-push [] (get_or markers count d)))

pub Reaches-start : (markers : List Marker) (d : Marker) → 1 ≤ length markers
    → IsFilled (get_or markers 0 d) → AreInOrder markers
    → Reaches markers 1 (get_or markers 0 d).key
Reaches-start markers d l f o = record {
  run = record {
    filled = f;
    rows = λ j g k. (first, only, (refl, g, k));
    within = λ m c. elim (Contains-push_cases [] first m
        (subst (λ (ys : List Marker). Contains ys m) one c)) [
          | inl none ↦ absurd (omega (arith, none.1))
          | inr e ↦ subst (λ (x : Marker). LiesIn x first) e
              (refl, omega (arith, ints), omega (arith, ints))
        ];
  };
  begins = λ m c. behind markers 0 d m o (later markers 0 d m (omega arith) c);
}
  where
    first : Marker
    first = get_or markers 0 d

    one : take 1 markers ≡ [] ++ get_or markers 0 d ∷ []
    one = take_more markers 0 d (omega arith)

    only : Contains (take 1 markers) first
    only = subst (λ (ys : List Marker). Contains ys (get_or markers 0 d)) (sym one)
        (Contains-push [] (get_or markers 0 d))

-- a marker that continues the run is added to it
pub Reaches-more : (markers : List Marker) (count : ℕ) (key : Key) (d : Marker)
    → Reaches markers count key → count < length markers → IsFilled (get_or markers count d)
    → line_of_key key ≡ line_of (get_or markers count d)
    → (get_or markers count d).key.piece.y0 ≤ℤ key.piece.y1
    → Reaches markers (count + 1) (lengthened key (get_or markers count d))
Reaches-more markers count key d h l f e g = record {
  run = record {
    filled = let k = h.run.filled in omega (arith, ints, clamps, k);
    rows = λ j low high. by_lt_z j key.piece.y1
        (λ in'. let c = h.run.rows j low in' in (c.0, old c.0 c.1, c.2))
        (λ out. (
          next,
          new,
          (
            sym e,
            omega (arith, ints, g, out),
            omega (arith, ints, clamps, high, out),
          ),
        ));
    within = λ m c. elim (Contains-push_cases (take count markers) next m
        (subst (λ (ys : List Marker). Contains ys m) more c)) [
          | inl c ↦ let w = h.run.within m c in (w.0, w.1, omega (arith, ints, clamps, w.2))
          | inr i ↦ subst (λ (x : Marker). LiesIn x (bare (lengthened key next))) i
              (sym e, starts, omega (arith, ints, clamps))
        ];
  };
  begins = λ m c. h.begins m (later markers count d m l c);
}
  where
    next : Marker
    next = get_or markers count d

    more : take (count + 1) markers ≡ take count markers ++ get_or markers count d ∷ []
    more = take_more markers count d l

    old : (m : Marker) → Contains (take count markers) m → Contains (take (count + 1) markers) m
    old m c = subst (λ (ys : List Marker). Contains ys m) (sym more)
        (Contains-append_left (take count markers) (get_or markers count d ∷ []) m c)

    new : Contains (take (count + 1) markers) (get_or markers count d)
    new = subst (λ (ys : List Marker). Contains ys (get_or markers count d)) (sym more)
        (Contains-push (take count markers) (get_or markers count d))

    starts : key.piece.y0 ≤ℤ (get_or markers count d).key.piece.y0
    starts = from_begins (bare key) (get_or markers count d)
        (h.begins (get_or markers count d) (here markers count d l)) e

-- the first marker that doesn't continue it, and those after it, come after the run
pub IsFirstRun-stop : (markers : List Marker) (count : ℕ) (key : Key) (d : Marker)
    → Reaches markers count key → 1 ≤ count → count < length markers → AreInOrder markers
    → ((line_of_key key ≡ line_of (get_or markers count d))
    → key.piece.y1 <ℤ (get_or markers count d).key.piece.y0)
    → IsFirstRun markers count key
IsFirstRun-stop markers count key d h s l o u = record {
  some = s;
  within = omega arith;
  run = h.run;
  others = λ m c. StandsBefore-begins (bare key) (get_or markers count d) m
      (stands (h.begins (get_or markers count d) (here markers count d l)))
      (behind markers count d m o c);
}
  where
    stands : BeginsFirst (bare key) (get_or markers count d)
        → StandsBefore (bare key) (get_or markers count d)
    stands (inl p) = inl p
    stands (inr p) = inr (p.0, u p.0)

-- the same if the code's element is equal to the list's
pub started : (markers : List Marker) (first : Marker) → first ≡ get_or markers 0 first
    → 1 ≤ length markers → All IsFilled markers → AreInOrder markers → Reaches markers 1 first.key
started markers first is l f o = subst (λ (m : Marker). Reaches markers 1 m.key) (sym is)
    (Reaches-start markers first l (f 0 first (omega arith)) o)

pub taken_in : (markers : List Marker) (count : ℕ) (key new : Key) (m : Marker)
    → Reaches markers count key → count < length markers → m ≡ get_or markers count m
    → All IsFilled markers → line_of_key key ≡ line_of m → m.key.piece.y0 ≤ℤ key.piece.y1
    → new ≡ lengthened key m
    → Reaches markers (count + 1) new
taken_in markers count key new m h l is f e g n =
    subst (Reaches markers (count + 1)) (sym (n ∙ ap (lengthened key) is))
    (Reaches-more markers count key m h l (f count m l) (e ∙ ap line_of is)
    (subst (λ (x : Marker). x.key.piece.y0 ≤ℤ key.piece.y1) is g))

pub stopped : (markers : List Marker) (count : ℕ) (key : Key) (m : Marker)
    → Reaches markers count key → 1 ≤ count → count < length markers → m ≡ get_or markers count m
    → AreInOrder markers → ((line_of_key key ≡ line_of m) → key.piece.y1 <ℤ m.key.piece.y0)
    → IsFirstRun markers count key
stopped markers count key m h s l is o u =
    IsFirstRun-stop markers count key m h s l o
    (λ e. subst (λ (x : Marker). key.piece.y1 <ℤ x.key.piece.y0) is (u (e ∙ sym (ap line_of is))))

-- if no marker comes after the run, it is formed by all
pub all_reached : (markers : List Marker) (count : ℕ) (key : Key) → Reaches markers count key
    → 1 ≤ length markers → length markers ≤ count → IsFirstRun markers (length markers) key
all_reached markers count key h s l = record {
  some = s;
  within = omega arith;
  run = subst (λ ys. IsRunOf ys key)
      (take_all count markers l ∙ sym (take_all (length markers) markers (omega arith))) h.run;
  others = λ m c. absurd (omega (arith, c.1, length-drop (length markers) markers));
}
