-- The size of elements, one by one.
use Rattle.std.proofs.Common.{◌≡◌, ℕ, ◌+◌, ◌<◌, ◌≤◌, List, [], ◌∷◌, length, get_or, drop, None, All, refl, ap, sym, subst, ◌∙◌, arith}
use Rattle.std.specs.List.{AllZip}
use Rattle.std.proofs.lemmas.List.{at_drop_more, at_drop_all}
use Rattle.std.proofs.lemmas.List.Elements.{All-drop}
use Rattle.mpw_structures.specs.declared.element.Element.{Element}
use Rattle.mpw_structures.specs.declared.element.Element.TheVariants as elements
use Rattle.mpw_hier.specs.declared.size.Size.{Size}
use Rattle.mpw_hier.specs.Structures.{references}
use Rattle.mpw_hier.specs.Sizes.{Total, IsExtentNear, IsToldBy}
use Rattle.mpw_hier.specs.Internal.SizeParts.{nothing, together, part_total, behind}
use Rattle.mpw_hier.proofs.Hulls.{hull_assoc, hull_none}

-- no shapes and no levels
abbrev pub blank : Total
blank = record { count = 0; levels = 0; extent = None }

-- the total of all elements together
unfoldable pub all_total : List Element → List Total → Total
all_total [] ts = blank
all_total (e ∷ es) ts = together (part_total e ts) (all_total es (behind e ts))

-- the total of the elements so far, and those to come
pub record IsSumTo (es : List Element) (ts : List Total) (i : ℕ) (left : List Size) (size : Size) :
    Type 0 where
  pub total : Total
  pub rest : List Total
  pub told : IsToldBy total size
  pub matched : AllZip IsToldBy rest left
  pub whole : together total (all_total (drop i es) rest) ≡ together nothing (all_total es ts)

pub record IsSizedTo (es : List Element) (below : List Size) (i : ℕ) (left : List Size)
    (size : Size) : Type 0 where
  pub targets : length left ≡ length (references (drop i es))
  pub near : All (λ (s : Size). IsExtentNear s.extent) left
  pub sum : (ts : List Total) → AllZip IsToldBy ts below → IsSumTo es ts i left size

pub same_total : (a b : Total) → a.count ≡ b.count → a.levels ≡ b.levels → a.extent ≡ b.extent
    → a ≡ b
same_total a b p q r =
    let k : ◌≡◌ {A = Total} (record { count = a.count; levels = a.levels; extent = a.extent })
    (record { count = b.count; levels = b.levels; extent = b.extent }) = cc in k

together_assoc : (a b c : Total) → together (together a b) c ≡ together a (together b c)
together_assoc a b c =
    same_total _ _ (omega arith) (omega arith) (hull_assoc a.extent b.extent c.extent)

together_blank : (a : Total) → together a blank ≡ a
together_blank a = same_total _ _ (omega arith) (omega arith) (hull_none a.extent)

pub sized_none : (es : List Element) (below : List Size) (size : Size)
    → length below ≡ length (references es) → All (λ (s : Size). IsExtentNear s.extent) below
    → IsToldBy nothing size → IsSizedTo es below 0 below size
sized_none es below size n near told = record {
  targets = n;
  near = near;
  sum = λ ts m. record { total = nothing; rest = ts; told = told; matched = m; whole = refl };
}

-- the size of an element's target is there
refers_one : (e : Element) (es : List Element)
    → length (references (e ∷ es)) ≡ length (references (e ∷ [])) + length (references es)
refers_one (elements.Boundary b) es = omega arith
refers_one (elements.Path p) es = omega arith
refers_one (elements.Reference r) es = omega arith

pub has_target : (es : List Element) (below : List Size) (i : ℕ) (left : List Size) (size : Size)
    (e : Element) → i < length es → e ≡ get_or es i e → IsSizedTo es below i left size
    → length (references (e ∷ [])) ≤ length left
has_target es below i left size e h is s =
    let n = at_drop_more (λ l. length (references l)) es i e h
    ∙ ap (λ d. length (references (d ∷ drop (i + 1) es))) (sym is)
    ∙ refers_one e (drop (i + 1) es) in
    omega (arith, n, s.targets)

behind_length : {A : Type 0} (e : Element) (xs : List A) → length (references (e ∷ [])) ≤ length xs
    → length (behind e xs) + length (references (e ∷ [])) ≡ length xs
behind_length (elements.Boundary b) xs h = omega arith
behind_length (elements.Path p) xs h = omega arith
behind_length (elements.Reference r) [] h = absurd (omega (arith, h))
behind_length (elements.Reference r) (x ∷ xs) h = omega arith

behind_all : (P : Size → Type 0) (e : Element) (xs : List Size) → All P xs → All P (behind e xs)
behind_all P (elements.Boundary b) xs h = h
behind_all P (elements.Path p) xs h = h
behind_all P (elements.Reference r) xs h = All-drop P 1 xs h

behind_zip : (e : Element) (ts : List Total) (xs : List Size) → AllZip IsToldBy ts xs
    → AllZip IsToldBy (behind e ts) (behind e xs)
behind_zip (elements.Boundary b) ts xs h = h
behind_zip (elements.Path p) ts xs h = h
behind_zip (elements.Reference r) [] [] h = tt
behind_zip (elements.Reference r) [] (x ∷ xs) h = absurd h
behind_zip (elements.Reference r) (t ∷ ts) [] h = absurd h
behind_zip (elements.Reference r) (t ∷ ts) (x ∷ xs) h = h.1

-- one element more
pub total_on : (es : List Element) (i : ℕ) (e : Element) (ts : List Total) → i < length es
    → e ≡ get_or es i e → all_total (drop i es) ts ≡ together (part_total e ts)
    (all_total (drop (i + 1) es) (behind e ts))
unfolding all_total
total_on es i e ts h is =
    at_drop_more (λ l. all_total l ts) es i e h
    ∙ ap (λ d. together (part_total d ts) (all_total (drop (i + 1) es) (behind d ts))) (sym is)

pub sized_more : (es : List Element) (below : List Size) (i : ℕ) (left more : List Size)
    (size part sum : Size) (e : Element) → i < length es → e ≡ get_or es i e
    → IsSizedTo es below i left size → ((ts : List Total) → AllZip IsToldBy ts left
    → IsToldBy (part_total e ts) part)
    → ((a b : Total) → IsToldBy a size → IsToldBy b part → IsToldBy (together a b) sum)
    → more ≡ behind e left → IsSizedTo es below (i + 1) more sum
sized_more es below i left more size part sum e h is s told plus behind_is =
    let one = has_target es below i left size e h is s in
    let n = at_drop_more (λ l. length (references l)) es i e h
    ∙ ap (λ d. length (references (d ∷ drop (i + 1) es))) (sym is)
    ∙ refers_one e (drop (i + 1) es) in
    let k = behind_length e left one in
    record {
      targets = rw behind_is (omega (arith, n, k, s.targets));
      near = rw behind_is (behind_all (λ (x : Size). IsExtentNear x.extent) e left s.near);
      sum = λ ts m.
          let so_far = s.sum ts m in
          record {
            total = together so_far.total (part_total e so_far.rest);
            rest = behind e so_far.rest;
            told = plus so_far.total (part_total e so_far.rest) so_far.told
                (told so_far.rest so_far.matched);
            matched = rw behind_is (behind_zip e so_far.rest left so_far.matched);
            whole = together_assoc so_far.total (part_total e so_far.rest) _
                ∙ ap (together so_far.total) (sym (total_on es i e so_far.rest h is))
                ∙ so_far.whole;
          };
    }

pub sized_all : (es : List Element) (below : List Size) (i : ℕ) (left : List Size) (size : Size)
    → length es ≤ i → IsSizedTo es below i left size → (ts : List Total) → AllZip IsToldBy ts below
    → IsToldBy (together nothing (all_total es ts)) size
unfolding all_total
sized_all es below i left size h s ts m =
    let so_far = s.sum ts m in
    let end : together so_far.total blank ≡ together nothing (all_total es ts) =
    sym (at_drop_all (λ l. together so_far.total (all_total l so_far.rest)) es i h)
    ∙ so_far.whole in
    subst (λ t. IsToldBy t size) (sym (together_blank so_far.total) ∙ end) so_far.told
