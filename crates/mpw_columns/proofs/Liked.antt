-- The lists of columns, some of which repeat earlier ones.
use Rattle.std.proofs.Common.{◌≡◌, ◌∙◌, ℕ, ◌+◌, ◌<◌, List, [], ◌∷◌, ◌++◌, length, get_or, take, drop, Option, Some, None, sym, subst, ap, arith, refl, ◌≤◌, length-take-le, get_or-take, true, false, append_assoc, replicate}
use Rattle.std.specs.Prelude.{is_none, is_some, not, Bool}
use Rattle.std.proofs.lemmas.Bool.{false≢true}
use Rattle.std.specs.Prelude.{All}
use Rattle.std.specs.List.{AllZip, AllByRecursion}
use Rattle.std.proofs.lemmas.List.Elements.{All-from_recursion, recursion_from_All}
use Rattle.std.proofs.lemmas.List.{drop_more, take_more, length-replicate, get_or-replicate}
use Rattle.mpw_columns_keys.specs.declared.column.Column.{Column}
use Rattle.mpw_columns.specs.declared.layout.Layout.{Layout}
use Rattle.mpw_columns.specs.Internal.Like.{AreLikes, own_columns}
use Rattle.mpw_columns.proofs.Zipped.{zip_append, zip_at, zip_length}

module _ (columns : List Column) (likes : List (Option ℕ)) (place : ℕ) (c : Column) (o : Option ℕ)
    (within : place < length columns) (long : length likes ≡ length columns) where
  split : own_columns (drop place columns) (drop place likes)
      ≡ own_columns (get_or columns place c ∷ drop (place + 1) columns)
      (get_or likes place o ∷ drop (place + 1) likes)
  split =
      ap (λ (cs : List Column). own_columns cs (drop place likes)) (drop_more columns place c within)
      ∙ ap (own_columns (get_or columns place c ∷ drop (place + 1) columns))
      (drop_more likes place o (omega (arith, within, long)))

  pub of_none : get_or likes place o ≡ None → own_columns (drop place columns) (drop place likes)
      ≡ get_or columns place c ∷ own_columns (drop (place + 1) columns) (drop (place + 1) likes)
  of_none e = split ∙ ap (λ (p : Option ℕ). own_columns (get_or columns place c ∷ drop (place + 1) columns)
      (p ∷ drop (place + 1) likes)) e

  pub of_some : (earlier : ℕ) → get_or likes place o ≡ Some earlier
      → own_columns (drop place columns) (drop place likes)
      ≡ own_columns (drop (place + 1) columns) (drop (place + 1) likes)
  of_some earlier e = split ∙ ap (λ (p : Option ℕ). own_columns (get_or columns place c ∷ drop (place + 1) columns)
      (p ∷ drop (place + 1) likes)) e

-- one more list
pub more : {Y : Type 0} (Is : Column → Y → Type 0) (columns : List Column) (place : ℕ) (c : Column)
    (lists new : List Y) (list : Y) → place < length columns → AllZip Is (take place columns) lists
    → new ≡ lists ++ list ∷ [] → Is (get_or columns place c) list
    → AllZip Is (take (place + 1) columns) new
more Is columns place c lists new list within h e is =
    subst (AllZip Is (take (place + 1) columns)) (sym e)
    (subst (λ (cs : List Column). AllZip Is cs (lists ++ list ∷ [])) (sym (take_more columns place c within))
    (zip_append Is (take place columns) (get_or columns place c ∷ []) lists (list ∷ []) h (is, tt)))

-- the next own list is that of the column at that index
pub next_own : {Y : Type 0} (Is : Column → Y → Type 0) (own : List Column) (c : Column)
    (rest : List Column) (items left : List Y) (list : Y) → AllZip Is own items → own ≡ c ∷ rest
    → items ≡ list ∷ left → Is c list × AllZip Is rest left
next_own Is own c rest items left list h e f =
    subst (AllZip Is (c ∷ rest)) f (subst (λ (cs : List Column). AllZip Is cs items) e h)

-- the list of an earlier column
pub earlier_list : {Y : Type 0} (Is : Column → Y → Type 0) (columns : List Column)
    (place earlier : ℕ) (c : Column) (lists : List Y) (list : Y) → place ≤ length columns
    → earlier < place → AllZip Is (take place columns) lists → list ≡ get_or lists earlier list
    → Is (get_or columns earlier c) list
earlier_list Is columns place earlier c lists list le less h e =
    let short = length-take-le place columns le in
    subst (λ (x : Column). Is x list) (get_or-take place columns earlier c less)
    (subst (Is (get_or (take place columns) earlier c)) (sym e)
    (zip_at Is (take place columns) lists earlier c list h (omega (arith, short, less))))

pub lists_long : {Y : Type 0} (Is : Column → Y → Type 0) (columns : List Column) (place : ℕ)
    (lists : List Y) → place ≤ length columns → AllZip Is (take place columns) lists
    → length lists ≡ place
lists_long Is columns place lists le h =
    sym (zip_length Is (take place columns) lists h) ∙ length-take-le place columns le

-- there is a list for an own column
pub some_left : {Y : Type 0} (Is : Column → Y → Type 0) (own : List Column) (c : Column)
    (rest : List Column) (items : List Y) → AllZip Is own items → own ≡ c ∷ rest → 0 < length items
some_left Is own c rest items h e =
    let long = zip_length Is own items h in
    let one = ap length e in
    omega (arith, long, one)

-- ---- the own columns so far, with those to come

none_from : (o : Option ℕ) → is_none o ≡ true → o ≡ None
none_from None e = refl
none_from (Some earlier) e = absurd (false≢true e)

some_from : (o : Option ℕ) → is_none o ≡ false → (earlier : ℕ) × (o ≡ Some earlier)
some_from None e = absurd (false≢true (sym e))
some_from (Some earlier) e = (earlier, refl)

module _ (columns : List Column) (likes : List (Option ℕ)) (place : ℕ) (c : Column) (o : Option ℕ)
    (within : place < length columns) (long : length likes ≡ length columns) (own whole : List Column)
    (h : own ++ own_columns (drop place columns) (drop place likes) ≡ whole) where
  pub one_more : (new : List Column) → is_none (get_or likes place o) ≡ true
      → new ≡ own ++ get_or columns place c ∷ []
      → new ++ own_columns (drop (place + 1) columns) (drop (place + 1) likes) ≡ whole
  one_more new e f =
      let rest = own_columns (drop (place + 1) columns) (drop (place + 1) likes) in
      ap (λ (cs : List Column). cs ++ rest) f
      ∙ append_assoc own (get_or columns place c ∷ []) rest
      ∙ ap (λ (cs : List Column). own ++ cs)
      (sym (of_none columns likes place c o within long (none_from (get_or likes place o) e))) ∙ h

  pub no_more : is_none (get_or likes place o) ≡ false
      → own ++ own_columns (drop (place + 1) columns) (drop (place + 1) likes) ≡ whole
  no_more e =
      let p = some_from (get_or likes place o) e in
      ap (λ (cs : List Column). own ++ cs) (sym (of_some columns likes place c o within long p.0 p.1)) ∙ h

-- what the test decides
pub none_is : (o : Option ℕ) (r : Bool) → is_some o ≡ not r → r ≡ true → is_none o ≡ true
none_is o r e f = ap not (e ∙ ap not f)

pub some_is : (o : Option ℕ) (r : Bool) → is_some o ≡ not r → r ≡ false → is_none o ≡ false
some_is o r e f = ap not (e ∙ ap not f)

-- what holds for all columns holds for the own ones
own_rec : (P : Column → Type 0) (columns : List Column) (likes : List (Option ℕ))
    → AllByRecursion P columns → AllByRecursion P (own_columns columns likes)
own_rec P [] likes h = h
own_rec P (c ∷ cs) [] h = tt
own_rec P (c ∷ cs) (None ∷ likes) h = (h.0, own_rec P cs likes h.1)
own_rec P (c ∷ cs) (Some earlier ∷ likes) h = own_rec P cs likes h.1

pub own_all : (P : Column → Type 0) (columns : List Column) (likes : List (Option ℕ)) → All P columns
    → All P (own_columns columns likes)
own_all P columns likes h =
    All-from_recursion P (own_columns columns likes) (own_rec P columns likes (recursion_from_All P columns h))

-- if no column is known to repeat another
pub none_alike : (l : Layout) (columns : List Column) (likes : List (Option ℕ)) (n : ℕ)
    → likes ≡ replicate n None → length columns ≡ n → AreLikes l columns likes
none_alike l columns likes n e f = record {
  long = ap length e ∙ length-replicate n None ∙ sym f;
  before = λ place earlier o lt is. absurd (none place earlier o lt is);
  alike = λ place earlier o c lt is. absurd (none place earlier o lt is);
}
  where
    none : (place earlier : ℕ) (o : Option ℕ) → place < length columns
        → get_or likes place o ≡ Some earlier → ⊥
    none place earlier o lt is =
        let all = get_or-replicate n place None o (omega (arith, lt, f)) in
        let clash : None ≡ Some earlier =
        sym all ∙ ap (λ (xs : List (Option ℕ)). get_or xs place o) (sym e) ∙ is in cc
