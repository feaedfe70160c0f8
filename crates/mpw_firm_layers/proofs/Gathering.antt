-- Layers that are collected, at most 64: adding a list again adds nothing, and a list may be collected first and then added.
use Rattle.std.proofs.Common.{◌≡◌, ℕ, ◌<◌, ◌≤◌, ◌||◌, not, nat_lt, Bool, true, false, cond, List, [], ◌∷◌, ◌++◌, length, map, refl, sym, ap, subst, ◌∙◌, arith}
use Rattle.std.specs.Cmp.{IsEquivalence}
use Rattle.std.specs.List.{flat_map, list_any, IsDistinct}
use Rattle.std.proofs.lemmas.Bool.{and_parts, and_from, eqb-true, eq-eqb, lt-ltb, ltb-true}
use Rattle.std.proofs.lemmas.List.Folds.{list_any-append}
use Rattle.std.proofs.lemmas.List.Sums.{fold-append, fold_push}
use Rattle.std.proofs.lemmas.Map.Keys.{IsDistinct-push}
use Rattle.std.proofs.lemmas.Map.Made.{length-le_from_is_member}
use Rattle.mpw_deck.specs.declared.rule.Rule.{Rule}
use Rattle.mpw_geom.specs.declared.plane.Layer.{Layer}
use Rattle.mpw_geom.specs.declared.placing.Placing.{Placing}
use Rattle.mpw_geom.specs.Layers.{same_layer}
use Rattle.mpw_structures.specs.declared.element.Element.{Element}
use Rattle.mpw_structures.specs.declared.element.Element.TheVariants as elements
use Rattle.mpw_hier.specs.Items.{Item, placed_item}
use Rattle.mpw_firm_layers.specs.Unnamed.{is_named, with_layer, with_shape, with_items}
use Rattle.mpw_firm_layers.specs.Internal.Gathered.{with_layers}

-- ---- layers that are the same

same_fields : (a b : Layer) → a.layer ≡ b.layer → a.datatype ≡ b.datatype → a ≡ b
same_fields a b e f =
    let first : ℕ → Layer = λ n. record { layer = n; datatype = a.datatype } in
    let second : ℕ → Layer = λ n. record { layer = b.layer; datatype = n } in
    ap first e ∙ ap second f

same : (a b : Layer) → same_layer a b ≡ true → a ≡ b
same a b e = let h = and_parts _ _ e in same_fields a b (eqb-true a.layer b.layer h.0)
    (eqb-true a.datatype b.datatype h.1)

itself : (a : Layer) → same_layer a a ≡ true
itself a = and_from _ _ (eq-eqb a.layer a.layer refl) (eq-eqb a.datatype a.datatype refl)

pub alike : IsEquivalence same_layer
alike = record {
  refl = itself;
  symm = λ x y. go x y (same_layer x y) refl (same_layer y x) refl;
  congr = λ x y z e. ap (λ n. same_layer n z) (same x y e);
}
  where
    go : (x y : Layer) (a : Bool) → same_layer x y ≡ a → (b : Bool) → same_layer y x ≡ b
        → same_layer x y ≡ same_layer y x
    go x y true e b h = e ∙ sym (ap (λ n. same_layer n x) (sym (same x y e)) ∙ itself x)
    go x y false e true h = absurd (let q = sym e ∙ ap (λ n. same_layer x n) (same y x h)
        ∙ itself x in cc)
    go x y false e false h = e ∙ sym h

-- ---- one layer

module _ (rules : List Rule) where
  -- nothing is to be added: the layer is named or there, or there is no room
  settled : List Layer → Layer → Bool
  settled ls l =
      (is_named rules l || list_any (same_layer l) ls) || not (nat_lt (length ls) 64)

  with_is : (ls : List Layer) (l : Layer)
      → with_layer rules ls l ≡ cond (settled ls l) ls (ls ++ l ∷ [])
  unfolding settled
  with_is ls l = go (is_named rules l) (list_any (same_layer l) ls) (nat_lt (length ls) 64)
    where
      go : (n t f : Bool) → cond (n || t) ls (cond f (ls ++ l ∷ []) ls)
          ≡ cond ((n || t) || not f) ls (ls ++ l ∷ [])
      go true t f = refl
      go false true f = refl
      go false false true = refl
      go false false false = refl

  unchanged : (ls : List Layer) (l : Layer) → settled ls l ≡ true → with_layer rules ls l ≡ ls
  unchanged ls l h = with_is ls l ∙ ap (λ b. cond b ls (ls ++ l ∷ [])) h

  extended : (ls : List Layer) (l : Layer) → settled ls l ≡ false
      → with_layer rules ls l ≡ ls ++ l ∷ []
  extended ls l h = with_is ls l ∙ ap (λ b. cond b ls (ls ++ l ∷ [])) h

  by_cases : (P : List Layer → Type 0) (ls : List Layer) (l : Layer)
      → (settled ls l ≡ true → P ls) → (settled ls l ≡ false → P (ls ++ l ∷ []))
      → P (with_layer rules ls l)
  by_cases P ls l held grown = go (settled ls l) refl
    where
      go : (b : Bool) → settled ls l ≡ b → P (with_layer rules ls l)
      go true h = subst P (sym (unchanged ls l h)) (held h)
      go false h = subst P (sym (extended ls l h)) (grown h)

  there_settled : (ls : List Layer) (l : Layer) → list_any (same_layer l) ls ≡ true
      → settled ls l ≡ true
  unfolding settled
  there_settled ls l h = go (is_named rules l) (list_any (same_layer l) ls) h
    where
      go : (n t : Bool) → t ≡ true → ((n || t) || not (nat_lt (length ls) 64)) ≡ true
      go true t e = refl
      go false true e = refl
      go false false e = absurd cc

  -- what was added is there
  added : (ls : List Layer) (l : Layer) → settled (with_layer rules ls l) l ≡ true
  added ls l = by_cases (λ ms. settled ms l ≡ true) ls l (λ h. h)
      (λ h. there_settled (ls ++ l ∷ []) l (list_any-append (same_layer l) ls (l ∷ [])
      ∙ go (list_any (same_layer l) ls) (same_layer l l) (itself l)))
    where
      go : (a b : Bool) → b ≡ true → (a || (b || false)) ≡ true
      go true b e = refl
      go false true e = refl
      go false false e = absurd cc

  -- what is settled stays so
  kept : (ls : List Layer) (l k : Layer) → settled ls l ≡ true
      → settled (with_layer rules ls k) l ≡ true
  unfolding settled
  kept ls l k h = by_cases (λ ms. settled ms l ≡ true) ls k (λ e. h)
      (λ e. go (is_named rules l) (list_any (same_layer l) ls) (nat_lt (length ls) 64)
      (list_any (same_layer l) (ls ++ k ∷ []))
      (list_any-append (same_layer l) ls (k ∷ [])) h
      (room (is_named rules k || list_any (same_layer k) ls) (nat_lt (length ls) 64) e))
    where
      room : (a f : Bool) → (a || not f) ≡ false → f ≡ true
      room true f e = absurd cc
      room false true e = refl
      room false false e = absurd cc

      go : (n t f u : Bool) → u ≡ (t || list_any (same_layer l) (k ∷ []))
          → ((n || t) || not f) ≡ true → f ≡ true
          → ((n || u) || not (nat_lt (length (ls ++ k ∷ [])) 64)) ≡ true
      go true t f u e q r = refl
      go false true f u e q r = rw e refl
      go false false true u e q r = absurd cc
      go false false false u e q r = absurd cc

  -- ---- lists of layers

  kept_all : (ls ms : List Layer) (l : Layer) → settled ls l ≡ true
      → settled (with_layers rules ls ms) l ≡ true
  kept_all ls [] l h = h
  kept_all ls (m ∷ ms) l h = kept_all (with_layer rules ls m) ms l (kept ls l m h)

  -- each layer that was added is settled
  member : (ls ms : List Layer) (l : Layer) → list_any (same_layer l) ms ≡ true
      → settled (with_layers rules ls ms) l ≡ true
  member ls [] l h = absurd cc
  member ls (m ∷ ms) l h = go (same_layer l m) refl h (member (with_layer rules ls m) ms l)
    where
      go : (b : Bool) → same_layer l m ≡ b → (b || list_any (same_layer l) ms) ≡ true
          → (list_any (same_layer l) ms ≡ true
          → settled (with_layers rules (with_layer rules ls m) ms) l ≡ true)
          → settled (with_layers rules (with_layer rules ls m) ms) l ≡ true
      go true e q later = kept_all (with_layer rules ls m) ms l
          (subst (λ n. settled (with_layer rules ls m) n ≡ true) (sym (same l m e)) (added ls m))
      go false e q later = later q

  idle : (ls ms : List Layer)
      → ((l : Layer) → list_any (same_layer l) ms ≡ true → settled ls l ≡ true)
      → with_layers rules ls ms ≡ ls
  idle ls [] h = refl
  idle ls (m ∷ ms) h =
      let e : with_layer rules ls m ≡ ls = unchanged ls m
      (h m (ap (λ b. b || list_any (same_layer m) ms) (itself m))) in
      ap (λ ns. with_layers rules ns ms) e
      ∙ idle ls ms (λ l q. h l (go (same_layer l m) (list_any (same_layer l) ms) q))
    where
      go : (a b : Bool) → b ≡ true → (a || b) ≡ true
      go true b e = refl
      go false b e = e

  -- adding again adds nothing
  again : (ls ms : List Layer)
      → with_layers rules (with_layers rules ls ms) ms ≡ with_layers rules ls ms
  again ls ms = idle (with_layers rules ls ms) ms (member ls ms)

  -- ---- collected first

  -- a list of layers that no rule names, each once
  record IsGathered (ms : List Layer) : Type 0 where
    distinct : IsDistinct same_layer ms
    unnamed : (l : Layer) → list_any (same_layer l) ms ≡ true → is_named rules l ≡ false

  none_gathered : IsGathered []
  unfolding IsDistinct
  none_gathered = record { distinct = tt; unnamed = λ l h. absurd cc }

  more_gathered : (ms : List Layer) (l : Layer) → IsGathered ms
      → IsGathered (with_layer rules ms l)
  unfolding settled
  more_gathered ms l g = by_cases IsGathered ms l (λ h. g) (λ h. record {
    distinct = IsDistinct-push alike ms l g.distinct
        (absent (is_named rules l) (list_any (same_layer l) ms) h);
    unnamed = λ k q. which k (list_any (same_layer k) ms) refl (same_layer k l) refl
        (sym (list_any-append (same_layer k) ms (l ∷ [])) ∙ q)
        (free (is_named rules l) (list_any (same_layer l) ms) h);
  })
    where
      absent : (n t : Bool) → ((n || t) || not (nat_lt (length ms) 64)) ≡ false → t ≡ false
      absent true t e = absurd cc
      absent false true e = absurd cc
      absent false false e = refl

      free : (n t : Bool) → ((n || t) || not (nat_lt (length ms) 64)) ≡ false → n ≡ false
      free true t e = absurd cc
      free false t e = refl

      which : (k : Layer) (a : Bool) → list_any (same_layer k) ms ≡ a → (b : Bool)
          → same_layer k l ≡ b → (a || (b || false)) ≡ true → is_named rules l ≡ false
          → is_named rules k ≡ false
      which k true e b f q r = g.unnamed k e
      which k false e true f q r = ap (is_named rules) (same k l f) ∙ r
      which k false e false f q r = absurd cc

  -- a full list that is added fills the other
  full : (ls ms : List Layer) → IsGathered ms → nat_lt (length ms) 64 ≡ false
      → nat_lt (length (with_layers rules ls ms)) 64 ≡ false
  unfolding settled
  full ls ms g h = go (nat_lt (length all) 64) refl
    where
      all : List Layer
      all = with_layers rules ls ms

      present : (n t f : Bool) → n ≡ false → f ≡ true → ((n || t) || not f) ≡ true → t ≡ true
      present true t f e r q = absurd cc
      present false true f e r q = refl
      present false false true e r q = absurd cc
      present false false false e r q = absurd cc

      go : (b : Bool) → nat_lt (length all) 64 ≡ b → b ≡ false
      go false e = refl
      go true e =
          let few : length ms ≤ length all = length-le_from_is_member alike ms all g.distinct
          (λ l q. present (is_named rules l) (list_any (same_layer l) all)
          (nat_lt (length all) 64) (g.unnamed l q) e (member ls ms l q)) in
          let lt : length ms < 64 = omega (arith, few, ltb-true (length all) 64 e) in
          absurd (let q = sym h ∙ lt-ltb (length ms) 64 lt in cc)

  step : (ls ms : List Layer) (l : Layer) → IsGathered ms
      → with_layers rules ls (with_layer rules ms l)
      ≡ with_layer rules (with_layers rules ls ms) l
  unfolding settled
  step ls ms l g = by_cases
      (λ ns. with_layers rules ls ns ≡ with_layer rules (with_layers rules ls ms) l) ms l
      (λ h. sym (unchanged (with_layers rules ls ms) l (go (is_named rules l) refl
      (list_any (same_layer l) ms) refl (nat_lt (length ms) 64) refl h)))
      (λ h. fold_push (with_layer rules) ls ms l)
    where
      named : (n t f : Bool) → n ≡ true → ((n || t) || not f) ≡ true
      named true t f e = refl
      named false t f e = absurd cc

      no_room : (n t f : Bool) → f ≡ false → ((n || t) || not f) ≡ true
      no_room true t f e = refl
      no_room false true f e = refl
      no_room false false true e = absurd cc
      no_room false false false e = refl

      go : (n : Bool) → is_named rules l ≡ n → (t : Bool) → list_any (same_layer l) ms ≡ t
          → (f : Bool) → nat_lt (length ms) 64 ≡ f → ((n || t) || not f) ≡ true
          → settled (with_layers rules ls ms) l ≡ true
      go true e t i f j h = named (is_named rules l) (list_any (same_layer l)
          (with_layers rules ls ms)) (nat_lt (length (with_layers rules ls ms)) 64) e
      go false e true i f j h = member ls ms l i
      go false e false i true j h = absurd cc
      go false e false i false j h = no_room (is_named rules l) (list_any (same_layer l)
          (with_layers rules ls ms)) (nat_lt (length (with_layers rules ls ms)) 64) (full ls ms g j)

  shape_step : (ls ms : List Layer) (e : Element) → IsGathered ms
      → with_layers rules ls (with_shape rules ms e)
      ≡ with_shape rules (with_layers rules ls ms) e
  shape_step ls ms (elements.Boundary b) g = step ls ms b.layer g
  shape_step ls ms (elements.Path p) g = step ls ms p.layer g
  shape_step ls ms (elements.Reference r) g = refl

  shape_gathered : (ms : List Layer) (e : Element) → IsGathered ms
      → IsGathered (with_shape rules ms e)
  shape_gathered ms (elements.Boundary b) g = more_gathered ms b.layer g
  shape_gathered ms (elements.Path p) g = more_gathered ms p.layer g
  shape_gathered ms (elements.Reference r) g = g

  join : (ls ms : List Layer) (xs : List Item) → IsGathered ms
      → with_layers rules ls (with_items rules ms xs)
      ≡ with_items rules (with_layers rules ls ms) xs
  join ls ms [] g = refl
  join ls ms (x ∷ xs) g =
      join ls (with_shape rules ms x.element) xs (shape_gathered ms x.element g)
      ∙ ap (λ ns. with_items rules ns xs) (shape_step ls ms x.element g)

  -- a flat list may be collected first
  pub gathered_first : (ls : List Layer) (xs : List Item)
      → with_layers rules ls (with_items rules [] xs) ≡ with_items rules ls xs
  gathered_first ls xs = join ls [] xs none_gathered

  -- and adds nothing again
  items_again : (ls : List Layer) (xs : List Item)
      → with_items rules (with_items rules ls xs) xs ≡ with_items rules ls xs
  items_again ls xs =
      let ms = with_items rules [] xs in
      sym (gathered_first (with_items rules ls xs) xs)
      ∙ ap (λ ns. with_layers rules ns ms) (sym (gathered_first ls xs))
      ∙ again ls ms ∙ gathered_first ls xs

  -- ---- placed items

  pub items_append : (ls : List Layer) (xs ys : List Item)
      → with_items rules ls (xs ++ ys) ≡ with_items rules (with_items rules ls xs) ys
  items_append ls xs ys =
      fold-append (λ (ns : List Layer) (i : Item). with_shape rules ns i.element) ls xs ys

  pub items_placed : (ls : List Layer) (t : Placing) (xs : List Item)
      → with_items rules ls (map (placed_item t) xs) ≡ with_items rules ls xs
  items_placed ls t [] = refl
  items_placed ls t (x ∷ xs) = items_placed (with_shape rules ls x.element) t xs

  more_instances : (ls : List Layer) (xs : List Item) (ts : List Placing)
      → with_items rules (with_items rules ls xs) (flat_map (λ t. map (placed_item t) xs) ts)
      ≡ with_items rules ls xs
  more_instances ls xs [] = refl
  more_instances ls xs (t ∷ ts) =
      items_append (with_items rules ls xs) (map (placed_item t) xs)
      (flat_map (λ t. map (placed_item t) xs) ts)
      ∙ ap (λ ns. with_items rules ns (flat_map (λ t. map (placed_item t) xs) ts))
      (items_placed (with_items rules ls xs) t xs ∙ items_again ls xs)
      ∙ more_instances ls xs ts

  -- all instances add what one does
  pub instances_add : (ls : List Layer) (xs : List Item) (ts : List Placing) → 0 < length ts
      → with_items rules ls (flat_map (λ t. map (placed_item t) xs) ts) ≡ with_items rules ls xs
  instances_add ls xs [] h = absurd (omega (arith, h))
  instances_add ls xs (t ∷ ts) h =
      items_append ls (map (placed_item t) xs) (flat_map (λ t. map (placed_item t) xs) ts)
      ∙ ap (λ ns. with_items rules ns (flat_map (λ t. map (placed_item t) xs) ts))
      (items_placed ls t xs)
      ∙ more_instances ls xs ts
