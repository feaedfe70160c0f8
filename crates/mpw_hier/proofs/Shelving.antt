-- Adding one more submission to a shelf.
use Rattle.std.proofs.Common.{◌≡◌, ℕ, zero, suc, ◌+◌, ◌<◌, ◌≤◌, Bool, true, false, cond, ◌&&◌, ◌⊎◌, inl, inr, List, [], ◌∷◌, ◌++◌, length, get_or, take, Option, Some, None, refl, sym, ap, subst, ◌∙◌, arith}
use Rattle.std.specs.Prelude.{slice_get, nat_lt}
use Rattle.std.specs.BTreeMap as tree
use Rattle.std.specs.BTreeMap.{BTreeMap}
use Rattle.std.specs.Cmp.Lexicographic.{texts_ties}
use Rattle.std.specs.Ordering.{is_eq}
use Rattle.std.proofs.lemmas.Option.{slice_get_within, slice_get-get_or, slice_get_read, slice_get_cases, get_or_from_slice_get}
use Rattle.std.proofs.lemmas.List.{length-append, length-take, get_or_append_left, take-append-le}
use Rattle.std.proofs.lemmas.Bool.{ltb-true}
use Rattle.std.proofs.lemmas.Bool.Decides.{eqb_tells}
use Rattle.std.proofs.Math.Seq.{take-append_seam, get_or-append_seam}
use Rattle.mpw_geom.specs.Names.{name_eq, name_cmp}
use Rattle.mpw_hier.specs.declared.node.Node.{Node}
use Rattle.mpw_hier.specs.declared.submission.Submission.{Submission}
use Rattle.mpw_hier.specs.Shelf.{later, present_from, present}
use Rattle.mpw_hier.specs.Nodes.{AreNodesOf, AreNodes}
use Rattle.mpw_hier.specs.Values.{flats, heights}
use Rattle.mpw_hier.specs.Limits.{IsSubmitted, IsShelf}
use Rattle.mpw_hier.specs.Internal.Indexed.{IsShelved}

-- ---- the last of a list

-- the entries of a list with one more
pub more_get : {X : Type 0} (xs : List X) (x : X) (n : ℕ) (y : X)
    → slice_get (xs ++ x ∷ []) n ≡ Some y → ((n < length xs) × (slice_get xs n ≡ Some y))
    ⊎ ((n ≡ length xs) × (y ≡ x))
more_get xs x n y is =
    let within = slice_get_within (xs ++ x ∷ []) n y is in
    let long = length-append xs (x ∷ []) in
    let at : get_or (xs ++ x ∷ []) n y ≡ y = get_or_from_slice_get (xs ++ x ∷ []) n y y is in
    elim (eqb_tells n (length xs)) [
      | inl q ↦ inr (
        q.1,
        sym at ∙ ap (λ k. get_or (xs ++ x ∷ []) k y) q.1
            ∙ get_or-append_seam xs x [] y,
      )
      | inr q ↦
          let lt : n < length xs = omega (arith, within, long, q.1) in
          inl (
            lt,
            slice_get-get_or xs n y lt
                ∙ ap (λ z. Some z) (sym (get_or_append_left xs (x ∷ []) y n lt) ∙ at),
          )
    ]

-- an element stays at its index
pub get_more : {X : Type 0} (xs : List X) (x : X) (n : ℕ) (y : X) → slice_get xs n ≡ Some y
    → slice_get (xs ++ x ∷ []) n ≡ Some y
get_more xs x n y is =
    let within = slice_get_within xs n y is in
    let long = length-append xs (x ∷ []) in
    let here : n < length (xs ++ x ∷ []) = omega (arith, within, long) in
    slice_get-get_or (xs ++ x ∷ []) n y here
    ∙ ap (λ z. Some z) (get_or_append_left xs (x ∷ []) y n within
    ∙ get_or_from_slice_get xs n y y is)

-- ---- the present submission

later_cond : (b : Bool) (n : ℕ) (o before : Option ℕ)
    → later (cond b (Some n) o) before ≡ cond b (Some n) (later o before)
later_cond true n o before = refl
later_cond false n o before = refl

pub present_push : (k : ℕ) (ss : List Submission) (s : Submission) (q : List ℕ)
    → present_from k (ss ++ s ∷ []) q ≡ cond (name_eq s.cell q) (Some (k + length ss))
    (present_from k ss q)
present_push k [] s q = go (name_eq s.cell q)
  where
    go : (b : Bool) → later None (cond b (Some k) None) ≡ cond b (Some (k + 0)) None
    go true = let e : k ≡ k + 0 = omega arith in ap (λ n. Some n) e
    go false = refl
present_push k (t ∷ ss) s q =
    let e : (k + 1) + length ss ≡ k + length (t ∷ ss) = omega arith in
    let rest = cond (name_eq t.cell q) (Some k) None in
    ap (λ o. later o rest) (present_push (k + 1) ss s q
    ∙ ap (λ n. cond (name_eq s.cell q) (Some n) (present_from (k + 1) ss q)) e)
    ∙ later_cond (name_eq s.cell q) (k + length (t ∷ ss)) (present_from (k + 1) ss q) rest

-- ---- nodes

pub nodes_more : (ss : List Submission) (s : Submission) (number : ℕ) (of : List Node)
    → AreNodes ss number of → AreNodes (ss ++ s ∷ []) number of
nodes_more ss s number of w =
    let within = slice_get_within ss number w.submission w.is in
    let front : take number (ss ++ s ∷ []) ≡ take number ss = take-append-le number ss (s ∷ [])
    (omega (arith, within)) in
    record {
      submission = w.submission;
      is = get_more ss s number w.submission w.is;
      shown = rw front w.shown;
    }

pub nodes_last : (ss : List Submission) (s : Submission) (of : List Node)
    → AreNodesOf (flats ss) (heights ss) s of → AreNodes (ss ++ s ∷ []) (length ss) of
nodes_last ss s of w =
    let front : take (length ss) (ss ++ s ∷ []) ≡ ss = take-append_seam ss (s ∷ []) in
    let here : length ss < length (ss ++ s ∷ []) = omega (arith, length-append ss (s ∷ [])) in
    record {
      submission = s;
      is = slice_get-get_or (ss ++ s ∷ []) (length ss) s here
          ∙ ap (λ z. Some z) (get_or-append_seam ss s [] s);
      shown = rw front w;
    }

-- ---- the shelf

pub submitted_more : (ss : List Submission) (s : Submission) → IsShelf ss → IsSubmitted ss s
    → IsShelf (ss ++ s ∷ [])
submitted_more ss s before last number t is = elim (more_get ss s number t is) [
  | inl h ↦
      let front : take number (ss ++ s ∷ []) ≡ take number ss = take-append-le number ss (s ∷ [])
      (omega (arith, h.0)) in
      rw front (before number t h.1)
  | inr h ↦
      let front : take number (ss ++ s ∷ []) ≡ ss = ap (λ k. take k (ss ++ s ∷ [])) h.0
      ∙ take-append_seam ss (s ∷ []) in
      rw (front, h.1) last
]

first_true : (a b : Bool) → (a && b) ≡ true → a ≡ true
first_true true b e = refl
first_true false b e = absurd cc

-- a shelf has 4096 submissions at most
pub shelf_few : (ss : List Submission) → IsShelf ss → length ss ≤ 4096
shelf_few ss w = go (length ss) refl
  where
    go : (n : ℕ) → n ≡ length ss → n ≤ 4096
    go zero e = omega arith
    go (suc n) e =
        let within : n < length ss = omega (arith, e) in
        elim (slice_get_cases ss n).1 [
          | inl h ↦
              let room = (w n h.0 h.2).kept.room in
              let few : nat_lt (length (take n ss)) 4096 ≡ true = first_true _ _ room in
              omega (arith, ltb-true (length (take n ss)) 4096 few, length-take n ss, within)
          | inr h ↦ absurd (omega (arith, within, h.0))
        ]

pub shelved_more : (m n : BTreeMap (List ℕ) ℕ) (nodes : List (List Node)) (ss : List Submission)
    (s : Submission) (of : List Node) (number : ℕ) → IsShelved m nodes ss
    → AreNodesOf (flats ss) (heights ss) s of → IsSubmitted ss s → number ≡ length ss
    → ((q : List ℕ) → tree.get name_cmp n q ≡ cond (is_eq (name_cmp s.cell q)) (Some number)
    (tree.get name_cmp m q))
    → IsShelved n (nodes ++ of ∷ []) (ss ++ s ∷ [])
unfolding present
shelved_more m n nodes ss s of number w shown submitted last updates =
    let long = length-append ss (s ∷ []) in
    let sum : 0 + length ss ≡ length ss = omega arith in
    let each : length (nodes ++ of ∷ []) ≡ length (ss ++ s ∷ []) =
    omega (arith, long, length-append nodes (of ∷ []), w.nodes_each) in
    record {
      present_at = λ q. updates q ∙ rw (← texts_ties s.cell q, w.present_at q, last)
          (sym (present_push 0 ss s q ∙ ap (λ k. cond (name_eq s.cell q) (Some k)
          (present_from 0 ss q)) sum));
      nodes_each = each;
      nodes_at = λ k ns is. elim (more_get nodes of k ns is) [
        | inl h ↦ nodes_more ss s k ns (w.nodes_at k ns h.1)
        | inr h ↦ rw (h.0, h.1, w.nodes_each) (nodes_last ss s of shown)
      ];
      submitted = submitted_more ss s w.submitted submitted;
    }

-- a table with the same entries
pub shelved_same : (m n : BTreeMap (List ℕ) ℕ) (nodes : List (List Node)) (ss : List Submission)
    → n.entries ≡ m.entries → IsShelved m nodes ss → IsShelved n nodes ss
shelved_same m n nodes ss same w = record {
  present_at = λ q. rw same (w.present_at q);
  nodes_each = w.nodes_each;
  nodes_at = w.nodes_at;
  submitted = w.submitted;
}

-- the entry at a number of a shelf
pub shelved_at : (m : BTreeMap (List ℕ) ℕ) (nodes : List (List Node)) (ss : List Submission)
    → IsShelved m nodes ss → (i : ℕ) → i < length ss → (s : Submission) → s ≡ get_or ss i s
    → (of : List Node) → of ≡ get_or nodes i of
    → AreNodesOf (flats (take i ss)) (heights (take i ss)) s of × IsSubmitted (take i ss) s
shelved_at m nodes ss w i h s is of at =
    let here : slice_get ss i ≡ Some s = slice_get_read ss (length ss) i s refl h is in
    let there : slice_get nodes i ≡ Some of = slice_get_read nodes (length nodes) i of refl
    (omega (arith, h, w.nodes_each)) at in
    let shown = w.nodes_at i of there in
    let both : Some shown.submission ≡ Some s = sym shown.is ∙ here in
    let same : shown.submission ≡ s = cc in (
      subst (λ (t : Submission). AreNodesOf (flats (take i ss)) (heights (take i ss)) t of) same
          shown.shown,
      w.submitted i s here,
    )
