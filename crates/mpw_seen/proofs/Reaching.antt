-- Marks of the submissions that a submission reaches, one submission more.
use Rattle.std.proofs.Common.{◌≡◌, ℕ, suc, ◌-◌, ◌<◌, inl, inr, Bool, true, false, cond, List, [], ◌∷◌, ◌++◌, length, get_or, take, drop, Some, refl, sym, subst, ◌∙◌, arith}
use Rattle.std.specs.Prelude.{slice_get}
use Rattle.std.proofs.lemmas.Bool.{cases_lt, false≢true}
use Rattle.std.proofs.lemmas.Option.{get_or_from_slice_get, slice_get_read}
use Rattle.std.proofs.Math.Seq.{take-append_seam}
use Rattle.mpw_geom.specs.Names.{name_eq}
use Rattle.mpw_hier.specs.declared.bindings.Binding.{Binding}
use Rattle.mpw_hier.specs.declared.submission.Submission.{Submission}
use Rattle.mpw_hier.specs.Values.{bound_number}
use Rattle.mpw_seen.specs.Internal.Marks.{is_marked, AreMarked, AreReached}
use Rattle.mpw_seen.proofs.Nodes.{one}

-- a name is bound by one of the bindings
record IsBinding (bindings : List Binding) (to : ℕ) : Type 0 where
  pub place : ℕ
  pub binding : Binding
  pub within : place < length bindings
  pub is : slice_get bindings place ≡ Some binding
  pub number : binding.submission ≡ to

found : (bindings : List Binding) (name : List ℕ) (to : ℕ) → bound_number bindings name ≡ Some to
    → IsBinding bindings to
found [] name to h = absurd cc
found (b ∷ bs) name to h = go (name_eq b.name name) h (found bs name to)
  where
    go : (t : Bool) → cond t (Some b.submission) (bound_number bs name) ≡ Some to
        → (bound_number bs name ≡ Some to → IsBinding bs to) → IsBinding (b ∷ bs) to
    go true e later = record {
      place = 0;
      binding = b;
      within = omega arith;
      is = refl;
      number = let f : Some b.submission ≡ Some to = e in cc;
    }
    go false e later = let r = later e in record {
      place = suc r.place;
      binding = r.binding;
      within = omega (arith, r.within);
      is = r.is;
      number = r.number;
    }

-- a mark that was read
pub mark_is : (marks : List Bool) (n : ℕ) (b t : Bool) → n < length marks → b ≡ get_or marks n b
    → b ≡ t → is_marked marks n ≡ t
mark_is marks n b t h at is =
    get_or_from_slice_get marks n b false (slice_get_read marks (length marks) n b refl h at) ∙ is

-- a submission that isn't marked
pub reached_none : (ss : List Submission) (number from : ℕ) (marks : List Bool)
    → AreReached ss number from marks → is_marked marks (from - 1) ≡ false
    → AreReached ss number (from - 1) marks
reached_none ss number from marks w free = record {
  many = w.many;
  first = w.first;
  bound = λ n to s name low marked is bound lt. elim (cases_lt n from) [
    | inl h ↦ let e : n ≡ from - 1 = omega (arith, h, low) in
        absurd (false≢true (sym free ∙ subst (λ m. is_marked marks m ≡ true) e marked))
    | inr h ↦ w.bound n to s name h marked is bound lt
  ];
}

-- a submission that is marked, and then all to which it is bound
pub reached_more : (ss : List Submission) (number from : ℕ) (old new : List Bool) (s : Submission)
    → AreReached ss number from old → slice_get ss (from - 1) ≡ Some s
    → AreMarked s.bound (length s.bound) (from - 1) old new → AreReached ss number (from - 1) new
reached_more ss number from old new s w here marked = record {
  many = marked.more.many ∙ w.many;
  first = marked.more.more number w.first;
  bound = λ n to t name low at is bound lt. let before = sym (marked.more.kept n low) ∙ at in
      elim (cases_lt n from) [
        | inl h ↦ let e : n ≡ from - 1 = omega (arith, h, low) in
            let same = one (slice_get ss (from - 1)) t s
            (subst (λ m. slice_get ss m ≡ Some t) e is) here in
            let b =
            found s.bound name to (subst (λ (u : Submission). bound_number u.bound name
            ≡ Some to)
            same bound) in
            subst (λ m. is_marked new m ≡ true) b.number
            (marked.each b.place b.binding b.within b.is
            (subst (λ m. m < from - 1) (sym b.number) (subst (λ m. to < m) e lt)))
        | inr h ↦ marked.more.more to (w.bound n to t name h before is bound lt)
      ];
}

-- the result of writing to all of a vector
pub all_written : (items new : List Bool) (len : ℕ) → length items ≡ len → length new ≡ length items
    → take len (new ++ drop (length new) items) ≡ new
all_written items new len many same =
    let e : length new ≡ len = same ∙ many in
    subst (λ n. take n (new ++ drop (length new) items) ≡ new) e
    (take-append_seam new (drop (length new) items))
