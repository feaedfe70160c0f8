-- The cells of a user's own touched submissions, and the first of them in alphabetical order.
use Rattle.std.proofs.Common.{◌≡◌, ℕ, ◌<◌, zero, suc, Bool, true, false, cond, ◌||◌, inl, inr, List, [], ◌∷◌, length, get_or, Option, None, Some, refl, sym, ap, subst, ◌∙◌, true≢false, arith}
use Rattle.std.specs.Prelude.{slice_get, Contains}
use Rattle.std.specs.List.{filter_map, cons_option}
use Rattle.std.specs.Ordering.{is_lt}
use Rattle.mpw_geom.specs.Names.{name_eq, name_cmp, contains_name}
use Rattle.mpw_geom.proofs.Linked.{same_name, name_eq-refl, or_right, or_cases}
use Rattle.mpw_hier.specs.declared.submission.Submission.{Submission}
use Rattle.mpw_geom.specs.Least.{IsLeast}
use Rattle.mpw_laws.specs.WaiverLaws.{IsOwn}
use Rattle.mpw_waiver.specs.Signing.{own_cell, own_cells, least_own_cell}
use Rattle.mpw_geom.proofs.LeastLemmas.{least-is, not_both}

-- ---- one number

-- the submission belongs to that cell, and is the user's
record IsUsers (user cell : List ℕ) (o : Option Submission) : Type 0 where
  submission : Submission
  is : o ≡ Some submission
  submitter : submission.submitter ≡ user
  of_cell : submission.cell ≡ cell

own-is : (user cell : List ℕ) (o : Option Submission) → own_cell user o ≡ Some cell
    → IsUsers user cell o
own-is user cell None e = absurd cc
own-is user cell (Some s) e = go (name_eq s.submitter user) refl e
  where
    go : (b : Bool) → name_eq s.submitter user ≡ b → (cond b (Some s.cell) None) ≡ Some cell
        → IsUsers user cell (Some s)
    go true is e = record {
      submission = s;
      is = refl;
      submitter = same_name s.submitter user is;
      of_cell = cc;
    }
    go false is e = absurd cc

own-from : (user cell : List ℕ) (o : Option Submission) → IsUsers user cell o
    → own_cell user o ≡ Some cell
own-from user cell o own =
    ap (own_cell user) own.is ∙ ap (λ b. cond b (Some own.submission.cell) None)
    (ap (λ n. name_eq n user) own.submitter ∙ name_eq-refl user) ∙ ap Some own.of_cell

-- ---- all numbers

-- a number gives the name
record Gives (gives : ℕ → Option (List ℕ)) (numbers : List ℕ) (name : List ℕ) : Type 0 where
  number : ℕ
  meets : Contains numbers number
  is : gives number ≡ Some name

later : (gives : ℕ → Option (List ℕ)) (n : ℕ) (numbers : List ℕ) (name : List ℕ)
    → Gives gives numbers name → Gives gives (n ∷ numbers) name
later gives n numbers name g = record {
  number = g.number;
  meets = (suc g.meets.0, omega (arith, g.meets.1), g.meets.2);
  is = g.is;
}

given : (gives : ℕ → Option (List ℕ)) (numbers : List ℕ) (name : List ℕ)
    → contains_name (filter_map gives numbers) name ≡ true
    → Gives gives numbers name
given gives [] name there = absurd (true≢false (sym there))
given gives (n ∷ numbers) name there =
    go (λ behind. later gives n numbers name (given gives numbers name behind)) (gives n) refl there
  where
    go : (contains_name (filter_map gives numbers) name ≡ true → Gives gives (n ∷ numbers) name)
        → (o : Option (List ℕ)) → gives n ≡ o
        → contains_name (cons_option o (filter_map gives numbers)) name ≡ true
        → Gives gives (n ∷ numbers) name
    go rest None is there = rest there
    go rest (Some first) is there = elim (or_cases (name_eq name first) _ there) [
      | inl here ↦ record {
        number = n;
        meets = (zero, omega arith, refl);
        is = is
            ∙ ap Some (sym (same_name name first here));
      }
      | inr behind ↦ rest behind
    ]

kept : (o : Option (List ℕ)) (names : List (List ℕ)) (name : List ℕ)
    → contains_name names name ≡ true
    → contains_name (cons_option o names) name ≡ true
kept None names name there = there
kept (Some first) names name there = or_right (name_eq name first) (contains_name names name) there

giving : (gives : ℕ → Option (List ℕ)) (numbers : List ℕ) (name : List ℕ) (number k : ℕ)
    → k < length numbers
    → get_or numbers k number ≡ number → gives number ≡ Some name
    → contains_name (filter_map gives numbers) name ≡ true
giving gives [] name number k within at is = absurd (omega (arith, within))
giving gives (n ∷ numbers) name number zero within at is =
    ap (λ o. contains_name (cons_option o (filter_map gives numbers)) name) (ap gives at ∙ is)
    ∙ ap (λ b. b || contains_name (filter_map gives numbers) name) (name_eq-refl name)
giving gives (n ∷ numbers) name number (suc k) within at is =
    kept (gives n) (filter_map gives numbers) name
    (giving gives numbers name number k (omega (arith, within)) at is)

pub in_own : (shelf : List Submission) (met user cell : List ℕ) → IsOwn shelf met user cell
    → contains_name (own_cells shelf met user) cell ≡ true
unfolding own_cells
in_own shelf met user cell own =
    giving (λ number. own_cell user (slice_get shelf number)) met cell own.number own.meets.0
    own.meets.1 own.meets.2
    (own-from user cell (slice_get shelf own.number)
    (record {
      submission = own.submission;
      is = own.is;
      submitter = own.submitter;
      of_cell = own.of_cell;
    }))

pub own_in : (shelf : List Submission) (met user cell : List ℕ)
    → contains_name (own_cells shelf met user) cell ≡ true
    → IsOwn shelf met user cell
unfolding own_cells
own_in shelf met user cell there =
    let g = given (λ number. own_cell user (slice_get shelf number)) met cell there in
    let own = own-is user cell (slice_get shelf g.number) g.is in
    record {
      number = g.number;
      submission = own.submission;
      meets = g.meets;
      is = own.is;
      submitter = own.submitter;
      of_cell = own.of_cell;
    }

-- ---- the first in alphabetical order

least_own-is : (shelf : List Submission) (met user : List ℕ) (o : Option (List ℕ))
    → least_own_cell shelf met user ≡ o
    → IsLeast (own_cells shelf met user) o
unfolding least_own_cell
least_own-is shelf met user o e =
    subst (IsLeast (own_cells shelf met user)) e (least-is (own_cells shelf met user))

pub none_own : (shelf : List Submission) (met user : List ℕ) → least_own_cell shelf met user ≡ None
    → (cell : List ℕ)
    → IsOwn shelf met user cell → ⊥
none_own shelf met user e cell own =
    not_both (contains_name (own_cells shelf met user) cell) (in_own shelf met user cell own)
    (least_own-is shelf met user None e cell)

pub own_none : (shelf : List Submission) (met user : List ℕ)
    → ((cell : List ℕ) → IsOwn shelf met user cell → ⊥)
    → least_own_cell shelf met user ≡ None
own_none shelf met user never = go (least_own_cell shelf met user) refl
  where
    go : (o : Option (List ℕ)) → least_own_cell shelf met user ≡ o → o ≡ None
    go None e = refl
    go (Some cell) e = absurd (never cell
        (own_in shelf met user cell (least_own-is shelf met user (Some cell) e).0))

pub least_own : (shelf : List Submission) (met user cell : List ℕ)
    → least_own_cell shelf met user ≡ Some cell
    → IsOwn shelf met user cell × ((other : List ℕ) → IsOwn shelf met user other
    → is_lt (name_cmp other cell) ≡ false)
least_own shelf met user cell e =
    let least = least_own-is shelf met user (Some cell) e in (
      own_in shelf met user cell least.0,
      λ other own. least.1 other (in_own shelf met user other own),
    )
