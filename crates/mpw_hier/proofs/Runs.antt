-- Consecutive indices.
use Rattle.std.proofs.Common.{◌≡◌, ℕ, zero, suc, ◌+◌, ◌<◌, List, [], ◌∷◌, ◌++◌, length, take, get_or, refl, sym, ap, subst, ◌∙◌, arith}
use Rattle.std.proofs.lemmas.List.{take_more}
use Rattle.mpw_hier.specs.declared.places.Held.{Held}
use Rattle.mpw_hier.specs.declared.places.Held.TheVariants as held
use Rattle.mpw_hier.specs.declared.places.Run.{Run}
use Rattle.mpw_hier.specs.Internal.Places.{numbers_from, places_in, IsHeld}

pub numbers_length : (first count : ℕ) → length (numbers_from first count) ≡ count
numbers_length first zero = refl
numbers_length first (suc n) = rw (numbers_length (first + 1) n) (omega arith)

-- the number at an index
pub number_of : (first count i : ℕ) → i < count
    → get_or (numbers_from first count) i 0 ≡ first + i
number_of first zero i h = absurd (omega (arith, h))
number_of first (suc n) zero h = omega arith
number_of first (suc n) (suc i) h =
    let less : i < n = omega (arith, h) in
    let same : (first + 1) + i ≡ first + suc i = omega arith in
    number_of (first + 1) n i less ∙ same

-- one more
pub numbers_more : (first count : ℕ)
    → numbers_from first (suc count) ≡ numbers_from first count ++ (first + count) ∷ []
numbers_more first zero =
    let same : first ≡ first + 0 = omega arith in
    ap (λ p. p ∷ []) same
numbers_more first (suc n) =
    let same : (first + 1) + n ≡ first + suc n = omega arith in
    ap (λ ps. first ∷ ps) (numbers_more (first + 1) n
    ∙ ap (λ p. numbers_from (first + 1) n ++ p ∷ []) same)

-- the numbers so far and one more are those of a list
pub numbers_next : (first i : ℕ) (ps : List ℕ) (d : ℕ) → i < length ps
    → numbers_from first i ≡ take i ps → first + i ≡ get_or ps i d
    → numbers_from first (i + 1) ≡ take (i + 1) ps
numbers_next first i ps d h before same =
    let one : i + 1 ≡ suc i = omega arith in
    ap (numbers_from first) one ∙ numbers_more first i
    ∙ ap (λ xs. xs ++ (first + i) ∷ []) before
    ∙ ap (λ p. take i ps ++ p ∷ []) same ∙ sym (take_more ps i d h)

-- ---- indices that are stored as a run

pub run_length : (h : Held) (run : Run) (ps : List ℕ) → h ≡ held.Run run → places_in h ≡ ps
    → run.count ≡ length ps
run_length h run ps e view =
    sym (numbers_length run.first run.count) ∙ ap (λ x. length (places_in x)) (sym e)
    ∙ ap length view

pub run_within : (h : Held) (run : Run) → h ≡ held.Run run → IsHeld h → IsHeld (held.Run run)
run_within h run e i = subst IsHeld e i

pub run_place : (h : Held) (run : Run) (ps : List ℕ) (i : ℕ) → h ≡ held.Run run → places_in h ≡ ps
    → i < length ps → run.first + i ≡ get_or ps i 0
run_place h run ps i e view less =
    let same : numbers_from run.first run.count ≡ ps = ap places_in (sym e) ∙ view in
    let within : i < run.count = omega (arith, less, run_length h run ps e view) in
    sym (number_of run.first run.count i within) ∙ ap (λ xs. get_or xs i 0) same
