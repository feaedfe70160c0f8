-- Texts that are put one after another.
use Rattle.std.proofs.Common.{◌≡◌, ◌∙◌, ℕ, List, [], ◌∷◌, ◌++◌, Option, None, Some, ap, subst, append_assoc}
use Rattle.std.specs.Prelude.{IfSome}
use Rattle.std.specs.Io.KnownBytes.{Appends}
use Rattle.mpw_firm_outputs.specs.Outputs.{in_file, Kept, Grows, Puts}

pub grows_more : (old middle new : Option (List Kept)) (first second : List Kept)
    → Grows old middle first → Grows middle new second → Grows old new (first ++ second)
grows_more None middle new first second a b = tt
grows_more (Some xs) (Some ys) (Some zs) first second a b =
    b ∙ ap (λ t. t ++ second) a ∙ append_assoc xs first second
grows_more (Some xs) (Some ys) None first second a b = b
grows_more (Some xs) None new first second a b = absurd a

-- The same if the second is of a file that is named otherwise too.
pub grows_named : (old middle new : Option (List Kept)) (first : List Kept)
    (name other text : List ℕ)
    → other ≡ name → Grows old middle first → Grows middle new (in_file other text ∷ [])
    → Grows old new (first ++ (in_file name text ∷ []))
grows_named old middle new first name other text same a b =
    grows_more old middle new first (in_file name text ∷ []) a
    (subst (λ n. Grows middle new (in_file n text ∷ [])) same b)

-- What one text grows by, if it is known what was there before.
puts_known : (xs : List Kept) (new : Option (List Kept)) (whole : Option (List ℕ))
    (place : Option (List ℕ)) (text : List ℕ) → Appends (Some []) whole text
    → Puts (Some xs) new place whole
    → Grows (Some xs) new (record { place = place; text = text } ∷ [])
puts_known xs new None place text adds puts = absurd adds
puts_known xs new (Some t) place text adds puts =
    subst (λ t. Grows (Some xs) new (record { place = place; text = t } ∷ [])) adds puts

-- A draft that was empty, and to which a text was added, puts the text into the place that was asked for.
pub puts_whole : (old begun new : Option (List Kept)) (empty whole : Option (List ℕ))
    (place asked : Option (List ℕ)) (text : List ℕ) → begun ≡ old
    → IfSome begun (λ _. empty ≡ Some []) → Appends empty whole text → place ≡ asked
    → Puts begun new place whole
    → Grows old new (record { place = asked; text = text } ∷ [])
puts_whole None begun new empty whole place asked text same is adds for puts = tt
puts_whole (Some xs) begun new empty whole place asked text same is adds for puts =
    let begins : empty ≡ Some [] = subst (λ b. IfSome b (λ _. empty ≡ Some [])) same is in
    puts_known xs new whole asked text (subst (λ e. Appends e whole text) begins adds)
    (subst (λ p. Puts (Some xs) new p whole) for (subst (λ b. Puts b new place whole) same puts))
