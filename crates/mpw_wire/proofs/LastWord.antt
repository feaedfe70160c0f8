-- The words before the last one.
use Rattle.std.proofs.Common.{◌≡◌, ◌∙◌, ◌-◌, ℕ, List, map, length, take, ap, Bor}
use Rattle.std.proofs.lemmas.List.{take-map, length-map}

pub words_before : (words : List (Bor (List ℕ)))
    → take (length (map (λ word. word.now) words) - 1) (map (λ word. word.now) words)
    ≡ map (λ word. word.now) (take (length words - 1) words)
words_before words =
    ap (λ n. take (n - 1) (map (λ word. word.now) words)) (length-map words (λ word. word.now))
    ∙ take-map (λ word. word.now) (length words - 1) words
