-- Texts that are added one after another.
use Rattle.std.proofs.Common.{◌≡◌, ◌∙◌, ◌++◌, ℕ, List, [], append_assoc}

pub four : (s t u v w a b c d : List ℕ) → s ≡ [] → t ≡ s ++ a → u ≡ t ++ b → v ≡ u ++ c
    → w ≡ v ++ d → w ≡ a ++ b ++ c ++ d
four s t u v w a b c d none first second third fourth =
    let h : w ≡ (((([] ++ a) ++ b) ++ c) ++ d) = cc in h ∙ simp append_assoc
