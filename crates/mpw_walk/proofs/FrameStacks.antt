-- The frames of a walk, and their remaining turns.
use Rattle.std.proofs.Common.{◌≡◌, ℕ, zero, suc, ◌+◌, ◌≤◌, ◌⊎◌, inl, inr, List, [], ◌∷◌, ◌++◌, length, drop, Some, refl, ap, subst, arith}
use Rattle.std.specs.Prelude.{slice_get}
use Rattle.std.proofs.lemmas.List.Sums.{fold-append}
use Rattle.mpw_hier.specs.declared.submission.Submission.{Submission}
use Rattle.mpw_walk.specs.declared.frame.Frame.{Frame}
use Rattle.mpw_walk.specs.declared.root.Root.{Root}
use Rattle.mpw_walk.specs.Turns.{Turn, roots_turns}
use Rattle.mpw_walk.specs.Frames.{turns_to_come, IsFrame}
use Rattle.mpw_walk.specs.Way.{left_of}
use Rattle.mpw_walk.proofs.Shapes.{get_at}

pub left_more : (ss : List Submission) (roots : List Root) (root : ℕ) (frames : List Frame)
    (f : Frame)
    → left_of ss roots root (frames ++ f ∷ []) ≡ turns_to_come ss f ++ left_of ss roots root frames
unfolding left_of
left_more ss roots root frames f =
    fold-append (λ (turns : List Turn) (f : Frame). turns_to_come ss f ++ turns)
    (roots_turns ss (drop root roots)) frames (f ∷ [])

push_cases : {X : Type 0} (xs : List X) (y : X) (k : ℕ) (x : X)
    → slice_get (xs ++ y ∷ []) k ≡ Some x → (slice_get xs k ≡ Some x) ⊎ ((k ≡ length xs) × (y ≡ x))
push_cases [] y zero x e = let same : y ≡ x = cc in inr (refl, same)
push_cases [] y (suc k) x e = absurd cc
push_cases (z ∷ xs) y zero x e = inl e
push_cases (z ∷ xs) y (suc k) x e =
    elim (push_cases xs y k x e) [ inl h ↦ inl h | inr h ↦ inr (ap suc h.0, h.1) ]

in_front : {X : Type 0} (xs ys : List X) (k : ℕ) (x : X) → slice_get xs k ≡ Some x
    → slice_get (xs ++ ys) k ≡ Some x
in_front [] ys k x e = absurd cc
in_front (z ∷ xs) ys zero x e = e
in_front (z ∷ xs) ys (suc k) x e = in_front xs ys k x e

abbrev pub IsEach : List Submission → List Frame → Type 0
IsEach ss frames =
    (k : ℕ) (f : Frame) → slice_get frames k ≡ Some f
    → IsFrame ss f × (k + f.node.now.size.height ≤ 64)

pub each_last : (ss : List Submission) (frames : List Frame) (f : Frame)
    → IsEach ss (frames ++ f ∷ []) → IsFrame ss f × (length frames + f.node.now.size.height ≤ 64)
each_last ss frames f each = each (length frames) f (get_at frames f [])

pub each_front : (ss : List Submission) (frames : List Frame) (f : Frame)
    → IsEach ss (frames ++ f ∷ []) → IsEach ss frames
each_front ss frames f each k g is = each k g (in_front frames (f ∷ []) k g is)

pub each_push : (ss : List Submission) (frames : List Frame) (f : Frame) → IsEach ss frames
    → IsFrame ss f → length frames + f.node.now.size.height ≤ 64 → IsEach ss (frames ++ f ∷ [])
each_push ss frames f each frame low k g is =
    elim (push_cases frames f k g is) [
      | inl h ↦ each k g h
      | inr h
          ↦ subst (λ (x : Frame). IsFrame ss x × (k + x.node.now.size.height ≤ 64)) h.1
          (frame, omega (arith, low, h.0))
    ]
