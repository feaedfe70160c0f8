-- Answers to the goals of `add_band` in `src/merge.rt`.
use Rattle.std.proofs.Common.{◌≡◌, ◌<ℤ◌, ◌-◌, ◌≤◌, List, [], ◌∷◌, length, get_or, take, drop, suc, subst, sym, ap, arith}
use Rattle.std.specs.Prelude.{All, AllPairs, OnOk}
use Rattle.std.proofs.lemmas.List.{take_all}
use Rattle.mpw_geom.specs.declared.plane.Box2.{Box2}
use Rattle.mpw_geom.proofs.Squares.{no_box}
use Rattle.mpw_region.specs.Internal.Sweep.{BeginsLeft}
use Rattle.mpw_region.specs.Internal.Swept.{AddsBand}
use Rattle.mpw_region.proofs.Merging.{AddsBand-none}
use Rattle.mpw_region.proofs.merge.add_band.Goals as goal

-- the first element and the rest, as a slice pattern gives them
first_and_rest : (xs : List Box2) (d : Box2) → 1 ≤ length xs
    → get_or xs 0 d ∷ take (length xs - 1) (drop 1 xs) ≡ xs
first_and_rest [] d h = absurd (omega arith)
first_and_rest (x ∷ xs) d h = ap (λ zs. x ∷ zs) (take_all (suc (length xs) - 1) xs (omega arith))

pub add_intervals-requires-clause-ordered : goal.add_intervals-requires-clause-ordered
add_intervals-requires-clause-ordered c =
    subst (λ (zs : List Box2). AllPairs BeginsLeft zs)
    (sym (first_and_rest c.args.boxes.now no_box c.in-len1-up.len_at_least)) c.requires.ordered

pub add_intervals-requires-clause-filled : goal.add_intervals-requires-clause-filled
add_intervals-requires-clause-filled c =
    subst (All (λ (b : Box2). b.x0 <ℤ b.x1))
    (sym (first_and_rest c.args.boxes.now no_box c.in-len1-up.len_at_least)) c.requires.filled

pub add_intervals-requires-clause-below : goal.add_intervals-requires-clause-below
add_intervals-requires-clause-below c = c.requires.below

pub returns-in-empty : goal.returns-in-empty
returns-in-empty c =
    AddsBand-none c.args.out.now.items c.args.boxes.now c.args.rows c.in-empty.len_below
    c.requires.rows c.requires.banded c.requires.below

pub returns-in-len1-up : goal.returns-in-len1-up
returns-in-len1-up c =
    subst (λ (bs : List Box2). OnOk c.add_intervals.result
    (AddsBand c.args.out.now.items c.add_intervals.new.out.items bs c.args.rows))
    (first_and_rest c.args.boxes.now no_box c.in-len1-up.len_at_least) c.add_intervals.ensures
