-- The parts of a decision table: where it ends, and what it lists or changes.
use Rattle.std.proofs.Common.{◌≡◌, List, Result, Ok, Err, refl}
use Rattle.mpw_replies.specs.Listing.{Listed}
use Rattle.mpw_replies.specs.Rows.{◌>>=◌, changing, listing}
use Rattle.mpw_replies.specs.declared.reply.Line.{Line}
use Rattle.mpw_replies.specs.declared.row.Done.TheVariants.{Lists, Changes}

-- a table that gives a value passes both parts
pub passed : {A B E : Type 0} (x : Result A E) (f : A → Result B E) (y : B)
    → (x >>= f) ≡ Ok y → (a : A) × (x ≡ Ok a) × (f a ≡ Ok y)
passed (Ok a) f y e = (a, refl, e)
passed (Err s) f y e = absurd cc

-- a table that changes a part ends where its tests end
pub changing_ended : {A E P : Type 0} (part : A → P) (lines : A → List Line) (row : Result A E)
    (e : E) → changing part lines row ≡ Err e → row ≡ Err e
changing_ended part lines (Ok x) e is = absurd cc
changing_ended part lines (Err why) e is = cc

-- a table that lists has the lines of what passed, and changes nothing
pub listed : {A E P : Type 0} (lines : A → List Listed) (row : Result A E) (ls : List Listed)
    → listing {P = P} lines row ≡ Ok (Lists ls) → (x : A) × (row ≡ Ok x) × (lines x ≡ ls)
listed lines (Ok x) ls is = (x, refl, cc)
listed lines (Err why) ls is = absurd cc

pub listing_changes_nothing : {A E P : Type 0} (lines : A → List Listed) (row : Result A E)
    (p : P) (ls : List Listed) → listing lines row ≡ Ok (Changes p ls) → ⊥
listing_changes_nothing lines (Ok x) p ls is = absurd cc
listing_changes_nothing lines (Err why) p ls is = absurd cc

-- a table that changes has the part of what passed, and doesn't list
pub changed : {A E P : Type 0} (part : A → P) (lines : A → List Line) (row : Result A E) (p : P)
    (ls : List Listed) → changing part lines row ≡ Ok (Changes p ls)
    → (x : A) × (row ≡ Ok x) × (part x ≡ p)
changed part lines (Ok x) p ls is = (x, refl, cc)
changed part lines (Err why) p ls is = absurd cc
