-- What private functions and proofs need of this: a hasher that takes bytes.
use Rattle.std.specs.Prelude.{ℕ, List, ◌++◌}
use Rattle.sha2.specs.Hashers.{Holds256}
use Rattle.sha2.specs.declared.Sha256.{Sha256}

-- Whatever the hasher held, it holds that and these bytes after it.
abbrev pub Takes : Sha256 → Sha256 → List ℕ → Type 0
Takes old new bytes = (m : List ℕ) → Holds256 old m → Holds256 new (m ++ bytes)
