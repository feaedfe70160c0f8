-- One more pass among those that were taken back.
use Rattle.std.proofs.Common.{◌≡◌, ◌++◌, ℕ, List, [], refl, sym}
use Rattle.std.specs.List.{sum_by}
use Rattle.std.proofs.lemmas.List.Elements.{All-nil}
use Rattle.mpw_events.specs.declared.event.Call.{Call}
use Rattle.mpw_receipts.specs.Calls.{calls_of}
use Rattle.mpw_receipts.specs.Owner.{owner_of}
use Rattle.mpw_desk.specs.Finished.{AreReceipts}
use Rattle.mpw_desk.specs.Values.{PassView}

-- the passes at the end were taken back: they made that many calls, and their receipts are the calls of their
-- connections
pub record AreTaken (calls : List Call) (all left : List PassView) (count : ℕ) : Type 0 where
  pub taken : List PassView
  pub whole : all ≡ left ++ taken
  pub counted : sum_by (λ p. p.count) taken ≡ count
  pub receipts : AreReceipts calls taken

pub none_taken : (calls : List Call) (all : List PassView) → all ++ [] ≡ all
    → AreTaken calls all all 0
none_taken calls all is = record {
  taken = [];
  whole = sym is;
  counted = refl;
  receipts = All-nil (λ (p : PassView). p.receipts ≡ calls_of owner_of p.connection calls);
}
