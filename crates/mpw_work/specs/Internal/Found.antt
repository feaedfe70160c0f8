-- What a search finds: first the keys of the markers, rule by rule, and then what each one touches.
use Rattle.std.specs.Prelude.{◌≡◌, ◌<◌, ◌++◌, ℕ, List, [], length, map, Contains, All, AllPairs, Some, slice_get, slice_index_or, ◌↔◌}
use Rattle.std.specs.Ordering.{nat_cmp, ordering_then}
use Rattle.std.specs.declared.cmp.Ordering.{Ordering}
use Rattle.std.specs.declared.cmp.Ordering.TheVariants.{Less}
use Rattle.mpw_geom.specs.declared.plane.Box2.{Box2}
use Rattle.mpw_deck.specs.declared.rule.Rule.{Rule}
use Rattle.mpw_edges.specs.declared.run.Piece.{Piece}
use Rattle.mpw_edges.specs.Pieces.{piece_cmp, box_of, ComesBefore as IsPieceBefore}
use Rattle.mpw_tiles.specs.declared.listing.Rectangle.{Rectangle}
use Rattle.mpw_markers.specs.declared.marker.Key.{Key}
use Rattle.mpw_markers.specs.declared.marker.Marker.{Marker}
use Rattle.mpw_markers.specs.Met.{IsAscending}
use Rattle.mpw_geom.specs.Meeting.{IsMet}
use Rattle.mpw_job.specs.Layers.{Coverage}
use Rattle.mpw_tiles.specs.Listing.{HasListed}
use Rattle.mpw_job.specs.Answers.{TileJob, listed_on, IsFoundIn, key_at, TellsMet}

abbrev pub key_of : Marker → Key
key_of m = m.key

abbrev pub met_of : Marker → List ℕ
met_of m = m.met

abbrev pub key_box : Key → Box2
key_box k = box_of k.piece

-- The rule's runs in the core were added to the keys, in order.
pub record AddsRule (core : Box2) (on : Coverage) (place : ℕ) (rule : Rule) (old new : List Key) :
    Type 0 where
  pub runs : List Piece
  pub exact : (p : Piece) → Contains runs p ↔ IsFoundIn core on rule p
  pub ordered : AllPairs IsPieceBefore runs
  pub is : new ≡ old ++ map (key_at place) runs

-- A maximal run of the rule at the key's index.
pub record IsKey (job : TileJob) (k : Key) : Type 0 where
  pub rule : Rule
  pub at : slice_get job.rules k.rule ≡ Some rule
  pub run : IsFoundIn job.core (listed_on job.window) rule k.piece

-- Keys by the rule's index, then as their runs.
abbrev pub key_cmp : Key → Key → Ordering
key_cmp k l = ordering_then (nat_cmp k.rule l.rule) (piece_cmp k.piece l.piece)

abbrev pub IsKeyBefore : Key → Key → Type 0
IsKeyBefore k l = key_cmp k l ≡ Less

-- The keys are those of the first n rules' maximal runs within the core, in order.
pub record AreFirstKeys (job : TileJob) (n : ℕ) (keys : List Key) : Type 0 where
  pub sound : (k : Key) → Contains keys k → (k.rule < n) × IsKey job k
  pub complete : (place : ℕ) (rule : Rule) (p : Piece) → place < n
      → slice_get job.rules place ≡ Some rule
      → IsFoundIn job.core (listed_on job.window) rule p → Contains keys (key_at place p)
  pub ordered : AllPairs IsKeyBefore keys

abbrev pub AreKeys : TileJob → List Key → Type 0
AreKeys job keys = AreFirstKeys job (length job.rules) keys

-- For each key the origins that its closed box touches.
pub record TellMet (listed : List Rectangle) (keys : List Key) (mets : List (List ℕ)) : Type 0 where
  pub count : length mets ≡ length keys
  pub ascending : All IsAscending mets
  pub met : (k origin : ℕ) (d : Key) → k < length keys
      → Contains (slice_index_or mets k []) origin
      ↔ IsMet (HasListed listed) (key_box (slice_index_or keys k d)) origin

-- The key's closed box touches some origin.
abbrev pub MeetsSome : List Rectangle → Key → Type 0
MeetsSome listed k = (origin : ℕ) × IsMet (HasListed listed) (key_box k) origin

-- The markers are those of the keys, each with what it touches.
pub record AreMarkersOfKeys (listed : List Rectangle) (keys : List Key) (markers : List Marker) :
    Type 0 where
  pub keys_are : map key_of markers ≡ keys
  pub met : All (TellsMet listed) markers
