-- What the values of a command line are taken as.
use Rattle.std.specs.Prelude.{◌≡◌, ◌≢◌, ◌^◌, ◌-◌, ℕ, Bool, List, [], codes, true, false, map, Option, None, Some, option_map}
use Rattle.std.specs.String.{string_bytes}
use Rattle.clap.specs.declared.parser.matches.Found.{Found}
use Rattle.clap.specs.Matches.{first_value, matched_of, one_text, raw_values}
use Rattle.mpw_firm_choices.specs.Layers.{layers_of}
use Rattle.mpw_geom.specs.declared.plane.Layer.{Layer}
use Rattle.mpw_firm_spread.specs.Ranges.{range_of}
use Rattle.mpw_text.specs.Text.{number_of}
use Rattle.mpw_firm_options.specs.declared.choices.Portion.{Portion}
use Rattle.mpw_firm_options.specs.declared.choices.Portion.TheVariants.{Whole, Columns}
use Rattle.mpw_firm_options.specs.declared.options.Options.{Options}
use Rattle.mpw_firm_options.specs.declared.picture_options.Wanted.{Wanted}
use Rattle.mpw_firm_options.specs.declared.stitch_options.StitchOptions.{StitchOptions}

abbrev pub picture_file : Option Wanted → Option (List ℕ)
picture_file wanted = option_map (λ (w : Wanted). string_bytes w.file) wanted

abbrev pub picture_key : Option Wanted → Option (List ℕ)
picture_key None = None
picture_key (Some wanted) = option_map string_bytes wanted.key

-- ---- what is checked of a layout

-- A flag is set if the words give it, and else not.
pub record IsFlag (found : Found) (name : List ℕ) (flag : Bool) : Type 0 where
  pub given : one_text found name ≡ Some (codes "true") → flag ≡ true
  pub other : one_text found name ≡ Some (codes "false") → flag ≡ false
  pub none : one_text found name ≡ None → flag ≡ false

-- A part has neither a report nor a picture, it is of the whole library, and it has all markers of its columns.
pub record IsAlone (found : Found) : Type 0 where
  pub report : first_value found (codes "report") ≡ None
  pub picture : first_value found (codes "picture") ≡ None
  pub tile : first_value found (codes "tile") ≡ None
  pub skip : first_value found (codes "skip-layers") ≡ None
  pub limit : first_value found (codes "limit") ≡ None
  pub unreached : one_text found (codes "skip-unreached") ≢ Some (codes "true")
  pub faultless : one_text found (codes "skip-faulty") ≢ Some (codes "true")
  pub faults : one_text found (codes "faults") ≢ Some (codes "true")
  pub summary : one_text found (codes "summary") ≢ Some (codes "true")

-- The layers that a word names are set aside; without one, none.
abbrev pub IsSkipped : Option (List ℕ) → List Layer → Type 0
IsSkipped None layers = layers ≡ []
IsSkipped (Some word) layers = layers_of word ≡ Some layers

-- The whole with what is chosen of it, or some columns.
abbrev pub IsPortion : Found → Portion → Type 0
IsPortion found (Whole choices) =
    (first_value found (codes "tiles") ≡ None)
    × (option_map (number_of 256 (2 ^ 30)) (first_value found (codes "tile"))
    ≡ option_map Some choices.tile)
    × IsSkipped (first_value found (codes "skip-layers")) choices.skip.items
    × (option_map (number_of 1 (2 ^ 32 - 1)) (first_value found (codes "limit"))
    ≡ option_map Some choices.limit)
    × IsFlag found (codes "faults") choices.faults
    × IsFlag found (codes "skip-unreached") choices.unreached
    × IsFlag found (codes "skip-faulty") choices.faultless
    × IsFlag found (codes "summary") choices.summary
IsPortion found (Columns range) =
    (option_map range_of (first_value found (codes "tiles")) ≡ Some (Some range)) × IsAlone found

-- ---- all of them

-- Those of a check.
pub record IsGiven (found : Found) (options : Options) : Type 0 where
  pub deck : first_value found (codes "deck") ≡ Some (string_bytes options.deck)
  pub top : first_value found (codes "top") ≡ options.top
  pub file : first_value found (codes "file") ≡ Some (string_bytes options.file)
  pub report : first_value found (codes "report") ≡ option_map string_bytes options.report
  pub picture : first_value found (codes "picture") ≡ picture_file options.picture
  pub key : first_value found (codes "marker") ≡ picture_key options.picture
  pub portion : IsPortion found options.portion
  pub strict : IsFlag found (codes "strict") options.strict

-- Those of parts that are stitched.
pub record IsGivenParts (found : Found) (options : StitchOptions) : Type 0 where
  pub files : option_map raw_values (matched_of found (codes "part"))
      ≡ Some (map string_bytes options.files.items)
  pub report : first_value found (codes "report") ≡ option_map string_bytes options.report
  pub limit : option_map (number_of 1 (2 ^ 32 - 1)) (first_value found (codes "limit"))
      ≡ option_map Some options.limit
