-- What a fault says.
use Rattle.std.specs.Prelude.{◌≡◌, ℕ, Bool, true, false, List, ◌++◌, codes, Option, None, Some}
use Rattle.std.specs.String.{string_bytes}
use Rattle.mpw_firm_messages.specs.declared.fault.FirmFault.{FirmFault}
use Rattle.mpw_firm_messages.specs.declared.fault.FirmFault.TheVariants.{Usage, Device, Refused, Memory}

-- ---- by its kind

-- A command line is wrong; or memory runs out.
abbrev pub IsMisuse : FirmFault → Type 0
IsMisuse (Usage told) = Unit {0}
IsMisuse (Device told) = ⊥
IsMisuse (Refused told) = ⊥
IsMisuse Memory = Unit {0}

-- ---- by its text

-- A library, a deck or parts are refused with that text; or memory runs out.
abbrev pub Refuses : List ℕ → FirmFault → Type 0
Refuses text (Refused told) = string_bytes told ≡ text
Refuses text (Usage told) = ⊥
Refuses text (Device told) = ⊥
Refuses text Memory = Unit {0}

-- The same, in which out of memory has no text of its own.
abbrev pub Tells : Option (List ℕ) → FirmFault → Type 0
Tells None fault = fault ≡ Memory
Tells (Some text) fault = Refuses text fault

-- A file or a device failed, with that text; or memory runs out.
abbrev pub Fails : List ℕ → FirmFault → Type 0
Fails text (Device told) = string_bytes told ≡ text
Fails text (Usage told) = ⊥
Fails text (Refused told) = ⊥
Fails text Memory = Unit {0}

-- A command line is wrong, with that text; or memory runs out.
abbrev pub Misuses : List ℕ → FirmFault → Type 0
Misuses text (Usage told) = string_bytes told ≡ text
Misuses text (Refused told) = ⊥
Misuses text (Device told) = ⊥
Misuses text Memory = Unit {0}

-- ---- of files and devices

-- What the system says of a file that it couldn't read, or write.
unfoldable pub unread_text : (file reason : List ℕ) → List ℕ
unread_text file reason = file ++ (codes ": can't be read: " ++ reason)

unfoldable pub unwritten_text : (file reason : List ℕ) → List ℕ
unwritten_text file reason = file ++ (codes ": can't be written: " ++ reason)

-- A library that is too great to be read.
unfoldable pub great_text : List ℕ → List ℕ
great_text file =
    file ++ codes ": more than 4294967295 bytes, or without an end: split the library"

abbrev pub CannotBeRead : List ℕ → FirmFault → Type 0
CannotBeRead file fault = (reason : List ℕ) × Fails (unread_text file reason) fault

abbrev pub CannotBeWritten : List ℕ → FirmFault → Type 0
CannotBeWritten file fault = (reason : List ℕ) × Fails (unwritten_text file reason) fault

-- Why an output wasn't written: no space is left, or else its device failed.
unfoldable pub space_text : List ℕ
space_text = codes "no space left: free some, or write to another disk"

unfoldable pub device_text : List ℕ
device_text = codes "its device failed"

abbrev pub reason_text : Bool → List ℕ
reason_text true = space_text
reason_text false = device_text

-- The same of the standard output.
unfoldable pub output_space_text : List ℕ
output_space_text = codes "the standard output can't be written: " ++ space_text

unfoldable pub output_device_text : List ℕ
output_device_text = codes "the standard output failed"

abbrev pub output_text : Bool → List ℕ
output_text true = output_space_text
output_text false = output_device_text

abbrev pub OutputFails : FirmFault → Type 0
OutputFails fault = (full : Bool) × Fails (output_text full) fault
