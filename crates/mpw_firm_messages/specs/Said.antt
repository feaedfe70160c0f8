-- What a fault prints on the standard error.
use Rattle.std.specs.Prelude.{ℕ, List, ◌++◌, codes}
use Rattle.std.specs.String.{string_bytes}
use Rattle.mpw_firm_messages.specs.declared.fault.FirmFault.{FirmFault}
use Rattle.mpw_firm_messages.specs.declared.fault.FirmFault.TheVariants.{Usage, Device, Refused, Memory}

-- The text of a command line's fault as it is, and every other after `error: `, without the line's end.
unfoldable pub said : FirmFault → List ℕ
said (Usage text) = string_bytes text
said (Device text) = codes "error: " ++ string_bytes text
said (Refused text) = codes "error: " ++ string_bytes text
said Memory =
    codes "error: out of memory: --summary and --limit hold fewer markers, and --tiles a share of "
    ++ codes "them; or take a larger machine"
