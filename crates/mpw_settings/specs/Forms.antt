-- The command line `mpw script ..` or `mpw serve ..`, as a simple command of `clap`.
use Rattle.std.specs.Prelude.{◌≡◌, [], ◌∷◌, codes, Some, false, true}
use Rattle.clap.specs.declared.builder.action.ArgAction.TheVariants.{Set, SetTrue}
use Rattle.clap.specs.declared.builder.arg.Arg.{Arg}
use Rattle.clap.specs.declared.builder.command.Command.{Command}
use Rattle.clap.specs.declared.builder.command.Command.TheViews.{out-Command as fields_of}
use Rattle.clap.specs.Words.{App, Rule, Text, app_of, new_app, new_rule, rule_of, with_rule, with_subcommand}

-- ---- options

-- an option that may be given, with one value
abbrev pub free_option : Text → Rule
free_option name = record (new_rule name) { long = Some name; value_names = 1; action = Some Set }

-- an option that has to be given, with one value
abbrev pub required_option : Text → Rule
required_option name = record (free_option name) { required = true }

-- an option without a value
abbrev pub flag : Text → Rule
flag name = record (new_rule name) { long = Some name; action = Some SetTrue }

-- the option `--idle`, with its default
abbrev pub idle_option : Rule
idle_option = record (free_option (codes "idle")) { defaults = codes "3600" ∷ [] }

-- the argument is that option, of its subcommand alone
abbrev pub IsOption : Rule → Arg → Type 0
IsOption rule arg = (rule_of arg ≡ rule) × (arg.global ≡ false)

-- ---- subcommands

-- a subcommand with the options of an officer
abbrev pub with_officer : App → App
with_officer app = with_rule (with_rule app (required_option (codes "officer")))
    (required_option (codes "digest"))

-- a subcommand with the options of a store
abbrev pub with_store : App → App
with_store app = with_rule
    (with_rule
    (with_rule (with_rule app (free_option (codes "store"))) (flag (codes "existing")))
    (flag (codes "new"))) (flag (codes "private"))

abbrev pub script_app : App
script_app = with_store (with_officer (new_app (codes "script")))

-- a subcommand with the options that a service has to be given
abbrev pub with_required : App → App
with_required app = with_officer
    (with_rule
    (with_rule (with_rule app (required_option (codes "listen")))
    (required_option (codes "connections"))) (required_option (codes "workers")))

-- a subcommand with the options that a service may be given, but for those of strangers and of a store
abbrev pub with_further : App → App
with_further app = with_rule
    (with_rule (with_rule (with_rule app (flag (codes "ongoing"))) idle_option)
    (free_option (codes "log"))) (flag (codes "hold-run"))

-- a subcommand with the options of what strangers may use
abbrev pub with_strangers : App → App
with_strangers app = with_rule
    (with_rule (with_rule app (free_option (codes "stranger-memory")))
    (free_option (codes "stranger-rate"))) (free_option (codes "login-limit"))

abbrev pub serve_app : App
serve_app =
    with_store (with_strangers (with_further (with_required (new_app (codes "serve")))))

-- the subcommand has that form, and no option that another shares
abbrev pub HasForm : App → Command → Type 0
HasForm app command = (app_of command ≡ app) × ((fields_of command).has_globals ≡ false)

-- ---- the command line

abbrev pub top_app : App
top_app = let new = new_app (codes "mpw") in
    record new { top = record new.top { subcommand_required = true } }

-- the command line's form
unfoldable pub program_app : App
program_app = with_subcommand (with_subcommand top_app script_app.top) serve_app.top
