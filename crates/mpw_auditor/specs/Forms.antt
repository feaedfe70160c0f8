-- The command line `mpw trail ..` or `mpw store ..`, as a simple command of `clap`.
use Rattle.std.specs.Prelude.{◌≡◌, codes, Some, false, true}
use Rattle.clap.specs.declared.builder.action.ArgAction.TheVariants.{Set}
use Rattle.clap.specs.declared.builder.arg.Arg.{Arg}
use Rattle.clap.specs.declared.builder.command.Command.{Command}
use Rattle.clap.specs.declared.builder.command.Command.TheViews.{out-Command as fields_of}
use Rattle.clap.specs.Words.{App, Rule, Text, app_of, new_app, new_rule, rule_of, with_rule, with_subcommand}

-- a word that has to be given
abbrev pub word_rule : Text → Rule
word_rule name = record (new_rule name) { value_names = 1; action = Some Set; required = true }

-- the option `--payload`, with one value
abbrev pub payload_rule : Rule
payload_rule = record (new_rule (codes "payload")) {
  long = Some (codes "payload");
  value_names = 1;
  action = Some Set;
}

-- the argument is that one, of its subcommand alone
abbrev pub IsArgument : Rule → Arg → Type 0
IsArgument rule arg = (rule_of arg ≡ rule) × (arg.global ≡ false)

-- ---- subcommands

abbrev pub trail_app : App
trail_app = with_rule (with_rule (new_app (codes "trail")) (word_rule (codes "file"))) payload_rule

abbrev pub store_app : App
store_app = with_rule (with_rule (new_app (codes "store")) (word_rule (codes "task")))
    (word_rule (codes "file"))

-- the subcommand has that form, and no argument that another shares
abbrev pub HasForm : App → Command → Type 0
HasForm app command = (app_of command ≡ app) × ((fields_of command).has_globals ≡ false)

-- ---- the command line

abbrev pub top_app : App
top_app = let new = new_app (codes "mpw") in
    record new { top = record new.top { subcommand_required = true } }

-- the command line's form
unfoldable pub program_app : App
program_app = with_subcommand (with_subcommand top_app trail_app.top) store_app.top
