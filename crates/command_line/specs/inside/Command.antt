-- inside this crate: the command as `clap` sees it, and what it gives. No definition above rests on it.
use Rattle.std.specs.Prelude.{List, ◌≡◌, Some, true, codes, fold, option_to_list}
use Rattle.clap.specs.Words.{App, Rule, first_value, found_of, new_app, new_rule, with_rule}
use Rattle.clap.specs.Simple.{on_top}
use Rattle.clap.specs.declared.parser.matches.ArgMatches.{ArgMatches}
use Rattle.command_line.specs.declared.option_name.OptionName.{OptionName}
use Rattle.command_line.specs.declared.option_name.TheConstants.{OPTIONS}
use Rattle.command_line.specs.OptionNames.{Text, name_of}
use Rattle.command_line.specs.Requests.{values_of}
use Rattle.command_line.specs.Spelling.{Given}

-- an option that takes one text
abbrev pub rule_of_option : OptionName → Rule
rule_of_option name = record (new_rule (name_of name)) { long = Some (name_of name) }

-- the command without its options: no word is the program's name
abbrev pub command_without_options : App
command_without_options = on_top (λ top. record top { no_binary_name = true }) (new_app (codes "critarea"))

-- the command with these options
abbrev pub with_options : List OptionName → App
with_options = fold (λ app name. with_rule app (rule_of_option name)) command_without_options

-- the command with all options and a positional word
abbrev pub whole_command : App
whole_command = with_rule (with_options OPTIONS) (new_rule (codes "layout"))

-- the values of an option in the matches: one or none
abbrev pub values_found : ArgMatches → OptionName → List Text
values_found matches name = option_to_list (first_value (found_of matches) (name_of name))

-- the positional word in the matches, if there is one
abbrev pub positions_found : ArgMatches → List Text
positions_found matches = option_to_list (first_value (found_of matches) (codes "layout"))

-- the matches have what is given
pub record HasWhatIsGiven (given : Given) (matches : ArgMatches) : Type 0 where
  pub values : (name : OptionName) → values_found matches name ≡ values_of given.options name
  pub positions : positions_found matches ≡ given.positions
