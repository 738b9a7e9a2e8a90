-- the commands of the program, each as what clap makes of it: which words they take is clap's meaning of a simple
-- command
use Rattle.std.specs.Prelude.{ℕ, true, [], ◌∷◌, Option, Some, None, pos, codes, if◌then◌else◌}
use Rattle.std.specs.Str.{bytes_eq}
use Rattle.clap.specs.Words.{App, Rule, Text, new_app, new_rule, with_rule}
use Rattle.clap.specs.Simple.{on_top}
use Rattle.clap.specs.declared.builder.ArgAction.TheVariants.{Set, SetTrue}
use Rattle.clap.specs.declared.builder.ValueParser.TheVariants as value_parser

-- a text that has to be there
abbrev pub text_rule : Text → Rule
text_rule id = record (new_rule id) { required = true; action = Some Set }

-- a number of 32 bits that has to be there
abbrev pub number_rule : Text → Rule
number_rule id = record (new_rule id) {
  required = true;
  action = Some Set;
  parser = Some (value_parser.Signed (pos 0) (pos 4294967295));
}

-- a long option with one number from low to high, and what it is where it is not given
abbrev pub option_rule : Text → Text → ℕ → ℕ → Rule
option_rule id default low high = record (new_rule id) {
  long = Some id;
  action = Some Set;
  defaults = default ∷ [];
  parser = Some (value_parser.Signed (pos low) (pos high));
}

-- a long option that has no value
abbrev pub flag_rule : Text → Rule
flag_rule id = record (new_rule id) { long = Some id; action = Some SetTrue }

-- how many reducers a call may ask for
abbrev pub most_reducers : ℕ
most_reducers = 8

-- the option that asks for them, and how many there are where it is not given
abbrev pub reducers_rule : Rule
reducers_rule = option_rule (codes "reducers") (codes "1") 0 most_reducers

-- a command that reads its words from the first one on, and has no help option
abbrev pub bare_app : Text → App
bare_app name = on_top (λ s. record s { no_binary_name = true; disable_help_flag = true }) (new_app name)

-- `solve CNF LOG`, with options
abbrev pub solve_app : App
solve_app =
    with_rule (with_rule (with_rule (with_rule (with_rule (with_rule (with_rule (bare_app (codes "solve"))
    (text_rule (codes "cnf"))) (text_rule (codes "log")))
    reducers_rule)
    (option_rule (codes "conflicts") (codes "1000000") 1 4000000))
    (option_rule (codes "capacity") (codes "1000") 1 100000))
    (option_rule (codes "offer") (codes "1000000") 2 1000000))
    (flag_rule (codes "keep-all"))

-- `check CNF LOG`
abbrev pub check_app : App
check_app = with_rule (with_rule (bare_app (codes "check")) (text_rule (codes "cnf"))) (text_rule (codes "log"))

-- `large KIND N`
abbrev pub large_app : App
large_app = with_rule (with_rule (bare_app (codes "large")) (text_rule (codes "kind"))) (number_rule (codes "n"))

-- the command of this name
abbrev pub app_named : Text → Option App
app_named word =
    if bytes_eq word (codes "solve") then Some solve_app
    else (if bytes_eq word (codes "check") then Some check_app
    else (if bytes_eq word (codes "large") then Some large_app else None))
