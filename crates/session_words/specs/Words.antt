-- Which words the program takes, and what they ask for, by clap's own definitions.
use Rattle.std.specs.Prelude.{◌≡◌, ℕ, List, [], ◌∷◌, Some, codes}
use Rattle.clap.specs.Words.{App, Rule, fault_of, matches_of, new_app, new_rule, one_of, with_rule}
use Rattle.clap.specs.declared.builder.action.ArgAction.TheVariants.{SetTrue}

-- the flag `--serial`
abbrev pub serial_flag : Rule
serial_flag =
    record (new_rule (codes "serial")) { long = Some (codes "serial"); action = Some SetTrue }

-- the program `session_script [--serial]`
abbrev pub the_app : App
the_app = with_rule (new_app (codes "session_script")) serial_flag

-- the words with the program's name in front, as clap takes them
abbrev pub with_name : List (List ℕ) → List (List ℕ)
with_name words = codes "session_script" ∷ words

-- the program takes the words: clap finds no fault in them
unfoldable pub AreReadable : List (List ℕ) → Type 0
AreReadable words = fault_of the_app (with_name words) ≡ []

-- the words, where the program takes them, ask for a run by one thread: clap's matches have `true`
-- for the flag
unfoldable pub AreSerial : List (List ℕ) → Type 0
AreSerial words =
    one_of (codes "serial") (matches_of the_app (with_name words)) ≡ Some (codes "true")
