-- Which command words name.
use Rattle.std.specs.Prelude.{ℕ, List, [], ◌∷◌, codes, bytes_eq, if◌then◌else◌, Option, Some, None, option_map}
use Rattle.vms_gen.specs.Common.{InRange, numbers_named}
use Rattle.vms_tool.specs.declared.naming.Command.{Command}
use Rattle.vms_tool.specs.declared.naming.Command.TheVariants.{Check, Replay, Run, Gen, Groups, Record, Certify}

-- the command that the words name: their one word, or `gen` and three numbers
abbrev pub command_of : List (List ℕ) → Option Command
command_of (word ∷ []) =
    if bytes_eq word (codes "check") then Some Check
    else if bytes_eq word (codes "replay") then Some Replay
    else if bytes_eq word (codes "run") then Some Run
    else if bytes_eq word (codes "groups") then Some Groups
    else if bytes_eq word (codes "record") then Some Record
    else if bytes_eq word (codes "certify") then Some Certify
    else None
command_of words = option_map Gen (numbers_named words)

-- the numbers of a command are ones that a text may be made from
abbrev pub HasNumbers : Command → Type 0
HasNumbers (Gen numbers) = InRange numbers
HasNumbers _ = Unit {0}
