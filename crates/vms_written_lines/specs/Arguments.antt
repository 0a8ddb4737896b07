-- The words that stand for an argument of a step.
use Rattle.std.specs.Prelude.{ℕ, zero, suc, nat_lt, if◌then◌else◌, ℤ, List, [], ◌∷◌, codes, bytes_eq, Option, Some}
use Rattle.std.specs.Prelude.{None, option_map, option_and_then}
use Rattle.vms_history.specs.Common.{CounterId, CpuId, GroupId, ItemId, PlaceId, CpuState, Absent, Dead, Online, Mode}
use Rattle.vms_history.specs.Common.{Dec, Inc, Mod, Shape, counter_count, item_count, place_count, group_count}
use Rattle.vms_text.specs.Common.{signed_of, unsigned_of}
use Rattle.vms_written_lines.specs.Words.{first}

-- the number of one of so many things
abbrev pub number_below : ℕ → List ℕ → Option ℕ
number_below count word = option_and_then (λ n. if nat_lt n count then Some n else None) (unsigned_of word)

abbrev pub cpu_of : Shape → List ℕ → Option CpuId
cpu_of shape word = option_map (λ n. record { number = n }) (number_below shape.cpus word)

abbrev pub place_of : Shape → List ℕ → Option PlaceId
place_of shape word = option_map (λ n. record { number = n }) (number_below (place_count shape) word)

abbrev pub group_of : Shape → List ℕ → Option GroupId
group_of shape word = option_map (λ n. record { number = n }) (number_below (group_count shape) word)

abbrev pub counter_of : Shape → List ℕ → Option CounterId
counter_of shape word = option_map (λ n. record { number = n }) (number_below (counter_count shape) word)

abbrev pub item_of : Shape → List ℕ → Option ItemId
item_of shape word = option_map (λ n. record { number = n }) (number_below (item_count shape) word)

abbrev pub mode_of : List ℕ → Option Mode
mode_of word =
    if bytes_eq word (codes "0") then Some Mod
    else if bytes_eq word (codes "1") then Some Inc
    else if bytes_eq word (codes "-1") then Some Dec
    else None

abbrev pub cpu_state_of : List ℕ → Option CpuState
cpu_state_of word =
    if bytes_eq word (codes "0") then Some Online
    else if bytes_eq word (codes "1") then Some Dead
    else if bytes_eq word (codes "2") then Some Absent
    else None

-- `-`, or what is read otherwise
abbrev pub if_any : {A : Type 0} → (List ℕ → Option A) → List ℕ → Option (Option A)
if_any read word = if bytes_eq word (codes "-") then Some None else option_map (λ found. Some found) (read word)

-- so many signed numbers, and the words after them
abbrev pub entries : ℕ → List (List ℕ) → Option (List ℤ × List (List ℕ))
entries zero words = Some ([], words)
entries (suc n) words =
    option_and_then (λ found. option_map (λ more. (found.0 ∷ more.0, more.1)) (entries n found.1))
    (first signed_of words)

unfoldable pub eight : List (List ℕ) → Option (List ℤ × List (List ℕ))
eight words = entries 8 words
