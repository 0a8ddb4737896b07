-- The text that is made from three numbers.
use Rattle.std.specs.Prelude.{ℕ, zero, suc, ◌+◌, ◌*◌, ◌/◌, ◌%◌, ◌^◌, ◌≤◌, ◌==◌, nat_lt, if◌then◌else◌, pos, ◌-ℤ◌, List}
use Rattle.std.specs.Prelude.{[], ◌∷◌, ◌++◌, codes, decimal, flat_map, map}
use Rattle.std.specs.Fmt.{signed_decimal}
use Rattle.vms_base.specs.Common.{zone_items}
use Rattle.vms_text.specs.Common.{entry_if_any, sentence}

-- 1 to 64 CPUs
pub record IsCpuCount (cpus : ℕ) : Type 0 where
  pub least : 1 ≤ cpus
  pub most : cpus ≤ 64

-- the state that follows a state
abbrev pub next_state : ℕ → ℕ
next_state x = (x * 6364136223846793005 + 1442695040888963407) % 2 ^ 64

-- so many states: the one that follows this state, and each time the one that follows it
abbrev pub states_after : ℕ → ℕ → List ℕ
states_after zero x = []
states_after (suc n) x = next_state x ∷ states_after n (next_state x)

-- the lines above the body
abbrev pub header_lines : ℕ → List (List (List ℕ))
header_lines cpus =
    (codes "vmtrace" ∷ codes "1" ∷ [])
    ∷ (codes "cpus" ∷ decimal cpus ∷ [])
    ∷ (codes "zone" ∷ codes "0" ∷ codes "Normal" ∷ codes "262144" ∷ codes "100" ∷ codes "125" ∷ codes "150" ∷ [])
    ∷ (codes "base" ∷ codes "0" ∷ codes "Normal" ∷ codes "nr_free_pages" ∷ codes "1000000" ∷ [])
    ∷ (codes "counter" ∷ codes "files" ∷ codes "32" ∷ [])
    ∷ (codes "go" ∷ [])
    ∷ []

-- the word of a CPU's lane
abbrev pub cpu_lane_word : ℕ → List ℕ
cpu_lane_word cpu = 99 ∷ decimal cpu

-- the word of an amount: the remainder of a number by a width, less a half of it
abbrev pub amount_word : ℕ → ℕ → ℕ → List ℕ
amount_word n width half = signed_decimal (pos (n % width) -ℤ pos half)

-- the words of a line: `kind` says which line it is, `cpu` whose lane it is in, and `rest` what it names
abbrev pub made_line_words : ℕ → ℕ → ℕ → ℕ → List (List ℕ)
made_line_words cpus kind cpu rest =
    if nat_lt kind 8
    then cpu_lane_word cpu ∷ codes "mod" ∷ codes "0" ∷ codes "Normal"
    ∷ entry_if_any zone_items (rest % 8) ++ amount_word (rest / 8) 65 32 ∷ []
    else if nat_lt kind 10
    then cpu_lane_word cpu ∷ codes "inc" ∷ codes "0" ∷ codes "Normal" ∷ codes "nr_free_pages" ∷ []
    else if kind == 10
    then cpu_lane_word cpu ∷ codes "dec" ∷ codes "0" ∷ codes "node" ∷ codes "nr_dirty" ∷ []
    else if kind == 11
    then cpu_lane_word cpu ∷ codes "ev" ∷ codes "pgfault" ∷ decimal (rest % 4) ∷ []
    else if kind == 12
    then cpu_lane_word cpu ∷ codes "cnt" ∷ codes "files" ∷ amount_word rest 129 64 ∷ []
    else if kind == 13
    then cpu_lane_word cpu ∷ codes "fold" ∷ decimal (rest % cpus) ∷ []
    else if kind == 14
    then codes "k" ∷ (if rest % 2 == 0 then codes "pressure" else codes "normal") ∷ codes "0" ∷ []
    else if rest % 64 == 0
    then codes "sync" ∷ []
    else cpu_lane_word cpu ∷ codes "mod" ∷ codes "0" ∷ codes "node" ∷ codes "nr_file_pages"
    ∷ amount_word rest 65 32 ∷ []

-- the words of a number that was drawn: its last four bits are the kind, and the CPU and the rest stand above them
abbrev pub drawn_words : ℕ → ℕ → List (List ℕ)
drawn_words cpus r = made_line_words cpus (r % 16) ((r / 16) % cpus) (r / 1024)

-- the words of the line of a state, of which the upper 31 bits are drawn
abbrev pub line_at : ℕ → ℕ → List (List ℕ)
line_at cpus x = drawn_words cpus (x / 2 ^ 33)

-- the line below the body
abbrev pub last_line : List (List ℕ)
last_line = codes "report" ∷ codes "totals" ∷ []

-- the lines that follow a state: one for each state after it, and then the last one
abbrev pub lines_after : ℕ → ℕ → ℕ → List (List (List ℕ))
lines_after cpus lines x = map (line_at cpus) (states_after lines x) ++ last_line ∷ []

-- the whole text: six lines of a header, those of the states that follow the seed, and the last one
abbrev pub made_text : ℕ → ℕ → ℕ → List ℕ
made_text seed cpus lines = flat_map sentence (header_lines cpus ++ lines_after cpus lines seed)
