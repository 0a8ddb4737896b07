-- How words show the state of the page counters.
use Rattle.std.specs.Prelude.{ℕ, suc, ◌+◌, ◌*◌, ◌^◌, ℤ, List, [], map, Option, Some, None}
use Rattle.std.specs.List.{range_with_len}
use Rattle.vms_calls.specs.Common.{CpuState, Online, Dead, Absent, word_of, State, Facts, value_at, system_at, diff_at}
use Rattle.vms_calls.specs.Common.{threshold_at, threshold_sets_at, mark_at, mark_sets_at, cpu_at, acknowledged_at}
use Rattle.vms_base.specs.Groups.{word_of_bytes}
use Rattle.vms_words.specs.declared.spots.Spot.{Spot}
use Rattle.vms_words.specs.declared.spots.Spot.TheVariants.{Value, System, Group, Threshold, Mark, Cpu, Acknowledgement}
use Rattle.vms_words.specs.declared.spots.Blocks.{Blocks}
use Rattle.vms_words.specs.Spots.{blocks_of, spot_in}

-- the eight differentials of a CPU in group j
abbrev pub group_at : State → ℕ → ℕ → List ℤ
group_at s c j = map (λ n. diff_at s c (8 * j + n)) (range_with_len 0 8)

-- a threshold or a mark shares its word with the number of its sets. Nothing is cut off, so what fits a word bounds
-- the number
abbrev pub threshold_word : ℕ → ℕ → ℕ
threshold_word t number = t + 2 ^ 32 * number

abbrev pub packed_mark : ℕ → ℕ → ℕ
packed_mark m number = m + 2 ^ 43 * number

-- whether a CPU is online, dead or absent
abbrev pub cpu_word : CpuState → ℕ
cpu_word Online = 0
cpu_word Dead = 1
cpu_word Absent = 2

-- 0 where nothing is acknowledged, and else the number's successor
abbrev pub acknowledgement_word : Option ℕ → ℕ
acknowledgement_word None = 0
acknowledgement_word (Some number) = suc number

-- the word that shows one number of a state
abbrev pub spot_word : State → Spot → ℕ
spot_word s (Value k) = word_of (value_at s k.number)
spot_word s (System i) = word_of (system_at s i.number)
spot_word s (Group c j) = word_of_bytes (group_at s c.number j.number)
spot_word s (Threshold c g) =
    threshold_word (threshold_at s c.number g.number) (threshold_sets_at s c.number g.number)
spot_word s (Mark g) = packed_mark (mark_at s g.number) (mark_sets_at s g.number)
spot_word s (Cpu c) = cpu_word (cpu_at s c.number)
spot_word s (Acknowledgement c g) = acknowledgement_word (acknowledged_at s c.number g.number)

-- the word that shows one number of a state, or 0 between rows
abbrev pub word_by : State → Option Spot → ℕ
word_by s None = 0
word_by s (Some spot) = spot_word s spot

-- the first words that show a state
abbrev pub first_words : State → Blocks → ℕ → List ℕ
first_words s b count = map (λ n. word_by s (spot_in b n)) (range_with_len 0 count)

-- the words that show a state
unfoldable pub shown : Facts → State → List ℕ
shown facts s = first_words s (blocks_of facts.layout) (blocks_of facts.layout).end

-- facts of no table
abbrev pub no_facts : Facts
no_facts = record {
  layout = record { zones = []; nodes = []; cpus = 0; positions = 0 };
  sizes = [];
  base = record {
    place = [];
    system = [];
    diff = [];
    threshold = [];
    mark = [];
    cpu = [];
    acknowledged = [];
    threshold_sets = [];
    mark_sets = [];
  };
}
