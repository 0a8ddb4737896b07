-- How shared words show the percpu counters, in rows that stand apart.
use Rattle.std.specs.Prelude.{◌≡◌, ℕ, zero, suc, ◌+◌, ◌*◌, ◌<◌, ◌^◌, nat_eq, Bool, true, false, List, [], ◌++◌, ℤ}
use Rattle.std.specs.Prelude.{if◌then◌else◌, Option, refl}
use Rattle.vms_history.specs.Common.{CpuId, word_of, signed_of_word, Begins, Ends}
use Rattle.vms_pcpu_core.specs.declared.steps.PcpuFacts.{PcpuFacts}
use Rattle.vms_pcpu_core.specs.declared.steps.PcpuStep.{PcpuStep}
use Rattle.vms_pcpu_core.specs.declared.steps.PcpuStep.TheVariants.{LoadL, LoadC, Won, Missed, TakeL, Split, Join}
use Rattle.vms_pcpu_core.specs.Common.{IsBase, LockedState, counters_of, count_at, held_at, local_at, role, present}
use Rattle.vms_rows.specs.Common.{row_place, row_width}
use Rattle.vms_rows.specs.Rows.{rows_of}
use Rattle.vms_seats.specs.Common.{Shared}

-- a lock is 0 where it is free, and 1 where it is held
abbrev pub lock_word : Bool → ℕ
lock_word false = 0
lock_word true = 1

-- the words of a counter's row: its shared part, and then its lock
abbrev pub pair_word : ℤ → Bool → ℕ → ℕ
pair_word count held zero = word_of count
pair_word count held (suc k) = lock_word held

-- a row of two words for each counter, and then a row for each CPU, with its local part of each counter
unfoldable pub shown : PcpuFacts → LockedState → List ℕ
shown facts s =
    rows_of 2 (counters_of facts.base) (λ j k. pair_word (count_at s.numbers j) (held_at s j) k)
    ++ rows_of (counters_of facts.base) facts.layout.cpus (λ c j. word_of (local_at s.numbers c j))

-- where the shared part of a counter stands
abbrev pub count_place : ℕ → ℕ
count_place j = row_place 2 j 0

-- where the lock of a counter stands
abbrev pub lock_place : ℕ → ℕ
lock_place j = row_place 2 j 1

-- where the rows of CPUs begin, in a table of so many counters
abbrev pub locals_start : ℕ → ℕ
locals_start counters = counters * row_width 2

-- where the local part of a CPU stands
abbrev pub local_place : ℕ → ℕ → ℕ → ℕ
local_place counters c j = locals_start counters + row_place counters c j

-- how many words there are
abbrev pub word_count : PcpuFacts → ℕ
word_count facts = locals_start (counters_of facts.base) + facts.layout.cpus * row_width (counters_of facts.base)

-- a load and a take tell the number found, and who meant to win a lock misses it where it is held
abbrev pub told : PcpuStep → ℕ → PcpuStep
told (LoadL j c v) found = LoadL j c (signed_of_word found)
told (LoadC j v) found = LoadC j (signed_of_word found)
told (TakeL j c v) found = TakeL j c (signed_of_word found)
told (Won j) found = if nat_eq found 0 then Won j else Missed j
told step found = step

pub begins_it : (q : ℕ) (who : Option CpuId) → role (Split q who) ≡ Begins q who
begins_it q who = refl

pub ends_it : (q : ℕ) → role (Join q) ≡ Ends q
ends_it q = refl

-- the facts of no table
abbrev pub no_facts : PcpuFacts
no_facts = record {
  layout = record { zones = []; nodes = []; cpus = 0; positions = 0 };
  cpus = [];
  base = record { batch = []; count = []; local = [] };
}

-- the words were made for these facts, in which so many CPUs are online or dead
pub record AreMadeFor (facts : PcpuFacts) (present_cpus : ℕ) (words : Shared PcpuFacts) : Type 0 where
  pub base : IsBase facts
  pub same : words.facts ≡ facts
  pub count : words.table.words ≡ word_count facts
  pub fits : word_count facts < 2 ^ 64
  pub present_are : present_cpus ≡ present facts
