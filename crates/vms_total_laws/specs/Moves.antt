-- By how much the counters of a world move.
use Rattle.std.specs.Prelude.{◌≡◌, ℕ, pos, ◌+ℤ◌, List}
use Rattle.vms_world.specs.Common.{Header, IsCounter, IsEvent, IsDeclared, changes_by, changes_by_all, Item}
use Rattle.vms_answers.specs.Common.{NumberedAnswer}
use Rattle.vms_report.specs.Common.{event_total, page_total, pcpu_total}
use Rattle.vms_world.specs.declared.worlds.World.{World}
use Rattle.vms_total_laws.specs.PlainSums.{adds_by, counts_by, counts_by_all}

-- from one world to another the total of each page counter grows by the deltas of these lines
abbrev pub PagesMoveBy : Header → List Item → World → World → Type 0
PagesMoveBy header items w next = (k : ℕ) → IsCounter header.layout k →
    page_total header next k ≡ page_total header w k +ℤ changes_by k items

-- the total of each event by the counts of these lines
abbrev pub EventsMoveBy : Header → List Item → World → World → Type 0
EventsMoveBy header items w next = (k : ℕ) → IsEvent k →
    event_total header next k ≡ event_total header w k +ℤ pos (counts_by k items)

-- the total of each percpu counter by what these lines add, by these answers
abbrev pub CountersMoveBy : Header → List NumberedAnswer → List Item → World → World → Type 0
CountersMoveBy header answers items w next = (j : ℕ) → IsDeclared header j →
    pcpu_total header next j ≡ pcpu_total header w j +ℤ adds_by j answers items

-- the same of the lines of several phases
abbrev pub PagesMoveByAll : Header → List (List Item) → World → World → Type 0
PagesMoveByAll header phases w next = (k : ℕ) → IsCounter header.layout k →
    page_total header next k ≡ page_total header w k +ℤ changes_by_all k phases

abbrev pub EventsMoveByAll : Header → List (List Item) → World → World → Type 0
EventsMoveByAll header phases w next = (k : ℕ) → IsEvent k →
    event_total header next k ≡ event_total header w k +ℤ pos (counts_by_all k phases)
