-- How the answer of a line is printed.
use Rattle.std.specs.Prelude.{ℕ, Bool, if◌then◌else◌, List, [], ◌∷◌, ◌++◌, flat_map, codes, decimal, option_to_list}
use Rattle.std.specs.Fmt.{signed_decimal}
use Rattle.vms_world.specs.Common.{Header, PlaceId, kind_names, zone_at, zone_index, Yes, No, entry_if_any, sentence}
use Rattle.vms_answers.specs.declared.answers.Answer.{Answer}
use Rattle.vms_answers.specs.declared.answers.Answer.TheVariants.{Tested, Value, Snapshot, System, Events, Count, Total}
use Rattle.vms_answers.specs.declared.answers.Answer.TheVariants.{Compared, Limited, Balanced}

abbrev pub yes_or_no : Bool → List ℕ
yes_or_no test = if test then codes "yes" else codes "no"

-- the free pages that a test rests on, and whether they are a snapshot
abbrev pub free_words : ℕ → Bool → List (List ℕ)
free_words free fast = codes "free" ∷ decimal free ∷ (if fast then codes "fast" else codes "snapshot") ∷ []

-- the word of a zone's kind
abbrev pub kind_word : Header → PlaceId → List (List ℕ)
kind_word header zone =
    flat_map (λ name. entry_if_any kind_names (zone_index name.kind))
    (option_to_list (zone_at header.layout zone.number))

-- the words of an answer: pages and events are counted, and an order is 1, 0 or -1
abbrev pub answer_words : Header → Answer → List (List ℕ)
answer_words header (Tested verdict) = yes_or_no verdict.yes ∷ free_words verdict.free verdict.fast
answer_words header (Value pages) = codes "value" ∷ decimal pages ∷ []
answer_words header (Snapshot pages) = codes "snapshot" ∷ decimal pages ∷ []
answer_words header (System pages) = codes "system" ∷ decimal pages ∷ []
answer_words header (Events sum) = codes "events" ∷ decimal sum ∷ []
answer_words header (Count count) = codes "count" ∷ signed_decimal count ∷ []
answer_words header (Total sum) = codes "sum" ∷ signed_decimal sum ∷ []
answer_words header (Compared answer) = codes "compare" ∷ signed_decimal answer.sign
    ∷ (if answer.rough then codes "rough" else codes "sum") ∷ []
answer_words header (Limited made) = codes "limited" ∷ yes_or_no made ∷ []
answer_words header (Balanced (Yes zone verdict)) =
    codes "balanced" ∷ kind_word header zone ++ free_words verdict.free verdict.fast
answer_words header (Balanced No) = codes "unbalanced" ∷ []

-- `line N: ` and the words
abbrev pub answer_line : Header → ℕ → Answer → List ℕ
answer_line header n answer = codes "line " ++ decimal n ++ codes ": " ++ sentence (answer_words header answer)
