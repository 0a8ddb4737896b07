-- The histories that the lines of a story make.
use Rattle.std.specs.Prelude.{ℕ, nat_le, ℤ, pos, negsuc, List, ◌∷◌, map, replicate, reverse, take, if◌then◌else◌}
use Rattle.vms_calls.specs.Common.{AreBytes, AddG, AddS, CounterId, Diffs, Event, GroupId, History, Join, LoadA, LoadD}
use Rattle.vms_calls.specs.Common.{LoadG, LoadM, LoadO, LoadT, PlaceId, Put, SetA, SetM, SetO, SetT, Split, Step, Take}
use Rattle.vms_model_trials.specs.declared.stories.Act.{Act}
use Rattle.vms_model_trials.specs.declared.stories.Act.TheVariants as act
use Rattle.vms_model_trials.specs.declared.stories.Line.{Line}

abbrev pub free : CounterId
free = record { number = 0 }

abbrev pub zone : PlaceId
zone = record { number = 0 }

abbrev pub group : GroupId
group = record { number = 0 }

-- the list of a group that begins with z, and is 0 otherwise
abbrev pub first : ℤ → List ℤ
first z = z ∷ replicate 7 (pos 0)

-- a number that fits a signed byte, and 0 in place of any other
abbrev pub kept : ℤ → ℤ
kept (pos n) = if nat_le n 127 then pos n else pos 0
kept (negsuc n) = if nat_le n 127 then negsuc n else pos 0

-- these lists fit a word each
abbrev pub AreLists : Type 0
AreLists = (z : ℤ) → AreBytes (first (kept z))

abbrev pub list_of : AreLists → ℤ → Diffs
list_of lists z = record { values = first (kept z); bytes = lists z }

abbrev pub step_of : AreLists → Act → Step
step_of lists (act.Begin q who) = Split q who
step_of lists (act.End q) = Join q
step_of lists (act.LoadT t number) = LoadT zone t number
step_of lists (act.LoadD c z) = LoadD c group (list_of lists z)
step_of lists (act.Put z t delta how) = Put free (list_of lists z) t delta how
step_of lists (act.Take c j z) = Take c j (list_of lists z)
step_of lists (act.AddG k amount) = AddG k amount
step_of lists (act.AddS i amount) = AddS i amount
step_of lists (act.LoadG value) = LoadG free value
step_of lists (act.LoadM mark number) = LoadM zone mark number
step_of lists (act.LoadO c x) = LoadO c x
step_of lists (act.LoadA c number) = LoadA c zone number
step_of lists (act.SetT c t) = SetT c zone t
step_of lists (act.SetM mark) = SetM zone mark
step_of lists (act.SetO c) = SetO c
step_of lists (act.SetA number) = SetA zone number

abbrev pub event_of : AreLists → Line → Event Step
event_of lists line = record { caller = line.caller; step = step_of lists line.act }

-- the history that the first n lines of a story make
abbrev pub after_lines : AreLists → List Line → ℕ → History
after_lines lists story n = reverse (map (event_of lists) (take n story))
