-- What the lines of each lane answered, in lists of which each stands in its lane's place.
use Rattle.std.specs.Prelude.{ℕ, suc, ◌<◌, List, [], drop, length, map, slice_index_or}
use Rattle.vms_answers.specs.PhaseAnswers.{NumberedAnswer}
use Rattle.vms_answers.specs.ToldAnswers.{answer_of_kept}
use Rattle.vms_answers.specs.declared.lane_answers.LaneAnswers.{LaneAnswers}
use Rattle.vms_world.specs.Common.{Lane, Cpu, Control}

-- the place of a lane: that of the control lane is the first, and those of the CPUs' lanes follow by their numbers
abbrev pub lane_place : Lane → ℕ
lane_place Control = 0
lane_place (Cpu c) = suc c.number

-- a lane has a place in the list
abbrev pub HasPlace : List LaneAnswers → Lane → Type 0
HasPlace lanes lane = lane_place lane < length lanes

-- the answers of one lane
abbrev pub told_in : LaneAnswers → List NumberedAnswer
told_in lane = map answer_of_kept lane.items.items

-- what the lines of each lane answered; a lane that has no place has no answers
abbrev pub told_by : List LaneAnswers → Lane → List NumberedAnswer
told_by lanes lane = slice_index_or (map told_in lanes) (lane_place lane) []

-- the answers of each lane that are left, where so many of each were taken, by place
abbrev pub left_of : List LaneAnswers → List ℕ → Lane → List NumberedAnswer
left_of lanes counts lane = drop (slice_index_or counts (lane_place lane) 0) (told_by lanes lane)
