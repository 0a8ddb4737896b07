-- What the command answers.
use Rattle.std.specs.Prelude.{◌≡◌, ℕ, List, [], ◌++◌}
use Rattle.vms_command.specs.Common.{following, shown_given}
use Rattle.vms_record.specs.Histories.{GoesOnWith}
use Rattle.vms_stream.specs.Common.{Reading, SaysPhased, waiting}
use Rattle.vms_stream.specs.declared.statuses.Status.{Status}
use Rattle.vms_stream.specs.declared.statuses.Status.TheVariants.{Done, Refused}
use Rattle.vms_trace_parts.specs.Common.{SaysCopied, TracePart, copying, shown_by_copy}

-- what was written after the copy of a trace that ended so: the history of its parts, where the copy came to the end of
-- the trace, and else nothing
abbrev pub FollowsCopy : List TracePart → Status → Status → List ℕ → Type 0
FollowsCopy parts Done status history = GoesOnWith parts Done status history
FollowsCopy parts Refused status history = GoesOnWith parts Refused status history
FollowsCopy parts ended status history = (status ≡ ended) × (history ≡ [])

-- what a status says of what was taken and written: a copy of the trace, by what it says from line to line and by the
-- text, and the history after it
pub record SaysRecord (status : Status) (taken written : List ℕ) (reading : Reading) : Type 0 where
  pub parts : List TracePart
  pub ended : Status
  pub copied : List ℕ
  pub history : List ℕ
  pub written_is : written ≡ copied ++ history
  pub line_by_line : SaysPhased (waiting (following copying)) (shown_given shown_by_copy) parts ended taken copied
      reading
  pub by_text : SaysCopied parts ended taken copied reading.at_end
  pub follows : FollowsCopy parts ended status history
