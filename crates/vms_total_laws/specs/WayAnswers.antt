-- What the lines of the phases on a way answer.
use Rattle.std.specs.Prelude.{ℕ, List, [], ◌∷◌}
use Rattle.vms_world.specs.Common.{Header, ZoneSize, Segment, Phase, Between, SegmentsLead, TableHistories}
use Rattle.vms_world.specs.declared.worlds.World.{World}
use Rattle.vms_answers.specs.Common.{NumberedAnswer, answers_of}

-- the answers of each phase on the way through these segments, from the world where it begins
abbrev pub answers_on : (header : Header) (pressure normal : ZoneSize → ℕ → ℕ → Type 0) (segments : List Segment)
    (hss : List TableHistories) (w last : World) → SegmentsLead header pressure normal segments hss w last
    → List (List NumberedAnswer)
answers_on header pressure normal [] hss w last through = []
answers_on header pressure normal (Phase items ∷ segments) [] w last through = []
answers_on header pressure normal (Phase items ∷ segments) (hs ∷ more) w last (next, is, through) =
    answers_of header w items hs ∷ answers_on header pressure normal segments more next last through
answers_on header pressure normal (Between number boundary ∷ segments) hss w last (next, may, crosses, through) =
    answers_on header pressure normal segments hss next last through
