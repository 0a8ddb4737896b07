-- What the parts of a look found while others act.
use Rattle.std.specs.Prelude.{◌≡◌, ℕ, Bool, not, ℤ, pos, List, ◌∷◌}
use Rattle.vms_calls.specs.Common.{CounterId, CpuId, PlaceId, Shape, group_of, Frees, Look, free_pages, is_doubtful}
use Rattle.vms_calls.specs.Common.{look_steps, online, other, MarkRead, Facts, Step, LoadG, LoadM, entry, pages}
use Rattle.vms_seats.specs.Common.{Pass, Made}

-- the differential for counter k that a look found: 0 where the CPU is not online
abbrev pub found_at : ℕ → Look → ℤ
found_at k (online w) = entry w.values k
found_at k (other x differs) = pos 0

-- the pass looked at a CPU, whose differential for a counter it found so
pub record HasLooked (new old : Pass Facts Step) (k : CounterId) (c : CpuId) (found : ℤ) : Type 0 where
  pub look : Look
  pub tells : found ≡ found_at k.number look
  pub made : Made pages new old (look_steps (group_of k.number) c.number look)

-- the pass loaded a zone's drift mark before and after its free pages, and took a snapshot of them where there was
-- doubt
pub record HasFree (shape : Shape) (new old : Pass Facts Step) (g : PlaceId) (free : ℕ) (fast : Bool)
    : Type 0 where
  pub first : MarkRead
  pub value : ℤ
  pub second : MarkRead
  pub further : List Step
  pub frees : Frees shape (free_pages shape g) (is_doubtful first value second) value further free
  pub is_fast : fast ≡ not (is_doubtful first value second)
  pub made : Made pages new old (LoadM g first.mark first.number ∷ LoadG (free_pages shape g) value
      ∷ LoadM g second.mark second.number ∷ further)
