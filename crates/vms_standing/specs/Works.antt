-- A closure that makes jobs.
use Rattle.std.specs.Fn.{Shared}

-- it may be called with each job that may be made, and what it returns then answers the job
pub record Makes {J D F : Type 0} (asks : J → Type 0) (answers : J → D → Type 0) (g : Shared F (J × Unit {0}) D) (f : F)
    : Type 0 where
  pub callable : (job : J) → asks job → g.pre f (job, tt)
  pub makes : (job : J) (done : D) → asks job → g.post f (job, tt) done → answers job done
