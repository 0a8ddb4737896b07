-- The count of calls of a source or a sink, and the count of its faults.
use Rattle.std.specs.Prelude.{◌≡◌, ℕ, ◌+◌, ◌-◌, ◌^◌, min, List, Option, Contains, Result, MatchResult}
use Rattle.std.specs.Io.KnownBytes.{Keeps}

-- one more, and at most 2^64 - 1
abbrev pub one_call_more : ℕ → ℕ
one_call_more n = min (n + 1) (2 ^ 64 - 1)

-- a call that succeeds leaves the count of faults, and one that fails is counted once
abbrev pub CountsFaults : {A E : Type 0} → ℕ → ℕ → Result A E → Type 0
CountsFaults before now result = MatchResult result (λ _. now ≡ before) (λ _. now ≡ one_call_more before)

-- one call failed, no call failed before it, no call came after it, and from it on no byte was moved. `told` is what is
-- left in a source, or what was written to a sink. `failing` is a source or a sink of which this holds: that it is the
-- one that the failing call found rests on the caller, which is generic in it
pub record LastFails {D : Type 0} (told : D → Option (List ℕ)) (faults calls : D → ℕ) (before now : D) : Type 0 where
  pub failing : D
  pub none_before : faults failing ≡ faults before
  pub once : faults now ≡ one_call_more (faults failing)
  pub last : calls now ≡ one_call_more (calls failing)
  pub none_after : Keeps (told failing) (told now)

-- the calls that are to fail, by their numbers from 1, how many were made, and how many failed
pub record FaultTally : Type 0 where
  pub fails : List ℕ
  pub made : ℕ
  pub failed : ℕ

-- the next call is one of those that are to fail
abbrev pub FailsNext : FaultTally → Type 0
FailsNext tally = Contains tally.fails (one_call_more tally.made)

-- one more call was made
abbrev pub after_call : FaultTally → FaultTally
after_call tally = record tally { made = one_call_more tally.made }

-- one more call was made, and it failed
abbrev pub after_fault : FaultTally → FaultTally
after_fault tally = record tally { made = one_call_more tally.made; failed = one_call_more tally.failed }
