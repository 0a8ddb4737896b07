-- What the steps of each call answer, read from a list of steps that begins with them: a pair of the answer and the
-- steps after them. A call that answers nothing reads `tt`.
use Rattle.std.specs.Prelude.{ℕ, suc, zero, nat_lt, nat_eq, Bool, true, false, ℤ, pos, ◌+ℤ◌, ◌-ℤ◌, List, [], ◌∷◌}
use Rattle.std.specs.Prelude.{if◌then◌else◌, unsigned_abs}
use Rattle.vms_pcpu_core.specs.declared.answers.Compare.{Compare}
use Rattle.vms_pcpu_core.specs.declared.steps.PcpuStep.{PcpuStep}
use Rattle.vms_pcpu_core.specs.declared.steps.PcpuStep.TheVariants.{AddL, LoadL, LoadC, TakeL, Unlock}
use Rattle.vms_pcpu_core.specs.Calls.{sign_of}

-- a read answers what its load told
abbrev pub read_count : List PcpuStep → ℤ × List PcpuStep
read_count (LoadC j v ∷ rest) = (v, rest)
read_count rest = (pos 0, rest)

-- an addition ends with the addition to the local part, or with the unlock
abbrev pub past_add : List PcpuStep → List PcpuStep
past_add [] = []
past_add (AddL j a ∷ rest) = rest
past_add (Unlock j ∷ rest) = rest
past_add (_ ∷ rest) = past_add rest

abbrev pub read_add : List PcpuStep → Unit {0} × List PcpuStep
read_add steps = (tt, past_add steps)

-- the steps after the next unlock, with which a sync ends
abbrev pub past_unlock : List PcpuStep → List PcpuStep
past_unlock [] = []
past_unlock (Unlock j ∷ rest) = rest
past_unlock (_ ∷ rest) = past_unlock rest

abbrev pub read_sync : List PcpuStep → Unit {0} × List PcpuStep
read_sync steps = (tt, past_unlock steps)

-- a fold of n counters ends with the n-th unlock
abbrev pub past_unlocks : ℕ → List PcpuStep → List PcpuStep
past_unlocks zero steps = steps
past_unlocks (suc n) steps = past_unlocks n (past_unlock steps)

abbrev pub read_fold_dead : ℕ → List PcpuStep → Unit {0} × List PcpuStep
read_fold_dead n steps = (tt, past_unlocks n steps)

-- a sum answers the sum of all that its loads told, up to the unlock
abbrev pub with_load : ℤ → ℤ × List PcpuStep → ℤ × List PcpuStep
with_load v reading = (v +ℤ reading.0, reading.1)

abbrev pub read_sum : List PcpuStep → ℤ × List PcpuStep
read_sum [] = (pos 0, [])
read_sum (Unlock j ∷ rest) = (pos 0, rest)
read_sum (LoadC j v ∷ rest) = with_load v (read_sum rest)
read_sum (LoadL j c d ∷ rest) = with_load d (read_sum rest)
read_sum (_ ∷ rest) = read_sum rest

-- a comparison answers by its first load where that is far enough off, and else by the sum after it
abbrev pub compared : Bool → ℤ → ℤ × List PcpuStep → Compare × List PcpuStep
compared rough rhs reading = (record { sign = sign_of (reading.0 -ℤ rhs); rough = rough }, reading.1)

abbrev pub read_compare : ℕ → ℤ → List PcpuStep → Compare × List PcpuStep
read_compare unknown rhs (LoadC j v ∷ rest) =
    if nat_lt unknown (unsigned_abs (v -ℤ rhs)) then compared true rhs (v, rest) else compared false rhs (read_sum rest)
read_compare unknown rhs rest = (record { sign = pos 0; rough = false }, rest)

-- a limited addition of another amount than 0 answers yes where it adds or takes, and no where it unlocks before
abbrev pub read_limited : List PcpuStep → Bool × List PcpuStep
read_limited [] = (false, [])
read_limited (AddL j a ∷ rest) = (true, rest)
read_limited (TakeL j c v ∷ rest) = (true, past_unlock rest)
read_limited (Unlock j ∷ rest) = (false, rest)
read_limited (_ ∷ rest) = read_limited rest

abbrev pub read_limited_add : ℤ → List PcpuStep → Bool × List PcpuStep
read_limited_add amount steps = if nat_eq (unsigned_abs amount) 0 then (true, steps) else read_limited steps
