-- For other crates too: the steps of a call are read back as its answer and the steps after it.
use Rattle.std.proofs.Common.{◌≡◌, ◌≢◌, ℕ, suc, zero, nat_lt, nat_eq, Bool, true, false, List, [], ◌∷◌, ◌++◌, ℤ, pos}
use Rattle.std.proofs.Common.{◌+ℤ◌, ◌-ℤ◌, unsigned_abs, refl, ap, ◌∙◌, append_assoc, arith}
use Rattle.std.proofs.lemmas.Int.{ints}
use Rattle.std.proofs.lemmas.Bool.Decides.{nat_tests}
use Rattle.vms_history.specs.Common.{CpuId, PcpuId}
use Rattle.vms_pcpu_core.specs.declared.answers.Compare.{Compare}
use Rattle.vms_pcpu_core.specs.declared.steps.PcpuStep.{PcpuStep}
use Rattle.vms_pcpu_core.specs.declared.steps.PcpuStep.TheVariants.{LoadC, TakeL, AddC, Unlock}
use Rattle.vms_pcpu_core.specs.Common.{Locks, IsRead, IsAdd, IsSync, IsFoldDead, LoadsEach, IsSum, IsCompare, Probes}
use Rattle.vms_pcpu_core.specs.Common.{Judges, EndsLimitedAdd, IsLimitedAdd, won, missed, below, reached, moved}
use Rattle.vms_pcpu_core.specs.Common.{no_counter, one_counter, no_cpu, one_cpu, summed, far, near, large, narrow}
use Rattle.vms_pcpu_core.specs.Common.{beyond, inside, close, yes_ends, no_ends, nothing, unlocked, locked, read_count}
use Rattle.vms_pcpu_core.specs.Common.{past_add, read_add, past_unlock, read_sync, past_unlocks, read_fold_dead}
use Rattle.vms_pcpu_core.specs.Common.{with_load, read_sum, compared, read_compare, read_limited, read_limited_add}

-- the steps of a lock are passed over
past_unlock-locks : (j : PcpuId) (locking more : List PcpuStep) → Locks j locking
    → past_unlock (locking ++ more) ≡ past_unlock more
past_unlock-locks j locking more won = refl
past_unlock-locks j locking more (missed rest locks) = past_unlock-locks j rest more locks

past_add-locks : (j : PcpuId) (locking more : List PcpuStep) → Locks j locking
    → past_add (locking ++ more) ≡ past_add more
past_add-locks j locking more won = refl
past_add-locks j locking more (missed rest locks) = past_add-locks j rest more locks

read_sum-locks : (j : PcpuId) (locking more : List PcpuStep) → Locks j locking
    → read_sum (locking ++ more) ≡ read_sum more
read_sum-locks j locking more won = refl
read_sum-locks j locking more (missed rest locks) = read_sum-locks j rest more locks

read_limited-locks : (j : PcpuId) (locking more : List PcpuStep) → Locks j locking
    → read_limited (locking ++ more) ≡ read_limited more
read_limited-locks j locking more won = refl
read_limited-locks j locking more (missed rest locks) = read_limited-locks j rest more locks

pub read_count-call : (j : PcpuId) (steps more : List PcpuStep) (answer : ℤ) → IsRead j steps answer
    → read_count (steps ++ more) ≡ (answer, more)
read_count-call j steps more answer is = ap (λ (ks : List PcpuStep). read_count (ks ++ more)) is

past_add-call : (batch : ℕ) (own : CpuId) (j : PcpuId) (amount : ℤ) (steps more : List PcpuStep)
    → IsAdd batch own j amount steps
    → past_add (steps ++ more) ≡ more
past_add-call batch own j amount steps more (below l small) = refl
past_add-call batch own j amount steps more (reached l v locking past locks) =
    ap past_add (append_assoc locking (TakeL j own v ∷ AddC j (v +ℤ amount) ∷ Unlock j ∷ []) more)
    ∙ past_add-locks j locking (TakeL j own v ∷ AddC j (v +ℤ amount) ∷ Unlock j ∷ more) locks

past_unlock-call : (cpu : CpuId) (j : PcpuId) (steps more : List PcpuStep) → IsSync cpu j steps
    → past_unlock (steps ++ more) ≡ more
past_unlock-call cpu j steps more (moved v locking locks) =
    ap past_unlock (append_assoc locking (TakeL j cpu v ∷ AddC j v ∷ Unlock j ∷ []) more)
    ∙ past_unlock-locks j locking (TakeL j cpu v ∷ AddC j v ∷ Unlock j ∷ more) locks

-- the last unlock may be passed by itself
past_unlocks-last : (n : ℕ) (steps : List PcpuStep) → past_unlocks (suc n) steps ≡ past_unlock (past_unlocks n steps)
past_unlocks-last zero steps = refl
past_unlocks-last (suc n) steps = past_unlocks-last n (past_unlock steps)

past_unlocks-call : (dead : CpuId) (n : ℕ) (steps more : List PcpuStep) → IsFoldDead dead n steps
    → past_unlocks n (steps ++ more) ≡ more
past_unlocks-call dead n steps more no_counter = refl
past_unlocks-call dead n steps more (one_counter m front back before sync) =
    past_unlocks-last m ((front ++ back) ++ more)
    ∙ ap (λ (ks : List PcpuStep). past_unlock (past_unlocks m ks)) (append_assoc front back more)
    ∙ ap past_unlock (past_unlocks-call dead m front (back ++ more) before)
    ∙ past_unlock-call dead (record { number = m }) back more sync

-- an answer, and the steps that are left
abbrev with_answer : List PcpuStep → ℤ → ℤ × List PcpuStep
with_answer rest answer = (answer, rest)

-- the loads of local parts add their sum
read_sum-loads : (j : PcpuId) (cpus : List CpuId) (steps more : List PcpuStep) (sum : ℤ) → LoadsEach j cpus steps sum
    → read_sum (steps ++ more) ≡ with_load sum (read_sum more)
read_sum-loads j cpus steps more sum no_cpu = nothing_more (read_sum more)
  where
    nothing_more : (reading : ℤ × List PcpuStep) → reading ≡ with_load (pos 0) reading
    nothing_more reading = ap (with_answer reading.1) (omega (arith, ints))
read_sum-loads j cpus steps more sum (one_cpu c d others rest total each) =
    ap (with_load d) (read_sum-loads j others rest more total each) ∙ two (read_sum more)
  where
    two : (reading : ℤ × List PcpuStep) → with_load d (with_load total reading) ≡ with_load (d +ℤ total) reading
    two reading = ap (with_answer reading.1) (omega (arith, ints))

pub read_sum-call : (cpus : List CpuId) (j : PcpuId) (steps more : List PcpuStep) (answer : ℤ)
    → IsSum cpus j steps answer
    → read_sum (steps ++ more) ≡ (answer, more)
read_sum-call cpus j steps more answer (summed v sum locking loading locks each) =
    ap read_sum (append_assoc locking (LoadC j v ∷ (loading ++ Unlock j ∷ [])) more)
    ∙ read_sum-locks j locking (LoadC j v ∷ ((loading ++ Unlock j ∷ []) ++ more)) locks
    ∙ ap (λ (ks : List PcpuStep). with_load v (read_sum ks)) (append_assoc loading (Unlock j ∷ []) more)
    ∙ ap (with_load v) (read_sum-loads j cpus loading (Unlock j ∷ more) sum each)
    ∙ ap (λ (x : ℤ). with_answer more (v +ℤ x)) (omega (arith, ints))

pub read_compare-call : (unknown : ℕ) (cpus : List CpuId) (j : PcpuId) (rhs : ℤ) (steps more : List PcpuStep)
    (answer : Compare)
    → IsCompare unknown cpus j rhs steps answer
    → read_compare unknown rhs (steps ++ more) ≡ (answer, more)
read_compare-call unknown cpus j rhs steps more answer (far v more_than) =
    let test : nat_lt unknown (unsigned_abs (v -ℤ rhs)) ≡ true = grind (arith, nat_tests) in
    rw test refl
read_compare-call unknown cpus j rhs steps more answer (near v sum rest at_most is_sum) =
    let test : nat_lt unknown (unsigned_abs (v -ℤ rhs)) ≡ false = grind (arith, nat_tests) in
    rw test (ap (compared false rhs) (read_sum-call cpus j rest more sum is_sum))

read_limited-probes : (batch unknown : ℕ) (limit : ℤ) (own : CpuId) (j : PcpuId) (amount : ℤ)
    (probing more : List PcpuStep)
    → Probes batch unknown limit own j amount probing → read_limited (probing ++ more) ≡ read_limited more
read_limited-probes batch unknown limit own j amount probing more (large l above) = refl
read_limited-probes batch unknown limit own j amount probing more (narrow l v fits small) = refl

read_limited-loads : (j : PcpuId) (cpus : List CpuId) (steps more : List PcpuStep) (sum : ℤ)
    → LoadsEach j cpus steps sum
    → read_limited (steps ++ more) ≡ read_limited more
read_limited-loads j cpus steps more sum no_cpu = refl
read_limited-loads j cpus steps more sum (one_cpu c d others rest total each) = read_limited-loads j others rest more
    total each

read_limited-judges : (unknown : ℕ) (limit : ℤ) (cpus : List CpuId) (j : PcpuId) (amount value : ℤ)
    (loading more : List PcpuStep) (answer : Bool)
    → Judges unknown limit cpus j amount value loading answer → read_limited (loading ++ more) ≡ read_limited more
read_limited-judges unknown limit cpus j amount value loading more answer (beyond out) = refl
read_limited-judges unknown limit cpus j amount value loading more answer (inside fits) = refl
read_limited-judges unknown limit cpus j amount value loading more answer (close steps sum out fits each) =
    read_limited-loads j cpus steps more sum each

read_limited-settles : (own : CpuId) (j : PcpuId) (amount : ℤ) (answer : Bool) (ending more : List PcpuStep)
    → EndsLimitedAdd own j amount answer ending
    → read_limited (ending ++ more) ≡ (answer, more)
read_limited-settles own j amount answer ending more (yes_ends u) = refl
read_limited-settles own j amount answer ending more no_ends = refl

some_amount : (amount : ℤ) → amount ≢ pos 0 → nat_eq (unsigned_abs amount) 0 ≡ false
some_amount amount other = grind (arith, ints, nat_tests)

pub read_limited_add-call : (batch unknown : ℕ) (cpus : List CpuId) (own : CpuId) (j : PcpuId) (limit amount : ℤ)
    (steps more : List PcpuStep)
    (answer : Bool) → IsLimitedAdd batch unknown cpus own j limit amount steps answer
    → read_limited_add amount (steps ++ more) ≡ (answer, more)
read_limited_add-call batch unknown cpus own j limit amount steps more answer (nothing zero_amount) = rw zero_amount
    refl
read_limited_add-call batch unknown cpus own j limit amount steps more answer (unlocked l v some fits enough) = rw
    (some_amount amount some) refl
read_limited_add-call batch unknown cpus own j limit amount steps more answer
    (locked v verdict probing locking loading ending some probes locks judges settles) =
    rw (some_amount amount some)
    (ap read_limited (append_assoc (probing ++ locking) (LoadC j v ∷ (loading ++ ending)) more)
    ∙ ap read_limited (append_assoc probing locking (LoadC j v ∷ ((loading ++ ending) ++ more)))
    ∙ read_limited-probes batch unknown limit own j amount probing (locking ++ LoadC j v ∷
    ((loading ++ ending) ++ more)) probes
    ∙ read_limited-locks j locking (LoadC j v ∷ ((loading ++ ending) ++ more)) locks
    ∙ ap read_limited (append_assoc loading ending more)
    ∙ read_limited-judges unknown limit cpus j amount (v +ℤ amount) loading (ending ++ more) verdict judges
    ∙ read_limited-settles own j amount verdict ending more settles)

-- calls that answer nothing
abbrev nothing_told : List PcpuStep → Unit {0} × List PcpuStep
nothing_told rest = (tt, rest)

pub read_add-call : (batch : ℕ) (own : CpuId) (j : PcpuId) (amount : ℤ) (steps more : List PcpuStep)
    → IsAdd batch own j amount steps → read_add (steps ++ more) ≡ (tt, more)
read_add-call batch own j amount steps more is = ap nothing_told (past_add-call batch own j amount steps more is)

pub read_sync-call : (cpu : CpuId) (j : PcpuId) (steps more : List PcpuStep) → IsSync cpu j steps
    → read_sync (steps ++ more) ≡ (tt, more)
read_sync-call cpu j steps more is = ap nothing_told (past_unlock-call cpu j steps more is)

pub read_fold_dead-call : (dead : CpuId) (n : ℕ) (steps more : List PcpuStep) → IsFoldDead dead n steps
    → read_fold_dead n (steps ++ more) ≡ (tt, more)
read_fold_dead-call dead n steps more is = ap nothing_told (past_unlocks-call dead n steps more is)
