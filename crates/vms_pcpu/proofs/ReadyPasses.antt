-- A pass is ready again after each call, and its volumes hold what its CPU has spent.
use Rattle.std.proofs.Common.{◌≡◌, ℕ, ◌+◌, ◌≤◌, Bool, true, false, nat_eq, List, length, slice_index, slice_set, Option}
use Rattle.std.proofs.Common.{Some, ℤ, pos, unsigned_abs, if◌then◌else◌, refl, ap, sym, ◌∙◌, subst, arith, length-set}
use Rattle.std.proofs.Common.{eqb-true}
use Rattle.vms_history.proofs.Common.{get_or-set, made-owner}
use Rattle.vms_history.specs.Common.{CpuId, PcpuId, IsCpu, most_volume, own, lives_in, owner_in}
use Rattle.vms_pcpu_core.specs.declared.steps.PcpuFacts.{PcpuFacts}
use Rattle.vms_pcpu_core.specs.declared.steps.PcpuStep.{PcpuStep}
use Rattle.vms_pcpu_core.specs.Common.{percpu, IsLegal, MayCall, MayChangePcpu, IsIdle, AddsAmount, IsPcpu, role}
use Rattle.vms_pcpu_core.proofs.Common.{made-by_living, LeavesIdle-holds, spends-amount, owned}
use Rattle.vms_pcpu.specs.Common.{HoldsSpending, IsReady, IsCpuPass}
use Rattle.vms_seats.specs.Common.{Pass, Shared, IsFrom, Made}
use Rattle.vms_seats.proofs.Common.{calls-live}

-- a pass after some steps is of the same words
pub of-after : (new old : Pass PcpuFacts PcpuStep) (steps : List PcpuStep) (words : Shared PcpuFacts)
    → Made percpu new old steps → IsFrom old words → IsFrom new words
of-after new old steps words made of = record { table = made.table ∙ of.table; facts = made.facts ∙ of.facts }

-- a ready pass may make calls
pub ready-calls : (pass : Pass PcpuFacts PcpuStep) → IsReady pass → MayCall pass.facts pass.seen pass.number
ready-calls pass ready = record { legal = ready.live.legal; lives = ready.live.lives; idle = ready.idle }

-- it owns what it owned
pub owner-after : (new old : Pass PcpuFacts PcpuStep) (steps : List PcpuStep) (who : Option CpuId)
    → Made percpu new old steps → owner_in role old.seen old.number ≡ who → owner_in role new.seen new.number ≡ who
owner-after new old steps who made is =
    ap (owner_in role new.seen) made.number
    ∙ made-owner percpu old.facts new.seen old.seen old.number steps made.made ∙ is

module _ (new old : Pass PcpuFacts PcpuStep) (j : PcpuId) (amount : ℤ) (steps : List PcpuStep)
    (made : Made percpu new old steps) (adds : AddsAmount j amount steps) where
  idle-after : IsIdle (own old.seen old.number) → IsIdle (own new.seen new.number)
  idle-after idle = subst (λ p. IsIdle (own new.seen p)) (sym made.number)
      (LeavesIdle-holds old.facts old.seen new.seen old.number j amount steps
      (made-by_living old.facts old.seen new.seen old.number steps made.made) adds idle).idle

  pub calls-after : MayCall old.facts old.seen old.number → MayCall new.facts new.seen new.number
  calls-after may = record {
    legal = subst (λ facts. IsLegal facts new.seen) (sym made.facts) made.made.legal;
    lives = subst (λ p. lives_in role new.seen p ≡ true) (sym made.number) made.made.lives;
    idle = idle-after may.idle;
  }

  pub ready-after : IsReady old → IsReady new
  ready-after ready = record {
    live = calls-live percpu new old steps ready.live made;
    idle = idle-after ready.idle;
  }

  -- volumes that grew by as much hold what was spent
  pub owns-after : (cpu : CpuId) (volume later : List ℕ) → IsCpuPass old cpu volume → length later ≡ length volume
      → ((i : ℕ) → IsPcpu old.facts i
      → slice_index volume i + (if nat_eq j.number i then unsigned_abs amount else 0) ≤ slice_index later i)
      → IsCpuPass new cpu later
  owns-after cpu volume later mine long grows = record {
    ready = ready-after mine.ready;
    owns = made.cpu ∙ mine.owns;
    holds = subst (λ facts. HoldsSpending facts new.seen cpu.number later) (sym made.facts) (record {
      one_each = long ∙ mine.holds.one_each;
      spent_within = λ i i_in.
          let spends = spends-amount old.facts old.seen new.seen old.number cpu j amount steps made.made adds
          mine.ready.idle (mine.ready.live.owner ∙ mine.owns) i in
          omega (arith, spends, mine.holds.spent_within i i_in, grows i i_in);
    });
  }

-- steps that add nothing leave the volumes
pub owns-nothing : (new old : Pass PcpuFacts PcpuStep) (j : PcpuId) (steps : List PcpuStep) → Made percpu new old steps
    → AddsAmount j (pos 0) steps → (cpu : CpuId) (volume : List ℕ) → IsCpuPass old cpu volume → IsCpuPass new cpu volume
owns-nothing new old j steps made adds cpu volume mine =
    owns-after new old j (pos 0) steps made adds cpu volume volume mine refl (λ i i_in.
    let none = nothing (nat_eq j.number i) in omega (arith, none))
  where
    nothing : (b : Bool) → (if b then unsigned_abs (pos 0) else 0) ≡ 0
    nothing true = refl
    nothing false = refl

-- steps that add an amount of this size at most, where the volume of the counter grows by the size
pub owns-amount : (new old : Pass PcpuFacts PcpuStep) (j : PcpuId) (amount : ℤ) (size : ℕ) (steps : List PcpuStep)
    → Made percpu new old steps → AddsAmount j amount steps → unsigned_abs amount ≤ size → IsPcpu old.facts j.number
    → (cpu : CpuId) (volume : List ℕ) → IsCpuPass old cpu volume
    → IsCpuPass new cpu (slice_set volume j.number (slice_index volume j.number + size))
owns-amount new old j amount size steps made adds most j_in cpu volume mine =
    owns-after new old j amount steps made adds cpu volume
    (slice_set volume j.number (slice_index volume j.number + size)) mine
    (length-set volume j.number (slice_index volume j.number + size))
    (λ i i_in. let is = get_or-set volume j.number i (slice_index volume j.number + size) 0
    (omega (arith, j_in, mine.holds.one_each)) in
    subst (λ n. slice_index volume i + (if nat_eq j.number i then unsigned_abs amount else 0) ≤ n) (sym is)
    (by i (nat_eq j.number i) refl))
  where
    by : (i : ℕ) (b : Bool) → nat_eq j.number i ≡ b
        → slice_index volume i + (if b then unsigned_abs amount else 0)
        ≤ (if b then slice_index volume j.number + size else slice_index volume i)
    by i true same =
        let here = ap (slice_index volume) (eqb-true j.number i same) in omega (arith, here, most)
    by i false differs = omega arith

-- a pass that owns a CPU may change a counter by what its volume allows
pub owner-changes : (pass : Pass PcpuFacts PcpuStep) (cpu : CpuId) (volume : List ℕ) → IsCpuPass pass cpu volume
    → (j : PcpuId) (amount : ℤ) → IsPcpu pass.facts j.number
    → slice_index volume j.number + unsigned_abs amount ≤ most_volume
    → MayChangePcpu pass.facts pass.seen pass.number cpu j amount
owner-changes pass cpu volume mine j amount j_in room = record {
  calls = ready-calls pass mine.ready;
  owner = mine.ready.live.owner ∙ mine.owns;
  counter = j_in;
  affordable = let within = mine.holds.spent_within j.number j_in in omega (arith, within, room);
}

-- the CPU of a pass is one of the layout
pub owned-known : (pass : Pass PcpuFacts PcpuStep) (cpu : CpuId) → IsReady pass
    → owner_in role pass.seen pass.number ≡ Some cpu → IsCpu pass.facts.layout cpu.number
owned-known pass cpu ready is = owned pass.facts pass.seen pass.number cpu ready.live.legal is
