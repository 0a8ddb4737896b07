-- For other crates too: the steps of an addition and of a sync that meet no other caller.
use Rattle.std.proofs.Common.{◌≡◌, ◌<◌, ◌≤◌, Bool, true, false, List, [], ◌∷◌, Option, Some, refl, sym, ap, subst}
use Rattle.std.proofs.Common.{arith, length, ◌+◌, get_or-set_same, ℤ, pos, ◌+ℤ◌, unsigned_abs, if◌then◌else◌, nat_lt}
use Rattle.std.proofs.lemmas.Bool.Decides.{nat_tests}
use Rattle.std.proofs.lemmas.Int.{ints}
use Rattle.vms_history.specs.Common.{CpuId, PcpuId, cell}
use Rattle.vms_base.proofs.Common.{cell-lt}
use Rattle.vms_pcpu_core.specs.declared.states.PcpuState.{PcpuState}
use Rattle.vms_pcpu_core.specs.declared.steps.PcpuStep.{PcpuStep}
use Rattle.vms_pcpu_core.specs.declared.steps.PcpuStep.TheVariants.{AddL, Won, LoadL, TakeL, AddC, Unlock}
use Rattle.vms_pcpu_core.specs.Common.{IsAdd, IsSync, below, reached, moved, won, LockedState, batch_at, count_at}
use Rattle.vms_pcpu_core.specs.Common.{counters_of, local_at}
use Rattle.vms_plain_pcpu.specs.Common.{LeadsAlone, under_free_locks, HasLocals, HasRoomFor, with_added}
use Rattle.vms_plain_pcpu.specs.Common.{with_local_added, with_local_moved}
use Rattle.vms_plain_pcpu.proofs.StepsAlone.{LeadsAlone-cons, LeadsAlone-none, LeadsAlone-unlock, LeadsAlone-won}
use Rattle.vms_plain_pcpu.proofs.StepsAlone.{under_lock}

module _ (s : PcpuState) (cpu : CpuId) (j : PcpuId) where
  abbrev l : ℤ
  l = local_at s cpu.number j.number

  -- under the lock the local part moves, and the lock is given back
  pub LeadsAlone-move : (who : Option CpuId) (added amount : ℤ) → added ≡ l +ℤ amount
      → LeadsAlone who (TakeL j cpu l ∷ AddC j added ∷ Unlock j ∷ []) (under_lock s j.number)
      (under_free_locks (with_local_moved cpu.number j.number amount s))
  LeadsAlone-move who added amount is =
      let moved_s : PcpuState = with_local_moved cpu.number j.number amount s in
      let taken : PcpuState = record s { local = moved_s.local } in
      let next : LockedState = under_free_locks moved_s in
      subst (λ (z : ℤ). LeadsAlone who (TakeL j cpu l ∷ AddC j z ∷ Unlock j ∷ []) (under_lock s j.number) next) (sym is)
      (LeadsAlone-cons who (TakeL j cpu l) (AddC j (l +ℤ amount) ∷ Unlock j ∷ []) (under_lock s j.number) next refl tt
      (LeadsAlone-cons who (AddC j (l +ℤ amount)) (Unlock j ∷ []) (under_lock taken j.number) next tt tt
      (LeadsAlone-unlock who moved_s j)))

  -- an amount is added to the own local part
  pub LeadsAlone-add_local : (amount : ℤ)
      → LeadsAlone (Some cpu) (AddL j amount ∷ []) (under_free_locks s)
      (under_free_locks (with_local_added cpu.number j.number amount s))
  LeadsAlone-add_local amount =
      let next = under_free_locks (with_local_added cpu.number j.number amount s) in
      LeadsAlone-cons (Some cpu) (AddL j amount) [] (under_free_locks s) next tt tt (LeadsAlone-none (Some cpu) next)

  -- which way an addition takes
  pub with_added-below : (amount : ℤ) → unsigned_abs (l +ℤ amount) < batch_at s j.number
      → with_added cpu.number j.number amount s ≡ with_local_added cpu.number j.number amount s
  with_added-below amount less =
      let test : nat_lt (unsigned_abs (l +ℤ amount)) (batch_at s j.number) ≡ true = grind (arith, nat_tests) in
      ap (λ (b : Bool). if b then with_local_added cpu.number j.number amount s
      else with_local_moved cpu.number j.number amount s) test

  pub with_added-reached : (amount : ℤ) → batch_at s j.number ≤ unsigned_abs (l +ℤ amount)
      → with_added cpu.number j.number amount s ≡ with_local_moved cpu.number j.number amount s
  with_added-reached amount past =
      let test : nat_lt (unsigned_abs (l +ℤ amount)) (batch_at s j.number) ≡ false = grind (arith, nat_tests) in
      ap (λ (b : Bool). if b then with_local_added cpu.number j.number amount s
      else with_local_moved cpu.number j.number amount s) test

  pub IsAdd-alone : (amount : ℤ) → (steps : List PcpuStep)
      × IsAdd (batch_at s j.number) cpu j amount steps
      × LeadsAlone (Some cpu) steps (under_free_locks s)
      (under_free_locks (with_added cpu.number j.number amount s))
  IsAdd-alone amount = by (nat_lt (unsigned_abs (l +ℤ amount)) (batch_at s j.number)) refl
    where
      by : (b : Bool) → nat_lt (unsigned_abs (l +ℤ amount)) (batch_at s j.number) ≡ b → (steps : List PcpuStep)
          × IsAdd (batch_at s j.number) cpu j amount steps
          × LeadsAlone (Some cpu) steps (under_free_locks s)
          (under_free_locks (if b then with_local_added cpu.number j.number amount s
          else with_local_moved cpu.number j.number amount s))
      by true test =
          let less : unsigned_abs (l +ℤ amount) < batch_at s j.number = grind (arith, nat_tests) in
          let next = under_free_locks (with_local_added cpu.number j.number amount s) in (
            LoadL j cpu l ∷ AddL j amount ∷ [],
            below l less,
            LeadsAlone-cons (Some cpu) (LoadL j cpu l) (AddL j amount ∷ []) (under_free_locks s) next refl tt
                (LeadsAlone-add_local amount),
          )
      by false test =
          let past : batch_at s j.number ≤ unsigned_abs (l +ℤ amount) = grind (arith, nat_tests) in
          let next = under_free_locks (with_local_moved cpu.number j.number amount s) in
          let steps = TakeL j cpu l ∷ AddC j (l +ℤ amount) ∷ Unlock j ∷ [] in (
            LoadL j cpu l ∷ Won j ∷ steps,
            reached l l (Won j ∷ []) past won,
            LeadsAlone-cons (Some cpu) (LoadL j cpu l) (Won j ∷ steps) (under_free_locks s) next refl tt
                (LeadsAlone-won (Some cpu) s j steps next (LeadsAlone-move (Some cpu) (l +ℤ amount) amount refl)),
          )

  module _ (room : HasRoomFor s j.number) (has : HasLocals s (cpu.number + 1)) where
    local-in : cell (counters_of s) cpu.number j.number < length s.local
    local-in =
        let in_row = cell-lt (counters_of s) (cpu.number + 1) cpu.number j.number (omega arith) room.counter in
        omega arith

    -- nothing is lost where the local part moves
    pub with_local_moved-total : (amount : ℤ)
        → count_at (with_local_moved cpu.number j.number amount s) j.number
        +ℤ local_at (with_local_moved cpu.number j.number amount s) cpu.number j.number
        ≡ (count_at s j.number +ℤ l) +ℤ amount
    with_local_moved-total amount =
        let count = get_or-set_same s.count j.number (count_at s j.number +ℤ (l +ℤ amount)) (pos 0)
        (omega (arith, room.counter, room.one_count_each)) in
        let local = get_or-set_same s.local (cell (counters_of s) cpu.number j.number) (pos 0) (pos 0) local-in in
        omega (arith, ints, count, local)

    -- nor by an addition
    pub with_added-total : (amount : ℤ)
        → count_at (with_added cpu.number j.number amount s) j.number
        +ℤ local_at (with_added cpu.number j.number amount s) cpu.number j.number
        ≡ (count_at s j.number +ℤ l) +ℤ amount
    with_added-total amount = by (nat_lt (unsigned_abs (l +ℤ amount)) (batch_at s j.number))
      where
        by : (b : Bool)
            → count_at (if b then with_local_added cpu.number j.number amount s
            else with_local_moved cpu.number j.number amount s) j.number
            +ℤ local_at (if b then with_local_added cpu.number j.number amount s
            else with_local_moved cpu.number j.number amount s) cpu.number j.number
            ≡ (count_at s j.number +ℤ l) +ℤ amount
        by true =
            let local = get_or-set_same s.local (cell (counters_of s) cpu.number j.number) (l +ℤ amount) (pos 0)
            local-in in
            omega (arith, ints, local)
        by false = with_local_moved-total amount

  pub IsAdd-leads : (amount : ℤ) (next : PcpuState) → next ≡ with_added cpu.number j.number amount s
      → (steps : List PcpuStep) × IsAdd (batch_at s j.number) cpu j amount steps
      × LeadsAlone (Some cpu) steps (under_free_locks s) (under_free_locks next)
  IsAdd-leads amount next is =
      subst (λ (t : PcpuState). (steps : List PcpuStep) × IsAdd (batch_at s j.number) cpu j amount steps
      × LeadsAlone (Some cpu) steps (under_free_locks s) (under_free_locks t)) (sym is) (IsAdd-alone amount)

  pub IsSync-alone : (who : Option CpuId) → (steps : List PcpuStep) × IsSync cpu j steps
      × LeadsAlone who steps (under_free_locks s)
      (under_free_locks (with_local_moved cpu.number j.number (pos 0) s))
  IsSync-alone who =
      let next = under_free_locks (with_local_moved cpu.number j.number (pos 0) s) in
      let steps = TakeL j cpu l ∷ AddC j l ∷ Unlock j ∷ [] in (
        Won j ∷ steps,
        moved l (Won j ∷ []) won,
        LeadsAlone-won who s j steps next (LeadsAlone-move who l (pos 0) (omega (arith, ints))),
      )
