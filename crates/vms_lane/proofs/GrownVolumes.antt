-- How volumes grow, and what room they leave.
use Rattle.std.proofs.Common.{◌≡◌, ◌≢◌, ℕ, ◌+◌, ◌<◌, ◌≤◌, nat_eq, Bool, true, false, List, length, Option, Some}
use Rattle.std.proofs.Common.{if◌then◌else◌, slice_index, slice_index_or, slice_set, unsigned_abs, refl, sym, ap, ◌∙◌}
use Rattle.std.proofs.Common.{subst, arith, eq-eqb, eqb-true, get_or-set_same, get_or-set_other, length-set}
use Rattle.std.proofs.lemmas.Bool.{eqb-false}
use Rattle.vms_world.specs.Common.{CpuId, most_volume, EventCall, Count, IsCpuCall, event_spent, event_count}
use Rattle.vms_world.specs.Common.{spent_on_event, Act, Cpu, event_call, PcpuCall, Add, LimitedAdd, PcpuFacts}
use Rattle.vms_world.specs.Common.{LeavesVolume, NamesKnown, pcpu_spent, IsPcpu}
use Rattle.vms_event.specs.Common.{HasRoomFor, volume_after}
use Rattle.vms_event_core.specs.declared.call_values.EventCall.TheVariants.{Sum as SumEvent, FoldDead as FoldEvents}
use Rattle.vms_world.specs.Acts.{spent_by_call}
use Rattle.vms_world.proofs.Common.{spent_on_event-call}
use Rattle.vms_pcpu.specs.Common.{with_spent}
use Rattle.vms_pcpu_core.specs.States.{counters_of}
use Rattle.vms_lane.specs.Common.{HasGrown, HasRoom}

-- one of a list of amounts
abbrev pub only_at : ℕ → ℕ → ℕ → ℕ
only_at at amount k = if nat_eq at k then amount else 0

-- volumes that stay have grown by nothing
pub grown-none : (amount : ℕ → ℕ) → ((k : ℕ) → amount k ≡ 0) → (new old : List ℕ) → new ≡ old → HasGrown amount new old
grown-none amount none new old same = record {
  one_each = ap length same;
  each = λ k. ap (λ (volume : List ℕ). slice_index_or volume k 0) same
      ∙ (let zero_more : amount k ≡ 0 = none k in omega arith);
}

-- a volume that is set grows, and no other
pub grown-at : (old : List ℕ) (at amount : ℕ) → at < length old → (new : List ℕ)
    → new ≡ slice_set old at (slice_index_or old at 0 + amount) → HasGrown (only_at at amount) new old
grown-at old at amount inside new is = record {
  one_each = ap length is ∙ length-set old at (slice_index_or old at 0 + amount);
  each = λ k. ap (λ (volume : List ℕ). slice_index_or volume k 0) is ∙ by k (nat_eq at k) refl;
}
  where
    by : (k : ℕ) (b : Bool) → nat_eq at k ≡ b
        → slice_index_or (slice_set old at (slice_index_or old at 0 + amount)) k 0
        ≡ slice_index_or old k 0 + (if b then amount else 0)
    by k true same =
        subst (λ (n : ℕ). slice_index_or (slice_set old at (slice_index_or old at 0 + amount)) n 0
        ≡ slice_index_or old n 0 + amount) (eqb-true at k same)
        (get_or-set_same old at (slice_index_or old at 0 + amount) 0 inside)
    by k false other =
        let apart : k ≢ at = λ same. eqb-false at k other (sym same) in
        get_or-set_other old at k (slice_index_or old at 0 + amount) 0 apart ∙ omega arith

-- room for one amount is room where it is added
pub room-at : (volume : List ℕ) (at amount : ℕ) → at < length volume → HasRoom (only_at at amount) volume
    → slice_index_or volume at 0 + amount ≤ most_volume
room-at volume at amount inside room =
    subst (λ (b : Bool). slice_index_or volume at 0 + (if b then amount else 0) ≤ most_volume) (eq-eqb at at refl)
    (room at inside)

-- amounts that are the same
pub grown-same : (amount same : ℕ → ℕ) → ((k : ℕ) → amount k ≡ same k) → (new old : List ℕ) → HasGrown same new old
    → HasGrown amount new old
grown-same amount same are new old grown = record {
  one_each = grown.one_each;
  each = λ k. grown.each k ∙ ap (λ n. slice_index_or old k 0 + n) (sym (are k));
}

pub room-same : (amount same : ℕ → ℕ) → ((k : ℕ) → amount k ≡ same k) → (volume : List ℕ) → HasRoom amount volume
    → HasRoom same volume
room-same amount same are volume room k within =
    subst (λ n. slice_index_or volume k 0 + n ≤ most_volume) (are k) (room k within)

-- the volumes of percpu counters grow by what a call may add, and what is room for that
module _ (facts : PcpuFacts) (volume : List ℕ) (one_each : length volume ≡ counters_of facts.base) where
  inside : (j : ℕ) → IsPcpu facts j → j < length volume
  inside j known = subst (λ n. j < n) (sym one_each) known

  pub grown-call : (call : PcpuCall) → NamesKnown facts call
      → HasGrown (pcpu_spent call) (with_spent call volume) volume
  grown-call (Add j amount) known =
      grown-at volume j.number (unsigned_abs amount) (inside j.number known) (with_spent (Add j amount) volume) refl
  grown-call (LimitedAdd j limit amount) known =
      grown-at volume j.number (unsigned_abs amount) (inside j.number known)
      (with_spent (LimitedAdd j limit amount) volume) refl
  grown-call _ known = grown-none (λ k. 0) (λ k. refl) volume volume refl

  pub room-call : (call : PcpuCall) → NamesKnown facts call → HasRoom (pcpu_spent call) volume
      → LeavesVolume (slice_index volume) call
  room-call (Add j amount) known room =
      room-at volume j.number (unsigned_abs amount) (inside j.number known) room
  room-call (LimitedAdd j limit amount) known room =
      room-at volume j.number (unsigned_abs amount) (inside j.number known) room
  room-call _ known room = tt

-- what a call on the event counters spends is what its act says
module _ (c : CpuId) (a : Act) (call : EventCall) (is : event_call (Cpu c) a ≡ Some call) where
  spent-call : (e : ℕ) → spent_on_event e a ≡ event_spent call e
  spent-call e = spent_on_event-call c e a ∙ ap (λ (makes : Option EventCall). spent_by_call event_spent makes e) is

  pub call-room : (volume : List ℕ) → length volume ≡ event_count → IsCpuCall call
      → HasRoom (λ e. spent_on_event e a) volume → HasRoomFor call volume
  call-room volume one_each known room =
      by call known (λ e inside. let same = spent-call e in let fits = room e inside in omega arith)
    where
      by : (x : EventCall) → IsCpuCall x → HasRoom (event_spent x) volume → HasRoomFor x volume
      by (Count k n) k_in fits = room-at volume k.number n (omega (arith, one_each)) fits
      by (SumEvent k) k_in fits = tt
      by (FoldEvents d) none fits = tt

  pub call-grown : (new old : List ℕ) → length old ≡ event_count → IsCpuCall call → new ≡ volume_after call old
      → HasGrown (λ e. spent_on_event e a) new old
  call-grown new old one_each known after =
      let grown = by call known after in
      record {
        one_each = grown.one_each;
        each = λ e. let same = spent-call e in let more = grown.each e in omega arith;
      }
    where
      by : (x : EventCall) → IsCpuCall x → new ≡ volume_after x old → HasGrown (event_spent x) new old
      by (Count k n) k_in is_set = grown-at old k.number n (omega (arith, one_each)) new is_set
      by (SumEvent k) k_in same = grown-none (λ e. 0) (λ e. refl) new old same
      by (FoldEvents d) none same = absurd none
