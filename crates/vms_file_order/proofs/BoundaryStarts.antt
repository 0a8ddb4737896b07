-- For other crates too: a boundary line that counts after a start of a world may be crossed, and leads to a start.
use Rattle.std.proofs.Common.{◌≡◌, ◌≢◌, ℕ, zero, suc, ◌<◌, ◌≤◌, nat_eq, Bool, true, false, inl, inr, ◌⊎◌, refl, sym, ap}
use Rattle.std.proofs.Common.{subst, ◌∙◌, arith, eq-eqb, if◌then◌else◌, Ok, Err}
use Rattle.std.proofs.lemmas.Bool.{cases_eq}
use Rattle.vms_world.specs.Common.{Header, CpuId, CpuState, Absent, ZoneSize, is_online, IsCpu, GivesThresholds, State}
use Rattle.vms_world.specs.Common.{cpu_at, with_cpu, LastCpu, NotOnline, IsLineOf, online_among, allowed_from}
use Rattle.vms_world.specs.Common.{allowed_online, Start, start_past, Offline, Flush, Report, Crosses, MayCross}
use Rattle.vms_world.specs.Common.{flushed_pages, refreshed, IsWorldOf}
use Rattle.vms_base.specs.declared.kinds.CpuState.TheVariants.{Online as IsOnline, Dead as IsDead}
use Rattle.vms_history.proofs.Common.{get_or-set}
use Rattle.vms_script.proofs.Common.{IsWithin-allowed}
use Rattle.vms_text.specs.declared.acts.Boundary.{Boundary as BoundaryOf}
use Rattle.vms_text.specs.declared.acts.Boundary.TheVariants.{Sync, Online}
use Rattle.vms_text.specs.declared.acts.Line.TheVariants.{Boundary}
use Rattle.vms_world.specs.declared.worlds.World.{World}
use Rattle.vms_world.proofs.Common.{IsWorldOf-crossed}
use Rattle.vms_file_order.specs.Common.{HasStates, IsStartOf}
use Rattle.vms_file_order.proofs.CpuStates.{is_online-state}

-- a CPU below n that is online, other than c
record IsOther (n c : ℕ) (state : ℕ → CpuState) : Type 0 where
  pub cpu : ℕ
  pub below : cpu < n
  pub other : cpu ≢ c
  pub online : state cpu ≡ IsOnline

IsOther-later : (n c : ℕ) (state : ℕ → CpuState) → IsOther n c state → IsOther (suc n) c state
IsOther-later n c state is = let within = is.below in
    record { cpu = is.cpu; below = omega arith; other = is.other; online = is.online }

-- where some CPU is online, and c is past them all
other-below : (n c : ℕ) (state : ℕ → CpuState) → n ≤ c → online_among n state ≢ 0 → IsOther n c state
other-below zero c state past some = absurd (some refl)
other-below (suc n) c state past some = by (is_online (state n)) refl some
    (λ more. other-below n c state (omega arith) more)
  where
    by : (b : Bool) → is_online (state n) ≡ b
        → (if b then suc (online_among n state) else online_among n state) ≢ 0
        → (online_among n state ≢ 0 → IsOther n c state) → IsOther (suc n) c state
    by true is more rest = record {
      cpu = n;
      below = omega arith;
      other = λ same. absurd (omega (arith, same));
      online = is_online-state (state n) is;
    }
    by false is more rest = IsOther-later n c state (rest more)

-- where c is online, and not the only one
other-online : (n c : ℕ) (state : ℕ → CpuState) → c < n → is_online (state c) ≡ true → online_among n state ≢ 1
    → IsOther n c state
other-online zero c state below runs several = absurd (omega arith)
other-online (suc n) c state below runs several =
    by (cases_eq c n) (is_online (state n)) refl several (λ apart more. other-online n c state apart runs more)
  where
    last : c ≡ n → (b : Bool) → is_online (state n) ≡ b
        → (if b then suc (online_among n state) else online_among n state) ≢ 1 → IsOther (suc n) c state
    last same true is more =
        IsOther-later n c state (other-below n c state (omega (arith, same)) (λ none. more (ap suc none)))
    last same false is more =
        let both : true ≡ false = sym runs ∙ ap (λ (k : ℕ). is_online (state k)) same ∙ is in
        absurd cc

    earlier : c ≢ n → (b : Bool) → is_online (state n) ≡ b
        → (if b then suc (online_among n state) else online_among n state) ≢ 1
        → (c < n → online_among n state ≢ 1 → IsOther n c state) → IsOther (suc n) c state
    earlier apart true is more rest = record {
      cpu = n;
      below = omega arith;
      other = λ same. apart (sym same);
      online = is_online-state (state n) is;
    }
    earlier apart false is more rest = IsOther-later n c state (rest (omega (arith, apart)) more)

    by : (c ≡ n) ⊎ (c ≢ n) → (b : Bool) → is_online (state n) ≡ b
        → (if b then suc (online_among n state) else online_among n state) ≢ 1
        → (c < n → online_among n state ≢ 1 → IsOther n c state) → IsOther (suc n) c state
    by (inl same) b is more rest = last same b is more
    by (inr apart) b is more rest = earlier apart b is more rest

-- a boundary line that counts
module _ (header : Header) (start : Start) where
  online-offline : (c : CpuId)
      → allowed_from header start (Boundary (Offline c)) ≡ Ok (Boundary (Offline c))
      → (is_online (start.state c.number) ≡ true) × (online_among header.layout.cpus start.state ≢ 1)
  online-offline c is = by (is_online (start.state c.number)) (nat_eq (online_among header.layout.cpus start.state) 1)
      refl refl is
    where
      by : (runs one : Bool) → is_online (start.state c.number) ≡ runs
          → nat_eq (online_among header.layout.cpus start.state) 1 ≡ one
          → (if runs then (if one then Err LastCpu else Ok (Boundary (Offline c))) else Err NotOnline)
          ≡ Ok (Boundary (Offline c))
          → (is_online (start.state c.number) ≡ true) × (online_among header.layout.cpus start.state ≢ 1)
      by true false runs several kept = (
        runs,
        (λ same.
            let both : true ≡ false = sym (eq-eqb (online_among header.layout.cpus start.state) 1 same) ∙ several in
            absurd cc),
      )
      by true true runs one kept = absurd cc
      by false one runs several kept = absurd cc

  absent-online : (c : CpuId) (x : CpuState)
      → allowed_online x (Boundary (Online c)) ≡ Ok (Boundary (Online c)) → x ≡ Absent
  absent-online c Absent is = refl
  absent-online c IsOnline is = absurd cc
  absent-online c IsDead is = absurd cc

  module _ (w : World) (states : HasStates header start w) where
    pub MayCross-allowed : (b : BoundaryOf) → IsLineOf header (Boundary b)
        → allowed_from header start (Boundary b) ≡ Ok (Boundary b) → MayCross header.layout w.pages b
    MayCross-allowed (Offline c) known is =
        let both = online-offline c is in
        let other = other-online header.layout.cpus c.number start.state known both.0 both.1 in (
          known,
          states c.number known ∙ is_online-state (start.state c.number) both.0,
          (other.cpu, other.other, other.below, states other.cpu other.below ∙ other.online),
        )
    MayCross-allowed (Online c) known is =
        (known, states c.number known ∙ absent-online c (start.state c.number) is)
    MayCross-allowed Flush known is = tt
    MayCross-allowed Sync known is = tt
    MayCross-allowed (Report kind) known is = tt

  -- where one CPU comes to another state
  cpu-moved : (w : World) → IsStartOf header start w → (c : CpuId) (x : CpuState) → IsCpu header.layout c.number
      → (d : ℕ) → IsCpu header.layout d
      → cpu_at (with_cpu w.pages c.number x) d ≡ (if nat_eq c.number d then x else start.state d)
  cpu-moved w is c x c_in d d_in =
      get_or-set w.pages.cpu c.number d x Absent
      (subst (λ (n : ℕ). c.number < n) (sym is.world.page_base.opening.shaped.cpu) c_in)
      ∙ ap (λ y. if nat_eq c.number d then x else y) (is.states d d_in)

  module _ (answers : ZoneSize → ℕ → ℕ → Type 0) (gives : GivesThresholds answers) (w next : World)
      (is : IsStartOf header start w) (b : BoundaryOf) (known : IsLineOf header (Boundary b))
      (allowed : allowed_from header start (Boundary b) ≡ Ok (Boundary b))
      (crosses : Crosses header answers b w next) where
    beyond : IsWorldOf header next
    beyond = IsWorldOf-crossed header answers w next is.world gives b (MayCross-allowed w is.states b known allowed)
        crosses

    -- no boundary changes a volume
    with_pages : (s : State) → next ≡ record w { pages = s }
        → ((c : ℕ) → IsCpu header.layout c → cpu_at s c ≡ (start_past (Boundary b) start).state c)
        → IsStartOf header (start_past (Boundary b) start) next
    with_pages s same there = subst (IsStartOf header (start_past (Boundary b) start)) (sym same) (record {
      world = subst (IsWorldOf header) same beyond;
      states = there;
      volumes = record {
        pages = λ c k c_in k_in. omega (arith, is.volumes.pages c k c_in k_in);
        events = λ c k c_in k_in. omega (arith, is.volumes.events c k c_in k_in);
        counters = λ c j c_in j_in. omega (arith, is.volumes.counters c j c_in j_in);
      };
      within = IsWithin-allowed header start (Boundary b) allowed is.within;
    })

  pub IsStartOf-crossed : (answers : ZoneSize → ℕ → ℕ → Type 0) → GivesThresholds answers → (w next : World)
      → IsStartOf header start w → (b : BoundaryOf) → IsLineOf header (Boundary b)
      → allowed_from header start (Boundary b) ≡ Ok (Boundary b) → Crosses header answers b w next
      → IsStartOf header (start_past (Boundary b) start) next
  IsStartOf-crossed answers gives w next is (Offline c) known allowed same =
      with_pages answers gives w next is (Offline c) known allowed same (with_cpu w.pages c.number IsDead) same
      (cpu-moved w is c IsDead known)
  IsStartOf-crossed answers gives w next is (Online c) known allowed (zones, are, same) =
      with_pages answers gives w next is (Online c) known allowed (zones, are, same)
      (refreshed header zones (with_cpu w.pages c.number IsOnline)) same
      (cpu-moved w is c IsOnline known)
  IsStartOf-crossed answers gives w next is Flush known allowed same =
      with_pages answers gives w next is Flush known allowed same (flushed_pages header.layout w.pages) same is.states
  IsStartOf-crossed answers gives w next is Sync known allowed same =
      with_pages answers gives w next is Sync known allowed same w.pages same is.states
  IsStartOf-crossed answers gives w next is (Report kind) known allowed same =
      with_pages answers gives w next is (Report kind) known allowed same w.pages same is.states
