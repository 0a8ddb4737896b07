-- For other crates too: a limited addition stays within its limit, but for what others add after its last look.
use Rattle.std.proofs.Common.{◌≡◌, ◌≢◌, ℕ, ◌≤◌, Bool, true, false, true≢false, List, [], ◌∷◌, ◌++◌, Some, get_or, ℤ}
use Rattle.std.proofs.Common.{pos, ◌+ℤ◌, ◌-ℤ◌, ◌≤ℤ◌, ◌<ℤ◌, unsigned_abs, refl, sym, ap, subst, ◌∙◌, if◌then◌else◌}
use Rattle.std.proofs.Common.{nat_eq, eq-eqb, arith}
use Rattle.std.specs.Prelude.{int_le, int_lt}
use Rattle.std.proofs.lemmas.Int.{ints}
use Rattle.vms_history.specs.Common.{Absent, CpuId, Extends, PcpuId, after, lives_in, own, owner_in}
use Rattle.vms_history.proofs.Common.{Extends-both, Extends-same, after-steps, base_can_begin, live_is_given, own-mine}
use Rattle.vms_history.proofs.Common.{own-on_top, owner_in-append}
use Rattle.vms_pcpu_core.specs.declared.steps.PcpuFacts.{PcpuFacts}
use Rattle.vms_pcpu_core.specs.declared.steps.PcpuStep.{PcpuStep}
use Rattle.vms_pcpu_core.specs.declared.steps.PcpuStep.TheVariants.{AddC, AddL, LoadC, LoadL, TakeL, Unlock, Won}
use Rattle.vms_pcpu_core.specs.Common.{AreLoads, EndsLimitedAdd, History, IsLegal, IsLimitedAdd, IsPcpu, Judges}
use Rattle.vms_pcpu_core.specs.Common.{LoadsEach, Locks, MadeSteps, Probes, Watches, amount_of, batch_at, beyond}
use Rattle.vms_pcpu_core.specs.Common.{by_others, by_others_between, carried, carried_by_all, close, count_at, event}
use Rattle.vms_pcpu_core.specs.Common.{fall, holds_lock, inside, large, local_at, locked, narrow, no_cpu, no_ends}
use Rattle.vms_pcpu_core.specs.Common.{nothing, numbers_after, one_cpu, percpu, present_cpus, rise, role, room, spent}
use Rattle.vms_pcpu_core.specs.Common.{state_after, true_total, unknown, unlocked, yes_ends}
use Rattle.vms_pcpu_core.proofs.Common.{HasShape-state_after, batch_at-state_after, count_at-effect, holder-one}
use Rattle.vms_pcpu_core.proofs.KnowledgeKept.{local-stays, spent-stays}
use Rattle.vms_pcpu_core.proofs.Totals.{totals-kept}
use Rattle.vms_percpu_near.specs.Adds.{AddsCarryNothing}
use Rattle.vms_percpu_near.specs.Answers.{LoadsNoCount, StaysWithinLimit}
use Rattle.vms_percpu_near.proofs.CarriedParts.{adds-earlier, carrier, count-near}
use Rattle.vms_percpu_near.proofs.MadeSteps.{FirstAt, first-at, won-at}
use Rattle.vms_percpu_near.proofs.OthersMoves.{AddNone, follows-between, total-follows}
use Rattle.vms_percpu_near.proofs.PassedParts.{passed}

-- how much room a limit leaves, upwards and downwards
room-is : (limit amount value : ℤ) → (pos 0 <ℤ amount → room limit amount value ≡ limit -ℤ value)
    × (amount <ℤ pos 0 → room limit amount value ≡ value -ℤ limit)
room-is limit amount value = by (int_lt (pos 0) amount) refl
  where
    by : (b : Bool) → int_lt (pos 0) amount ≡ b
        → (pos 0 <ℤ amount → (if b then limit -ℤ value else value -ℤ limit) ≡ limit -ℤ value)
        × (amount <ℤ pos 0 → (if b then limit -ℤ value else value -ℤ limit) ≡ value -ℤ limit)
    by true is = (λ up. refl, λ down. absurd (omega (arith, ints)))
    by false is = (λ up. absurd (omega (arith, ints)), λ down. refl)

module _ (facts : PcpuFacts) (earlier later : History) (p : ℕ) (j : PcpuId) (limit amount : ℤ)
    (legal : IsLegal facts later) (adds : AddsCarryNothing later) where
  -- the change of a call, after which the true total is what stood before with its amount
  module _ (change : PcpuStep) (unchanged : History)
      (its_amount : amount_of j.number (carried j.number (own unchanged p)) change ≡ amount) where
    changed-total : true_total facts (event p change ∷ unchanged) j.number
        ≡ true_total facts unchanged j.number +ℤ amount
    changed-total = omega (arith, ints, its_amount)

    changed-others : (part : ℤ → ℤ) (h : History) → by_others_between part p j.number h (event p change ∷ unchanged)
        ≡ by_others_between part p j.number h unchanged
    changed-others part h =
        let mine = ap (λ (b : Bool). if b then pos 0 else part (amount_of j.number (carried j.number (own unchanged p))
        change)) (eq-eqb p p refl) in
        omega (arith, ints, mine)

  -- between two histories with such own events the true total follows the others
  total-between : (h g : History) (more : Extends g h) (steps : List PcpuStep) → own g p ≡ after p steps (own h p)
      → AddNone (after p steps [])
      → (true_total facts g j.number ≤ℤ (true_total facts h j.number +ℤ by_others_between rise p j.number h g))
      × ((true_total facts h j.number -ℤ by_others_between fall p j.number h g) ≤ℤ true_total facts g j.number)
  total-between h g more steps made none =
      follows-between p j.number (λ es. true_total facts es j.number) h g more
      (total-follows facts p j.number more.0 h (subst AddNone
      (sym (own-on_top more.0 h p steps (ap (λ (es : History). own es p) (sym more.1) ∙ made))) none))

  -- without the lock: had p added right after its load, the shared part would have been near the true total then
  module _ (loaded unchanged : History) (v : ℤ) (reads : IsLegal facts (event p (LoadC j v) ∷ loaded))
      (since : Extends unchanged (event p (LoadC j v) ∷ loaded))
      (same : own unchanged p ≡ own (event p (LoadC j v) ∷ loaded) p)
      (added : IsLegal facts (event p (AddL j amount) ∷ unchanged))
      (free : AddsCarryNothing (event p (AddL j amount) ∷ unchanged)) where
    own_unchanged : own unchanged p ≡ event p (LoadC j v) ∷ own loaded p
    own_unchanged = same ∙ own-mine (event p (LoadC j v)) loaded p refl

    on : Extends unchanged loaded
    on = Extends-both unchanged (event p (LoadC j v) ∷ loaded) loaded since (event p (LoadC j v) ∷ [], refl)

    watched : Watches facts on.0 loaded p
    watched = record {
      legal = subst (IsLegal facts) on.1 added.0;
      loads = subst AreLoads (sym (own-on_top on.0 loaded p (LoadC j v ∷ [])
          (ap (λ (es : History). own es p) (sym on.1) ∙ own_unchanged))) (tt, tt);
    }

    owned-then : owner_in role loaded p ≡ Some added.2.cpu
    owned-then =
        sym (owner_in-append percpu facts on.0 loaded p (subst (IsLegal facts) on.1 added.0)
        (live_is_given percpu facts loaded p reads.0 reads.1.1).1)
        ∙ ap (λ (es : History). owner_in role es p) (sym on.1) ∙ added.2.owner

    lives-on : lives_in role (on.0 ++ loaded) p ≡ true
    lives-on = ap (λ (es : History). lives_in role es p) (sym on.1) ∙ added.1.1

    at_once : IsLegal facts (event p (AddL j amount) ∷ loaded)
    at_once =
        let d : CpuId = added.2.cpu in
        let local : local_at (numbers_after facts unchanged) d.number j.number
        ≡ local_at (numbers_after facts loaded) d.number j.number =
        ap (λ (es : History). local_at (numbers_after facts es) d.number j.number) on.1
        ∙ local-stays facts on.0 loaded p d j.number watched lives-on owned-then reads.2.counter in
        let volume : spent unchanged d.number j.number ≡ spent loaded d.number j.number =
        ap (λ (es : History). spent es d.number j.number) on.1
        ∙ spent-stays facts on.0 loaded p d j.number watched lives-on owned-then in
        let batches = batch_at-state_after facts unchanged j.number added.0 in
        let batches_then = batch_at-state_after facts loaded j.number reads.0 in (
          reads.0,
          (reads.1.0, reads.1.1),
          record {
            counter = added.2.counter;
            cpu = d;
            owner = owned-then;
            within = rw (sym local, batches_then, sym batches) added.2.within;
            affordable = rw (sym volume) added.2.affordable;
          },
        )

    pub loaded-near : unsigned_abs ((v -ℤ true_total facts loaded j.number) -ℤ amount) ≤ unknown facts j.number
    loaded-near =
        let nothing : carried j.number (own loaded p) ≡ pos 0 =
        ap (carried j.number) (sym own_unchanged) ∙ free.0 in
        let near = count-near facts (event p (AddL j amount) ∷ loaded) at_once
        (nothing, adds-earlier unchanged loaded on free.1) j.number reads.2.counter in
        let count : count_at (numbers_after facts (event p (AddL j amount) ∷ loaded)) j.number ≡ v =
        count_at-effect facts loaded (state_after facts loaded) p (HasShape-state_after facts loaded reads.0)
        (owner_in role loaded p) (AddL j amount) j.number at_once.2 ∙ reads.2.value in
        let total = changed-total (AddL j amount) loaded
        (ap (λ (b : Bool). if b then amount else pos 0) (eq-eqb j.number j.number refl)) in
        omega (arith, ints, near, count, total)

  stays-unlocked : (cpu : CpuId) (l v : ℤ) → pos (unknown facts j.number) ≤ℤ room limit amount v
      → MadeSteps facts earlier later p (LoadL j cpu l ∷ LoadC j v ∷ AddL j amount ∷ [])
      → StaysWithinLimit facts earlier later p j limit amount
  stays-unlocked cpu l v enough has =
      let a = first-at facts p earlier (LoadL j cpu l) (LoadC j v ∷ AddL j amount ∷ []) later has in
      let first : History = event p (LoadL j cpu l) ∷ a.moment in
      let b = first-at facts p first (LoadC j v) (AddL j amount ∷ []) later a.rest in
      let loaded : History = b.moment in
      let read : History = event p (LoadC j v) ∷ loaded in
      let c = first-at facts p read (AddL j amount) [] later b.rest in
      let unchanged : History = c.moment in
      let changed : History = event p (AddL j amount) ∷ unchanged in
      let near = loaded-near loaded unchanged v b.legal c.since c.own_same c.legal
      (adds-earlier later changed c.rest.goes_on adds) in
      let since : Extends unchanged loaded = Extends-both unchanged read loaded c.since (event p (LoadC j v) ∷ [], refl)
      in
      let made : own unchanged p ≡ event p (LoadC j v) ∷ own loaded p =
      c.own_same ∙ own-mine (event p (LoadC j v)) loaded p refl in
      let its : amount_of j.number (carried j.number (own unchanged p)) (AddL j amount) ≡ amount =
      ap (λ (t : Bool). if t then amount else pos 0) (eq-eqb j.number j.number refl) in
      let moved = total-between loaded unchanged since (LoadC j v ∷ []) made (tt, tt) in
      let total = changed-total (AddL j amount) unchanged its in
      let rises = changed-others (AddL j amount) unchanged its rise loaded in
      let falls = changed-others (AddL j amount) unchanged its fall loaded in
      record {
        first = LoadL j cpu l;
        begun = a.moment;
        begins = record { since = a.since; kept = a.rest.goes_on };
        nothing_before = a.own_same;
        count = v;
        loaded = loaded;
        loads = record {
          since = Extends-both loaded first a.moment b.since (event p (LoadL j cpu l) ∷ [], refl);
          kept = b.rest.goes_on;
        };
        change = AddL j amount;
        unchanged = unchanged;
        changes = record { since = since; kept = c.rest.goes_on };
        its_amount = its;
        changed = changed;
        after_change = refl;
        between = [];
        made_between = made;
        no_later_load = tt;
        most = λ up.
            let left = (room-is limit amount v).0 up in
            omega (arith, ints, near, moved.0, total, rises, left, enough);
        least = λ down.
            let left = (room-is limit amount v).1 down in
            omega (arith, ints, near, moved.1, total, falls, left, enough);
      }

  -- under the lock, from the first step on
  record Under (ks : List PcpuStep) : Type 0 where
    pub first : PcpuStep
    pub begun : History
    pub since : Extends begun earlier
    pub same_own : own begun p ≡ own earlier p
    pub kept : Extends later (event p first ∷ begun)
    pub free : History
    pub on : Extends free begun
    pub wins : IsLegal facts (event p (Won j) ∷ free)
    pub rest : MadeSteps facts (event p (Won j) ∷ free) later p ks

  under : (batch hides : ℕ) (cpu : CpuId) (probing locking ks : List PcpuStep)
      → Probes batch hides limit cpu j amount probing → Locks j locking
      → MadeSteps facts earlier later p ((probing ++ locking) ++ ks) → Under ks
  under batch hides cpu probing locking ks (large l above) locks has =
      let a = first-at facts p earlier (LoadL j cpu l) (locking ++ ks) later has in
      let next : History = event p (LoadL j cpu l) ∷ a.moment in
      let w = won-at facts p j locking ks next later locks a.rest in
      record {
        first = LoadL j cpu l;
        begun = a.moment;
        since = a.since;
        same_own = a.own_same;
        kept = a.rest.goes_on;
        free = w.free;
        on = Extends-both w.free next a.moment w.since (event p (LoadL j cpu l) ∷ [], refl);
        wins = w.legal;
        rest = w.rest;
      }
  under batch hides cpu probing locking ks (narrow l v fits small) locks has =
      let a = first-at facts p earlier (LoadL j cpu l) (LoadC j v ∷ (locking ++ ks)) later has in
      let next : History = event p (LoadL j cpu l) ∷ a.moment in
      let b = first-at facts p next (LoadC j v) (locking ++ ks) later a.rest in
      let last : History = event p (LoadC j v) ∷ b.moment in
      let w = won-at facts p j locking ks last later locks b.rest in
      record {
        first = LoadL j cpu l;
        begun = a.moment;
        since = a.since;
        same_own = a.own_same;
        kept = a.rest.goes_on;
        free = w.free;
        on = Extends-both w.free last a.moment w.since
            (Extends-both last next a.moment (Extends-both last b.moment next (event p (LoadC j v) ∷ [], refl) b.since)
            (event p (LoadL j cpu l) ∷ [], refl));
        wins = w.legal;
        rest = w.rest;
      }

  -- what is loaded of local parts takes and gives no lock, carries nothing, adds nothing and loads no shared part
  record OnlyLoads (loads : List PcpuStep) : Type 0 where
    pub holds : (mine : History) → holds_lock j.number (after p loads mine) ≡ holds_lock j.number mine
    pub carries : (mine : History) → carried j.number (after p loads mine) ≡ carried j.number mine
    pub adds_none : (mine : History) → AddNone mine → AddNone (after p loads mine)
    pub no_count : (rest : List PcpuStep) → LoadsNoCount rest → LoadsNoCount (loads ++ rest)

  no-loads : OnlyLoads []
  no-loads = record {
    holds = λ mine. refl;
    carries = λ mine. refl;
    adds_none = λ mine none. none;
    no_count = λ rest none. none;
  }

  only-loads : (cpus : List CpuId) (loads : List PcpuStep) (sum : ℤ) → LoadsEach j cpus loads sum → OnlyLoads loads
  only-loads cpus loads sum no_cpu = no-loads
  only-loads cpus loads sum (one_cpu c d others steps rest each) =
      let more = only-loads others steps rest each in
      record {
        holds = λ mine. more.holds (event p (LoadL j c d) ∷ mine);
        carries = λ mine. more.carries (event p (LoadL j c d) ∷ mine);
        adds_none = λ mine none. more.adds_none (event p (LoadL j c d) ∷ mine) (tt, none);
        no_count = λ steps none. more.no_count steps none;
      }

  -- nothing is carried where the holder carries nothing
  none-carried : (h : History) → IsLegal facts h → IsPcpu facts j.number → holds_lock j.number (own h p) ≡ true
      → carried j.number (own h p) ≡ pos 0 → carried_by_all h j.number ≡ pos 0
  none-carried h legal j_in holding none =
      let all = carrier facts j.number j_in h legal in
      all.1 ∙ by (holds_lock j.number (own h all.0)) all.0 refl
    where
      by : (b : Bool) (q : ℕ) → holds_lock j.number (own h q) ≡ b → carried j.number (own h q) ≡ pos 0
      by true q theirs =
          let same : q ≡ p = (holder-one facts h legal j.number j_in).one q p theirs holding in
          ap (λ (r : ℕ). carried j.number (own h r)) same ∙ none
      by false q theirs = (holder-one facts h legal j.number j_in).others q theirs

  -- the moment of the verdict
  record Judged (loaded : History) (v : ℤ) (loads ending : List PcpuStep) : Type 0 where
    pub end : History
    pub since : Extends end (event p (LoadC j v) ∷ loaded)
    pub rest : MadeSteps facts end later p ending
    pub own_end : own end p ≡ after p loads (event p (LoadC j v) ∷ own loaded p)
    pub only : OnlyLoads loads
    pub most : pos 0 <ℤ amount → (true_total facts end j.number +ℤ amount) ≤ℤ
        (limit +ℤ by_others_between rise p j.number (event p (LoadC j v) ∷ loaded) end)
    pub least : amount <ℤ pos 0 → (limit -ℤ by_others_between fall p j.number (event p (LoadC j v) ∷ loaded) end) ≤ℤ
        (true_total facts end j.number +ℤ amount)

  module _ (loaded : History) (v : ℤ) (reads : IsLegal facts (event p (LoadC j v) ∷ loaded))
      (kept : Extends later (event p (LoadC j v) ∷ loaded))
      (holding : holds_lock j.number (own loaded p) ≡ true) (none : carried j.number (own loaded p) ≡ pos 0) where
    own_read : own (event p (LoadC j v) ∷ loaded) p ≡ event p (LoadC j v) ∷ own loaded p
    own_read = own-mine (event p (LoadC j v)) loaded p refl

    judged : (loads ending : List PcpuStep) (answer : Bool)
        → Judges (unknown facts j.number) limit (present_cpus facts) j amount (v +ℤ amount) loads answer
        → answer ≡ true → MadeSteps facts (event p (LoadC j v) ∷ loaded) later p (loads ++ ending)
        → Judged loaded v loads ending
    judged loads ending answer (beyond out) says_so has = absurd (true≢false (sym says_so))
    judged loads ending answer (inside fits) says_so has =
        let free = adds-earlier later (event p (LoadC j v) ∷ loaded) kept adds in
        let near = count-near facts loaded reads.0 free.1 j.number reads.2.counter in
        let value : count_at (numbers_after facts loaded) j.number ≡ v = reads.2.value in
        let left = room-is limit amount (v +ℤ amount) in
        record {
          end = event p (LoadC j v) ∷ loaded;
          since = Extends-same (event p (LoadC j v) ∷ loaded);
          rest = has;
          own_end = own_read;
          only = no-loads;
          most = λ up. let room_up = left.0 up in omega (arith, ints, near, value, fits, room_up);
          least = λ down. let room_down = left.1 down in omega (arith, ints, near, value, fits, room_down);
        }
    judged loads ending answer (close steps sum out fits each) says_so has =
        let read : History = event p (LoadC j v) ∷ loaded in
        let base = base_can_begin percpu facts loaded reads.0 in
        let holds : holds_lock j.number (own read p) ≡ true = ap (holds_lock j.number) own_read ∙ holding in
        let part = passed facts p j reads.2.counter facts.cpus 0 steps ending sum read later
        (omega (arith, base.lengths.one_state_each))
        (λ i c is below. ap (λ (k : ℕ). get_or facts.cpus k Absent) (omega arith)) reads holds each has in
        let only = only-loads (present_cpus facts) steps sum each in
        let own_end : own part.end p ≡ after p steps (event p (LoadC j v) ∷ own loaded p) =
        part.own_end ∙ ap (after p steps) own_read in
        let nothing = none-carried part.end part.legal reads.2.counter
        (ap (holds_lock j.number) own_end ∙ only.holds (event p (LoadC j v) ∷ own loaded p) ∙ holding)
        (ap (carried j.number) own_end ∙ only.carries (event p (LoadC j v) ∷ own loaded p) ∙ none) in
        let whole = totals-kept facts part.end part.legal j.number reads.2.counter in
        let value : count_at (numbers_after facts loaded) j.number ≡ v = reads.2.value in
        let count = part.count in
        let left = room-is limit amount ((v +ℤ amount) +ℤ sum) in
        let keeps : pos 0 ≤ℤ room limit amount ((v +ℤ amount) +ℤ sum) = says says_so in
        record {
          end = part.end;
          since = part.since;
          rest = part.rest;
          own_end = own_end;
          only = only;
          most = λ up. let room_up = left.0 up in
              omega (arith, ints, part.most, nothing, whole, value, count, keeps, room_up);
          least = λ down. let room_down = left.1 down in
              omega (arith, ints, part.least, nothing, whole, value, count, keeps, room_down);
        }
      where
        says : int_le (pos 0) (room limit amount ((v +ℤ amount) +ℤ sum)) ≡ true
            → pos 0 ≤ℤ room limit amount ((v +ℤ amount) +ℤ sum)
        says told = omega (arith, ints, told)

  -- a load adds nothing
  read-others : (part : ℤ → ℤ) (loaded : History) (v : ℤ)
      → by_others part p j.number (event p (LoadC j v) ∷ loaded) ≡ by_others part p j.number loaded
  read-others part loaded v =
      let mine = ap (λ (b : Bool). if b then pos 0 else part (pos 0)) (eq-eqb p p refl) in
      omega (arith, ints, mine)

  -- from the load over the moment of the verdict to the change
  module _ (loaded end unchanged : History) (v : ℤ) (change : PcpuStep)
      (its_amount : amount_of j.number (carried j.number (own unchanged p)) change ≡ amount) where
    past-most : (true_total facts end j.number +ℤ amount) ≤ℤ
        (limit +ℤ by_others_between rise p j.number (event p (LoadC j v) ∷ loaded) end)
        → true_total facts unchanged j.number ≤ℤ
        (true_total facts end j.number +ℤ by_others_between rise p j.number end unchanged)
        → true_total facts (event p change ∷ unchanged) j.number ≤ℤ
        (limit +ℤ by_others_between rise p j.number loaded (event p change ∷ unchanged))
    past-most bound moved =
        omega (
          arith,
          ints,
          bound,
          moved,
          changed-total change unchanged its_amount,
          changed-others change unchanged its_amount rise loaded,
          read-others rise loaded v,
        )

    past-least : (limit -ℤ by_others_between fall p j.number (event p (LoadC j v) ∷ loaded) end) ≤ℤ
        (true_total facts end j.number +ℤ amount)
        → (true_total facts end j.number -ℤ by_others_between fall p j.number end unchanged) ≤ℤ
        true_total facts unchanged j.number
        → (limit -ℤ by_others_between fall p j.number loaded (event p change ∷ unchanged)) ≤ℤ
        true_total facts (event p change ∷ unchanged) j.number
    past-least bound moved =
        omega (
          arith,
          ints,
          bound,
          moved,
          changed-total change unchanged its_amount,
          changed-others change unchanged its_amount fall loaded,
          read-others fall loaded v,
        )

  -- after the verdict the own local part is taken, and moves to the shared part together with the amount
  stays-moved : (cpu : CpuId) (v u : ℤ) (loads ending : List PcpuStep) (w : Under (LoadC j v ∷ (loads ++ ending)))
      → (r : FirstAt facts (event p (Won j) ∷ w.free) later p (LoadC j v) (loads ++ ending))
      → carried j.number (own r.moment p) ≡ pos 0 → (last : Judged r.moment v loads ending)
      → (t : FirstAt facts last.end later p (TakeL j cpu u) (AddC j (u +ℤ amount) ∷ Unlock j ∷ []))
      → FirstAt facts (event p (TakeL j cpu u) ∷ t.moment) later p (AddC j (u +ℤ amount)) (Unlock j ∷ [])
      → StaysWithinLimit facts earlier later p j limit amount
  stays-moved cpu v u loads ending w r none last t c =
      let won : History = event p (Won j) ∷ w.free in
      let loaded : History = r.moment in
      let read : History = event p (LoadC j v) ∷ loaded in
      let taken : History = event p (TakeL j cpu u) ∷ t.moment in
      let unchanged : History = c.moment in
      let change : PcpuStep = AddC j (u +ℤ amount) in
      let here : nat_eq j.number j.number ≡ true = eq-eqb j.number j.number refl in
      let own_taken : own unchanged p ≡ event p (TakeL j cpu u) ∷ own last.end p =
      c.own_same ∙ own-mine (event p (TakeL j cpu u)) t.moment p refl
      ∙ ap (λ (es : History). event p (TakeL j cpu u) ∷ es) t.own_same in
      let mine : History = event p (LoadC j v) ∷ own loaded p in
      let empty : carried j.number (own last.end p) ≡ pos 0 =
      ap (carried j.number) last.own_end ∙ last.only.carries mine ∙ none in
      let carries : carried j.number (own unchanged p) ≡ u =
      ap (carried j.number) own_taken
      ∙ ap (λ (b : Bool). if b then carried j.number (own last.end p) +ℤ u else carried j.number (own last.end p)) here
      ∙ omega (arith, ints, empty) in
      let its : amount_of j.number (carried j.number (own unchanged p)) change ≡ amount =
      ap (λ (b : Bool). if b then (u +ℤ amount) -ℤ carried j.number (own unchanged p) else pos 0) here
      ∙ omega (arith, ints, carries) in
      let since_end : Extends unchanged last.end =
      Extends-both unchanged taken last.end c.since
      (Extends-both taken t.moment last.end (event p (TakeL j cpu u) ∷ [], refl) t.since) in
      let moved = total-between last.end unchanged since_end (TakeL j cpu u ∷ []) own_taken (tt, tt) in
      record {
        first = w.first;
        begun = w.begun;
        begins = record { since = w.since; kept = w.kept };
        nothing_before = w.same_own;
        count = v;
        loaded = loaded;
        loads = record {
          since = Extends-both loaded won w.begun r.since
              (Extends-both won w.free w.begun (event p (Won j) ∷ [], refl) w.on);
          kept = r.rest.goes_on;
        };
        change = change;
        unchanged = unchanged;
        changes = record {
          since = Extends-both unchanged last.end loaded since_end
              (Extends-both last.end read loaded last.since (event p (LoadC j v) ∷ [], refl));
          kept = c.rest.goes_on;
        };
        its_amount = its;
        changed = event p change ∷ unchanged;
        after_change = refl;
        between = loads ++ TakeL j cpu u ∷ [];
        made_between = own_taken ∙ ap (λ (es : History). event p (TakeL j cpu u) ∷ es) last.own_end
            ∙ sym (after-steps p loads (TakeL j cpu u ∷ []) mine);
        no_later_load = last.only.no_count (TakeL j cpu u ∷ []) tt;
        most = λ up. past-most loaded last.end unchanged v change its (last.most up) moved.0;
        least = λ down. past-least loaded last.end unchanged v change its (last.least down) moved.1;
      }

  stays-locked : (batch : ℕ) (cpu : CpuId) (v u : ℤ) (probing locking loads : List PcpuStep) (answer : Bool)
      → answer ≡ true → Probes batch (unknown facts j.number) limit cpu j amount probing → Locks j locking
      → Judges (unknown facts j.number) limit (present_cpus facts) j amount (v +ℤ amount) loads answer
      → MadeSteps facts earlier later p ((probing ++ locking)
      ++ LoadC j v ∷ (loads ++ TakeL j cpu u ∷ AddC j (u +ℤ amount) ∷ Unlock j ∷ []))
      → StaysWithinLimit facts earlier later p j limit amount
  stays-locked batch cpu v u probing locking loads answer says_so probes locks judges has =
      let ending : List PcpuStep = TakeL j cpu u ∷ AddC j (u +ℤ amount) ∷ Unlock j ∷ [] in
      let w = under batch (unknown facts j.number) cpu probing locking (LoadC j v ∷ (loads ++ ending)) probes locks has
      in
      let r = first-at facts p (event p (Won j) ∷ w.free) (LoadC j v) (loads ++ ending) later w.rest in
      let own_loaded : own r.moment p ≡ event p (Won j) ∷ own w.free p =
      r.own_same ∙ own-mine (event p (Won j)) w.free p refl in
      let holding : holds_lock j.number (own r.moment p) ≡ true =
      ap (holds_lock j.number) own_loaded
      ∙ ap (λ (b : Bool). if b then true else holds_lock j.number (own w.free p)) (eq-eqb j.number j.number refl) in
      let none : carried j.number (own r.moment p) ≡ pos 0 =
      ap (carried j.number) own_loaded
      ∙ (holder-one facts w.free w.wins.0 j.number w.wins.2.counter).free w.wins.2.free p in
      let last = judged r.moment v r.legal r.rest.goes_on holding none loads ending answer judges says_so r.rest in
      let t = first-at facts p last.end (TakeL j cpu u) (AddC j (u +ℤ amount) ∷ Unlock j ∷ []) later last.rest in
      stays-moved cpu v u loads ending w r none last t
      (first-at facts p (event p (TakeL j cpu u) ∷ t.moment) (AddC j (u +ℤ amount)) (Unlock j ∷ []) later t.rest)

pub limited-stays : (facts : PcpuFacts) (earlier later : History) (p : ℕ) (cpu : CpuId) (j : PcpuId)
    (limit amount : ℤ) (steps : List PcpuStep) → MadeSteps facts earlier later p steps → AddsCarryNothing later
    → amount ≢ pos 0
    → IsLimitedAdd (batch_at facts.base j.number) (unknown facts j.number) (present_cpus facts) cpu j limit amount steps
    true → StaysWithinLimit facts earlier later p j limit amount
limited-stays facts earlier later p cpu j limit amount steps calls adds some is = by true refl steps is calls
  where
    ended : (v : ℤ) (probing locking loads ending : List PcpuStep) (answer : Bool) → answer ≡ true
        → Probes (batch_at facts.base j.number) (unknown facts j.number) limit cpu j amount probing → Locks j locking
        → Judges (unknown facts j.number) limit (present_cpus facts) j amount (v +ℤ amount) loads answer
        → EndsLimitedAdd cpu j amount answer ending
        → MadeSteps facts earlier later p ((probing ++ locking) ++ LoadC j v ∷ (loads ++ ending))
        → StaysWithinLimit facts earlier later p j limit amount
    ended v probing locking loads ending answer says_so probes locks judges (yes_ends u) has =
        stays-locked facts earlier later p j limit amount calls.legal adds (batch_at facts.base j.number) cpu v u
        probing locking loads answer says_so probes locks judges has
    ended v probing locking loads ending answer says_so probes locks judges no_ends has =
        absurd (true≢false (sym says_so))

    by : (answer : Bool) → answer ≡ true → (steps : List PcpuStep)
        → IsLimitedAdd (batch_at facts.base j.number) (unknown facts j.number) (present_cpus facts) cpu j limit amount
        steps answer → MadeSteps facts earlier later p steps
        → StaysWithinLimit facts earlier later p j limit amount
    by answer says_so steps (nothing none) has = absurd (some none)
    by answer says_so steps (unlocked l v other fits enough) has =
        stays-unlocked facts earlier later p j limit amount calls.legal adds cpu l v enough has
    by answer says_so steps (locked v told probing locking loads ending other probes locks judges ends) has =
        ended v probing locking loads ending answer says_so probes locks judges ends has
