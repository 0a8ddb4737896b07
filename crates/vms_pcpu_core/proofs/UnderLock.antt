-- A limited addition by the lock.
use Rattle.std.proofs.Common.{◌≡◌, ℕ, Bool, true, false, List, [], ◌∷◌, ◌++◌, Some, ℤ, pos, ◌+ℤ◌, ◌-ℤ◌, refl, sym, ap}
use Rattle.std.proofs.Common.{subst, ◌∙◌, if◌then◌else◌, nat_eq, eq-eqb, arith}
use Rattle.std.proofs.lemmas.Int.{ints}
use Rattle.vms_history.specs.Common.{CpuId, PcpuId, Extends, own, after, owner_in}
use Rattle.vms_history.specs.declared.events.Event.{Event}
use Rattle.vms_history.proofs.Common.{Extends-both, own-mine}
use Rattle.vms_pcpu_core.specs.declared.steps.PcpuFacts.{PcpuFacts}
use Rattle.vms_pcpu_core.specs.declared.steps.PcpuStep.{PcpuStep}
use Rattle.vms_pcpu_core.specs.declared.steps.PcpuStep.TheVariants.{LoadL, LoadC, Won, TakeL, AddC, Unlock}
use Rattle.vms_pcpu_core.specs.Common.{batch_at, Locks, Probes, Judges, unknown, present_cpus, won, missed, large}
use Rattle.vms_pcpu_core.specs.Common.{narrow, History, IsLegal, rise, fall, KeepsLimit, PassesLimit, event, carried}
use Rattle.vms_pcpu_core.specs.Common.{role, amount_of}
use Rattle.vms_pcpu_core.proofs.SumMoments.{legal-earlier}
use Rattle.vms_pcpu_core.proofs.LimitTotals.{winning-carries, counted, last-read, judged, judges-loads}
use Rattle.vms_pcpu_core.proofs.OtherChanges.{rise-least, fall-least, by_self, by_self-others, by_self-step, AddNothing}
use Rattle.vms_pcpu_core.proofs.OtherChanges.{by_self-nothing_added, nothing_added-loads, by_others-grows}
use Rattle.vms_pcpu_core.proofs.OtherChanges.{carried-loads, true_total-between}
use Rattle.vms_pcpu_core.proofs.StepsInRow.{RunsBetween, run-append, run-own, run-extends, own-others_on}
use Rattle.vms_pcpu_core.proofs.CallsWithin.{run-locks}
use Rattle.vms_pcpu_core.proofs.LimitAnswers.{SaysYes, SaysNo}

nothing_added-locks : (p : ℕ) (j : PcpuId) (locking : List PcpuStep) → Locks j locking → AddNothing p j.number locking
nothing_added-locks p j locking won = (λ x. refl, tt)
nothing_added-locks p j locking (missed rest locks) = (λ x. refl, nothing_added-locks p j rest locks)

nothing_added-probes : (p batch hides : ℕ) (limit : ℤ) (cpu : CpuId) (j : PcpuId) (amount : ℤ) (probing : List PcpuStep)
    → Probes batch hides limit cpu j amount probing → AddNothing p j.number probing
nothing_added-probes p batch hides limit cpu j amount probing (large l above) = (λ x. refl, tt)
nothing_added-probes p batch hides limit cpu j amount probing (narrow l v fits small) = (λ x. refl, (λ x. refl, tt))

module _ (facts : PcpuFacts) (earlier later : History) (p : ℕ) (cpu : CpuId) (j : PcpuId) (limit amount : ℤ)
    (legal : IsLegal facts later)
    (owner : owner_in role later p ≡ Some cpu) (nothing_carried : carried j.number (own earlier p) ≡ pos 0) where
  -- by the lock: the first step, the winning of the lock, the readings under it, and the rest
  pub record Under (v : ℤ) (loads ending : List PcpuStep) (end : History) : Type 0 where
    pub first : PcpuStep
    pub begun : History
    pub since : Extends begun earlier
    pub same_own : own begun p ≡ own earlier p
    pub free : History
    pub begins : Extends free (event p first ∷ begun)
    pub nothing_added : by_self p j.number (event p (Won j) ∷ free) ≡ by_self p j.number earlier
    pub read_end : History
    pub reads : RunsBetween p (LoadC j v ∷ loads) (event p (Won j) ∷ free) read_end
    pub ends : RunsBetween p ending read_end end

  probes-first : (hides batch : ℕ) (probing : List PcpuStep) (g : History)
      → Probes batch hides limit cpu j amount probing
      → RunsBetween p probing earlier g
      → (begun : History) × (first : PcpuStep) × Extends begun earlier × (own begun p ≡ own earlier p)
      × Extends g (event p first ∷ begun)
  probes-first hides batch probing g (large l above) run =
      (run.0 ++ earlier, LoadL j cpu l, (run.0, refl), own-others_on run.0 earlier p run.1, ([], run.2))
  probes-first hides batch probing g (narrow l v fits small) run = (
    run.0 ++ earlier,
    LoadL j cpu l,
    (run.0, refl),
    own-others_on run.0 earlier p run.1,
    run-extends p (LoadC j v ∷ []) (event p (LoadL j cpu l) ∷ (run.0 ++ earlier)) g run.2,
  )

  under : (hides batch : ℕ) (v : ℤ) (probing locking loads ending : List PcpuStep) (end : History)
      → Probes batch hides limit cpu j amount probing → Locks j locking
      → RunsBetween p (probing ++ locking ++ LoadC j v ∷ (loads ++ ending)) earlier end → Under v loads ending end
  under hides batch v probing locking loads ending end probes locks run =
      let whole = run-append p (probing ++ locking) (LoadC j v ∷ (loads ++ ending)) earlier end run in
      let front = run-append p probing locking earlier whole.0 whole.1 in
      let wins = run-locks p j locking front.0 whole.0 locks front.2 in
      let started = probes-first hides batch probing front.0 probes front.1 in
      let free : History = wins.0 in
      let rest : RunsBetween p ((LoadC j v ∷ loads) ++ ending) (event p (Won j) ∷ free) end =
      subst (λ (h : History). RunsBetween p ((LoadC j v ∷ loads) ++ ending) h end) wins.1 whole.2 in
      let back = run-append p (LoadC j v ∷ loads) ending (event p (Won j) ∷ free) end rest in
      record {
        first = started.1;
        begun = started.0;
        since = started.2;
        same_own = started.3;
        free = free;
        begins = Extends-both free front.0 (event p started.1 ∷ started.0) wins.2 started.4;
        nothing_added =
            ap (by_self p j.number) (sym wins.1)
            ∙ by_self-nothing_added p j.number locking front.0 whole.0 (nothing_added-locks p j locking locks) front.2
            ∙ by_self-nothing_added p j.number probing earlier front.0 (nothing_added-probes p batch hides limit cpu j
            amount probing
            probes) front.1;
        read_end = back.0;
        reads = back.1;
        ends = back.2;
      }

  pub locked-passes : (v : ℤ) (probing locking loads : List PcpuStep) (end : History)
      → Probes (batch_at facts.base j.number) (unknown facts j.number) limit cpu j amount probing → Locks j locking
      → Judges (unknown facts j.number) limit (present_cpus facts) j amount (v +ℤ amount) loads false
      → RunsBetween p (probing ++ locking ++ LoadC j v ∷ (loads ++ Unlock j ∷ [])) earlier end → own later p ≡ own end p
      → Extends later end → SaysNo facts earlier later p j limit amount end
  locked-passes v probing locking loads end probes locks judges run same_own more =
      let parts =
      under (unknown facts j.number) (batch_at facts.base j.number) v probing locking loads (Unlock j ∷ []) end
      probes locks run in
      let free : History = parts.free in
      let won : History = event p (Won j) ∷ free in
      let are =
      judges-loads (unknown facts j.number) limit (present_cpus facts) j amount (v +ℤ amount) loads false judges in
      let read = last-read facts p j free v loads parts.read_end are parts.reads in
      let reading : Event PcpuStep = event p read.reading in
      let to_read : Extends later parts.read_end =
      Extends-both later end parts.read_end more (run-extends p (Unlock j ∷ []) parts.read_end end parts.ends) in
      let read_legal : IsLegal facts parts.read_end = legal-earlier facts later parts.read_end legal to_read in
      let to_won : Extends later won =
      Extends-both later parts.read_end won to_read
      (run-extends p (LoadC j v ∷ loads) won parts.read_end parts.reads) in
      let knows = judged facts p j free limit amount v false loads parts.read_end read read_legal parts.reads judges in
      let free_on : Extends free earlier =
      Extends-both free (event p parts.first ∷ parts.begun) earlier parts.begins
      (Extends-both (event p parts.first ∷ parts.begun) parts.begun earlier
      (event p parts.first ∷ [], refl) parts.since) in
      let passes : PassesLimit facts earlier later p j limit amount = record {
        free = free;
        wins =
            record {
              since = free_on;
              kept = to_won;
            };
        won = won;
        after_win = refl {a = won};
        reading = read.reading;
        is_load = read.is_load;
        last = read.last;
        reads = record { since = read.since; kept = subst (Extends later) read.is to_read };
        ends =
            same_own ∙ run-own p (Unlock j ∷ []) parts.read_end end parts.ends
            ∙ ap (λ es. event p (Unlock j) ∷ own es p) read.is
            ∙ ap (λ es. event p (Unlock j) ∷ es) (own-mine reading read.last p refl);
        most = λ up. knows.no_most refl up;
        least = λ down. knows.no_least refl down;
      } in
      let unlock_step = by_self-step p j.number (Unlock j) (parts.ends.0 ++ parts.read_end) in
      let unlock_others = by_self-others p j.number parts.ends.0 parts.read_end parts.ends.1 in
      let read_steps =
      by_self-nothing_added p j.number (LoadC j v ∷ loads) won parts.read_end
      (nothing_added-loads p j.number (LoadC j v ∷ loads) (tt, are)) parts.reads in
      record {
        passes = passes;
        won_kept = to_won;
        won_on = Extends-both won free earlier (event p (Won j) ∷ [], refl) free_on;
        own_won = parts.nothing_added;
        own_end = ap (by_self p j.number) parts.ends.2 ∙ omega (arith, ints, parts.nothing_added);
      }

  pub locked-keeps : (v u : ℤ) (probing locking loads : List PcpuStep) (end : History)
      → Probes (batch_at facts.base j.number) (unknown facts j.number) limit cpu j amount probing → Locks j locking
      → Judges (unknown facts j.number) limit (present_cpus facts) j amount (v +ℤ amount) loads true
      → RunsBetween p
      (probing ++ locking ++ LoadC j v ∷ (loads ++ TakeL j cpu u ∷ AddC j (u +ℤ amount) ∷ Unlock j ∷ []))
      earlier end
      → Extends later end → SaysYes facts earlier later p j limit amount end
  locked-keeps v u probing locking loads end probes locks judges run more =
      let ending : List PcpuStep = TakeL j cpu u ∷ AddC j (u +ℤ amount) ∷ Unlock j ∷ [] in
      let parts =
      under (unknown facts j.number) (batch_at facts.base j.number) v probing locking loads ending end probes locks
      run in
      let free : History = parts.free in
      let won : History = event p (Won j) ∷ free in
      let are =
      judges-loads (unknown facts j.number) limit (present_cpus facts) j amount (v +ℤ amount) loads true judges in
      let read_end : History = parts.read_end in
      let read = last-read facts p j free v loads read_end are parts.reads in
      let take : Event PcpuStep = event p (TakeL j cpu u) in
      let change : Event PcpuStep = event p (AddC j (u +ℤ amount)) in
      let untaken : History = parts.ends.0 ++ read_end in
      let unchanged : History = parts.ends.2.0 ++ (take ∷ untaken) in
      let changed : History = change ∷ unchanged in
      let to_changed : Extends later changed =
      Extends-both later end changed more (run-extends p (Unlock j ∷ []) changed end parts.ends.2.2) in
      let take_on : Extends changed (take ∷ untaken) = (change ∷ parts.ends.2.0, refl) in
      let read_on : Extends changed read_end =
      Extends-both changed (take ∷ untaken) read_end take_on (take ∷ parts.ends.0, refl) in
      let to_read : Extends later read_end = Extends-both later changed read_end to_changed read_on in
      let read_legal : IsLegal facts read_end = legal-earlier facts later read_end legal to_read in
      let won_on : Extends read_end won = run-extends p (LoadC j v ∷ loads) won read_end parts.reads in
      let won_legal : IsLegal facts won = legal-earlier facts read_end won read_legal won_on in
      let loaded : History = parts.reads.0 ++ won in
      let load : History = event p (LoadC j v) ∷ loaded in
      let load_on : Extends read_end load = run-extends p loads load read_end parts.reads.2 in
      let load_legal : IsLegal facts load = legal-earlier facts read_end load read_legal load_on in
      let count = counted facts p j free v parts.reads.0 parts.reads.1 load_legal won_legal in
      let knows = judged facts p j free limit amount v true loads read_end read read_legal parts.reads judges in
      let here : nat_eq j.number j.number ≡ true = eq-eqb j.number j.number refl in
      let own_read : own read_end p ≡ after p (LoadC j v ∷ loads) (own won p) =
      run-own p (LoadC j v ∷ loads) won read_end parts.reads in
      let carries_read : carried j.number (own read_end p) ≡ pos 0 =
      ap (carried j.number) own_read ∙ carried-loads p j.number (LoadC j v ∷ loads) (own won p) (tt, are)
      ∙ winning-carries facts p j free won_legal in
      let own_taken : own unchanged p ≡ take ∷ own read_end p =
      own-others_on parts.ends.2.0 (take ∷ untaken) p parts.ends.2.1 ∙ own-mine take untaken p refl
      ∙ ap (λ es. take ∷ es) (own-others_on parts.ends.0 read_end p parts.ends.1) in
      let carries : carried j.number (own unchanged p) ≡ u =
      ap (carried j.number) own_taken
      ∙ ap (λ (b : Bool). if b then carried j.number (own read_end p) +ℤ u else carried j.number (own read_end p)) here
      ∙ omega (arith, ints, carries_read) in
      let amount_is : amount_of j.number (carried j.number (own unchanged p)) (AddC j (u +ℤ amount)) ≡ amount =
      ap (λ (b : Bool). if b then (u +ℤ amount) -ℤ carried j.number (own unchanged p) else pos 0) here
      ∙ omega (arith, ints, carries) in
      let change_step = by_self-step p j.number (AddC j (u +ℤ amount)) unchanged in
      let taken_others = by_self-others p j.number parts.ends.2.0 (take ∷ untaken) parts.ends.2.1 in
      let take_step = by_self-step p j.number (TakeL j cpu u) untaken in
      let read_others = by_self-others p j.number parts.ends.0 read_end parts.ends.1 in
      let read_steps =
      by_self-nothing_added p j.number (LoadC j v ∷ loads) won read_end
      (nothing_added-loads p j.number (LoadC j v ∷ loads) (tt, are))
      parts.reads in
      let moved = true_total-between facts p j.number won changed in
      let begun_on : Extends won parts.begun =
      Extends-both won free parts.begun (event p (Won j) ∷ [], refl)
      (Extends-both free (event p parts.first ∷ parts.begun) parts.begun parts.begins
      (event p parts.first ∷ [], refl)) in
      let last_on : Extends changed read.last =
      Extends-both changed read_end read.last read_on (event p read.reading ∷ [], read.is) in
      let changed_on : Extends changed won = Extends-both changed read_end won read_on won_on in
      let early_rises = by_others-grows rise rise-least p j.number won parts.begun begun_on in
      let early_falls = by_others-grows fall fall-least p j.number won parts.begun begun_on in
      let late_rises = by_others-grows rise rise-least p j.number changed read.last last_on in
      let late_falls = by_others-grows fall fall-least p j.number changed read.last last_on in
      let to_won : Extends later won = Extends-both later read_end won to_read won_on in
      let keeps : KeepsLimit facts earlier later p j limit amount = record {
        first = parts.first;
        begun = parts.begun;
        begins =
            record {
              since = parts.since;
              kept =
                  Extends-both later won (event p parts.first ∷ parts.begun) to_won
                  (Extends-both won free (event p parts.first ∷ parts.begun)
                  (event p (Won j) ∷ [], refl) parts.begins);
            };
        nothing_before = parts.same_own;
        count = v;
        loaded = loaded;
        loads =
            record {
              since = Extends-both loaded won parts.begun (parts.reads.0, refl) begun_on;
              kept = Extends-both later read_end load to_read load_on;
            };
        change = AddC j (u +ℤ amount);
        unchanged = unchanged;
        changes =
            record {
              since =
                  Extends-both unchanged (take ∷ untaken) loaded (parts.ends.2.0, refl)
                  (Extends-both (take ∷ untaken) read_end loaded (take ∷ parts.ends.0, refl)
                  (Extends-both read_end load loaded load_on (event p (LoadC j v) ∷ [], refl)));
              kept = to_changed;
            };
        its_amount = amount_is;
        changed = changed;
        after_change = refl {a = changed};
        rises_locked = λ held. count.rises;
        falls_locked = λ held. count.falls;
        most =
            λ up.
            let known = knows.yes_most refl up in
            omega (arith, ints, count.rises);
        least =
            λ down.
            let known = knows.yes_least refl down in
            omega (arith, ints, count.falls);
      } in
      let unlock_step = by_self-step p j.number (Unlock j) (parts.ends.2.2.0 ++ changed) in
      let unlock_others = by_self-others p j.number parts.ends.2.2.0 changed parts.ends.2.2.1 in
      record {
        keeps = keeps;
        changed_kept = to_changed;
        changed_on = Extends-both changed won earlier changed_on (Extends-both won parts.begun earlier begun_on
            parts.since);
        own_change = omega (arith, ints, parts.nothing_added);
        own_end = ap (by_self p j.number) parts.ends.2.2.2 ∙ omega (arith, ints);
      }
