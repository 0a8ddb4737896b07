-- What the looks of a snapshot find, and how far their sum is from other numbers of the CPUs.
use Rattle.std.proofs.Common.{◌≡◌, ℕ, suc, ◌+◌, ◌*◌, ◌%◌, ◌<◌, ◌≤◌, true, false, ℤ, pos, ◌-ℤ◌, List, [], ◌∷◌, ◌++◌, All}
use Rattle.std.proofs.Common.{length, refl, sym, ap, ◌∙◌, subst, arith, unsigned_abs, append_assoc}
use Rattle.std.proofs.lemmas.Int.{ints}
use Rattle.std.proofs.lemmas.List.Elements.{All-nil}
use Rattle.vms_calls.specs.Common.{CounterId, CpuState, Extends, Facts, History, IsCounter, IsCpu, LoadD, LoadO, Look}
use Rattle.vms_calls.specs.Common.{Online, State, Step, TellsGroup, after, cpu_at, diff_at, entry, group_of, hidden}
use Rattle.vms_calls.specs.Common.{in_turn, is_online, look_steps, online, other, own, state_after, sum_below}
use Rattle.vms_core.specs.Pages.{IsLegal}
use Rattle.vms_history.proofs.Common.{after-steps, own-mine, own-on_top}
use Rattle.vms_drift.specs.Moments.{MadeSince}
use Rattle.vms_near.specs.Snapshots.{EndsWithStep, before_look, over_online}
use Rattle.vms_near.proofs.BeforeLooks.{after-past, before_look-here, before_look-past, looks-past, passes}
use Rattle.vms_near.proofs.Moments.{event, made-first}
use Rattle.vms_near.proofs.StandingDiffs.{onlines-stand}

other-offline : (x : CpuState) → (x ≡ Online → ⊥) → is_online x ≡ false
other-offline Online differs = absurd (differs refl)
other-offline _ differs = refl

module _ (facts : Facts) (p : ℕ) (k : CounterId) (k_in : IsCounter facts.layout k.number) where
  -- whether a CPU is online doesn't change, since none becomes online in a phase
  online-stood : (later earlier : History) → Extends later earlier → IsLegal facts later → (c : ℕ)
      → is_online (cpu_at (state_after facts later) c) ≡ is_online (cpu_at (state_after facts earlier) c)
  online-stood later earlier more legal c =
      ap (λ (h : History). is_online (cpu_at (state_after facts h) c)) more.1
      ∙ onlines-stand facts earlier more.0 (subst (IsLegal facts) more.1 legal) c

  -- the entry of a counter in the list of its group that was loaded
  entry-told : (s : State) (c : ℕ) (values : List ℤ) → TellsGroup s c (group_of k.number) values
      → entry values k.number ≡ diff_at s c k.number
  entry-told s c values told =
      let less : k.number % 8 < 8 = omega arith in
      let at : 8 * group_of k.number + k.number % 8 ≡ k.number = omega arith in
      told.each (k.number % 8) less ∙ ap (diff_at s c) at

  -- `first` is the history with the load of the value. All histories below stand on top of it
  module _ (first later : History) where
    -- the next step of the caller, on top of what others made
    record Next (now : History) (step : Step) (ks : List Step) : Type 0 where
      pub others : History
      pub mine : own ((event p step ∷ (others ++ now)) ++ first) p ≡ event p step ∷ own (now ++ first) p
      pub legal : IsLegal facts (event p step ∷ ((others ++ now) ++ first))
      pub rest : MadeSince facts later ((event p step ∷ (others ++ now)) ++ first) p ks

    next-made : (now : History) (step : Step) (rest : List Step)
        → MadeSince facts later (now ++ first) p (step ∷ rest) → Next now step rest
    next-made now step rest has =
        let at = made-first facts p later (now ++ first) step rest has in
        let is : at.moment ≡ (at.begins.0 ++ now) ++ first =
        at.begins.1 ∙ sym (append_assoc at.begins.0 now first) in
        record {
          others = at.begins.0;
          mine = own-mine (event p step) ((at.begins.0 ++ now) ++ first) p refl
              ∙ ap (λ (h : History). event p step ∷ h) (ap (λ (h : History). own h p) (sym is) ∙ at.own_same);
          legal = subst (λ (h : History). IsLegal facts (event p step ∷ h)) is at.legal;
          rest = subst (λ (h : History). MadeSince facts later (event p step ∷ h) p rest) is at.rest;
        }

    -- CPU c was found online: these events stood before its look, and what they left was loaded
    pub record FoundOnline (since : History) (c : ℕ) (values : List ℤ) : Type 0 where
      pub c_in : IsCpu facts.layout c
      pub up : is_online (cpu_at (state_after facts first) c) ≡ true
      pub before : History
      pub looks : before_look p c since ≡ before
      pub legal : IsLegal facts (before ++ first)
      pub told : entry values k.number ≡ diff_at (state_after facts (before ++ first)) c k.number

    abbrev pub Told : History → ℕ → Look → Type 0
    Told since c (online w) = FoundOnline since c w.values
    Told since c (other x differs) = is_online (cpu_at (state_after facts first) c) ≡ false

    -- these looks at the CPUs from c on
    abbrev pub AllTold : History → ℕ → List Look → Type 0
    AllTold since c [] = Unit
    AllTold since c (look ∷ looks) = Told since c look × AllTold since (suc c) looks

    told-later : (more since : History) (c : ℕ) (look : Look) → All (passes p c) (own more p) → Told since c look
        → Told (more ++ since) c look
    told-later more since c (online w) all told = record {
      c_in = told.c_in;
      up = told.up;
      before = told.before;
      looks = before_look-past p c more since all ∙ told.looks;
      legal = told.legal;
      told = told.told;
    }
    told-later more since c (other x differs) all told = told

    -- one look at CPU c, and the steps after it
    record Looked (now : History) (c : ℕ) (look : Look) (ks : List Step) : Type 0 where
      pub all : History
      pub since : History
      pub grew : all ≡ since ++ now
      pub mine : own (all ++ first) p ≡ after p (look_steps (group_of k.number) c look) (own (now ++ first) p)
      pub ends : EndsWithStep p (all ++ first)
      pub rest : MadeSince facts later (all ++ first) p ks
      pub told : Told all c look

    looked : (now : History) (c : ℕ) (look : Look) (rest : List Step)
        → MadeSince facts later (now ++ first) p (look_steps (group_of k.number) c look ++ rest)
        → Looked now c look rest
    looked now c (online w) rest has =
        let state : Step = LoadO (record { number = c }) Online in
        let diffs : Step = LoadD (record { number = c }) (record { number = group_of k.number }) w in
        let one = next-made now state (diffs ∷ rest) has in
        let two = next-made (event p state ∷ (one.others ++ now)) diffs rest one.rest in
        let between : History = two.others ++ (event p state ∷ (one.others ++ now)) in
        record {
          all = event p diffs ∷ between;
          since = event p diffs ∷ (two.others ++ (event p state ∷ one.others));
          grew = ap (λ (h : History). event p diffs ∷ h)
              (sym (append_assoc two.others (event p state ∷ one.others) now));
          mine = two.mine ∙ ap (λ (h : History). event p diffs ∷ h) one.mine;
          ends = (diffs, between ++ first, refl);
          rest = two.rest;
          told = record {
            c_in = one.legal.2.0;
            up = sym (online-stood ((one.others ++ now) ++ first) first (one.others ++ now, refl) one.legal.0 c)
                ∙ ap is_online one.legal.2.1;
            before = between;
            looks = before_look-here p c (record { number = group_of k.number }) w between;
            legal = two.legal.0;
            told = entry-told (state_after facts (between ++ first)) c w.values two.legal.2.values;
          };
        }
    looked now c (other x differs) rest has =
        let state : Step = LoadO (record { number = c }) x in
        let one = next-made now state rest has in
        record {
          all = event p state ∷ (one.others ++ now);
          since = event p state ∷ one.others;
          grew = refl;
          mine = one.mine;
          ends = (state, (one.others ++ now) ++ first, refl);
          rest = one.rest;
          told = sym (online-stood ((one.others ++ now) ++ first) first (one.others ++ now, refl) one.legal.0 c)
              ∙ ap is_online one.legal.2.1 ∙ other-offline x differs;
        }

    -- looks at the CPUs from c on
    pub record LooksFrom (now : History) (c : ℕ) (looks : List Look) : Type 0 where
      pub all : History
      pub since : History
      pub grew : all ≡ since ++ now
      pub until : Extends later (all ++ first)
      pub mine : own (all ++ first) p
          ≡ after p (in_turn (look_steps (group_of k.number)) c looks) (own (now ++ first) p)
      pub ends : EndsWithStep p (all ++ first)
      pub told : AllTold all c looks

    pub looks-from : (looks : List Look) (now : History) (c : ℕ) → EndsWithStep p (now ++ first)
        → MadeSince facts later (now ++ first) p (in_turn (look_steps (group_of k.number)) c looks)
        → LooksFrom now c looks
    looks-from [] now c ends has =
        record { all = now; since = []; grew = refl; until = has.extends; mine = refl; ends = ends; told = tt }
    looks-from (look ∷ looks) now c ends has =
        let steps = look_steps (group_of k.number) in
        let turns = in_turn steps (suc c) looks in
        let one = looked now c look turns has in
        let more = looks-from looks one.all (suc c) one.ends one.rest in
        let only : own more.since p ≡ after p turns [] =
        own-on_top more.since (one.all ++ first) p turns
        (ap (λ (h : History). own h p)
        (sym (append_assoc more.since one.all first) ∙ ap (λ (h : History). h ++ first) (sym more.grew))
        ∙ more.mine) in
        let past : All (passes p c) (own more.since p) =
        subst (All (passes p c)) (sym only)
        (after-past p c turns [] (All-nil (passes p c))
        (looks-past (group_of k.number) c looks (suc c) (omega arith))) in
        record {
          all = more.all;
          since = more.since ++ one.since;
          grew = more.grew ∙ ap (λ (h : History). more.since ++ h) one.grew
              ∙ sym (append_assoc more.since one.since now);
          until = more.until;
          mine = more.mine ∙ ap (after p turns) one.mine
              ∙ sym (after-steps p (steps c look) turns (own (now ++ first) p));
          ends = more.ends;
          told = (
            subst (λ (h : History). Told h c look) (sym more.grew) (told-later more.since one.all c look past one.told),
            more.told,
          );
        }

    -- sums over the looks, where what each found is so near a number of its CPU, which is 0 of a CPU that isn't online
    module _ (since : History) (g : ℕ → ℤ) (most : ℕ → ℕ)
        (near : (c : ℕ) (values : List ℤ) → FoundOnline since c values
        → unsigned_abs (entry values k.number -ℤ g c) ≤ most c)
        (none : (c : ℕ) → is_online (cpu_at (state_after facts first) c) ≡ false → g c ≡ pos 0) where
      pub sums-near : (looks : List Look) (c : ℕ) → AllTold since c looks
          → unsigned_abs (hidden k.number looks -ℤ (sum_below g (c + length looks) -ℤ sum_below g c))
          ≤ over_online most c looks
      sums-near [] c told =
          let same : c + 0 ≡ c = omega arith in
          omega (arith, ints, ap (sum_below g) same)
      sums-near (online w ∷ looks) c told =
          let count : c + suc (length looks) ≡ suc c + length looks = omega arith in
          omega (
            arith,
            ints,
            near c w.values told.0,
            sums-near looks (suc c) told.1,
            ap (sum_below g) count,
          )
      sums-near (other x differs ∷ looks) c told =
          let count : c + suc (length looks) ≡ suc c + length looks = omega arith in
          omega (arith, ints, none c told.0, sums-near looks (suc c) told.1, ap (sum_below g) count)
