-- The condition of each step by the history in which a pass's steps stand in a row, and that the steps may then be made
-- while others act.
use Rattle.std.proofs.Common.{◌≡◌, ◌≢◌, ℕ, ◌+◌, ◌≤◌, ℤ, List, [], ◌∷◌, ◌++◌, unsigned_abs, Option, Some, None, sym, ap}
use Rattle.std.proofs.Common.{◌∙◌, subst, arith, ⊎_elim}
use Rattle.vms_history.specs.Common.{Diffs, CounterId, CpuId, GroupId, PlaceId, Online, Dead, Covers, IsCpu, IsPlace}
use Rattle.vms_history.specs.Common.{IsZone, IsCounter, IsItem, IsGroup, place_of, group_of, most_threshold, own, after}
use Rattle.vms_history.specs.Common.{Acts, owner, owner_in, Works, size_at, most_volume}
use Rattle.vms_history.proofs.Common.{own-after_others, live_is_given}
use Rattle.vms_core.specs.declared.steps.Facts.{Facts}
use Rattle.vms_core.specs.declared.steps.Step.{Step}
use Rattle.vms_core.specs.declared.steps.Step.TheVariants.{LoadT, LoadD, Put, Miss, AddG, AddS, Take, LoadG, LoadS}
use Rattle.vms_core.specs.declared.steps.Step.TheVariants.{LoadM, LoadO, SetT, SetM, SetO, SetA, LoadA, Split, Join}
use Rattle.vms_core.specs.Common.{TellsGroup, mark_at, cpu_at, Meets, AddsToPlace, AddsToSystem, Acknowledges, SetsMark}
use Rattle.vms_core.specs.Common.{IsControl, MayExchange, HasTakenAll, CarriesNothing, carried, carried_of_item, found}
use Rattle.vms_core.specs.Common.{loaded, took, has_put, pages, History, IsLegal, state_after, peak, peak_sum, cpu_in}
use Rattle.vms_core.specs.Common.{role, spent}
use Rattle.vms_calls.specs.Common.{HasMade, Tells, MayMake, IsLivePass}
use Rattle.vms_calls.proofs.Agreement.{Agrees, by_last, event, mark_in, mark_at-told, made-last, made-agrees}
use Rattle.vms_core.proofs.Common.{SetsAbsent-taken, put-follows, miss-follows, zeros-win, owned-online, peaks-in_range}
use Rattle.vms_core.proofs.Common.{cpu_at-state_after}
use Rattle.vms_calls.proofs.RatingCovers.{SamePeaks-next, peak_sum-same}

module _ (facts : Facts) (p : ℕ) where
  -- the pass may exchange the list that it found
  pub record Exchanging (g : History) (k : CounterId) (w : Diffs) (t : ℕ) (delta : ℤ) : Type 0 where
    pub cpu : CpuId
    pub owner : owner_in role g p ≡ Some cpu
    pub counter : IsCounter facts.layout k.number
    pub as_found : found cpu (group_of k.number) (own g p) ≡ Some w.values
    pub number : ℕ
    pub as_loaded : loaded (place_of facts.layout k.number) (own g p) ≡ Some (record { t = t; number = number })
    pub nothing_carried : CarriesNothing facts.layout (own g p)
    pub affordable : spent g cpu.number k.number + unsigned_abs delta ≤ most_volume

  -- it may lose the exchange
  pub record Losing (g : History) (j : GroupId) (w : Diffs) : Type 0 where
    pub k : CounterId
    pub t : ℕ
    pub delta : ℤ
    pub exchanging : Exchanging g k w t delta
    pub group : j.number ≡ group_of k.number

  -- the control pass may set a threshold
  pub record Setting (g : History) (c : CpuId) (z : PlaceId) (t : ℕ) : Type 0 where
    pub control : IsControl g p
    pub cpu : IsCpu facts.layout c.number
    pub place : IsPlace facts.layout z.number
    pub online : cpu_in facts c.number g ≡ Online
    pub least : 1 ≤ t
    pub most : t ≤ most_threshold
    pub covers : IsZone facts.layout z.number → Covers (size_at facts.sizes z.number) (mark_in facts z.number g)
        (peak_sum facts z.number (event facts p (SetT c z t) ∷ g))

  -- it may make a CPU absent
  pub record Removing (g : History) (c : CpuId) : Type 0 where
    pub control : IsControl g p
    pub cpu : IsCpu facts.layout c.number
    pub dead : cpu_in facts c.number g ≡ Dead
    pub took_all : HasTakenAll facts c.number (own g p)

  -- the condition of a step, but for what it tells
  abbrev pub Fits : History → Step → Type 0
  Fits g (LoadT z t a) = IsPlace facts.layout z.number × ((c : CpuId) × (owner_in role g p ≡ Some c))
  Fits g (LoadD c j w) = IsCpu facts.layout c.number × IsGroup facts.layout j.number
  Fits g (Take c j w) = IsCpu facts.layout c.number × IsGroup facts.layout j.number
  Fits g (Put k w t delta how) = Exchanging g k w t delta
  Fits g (Miss j w) = Losing g j w
  Fits g (AddG k a) = AddsToPlace facts g p k a
  Fits g (AddS i a) = AddsToSystem facts g p i a
  Fits g (LoadG k v) = IsCounter facts.layout k.number
  Fits g (LoadS i v) = IsItem facts.layout i.number
  Fits g (LoadM z m a) = IsZone facts.layout z.number
  Fits g (LoadO c x) = IsCpu facts.layout c.number
  Fits g (SetT c z t) = Setting g c z t
  Fits g (SetM z m) = SetsMark facts g p z m
  Fits g (SetO c) = Removing g c
  Fits g (SetA z a) = Acknowledges facts g p z a
  Fits g (LoadA c z x) = IsControl g p × IsCpu facts.layout c.number × IsZone facts.layout z.number
  Fits g (Split q who) = ⊥
  Fits g (Join q) = ⊥

  -- what the control pass learns of a step
  abbrev pub Informs : History → Step → Type 0
  Informs g (LoadM z m a) = IsControl g p → mark_in facts z.number g ≡ m
  Informs g (LoadO c x) = IsControl g p → cpu_in facts c.number g ≡ x
  Informs g _ = Unit {0}

  -- what a pass that owns `who` knows at each step
  pub record Knows (who : Option CpuId) (g : History) : Type 0 where
    pub owner : owner_in role g p ≡ who
    pub peaks : who ≡ None → (c z : ℕ) → IsCpu facts.layout c → IsPlace facts.layout z
        → peak facts c z g ≤ most_threshold

  module _ (who : Option CpuId) where
    -- each of these steps in a row meets its condition, and afterwards P holds
    abbrev pub Runs : List Step → History → (History → Type 0) → Type 0
    Runs [] g P = P g
    Runs (k ∷ ks) g P = (Knows who g → Fits g k) × (Knows who g → Informs g k → Runs ks (event facts p k ∷ g) P)

    pub runs-append : (xs ys : List Step) (g : History) (P : History → Type 0) → Runs xs g (λ then. Runs ys then P)
        → Runs (xs ++ ys) g P
    runs-append [] ys g P runs = runs
    runs-append (x ∷ xs) ys g P runs =
        (runs.0, λ knows informs. runs-append xs ys (event facts p x ∷ g) P (runs.1 knows informs))

    -- what holds of the history after steps in a row holds once they ran
    pub runs-then : (xs : List Step) (g : History) (P : History → Type 0) → Runs xs g (λ now. Unit {0})
        → P (after p xs g) → Runs xs g P
    runs-then [] g P runs holds = holds
    runs-then (x ∷ xs) g P runs holds =
        (runs.0, λ knows informs. runs-then xs (event facts p x ∷ g) P (runs.1 knows informs) holds)

    -- all that these steps told
    abbrev Told : List Step → History → Type 0
    Told [] g = Unit {0}
    Told (k ∷ ks) g = Knows who g × Informs g k × Told ks (event facts p k ∷ g)

    told-more : (ks : List Step) (k : Step) (g : History) → Told ks g → Knows who (after p ks g)
        → Informs (after p ks g) k
        → Told (ks ++ (k ∷ [])) g
    told-more [] k g told knows informs = (knows, informs, tt)
    told-more (x ∷ ks) k g told knows informs =
        (told.0, told.1, told-more ks k (event facts p x ∷ g) told.2 knows informs)

    runs-after : (done ks : List Step) (g : History) (P : History → Type 0) → Runs (done ++ ks) g P → Told done g
        → Runs ks (after p done g) P
    runs-after [] ks g P runs told = runs
    runs-after (k ∷ done) ks g P runs told =
        runs-after done ks (event facts p k ∷ g) P (runs.1 told.0 told.1) told.2

    -- a legal history that agrees with the one in a row
    module _ (h ideal : History) (legal : IsLegal facts h) (agrees : Agrees facts p h ideal)
        (owned_by : owner_in role ideal p ≡ who) where
      knows-of : Knows who ideal
      knows-of = record {
        owner = owned_by;
        peaks = λ control c z c_in z_in.
            subst (λ n. n ≤ most_threshold) ((agrees.peaks (owned_by ∙ control) z).same_peaks c)
            (peaks-in_range facts h legal c z c_in z_in);
      }

      informs-of : (k : Step) → Meets facts h (state_after facts h) p k → Informs ideal k
      informs-of (LoadM z m a) meets = λ control. sym (agrees.marks control z.number)
          ∙ sym (mark_at-told facts h legal z.number) ∙ meets.value
      informs-of (LoadO c x) meets = λ control.
          sym ((agrees.peaks control 0).same_cpus c.number) ∙ sym (cpu_at-state_after facts h legal c.number meets.0)
          ∙ meets.1
      informs-of _ meets = tt

      module _ (acts : Acts pages facts h p Works) where
        control_now : IsControl ideal p → IsControl h p
        control_now control = agrees.owner ∙ control

        may_exchange : (k : CounterId) (w : Diffs) (t : ℕ) (delta : ℤ) (e : Exchanging ideal k w t delta)
            → MayExchange facts h p e.cpu k w t delta
        may_exchange k w t delta e = record {
          legal = legal;
          owner = record { lives = acts.1; owner = agrees.owner ∙ e.owner };
          counter = e.counter;
          as_found = ap (found e.cpu (group_of k.number)) agrees.mine ∙ e.as_found;
          number = e.number;
          as_loaded = ap (loaded (place_of facts.layout k.number)) agrees.mine ∙ e.as_loaded;
          nothing_carried = subst (CarriesNothing facts.layout) (sym agrees.mine) e.nothing_carried;
          affordable = rw (agrees.volumes e.cpu e.owner k.number) e.affordable;
        }

        online_now : IsControl ideal p → (c : ℕ) → IsCpu facts.layout c
            → cpu_at (state_after facts h) c ≡ cpu_in facts c ideal
        online_now control c c_in = cpu_at-state_after facts h legal c c_in ∙ (agrees.peaks control 0).same_cpus c

        mark_now : IsControl ideal p → (z : ℕ) → mark_at (state_after facts h) z ≡ mark_in facts z ideal
        mark_now control z = mark_at-told facts h legal z ∙ agrees.marks control z

        MayMake-holds : (k : Step) → Fits ideal k → Tells facts h p k → IsLegal facts (event facts p k ∷ h)
        MayMake-holds (LoadT z t a) fits tells =
            let owner = agrees.owner ∙ fits.1.1 in
            let told = tells fits.1.0 owner in (
              legal,
              acts,
              record {
                cpu = fits.1.0;
                owns = record { owner = owner; within = (owned-online facts h legal p fits.1.0 owner).0 };
                place = fits.0;
                value = told.0;
                number = told.1;
              },
            )
        MayMake-holds (LoadD c j w) fits tells = (legal, acts, record { cpu = fits.0; group = fits.1; values = tells })
        MayMake-holds (Take c j w) fits tells = (legal, acts, record { cpu = fits.0; group = fits.1; values = tells })
        MayMake-holds (Put k w t delta how) fits tells =
            let may = may_exchange k w t delta fits in
            put-follows facts h p fits.cpu k w t delta may how
            (⊎_elim (λ told. told) (zeros-win facts h p fits.cpu k w t delta may)
            (tells fits.cpu (agrees.owner ∙ fits.owner)))
        MayMake-holds (Miss j w) fits tells =
            let e = fits.exchanging in
            miss-follows facts h p e.cpu fits.k w fits.t fits.delta (may_exchange fits.k w fits.t fits.delta e)
            j fits.group
            (λ told. tells e.cpu (agrees.owner ∙ e.owner)
            (subst (λ n. TellsGroup (state_after facts h) e.cpu.number n w.values) (sym fits.group) told))
        MayMake-holds (AddG k a) fits tells = (
          legal,
          acts,
          record {
            counter = fits.counter;
            carries = ap (carried k.number) agrees.mine
                ∙ fits.carries;
            some = fits.some;
          },
        )
        MayMake-holds (AddS i a) fits tells = (
          legal,
          acts,
          record {
            item = fits.item;
            carries = ap (carried_of_item facts.layout i.number) agrees.mine ∙ fits.carries;
            some = fits.some;
          },
        )
        MayMake-holds (LoadG k v) fits tells = (legal, acts, (fits, tells))
        MayMake-holds (LoadS i v) fits tells = (legal, acts, (fits, tells))
        MayMake-holds (LoadM z m a) fits tells =
            (legal, acts, record { zone = fits; value = tells.0; number = tells.1 })
        MayMake-holds (LoadO c x) fits tells = (legal, acts, (fits, tells))
        MayMake-holds (SetT c z t) fits tells =
            let mark_is = mark_now fits.control z.number in
            let sum_is : peak_sum facts z.number (event facts p (SetT c z t) ∷ h)
            ≡ peak_sum facts z.number (event facts p (SetT c z t) ∷ ideal) =
            peak_sum-same facts z.number (event facts p (SetT c z t) ∷ h) (event facts p (SetT c z t) ∷ ideal)
            (SamePeaks-next facts z.number h ideal (event facts p (SetT c z t)) (agrees.peaks fits.control z.number))
            in (
              legal,
              acts,
              record {
                control = control_now fits.control;
                cpu = fits.cpu;
                place = fits.place;
                online = online_now fits.control c.number fits.cpu ∙ fits.online;
                least = fits.least;
                most = fits.most;
                covers = λ zone.
                    subst (λ n. Covers (size_at facts.sizes z.number) n
                    (peak_sum facts z.number (event facts p (SetT c z t) ∷ h))) (sym mark_is)
                    (subst (λ n. Covers (size_at facts.sizes z.number) (mark_in facts z.number ideal) n) (sym sum_is)
                    (fits.covers zone));
              },
            )
        MayMake-holds (SetM z m) fits tells =
            let sum_is = peak_sum-same facts z.number h ideal (agrees.peaks fits.control z.number) in (
              legal,
              acts,
              record {
                control = control_now fits.control;
                zone = fits.zone;
                below = fits.below;
                covers = subst (λ n. Covers (size_at facts.sizes z.number) m n) (sym sum_is) fits.covers;
              },
            )
        MayMake-holds (SetO c) fits tells = (
          legal,
          acts,
          SetsAbsent-taken facts h p c legal (control_now fits.control) fits.cpu
              (online_now fits.control c.number fits.cpu ∙ fits.dead)
              (subst (λ es. HasTakenAll facts c.number es) (sym agrees.mine) fits.took_all),
        )
        MayMake-holds (SetA z a) fits tells = (
          legal,
          acts,
          record {
            cpu = fits.cpu;
            owns = record { owner = agrees.owner ∙ fits.owns.owner; within = fits.owns.within };
            zone = fits.zone;
            t = fits.t;
            as_loaded = ap (loaded z.number) agrees.mine ∙ fits.as_loaded;
            took_each = λ j j_in at. ap (took fits.cpu z.number j) agrees.mine ∙ fits.took_each j j_in at;
            put_nothing = ap (has_put facts.layout z.number) agrees.mine ∙ fits.put_nothing;
          },
        )
        MayMake-holds (LoadA c z x) fits tells =
            (legal, acts, record { control = control_now fits.0; cpu = fits.1; zone = fits.2; value = tells })
        MayMake-holds (Split q who) fits tells = absurd fits
        MayMake-holds (Join q) fits tells = absurd fits

  module _ (earlier : History) (living : IsLivePass facts earlier p) where
    given : p ≢ 0
    given main =
        let first = (live_is_given pages facts earlier p living.legal living.lives).0 in omega arith

    abbrev who : Option CpuId
    who = owner_in role earlier p

    owned_by : (done : List Step) → owner_in role (after p done earlier) p ≡ who
    owned_by done = ap (λ es. owner role es p) (own-after_others p done earlier 0 (λ main. given (sym main)))

    made-told : (done : List Step) (later : History) → HasMade facts later earlier p done → Told who done earlier
    made-told = by_last (λ done. (later : History) → HasMade facts later earlier p done → Told who done earlier)
        (λ later has. tt)
        (λ ks k before later has.
        let last = made-last facts p later earlier ks k has in
        let agrees = made-agrees facts p earlier given living.legal ks last.before last.made in
        told-more who ks k earlier (before last.before last.made)
        (knows-of who last.before (after p ks earlier) last.made.legal agrees (owned_by ks))
        (informs-of who last.before (after p ks earlier) last.made.legal agrees (owned_by ks) k last.legal.2))

    -- steps that meet their conditions in a row may be made while others act
    pub runs-may : (steps : List Step) → Runs who steps earlier (λ then. Unit {0}) → MayMake facts p earlier steps
    runs-may steps runs later done k rest parts has tells =
        let agrees = made-agrees facts p earlier given living.legal done later has in
        let ideal = after p done earlier in
        let now = runs-after who done (k ∷ rest) earlier (λ then. Unit {0})
        (subst (λ ks. Runs who ks earlier (λ then. Unit {0})) parts runs) (made-told done later has) in
        MayMake-holds who later ideal has.legal agrees (owned_by done) (given, has.lives) k
        (now.0 (knows-of who later ideal has.legal agrees (owned_by done))) tells
