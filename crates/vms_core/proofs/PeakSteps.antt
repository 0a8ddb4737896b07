-- The bounds between a threshold, its peak, its acknowledgement, what an owner loaded of it and what was used last, and
-- that each step keeps them.
use Rattle.std.proofs.Common.{◌≡◌, ◌≢◌, ℕ, suc, ◌≤◌, max, ◌&&◌, Bool, true, false, Option, Some, None, refl, sym, ap}
use Rattle.std.proofs.Common.{◌∙◌, subst, arith, if◌then◌else◌, nat_eq, eqb-true, ne_eqb}
use Rattle.std.proofs.lemmas.Bool.{and_parts}
use Rattle.vms_history.specs.Common.{CpuId, PlaceId, IsLayout, IsCounter, IsZone, place_of, group_of, most_threshold}
use Rattle.vms_history.specs.Common.{own, owner_in}
use Rattle.vms_base.proofs.Common.{group_of-lt, place_of-first_of_group}
use Rattle.vms_core.specs.declared.states.State.{State}
use Rattle.vms_core.specs.declared.states.Threshold.{Threshold}
use Rattle.vms_core.specs.declared.steps.Facts.{Facts}
use Rattle.vms_core.specs.declared.steps.Step.{Step}
use Rattle.vms_core.specs.declared.steps.Step.TheVariants.{LoadT, Put, Take, SetT, SetA, LoadA}
use Rattle.vms_core.specs.Common.{threshold_at, threshold_sets_at, acknowledged_at, Meets, loaded_after, loaded}
use Rattle.vms_core.specs.Common.{took_after, took, History, sets_after, threshold_after, is_number, peak_after, role}
use Rattle.vms_core.specs.Common.{last_after}
use Rattle.vms_core.proofs.Settings.{acknowledged_after}

-- the numbers of one CPU for a place and one of its counters, with what an owner loaded of the place and whether it
-- took the counter's group since
pub record View : Type 0 where
  pub threshold : ℕ
  pub number : ℕ
  pub most_used : ℕ
  pub acknowledged : Option ℕ
  pub last : ℕ
  pub told : Option Threshold
  pub taken : Bool

-- what an owner loaded: it was set by that number, may still be used, and bounds what was used since a take
pub record IsTold (v : View) (told : Threshold) : Type 0 where
  pub number_within : told.number ≤ v.number
  pub newest : told.number ≡ v.number → told.t ≡ v.threshold
  pub within : told.t ≤ v.most_used
  pub acknowledged : v.acknowledged ≡ Some v.number → told.t ≤ v.threshold
  pub taken : v.taken ≡ true → v.last ≤ told.t

pub record IsBounded (v : View) : Type 0 where
  pub threshold_within : v.threshold ≤ v.most_used
  pub in_range : v.most_used ≤ most_threshold
  pub last_within : v.last ≤ v.most_used
  pub acknowledged_within : (number : ℕ) → v.acknowledged ≡ Some number → number ≤ v.number
  pub last_acknowledged : v.acknowledged ≡ Some v.number → v.last ≤ v.threshold
  pub told : (told : Threshold) → v.told ≡ Some told → IsTold v told

-- nothing need have been loaded
pub IsBounded-forgets : (v : View) → IsBounded v → IsBounded (record v { told = None; taken = false })
IsBounded-forgets v bounded = record {
  threshold_within = bounded.threshold_within;
  in_range = bounded.in_range;
  last_within = bounded.last_within;
  acknowledged_within = bounded.acknowledged_within;
  last_acknowledged = bounded.last_acknowledged;
  told = λ told is. absurd cc;
}

module _ (c : CpuId) (g k : ℕ) where
  -- the numbers after a step of a pass that owns `who`: of the owner whose loads are told, and of another
  abbrev pub view_after : Option CpuId → Step → Option Threshold → Bool → View → View
  view_after who step told taken v = record {
    threshold = threshold_after c.number g step v.threshold;
    number = sets_after c.number g step v.number;
    most_used = peak_after v.number v.threshold c.number g step v.most_used;
    acknowledged = acknowledged_after who c.number g step v.acknowledged;
    last = last_after who c.number k step v.last;
    told = told;
    taken = taken;
  }

  abbrev pub view_mine : Step → View → View
  view_mine step v = view_after (Some c) step (loaded_after g step v.told) (took_after c g (group_of k) step v.taken) v

  abbrev pub view_others : Option CpuId → Step → View → View
  view_others who step v = view_after who step v.told v.taken v

  -- a load of the threshold that stands
  bounded-load : (b : Bool) (v : View) (t number : ℕ) → (b ≡ true → t ≡ v.threshold) → (b ≡ true → number ≡ v.number)
      → IsBounded v
      → IsBounded (record v {
        told = if b then Some (record { t = t; number = number }) else v.told;
        taken = if b then false else v.taken;
      })
  bounded-load false v t number same same_number bounded = bounded
  bounded-load true v t number same same_number bounded = record {
    threshold_within = bounded.threshold_within;
    in_range = bounded.in_range;
    last_within = bounded.last_within;
    acknowledged_within = bounded.acknowledged_within;
    last_acknowledged = bounded.last_acknowledged;
    told = λ told is.
        let t_is : t ≡ told.t = cc in
        let number_is : number ≡ told.number = cc in
        record {
          number_within = omega (arith, same_number refl);
          newest = λ newest. sym t_is ∙ same refl;
          within = omega (arith, same refl, bounded.threshold_within);
          acknowledged = λ newest. omega (arith, same refl);
          taken = λ none. absurd cc;
        };
  }

  -- a take of the counter's group
  bounded-take : (b mine : Bool) (v : View) → IsBounded v
      → IsBounded (record v {
        last = if b then 0 else v.last;
        taken = if mine then (if b then true else v.taken) else v.taken;
      })
  bounded-take false true v bounded = bounded
  bounded-take false false v bounded = bounded
  bounded-take true mine v bounded = record {
    threshold_within = bounded.threshold_within;
    in_range = bounded.in_range;
    last_within = omega arith;
    acknowledged_within = bounded.acknowledged_within;
    last_acknowledged = λ newest. omega arith;
    told = λ told is. record {
      number_within = (bounded.told told is).number_within;
      newest = (bounded.told told is).newest;
      within = (bounded.told told is).within;
      acknowledged = (bounded.told told is).acknowledged;
      taken = λ some. omega arith;
    };
  }

  -- a put under the threshold that was loaded
  bounded-put : (b : Bool) (v : View) (t number : ℕ) → (b ≡ true → v.told ≡ Some (record { t = t; number = number }))
      → IsBounded v → IsBounded (record v { last = if b then t else v.last })
  bounded-put false v t number loads bounded = bounded
  bounded-put true v t number loads bounded =
      let used = bounded.told (record { t = t; number = number }) (loads refl) in
      record {
        threshold_within = bounded.threshold_within;
        in_range = bounded.in_range;
        last_within = used.within;
        acknowledged_within = bounded.acknowledged_within;
        last_acknowledged = used.acknowledged;
        told = λ told is.
            let loads_it : v.told ≡ Some (record { t = t; number = number }) = loads refl in
            let t_is : t ≡ told.t = cc in
            record {
              number_within = (bounded.told told is).number_within;
              newest = (bounded.told told is).newest;
              within = (bounded.told told is).within;
              acknowledged = (bounded.told told is).acknowledged;
              taken = λ some. omega arith;
            };
      }

  -- an acknowledgement of the threshold that was loaded, once the counter's group was taken
  bounded-acknowledge : (b : Bool) (v : View) (t number : ℕ)
      → (b ≡ true → v.told ≡ Some (record { t = t; number = number })) → (b ≡ true → v.taken ≡ true)
      → IsBounded v → IsBounded (record v { acknowledged = if b then Some number else v.acknowledged })
  bounded-acknowledge false v t number loads took_it bounded = bounded
  bounded-acknowledge true v t number loads took_it bounded =
      let used = bounded.told (record { t = t; number = number }) (loads refl) in
      record {
        threshold_within = bounded.threshold_within;
        in_range = bounded.in_range;
        last_within = bounded.last_within;
        acknowledged_within = λ n is. let same : number ≡ n = cc in omega (arith, used.number_within);
        last_acknowledged = λ newest.
            let same : number ≡ v.number = cc in
            omega (arith, used.newest same, used.taken (took_it refl));
        told = λ told is.
            let loads_it : v.told ≡ Some (record { t = t; number = number }) = loads refl in
            let t_is : t ≡ told.t = cc in
            record {
              number_within = (bounded.told told is).number_within;
              newest = (bounded.told told is).newest;
              within = (bounded.told told is).within;
              acknowledged = λ newest. let same : number ≡ v.number = cc in omega (arith, used.newest same);
              taken = (bounded.told told is).taken;
            };
      }

  -- a set of the threshold
  bounded-set : (b : Bool) (v : View) (t : ℕ) → t ≤ most_threshold → IsBounded v
      → IsBounded (record v {
        threshold = if b then t else v.threshold;
        number = if b then suc v.number else v.number;
        most_used = if b then max t v.most_used else v.most_used;
      })
  bounded-set false v t small bounded = bounded
  bounded-set true v t small bounded = record {
    threshold_within = omega arith;
    in_range = omega (arith, bounded.in_range);
    last_within = omega (arith, bounded.last_within);
    acknowledged_within = λ n is. omega (arith, bounded.acknowledged_within n is);
    last_acknowledged = λ newest. absurd (omega (arith, bounded.acknowledged_within (suc v.number) newest));
    told = λ told is.
        let before = bounded.told told is in
        record {
          number_within = omega (arith, before.number_within);
          newest = λ newest. absurd (omega (arith, before.number_within));
          within = omega (arith, before.within);
          acknowledged = λ newest. absurd (omega (arith, bounded.acknowledged_within (suc v.number) newest));
          taken = before.taken;
        };
  }

  -- the newest threshold is found acknowledged
  bounded-settle : (b : Bool) (v : View) → (b ≡ true → v.acknowledged ≡ Some v.number) → IsBounded v
      → IsBounded (record v { most_used = if b then v.threshold else v.most_used })
  bounded-settle false v newest bounded = bounded
  bounded-settle true v newest bounded = record {
    threshold_within = omega arith;
    in_range = omega (arith, bounded.threshold_within, bounded.in_range);
    last_within = bounded.last_acknowledged (newest refl);
    acknowledged_within = bounded.acknowledged_within;
    last_acknowledged = bounded.last_acknowledged;
    told = λ told is.
        let before = bounded.told told is in
        record {
          number_within = before.number_within;
          newest = before.newest;
          within = before.acknowledged (newest refl);
          acknowledged = before.acknowledged;
          taken = before.taken;
        };
  }

  -- the number that an acknowledgement names is this one
  is_number-true : (x : Option ℕ) (n : ℕ) → is_number x n ≡ true → x ≡ Some n
  is_number-true None n is = absurd cc
  is_number-true (Some m) n is = ap Some (eqb-true m n is)

  module _ (facts : Facts) (h : History) (s : State) (p : ℕ) (layout : IsLayout facts.layout)
      (k_in : IsCounter facts.layout k) (there : place_of facts.layout k ≡ g) where
    -- a step of the CPU's owner
    pub IsBounded-mine : (step : Step) (v : View) → owner_in role h p ≡ Some c → Meets facts h s p step
        → v.told ≡ loaded g (own h p) → v.taken ≡ took c g (group_of k) (own h p)
        → threshold_at s c.number g ≡ v.threshold → threshold_sets_at s c.number g ≡ v.number
        → IsBounded v → IsBounded (view_mine step v)
    IsBounded-mine (LoadT f t a) v is meets told taken threshold number bounded =
        bounded-load (nat_eq f.number g) v t a
        (λ here. sym meets.value ∙ at_place threshold_at here ∙ threshold)
        (λ here. sym meets.number ∙ at_place threshold_sets_at here ∙ number)
        bounded
      where
        at_place : (read : State → ℕ → ℕ → ℕ) → nat_eq f.number g ≡ true
            → read s meets.cpu.number f.number ≡ read s c.number g
        at_place read here =
            let owner = meets.owns.owner in
            let same : meets.cpu ≡ c = cc in
            ap (λ (o : CpuId). read s o.number f.number) same ∙ ap (read s c.number) (eqb-true f.number g here)
    IsBounded-mine (Take d i w) v is meets told taken threshold number bounded =
        bounded-take (nat_eq d.number c.number && nat_eq i.number (group_of k)) true v bounded
    IsBounded-mine (Put l w t delta how) v is meets told taken threshold number bounded =
        bounded-put (nat_eq c.number c.number && nat_eq l.number k) v t meets.number
        (λ here.
        let same : l.number ≡ k =
        eqb-true l.number k (and_parts (nat_eq c.number c.number) (nat_eq l.number k) here).1 in
        told ∙ ap (λ n. loaded n (own h p)) (sym (ap (place_of facts.layout) same ∙ there)) ∙ meets.as_loaded)
        bounded
    IsBounded-mine (SetA f a) v is meets told taken threshold number bounded =
        bounded-acknowledge (nat_eq c.number c.number && nat_eq f.number g) v meets.t a
        (λ here. told ∙ ap (λ n. loaded n (own h p)) (sym (place here)) ∙ meets.as_loaded)
        (λ here.
        let owner = meets.owns.owner in
        let same : meets.cpu ≡ c = cc in
        taken
        ∙ ap (λ n. took c n (group_of k) (own h p)) (sym (place here))
        ∙ ap (λ (o : CpuId). took o f.number (group_of k) (own h p)) (sym same)
        ∙ meets.took_each (group_of k) (group_of-lt facts.layout layout k k_in)
        (place_of-first_of_group facts.layout layout k ∙ there ∙ sym (place here)))
        bounded
      where
        place : (nat_eq c.number c.number && nat_eq f.number g) ≡ true → f.number ≡ g
        place here = eqb-true f.number g (and_parts (nat_eq c.number c.number) (nat_eq f.number g) here).1
    IsBounded-mine (SetT d f t) v is meets told taken threshold number bounded =
        let control = meets.control in absurd cc
    IsBounded-mine (LoadA d f x) v is meets told taken threshold number bounded =
        let control = meets.control in absurd cc
    IsBounded-mine _ v is meets told taken threshold number bounded = bounded

    settle : (d : CpuId) (f : PlaceId) (x : Option ℕ) (v : View) → IsZone facts.layout f.number
        → acknowledged_at s d.number f.number ≡ x
        → (IsZone facts.layout g → acknowledged_at s c.number g ≡ v.acknowledged)
        → IsBounded v
        → IsBounded (record v {
          most_used = if nat_eq d.number c.number && nat_eq f.number g && is_number x v.number
              then v.threshold else v.most_used;
        })
    settle d f x v zone value acknowledged bounded =
        bounded-settle (nat_eq d.number c.number && nat_eq f.number g && is_number x v.number) v
        (λ here.
        let parts = and_parts (nat_eq d.number c.number && nat_eq f.number g) (is_number x v.number) here in
        let cell_is = and_parts (nat_eq d.number c.number) (nat_eq f.number g) parts.0 in
        let row : d.number ≡ c.number = eqb-true d.number c.number cell_is.0 in
        let column : f.number ≡ g = eqb-true f.number g cell_is.1 in
        sym (acknowledged (subst (IsZone facts.layout) column zone))
        ∙ ap (acknowledged_at s c.number) (sym column)
        ∙ ap (λ n. acknowledged_at s n f.number) (sym row)
        ∙ value
        ∙ is_number-true x v.number parts.1)
        bounded

    -- a step of a pass that doesn't own the CPU
    pub IsBounded-others : (who : Option CpuId) (step : Step) (v : View)
        → ((o : CpuId) → who ≡ Some o → o.number ≢ c.number)
        → Meets facts h s p step → (IsZone facts.layout g → acknowledged_at s c.number g ≡ v.acknowledged)
        → IsBounded v → IsBounded (view_others who step v)
    IsBounded-others None (SetT d f t) v other meets acknowledged bounded =
        bounded-set (nat_eq d.number c.number && nat_eq f.number g) v t meets.most bounded
    IsBounded-others (Some o) (SetT d f t) v other meets acknowledged bounded =
        bounded-set (nat_eq d.number c.number && nat_eq f.number g) v t meets.most bounded
    IsBounded-others None (LoadA d f x) v other meets acknowledged bounded =
        settle d f x v meets.zone meets.value acknowledged bounded
    IsBounded-others (Some o) (LoadA d f x) v other meets acknowledged bounded =
        settle d f x v meets.zone meets.value acknowledged bounded
    IsBounded-others None (Take d i w) v other meets acknowledged bounded =
        bounded-take (nat_eq d.number c.number && nat_eq i.number (group_of k)) false v bounded
    IsBounded-others (Some o) (Take d i w) v other meets acknowledged bounded =
        bounded-take (nat_eq d.number c.number && nat_eq i.number (group_of k)) false v bounded
    IsBounded-others (Some o) (Put l w t delta how) v other meets acknowledged bounded =
        subst (λ (b : Bool). IsBounded (record v { last = if b && nat_eq l.number k then t else v.last }))
        (sym (ne_eqb o.number c.number (other o refl))) bounded
    IsBounded-others (Some o) (SetA f a) v other meets acknowledged bounded =
        subst (λ (b : Bool). IsBounded (record v {
          acknowledged = if b && nat_eq f.number g then Some a else v.acknowledged;
        }))
        (sym (ne_eqb o.number c.number (other o refl))) bounded
    IsBounded-others None _ v other meets acknowledged bounded = bounded
    IsBounded-others (Some o) _ v other meets acknowledged bounded = bounded
