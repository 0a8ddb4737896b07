-- For other crates too: what a pass has in flight inside a call.
use Rattle.std.proofs.Common.{◌≡◌, ◌≢◌, ℕ, ◌+◌, ◌≤◌, ◌||◌, Bool, true, false, List, [], ◌∷◌, ◌++◌, ℤ, pos, Option, Some}
use Rattle.std.proofs.Common.{None, refl, sym, ap, ◌∙◌, arith, subst, if◌then◌else◌, nat_eq, eq-eqb, unsigned_abs}
use Rattle.std.proofs.lemmas.Int.{ints}
use Rattle.vms_calls.specs.Common.{Carries, Exchanges, IsChange, amount, nothing, missed, won, Buries, CarriesNothing}
use Rattle.vms_calls.specs.Common.{CpuId, Facts, Header, History, IsCounter, IsCpu, Mode, SetO, CounterId, Diffs, Shape}
use Rattle.vms_calls.specs.Common.{State, Step, ZoneSize, after, carried, facts_of, most_threshold, own, owner_in, role}
use Rattle.vms_calls.specs.PageCalls.{IsPageCall, owns_cpu}
use Rattle.vms_calls.specs.declared.page_calls.PageAnswer.{PageAnswer}
use Rattle.vms_calls.specs.declared.page_calls.PageAnswer.TheVariants as answer
use Rattle.vms_calls.specs.declared.page_calls.PageCall.{PageCall}
use Rattle.vms_calls.specs.declared.page_calls.PageCall.TheVariants.{Bury, Change, Fold, SetNormal, SetPressure}
use Rattle.vms_calls.specs.declared.page_calls.PageCall.TheVariants.{Snapshot, System, Test, Turn, Value}
use Rattle.vms_calls.proofs.Common.{Each, OfRatings, each-append, refresh-each}
use Rattle.vms_calls.proofs.PageCalls.{owned-cpu}
use Rattle.vms_core.specs.Pages.{IsLegal}
use Rattle.vms_core.specs.Spending.{is_owner}
use Rattle.vms_drift.specs.Moments.{MadeSince}
use Rattle.vms_drift.specs.Transit.{CallsCarryLittle, most_beyond, most_carried}
use Rattle.vms_near.specs.CallFlight.{CallsFlyLittle, is_dead_at, most_in_flight, most_overstep, others_take}
use Rattle.vms_near.specs.InFlight.{carried_from, carries, carries_from, changing, in_flight_from, in_flight_of}
use Rattle.vms_near.specs.InFlight.{taken_meanwhile}
use Rattle.vms_near.proofs.CarriedFrom.{carried_from-sum}
use Rattle.vms_near.proofs.Carriers.{carried_from-none, carries-none}
use Rattle.vms_near.proofs.FoldMoves.{fold-goes}
use Rattle.vms_near.proofs.OneCpu.{Goes, Keeps, Kept, carried-other, changing-within, goes-append, goes-each}
use Rattle.vms_near.proofs.OneCpu.{goes-first, goes-keeps, keeps-none}
use Rattle.vms_near.proofs.OwnMoves.{leaves-little, none-taken}
use Rattle.vms_near.proofs.Sums.{count_below-none, count_below-one, sum_below-single}

module _ (part : ℤ → ℕ) (facts : Facts) (h : History) (legal : IsLegal facts h) (p k : ℕ) where
  abbrev from : ℕ → ℤ
  from c = carried_from (owner_in role h p) c k (own h p)

  -- from a CPU of which nothing is carried nothing is in flight
  flies-off : (c : ℕ) → from c ≡ pos 0 → in_flight_from part facts h p k c ≡ 0
  flies-off c none = rw none refl

  pub flies-none : carried k (own h p) ≡ pos 0 → in_flight_of part facts h p k ≡ 0
  flies-none none = count_below-none (in_flight_from part facts h p k) facts.layout.cpus
      (λ c c_in. flies-off c (carried_from-none (owner_in role h p) c k (own h p) (carries-none k (own h p) none)))

  module _ (c : CpuId) (change over : ℕ) (keeps : Keeps part (owner_in role h p) c k change over (own h p)) where
    others-off : (n : ℕ) → c.number ≢ n → from n ≡ pos 0
    others-off n other = carried-other part (owner_in role h p) c k change over n other (own h p) keeps

    -- it is in flight from the one CPU alone
    one-flies : (most : ℕ) → (IsCpu facts.layout c.number → in_flight_from part facts h p k c.number ≤ most)
        → in_flight_of part facts h p k ≤ most
    one-flies most within = count_below-one (in_flight_from part facts h p k) c.number facts.layout.cpus most within
        (λ n other. flies-off n (others-off n other))

    -- a CPU that isn't the caller's own
    foreign-flies : is_owner (owner_in role h p) c.number ≡ false → unsigned_abs (carried k (own h p)) ≤ most_threshold
        → in_flight_of part facts h p k ≤ (if is_dead_at facts h c then 0 else most_threshold)
    foreign-flies foreign small = one-flies (if is_dead_at facts h c then 0 else most_threshold) (λ c_in.
        let all : from c.number ≡ carried k (own h p) =
        sym (sum_below-single from c.number facts.layout.cpus c_in
        (λ n below other. others-off n (λ same. other (sym same)))) ∙ carried_from-sum facts h legal p k in
        rw foreign (by (carries_from (owner_in role h p) c.number k (own h p)) (is_dead_at facts h c)
        (omega (arith, ints, all, small))))
      where
        by : (b dead : Bool) → unsigned_abs (from c.number) ≤ most_threshold
            → (if b then (if dead then 0 else unsigned_abs (from c.number)) else 0)
            ≤ (if dead then 0 else most_threshold)
        by true true within = omega arith
        by true false within = within
        by false dead within = omega arith

  -- the caller's own CPU
  module _ (none : part (pos 0) ≡ 0) (k_in : IsCounter facts.layout k) (c : CpuId) (owns : owner_in role h p ≡ Some c)
      (change over : ℕ) (keeps : Keeps part (Some c) c k change over (own h p)) where
    own-part : (b : Bool) → (b ≡ false → taken_meanwhile facts p k h ≡ 0) → IsCpu facts.layout c.number
        → in_flight_from part facts h p k c.number ≤ change + (if b then over else 0)
    own-part b alone c_in =
        rw (owns, eq-eqb c.number c.number refl)
        (by (carries k (own h p)) refl (carries_from (Some c) c.number k (own h p)) refl)
      where
        taken-within : (b : Bool) → (b ≡ false → taken_meanwhile facts p k h ≡ 0) → taken_meanwhile facts p k h ≤ over
            → taken_meanwhile facts p k h ≤ (if b then over else 0)
        taken-within true alone within = within
        taken-within false alone within = let quiet = alone refl in omega (arith, quiet)

        by : (carrying : Bool) → carries k (own h p) ≡ carrying
            → (here : Bool) → carries_from (Some c) c.number k (own h p) ≡ here
            → (if here then part (changing facts.layout k (own h p)) + taken_meanwhile facts p k h else 0)
            ≤ change + (if b then over else 0)
        by true carrying true here =
            let leaves = leaves-little part change over facts p c k c_in k_in h legal owns keeps carrying in
            omega (
              arith,
              changing-within part (Some c) c k change over facts.layout none (own h p) keeps,
              taken-within b alone (omega (arith, leaves)),
            )
        by false idle true here =
            let off = carried_from-none (Some c) c.number k (own h p) idle in
            let both = rw off at here in
            absurd cc
        by carrying is false here = omega arith

    own-flies : (b : Bool) → (b ≡ false → taken_meanwhile facts p k h ≡ 0)
        → in_flight_of part facts h p k ≤ change + (if b then over else 0)
    own-flies b alone =
        one-flies c change over (subst (λ who. Keeps part who c k change over (own h p)) (sym owns) keeps)
        (change + (if b then over else 0)) (own-part b alone)

-- the steps of a change and of a burial move something out of one CPU alone
module _ (part : ℤ → ℕ) (who : Option CpuId) (c : CpuId) (k change over : ℕ) where
  abbrev KeptHere : Step → Type 0
  KeptHere = Kept part who c k change over

  additions-kept : (shape : Shape) (l : CounterId) (z : ℤ) (steps : List Step) → Carries shape l z steps
      → Each KeptHere steps
  additions-kept shape l z steps nothing = tt
  additions-kept shape l z steps (amount a some) = (tt, (tt, tt))

  exchange-kept : (l : CounterId) (w : Diffs) (t : ℕ) (delta : ℤ) (how : Mode) (last : Diffs) (steps : List Step)
      → Exchanges l w t delta how last steps → who ≡ Some c → part delta ≤ change → most_overstep how ≤ over
      → Each KeptHere steps
  exchange-kept l w t delta how last steps won owns small near = ((owns, (small, near)), tt)
  exchange-kept l w t delta how last steps (missed zeros are) owns small near = (tt, ((owns, (small, near)), tt))

  pub change-kept : (shape : Shape) (cpu : CpuId) (l : CounterId) (delta : ℤ) (how : Mode) (steps : List Step)
      → IsChange shape cpu l delta how steps → who ≡ Some c → part delta ≤ change → most_overstep how ≤ over
      → Each KeptHere steps
  change-kept shape cpu l delta how steps made owns small near =
      subst (Each KeptHere) (sym made.in_order) (
        tt,
        (
          tt,
          each-append KeptHere made.exchange made.additions
              (exchange-kept l made.first made.t delta how made.last made.exchange made.exchanges owns small near)
              (additions-kept shape l _ made.additions made.carries),
        ),
      )

  ratings-kept : OfRatings KeptHere
  ratings-kept = record {
    looks = record {
      value = λ l v. tt;
      system = λ i v. tt;
      group = λ d j w. tt;
      mark = λ g m a. tt;
      cpu = λ d x. tt;
    };
    acknowledged = λ d g x. tt;
    threshold = λ d g t. tt;
    set_mark = λ g m. tt;
  }

  pub burial-goes : (facts : Facts) (normal : ZoneSize → ℕ → ℕ → Type 0) (p : ℕ) (h : History) (steps : List Step)
      → Buries facts normal c p h steps → Goes part who c k change over (λ y. Unit {0}) (pos 0) steps
  burial-goes facts normal p h steps buries =
      subst (Goes part who c k change over (λ y. Unit {0}) (pos 0)) (sym buries.in_order)
      (goes-append part who c k change over (λ y. Unit {0}) (λ y. Unit {0}) buries.fold (SetO c ∷ buries.refresh)
      (pos 0) (fold-goes part who c k change over facts.layout false buries.fold buries.folds)
      (λ y done. goes-each part who c k change over (SetO c ∷ buries.refresh) y (
        tt,
        refresh-each KeptHere ratings-kept facts normal p (after p (buries.fold ++ (SetO c ∷ [])) h) buries.refresh
            buries.refreshes,
      )))

owns-not : (owner : Option CpuId) (c : CpuId) → owns_cpu owner c ≡ false → is_owner owner c.number ≡ false
owns-not None c is = refl
owns-not (Some d) c is = is

module _ (pressure normal : ZoneSize → ℕ → ℕ → Type 0) (header : Header) (base : State) (p : ℕ)
    (later earlier : History) (made rest : List Step) (since : MadeSince (facts_of header base) later earlier p made)
    (idle : CarriesNothing header.layout (own earlier p)) (part : ℤ → ℕ) (none : part (pos 0) ≡ 0) (k : ℕ)
    (k_in : IsCounter header.layout k) where
  abbrev facts : Facts
  facts = facts_of header base

  abbrev owner_is : Option CpuId
  owner_is = owner_in role later p

  abbrev flies : ℕ
  flies = in_flight_of part facts later p k

  -- if its steps move something out of one CPU alone, all that it carries it took there
  keeps : (c : CpuId) (change over : ℕ)
      → Goes part owner_is c k change over (λ y. Unit {0}) (pos 0) (made ++ rest)
      → Keeps part owner_is c k change over (own later p)
  keeps c change over goes =
      subst (Keeps part owner_is c k change over) (sym since.made)
      (goes-keeps part owner_is c k change over p made (own earlier p)
      (subst (λ z. Goes part owner_is c k change over (λ y. Unit {0}) z made) (sym (idle.counters k))
      (goes-first part owner_is c k change over (λ y. Unit {0}) made rest (pos 0) goes))
      (keeps-none part owner_is c k change over (own earlier p) (carries-none k (own earlier p) (idle.counters k))))

  quiet : unsigned_abs (carried k (own later p)) ≤ 0 → flies ≡ 0
  quiet little = flies-none part facts later since.legal p k (omega (arith, ints, little))

  own-case : (c : CpuId) → owner_is ≡ Some c → (change over : ℕ)
      → Keeps part owner_is c k change over (own later p)
      → flies ≤ change + (if others_take owner_is p since.extends.0 then over else 0)
  own-case c owns change over kept =
      own-flies part facts later since.legal p k none k_in c owns change over
      (subst (λ who. Keeps part who c k change over (own later p)) owns kept)
      (others_take owner_is p since.extends.0)
      (λ alone. subst (λ h. taken_meanwhile facts p k h ≡ 0) (sym since.extends.1)
      (none-taken part change over facts p owner_is c k since.extends.0 earlier
      (subst (IsLegal facts) since.extends.1 since.legal) (carries-none k (own earlier p) (idle.counters k))
      (ap (λ h. owner_in role h p) (sym since.extends.1))
      (subst (λ h. Keeps part owner_is c k change over (own h p)) since.extends.1 kept) alone))

  change-case : (l : CounterId) (delta : ℤ) (how : Mode) (o : CpuId) → owner_is ≡ Some o
      → IsChange header.layout o l delta how (made ++ rest)
      → unsigned_abs (carried k (own later p)) ≤ most_carried (Change l delta how) k
      → flies ≤ most_in_flight part (Some o) (others_take (Some o) p since.extends.0) (is_dead_at facts later)
      (Change l delta how) k
  change-case l delta how o owns change little =
      by (nat_eq l.number k) little
    where
      by : (b : Bool) → unsigned_abs (carried k (own later p)) ≤ (if b then unsigned_abs delta + most_beyond else 0)
          → flies ≤ (if b then part delta + (if others_take (Some o) p since.extends.0 then most_overstep how else 0)
          else 0)
      by false little = let off = quiet little in omega (arith, off)
      by true little = subst (λ who. flies ≤ part delta + (if others_take who p since.extends.0 then most_overstep how
          else 0)) owns
          (own-case o owns (part delta) (most_overstep how) (keeps o (part delta) (most_overstep how)
          (goes-each part owner_is o k (part delta) (most_overstep how) (made ++ rest) (pos 0)
          (change-kept part owner_is o k (part delta) (most_overstep how) header.layout o l delta how (made ++ rest)
          change owns (omega arith) (omega arith)))))

  fold-case : (c : CpuId) → Goes part owner_is c k 0 0 (λ y. Unit {0}) (pos 0) (made ++ rest)
      → unsigned_abs (carried k (own later p)) ≤ most_threshold
      → flies ≤ most_in_flight part owner_is (others_take owner_is p since.extends.0) (is_dead_at facts later)
      (Fold c) k
  fold-case c goes little = by (owns_cpu owner_is c) refl
    where
      no_more : (b : Bool) → flies ≤ 0 + (if b then 0 else 0) → flies ≤ 0
      no_more true within = within
      no_more false within = within

      by : (b : Bool) → owns_cpu owner_is c ≡ b → flies ≤ (if b || is_dead_at facts later c then 0 else most_threshold)
      by true is = no_more (others_take owner_is p since.extends.0)
          (own-case c (owned-cpu owner_is c is) 0 0 (keeps c 0 0 goes))
      by false is = foreign-flies part facts later since.legal p k c 0 0 (keeps c 0 0 goes) (owns-not owner_is c is)
          little

  flies-little : (call : PageCall) (owner : Option CpuId) (told : PageAnswer)
      → IsPageCall header base pressure normal call owner p earlier (made ++ rest) told → owner_is ≡ owner
      → ((n : ℕ) → unsigned_abs (carried n (own later p)) ≤ most_carried call n)
      → flies ≤ most_in_flight part owner (others_take owner p since.extends.0) (is_dead_at facts later) call k
  flies-little (Change l delta how) (Some o) answer.Done is owns little = change-case l delta how o owns is (little k)
  flies-little (Fold c) owner answer.Done is owns little =
      subst (λ who. flies ≤ most_in_flight part who (others_take who p since.extends.0) (is_dead_at facts later)
      (Fold c) k) owns
      (fold-case c (fold-goes part owner_is c k 0 0 header.layout (owns_cpu owner c) (made ++ rest) is) (little k))
  flies-little (Bury c) None answer.Done is owns little =
      foreign-flies part facts later since.legal p k c 0 0
      (keeps c 0 0 (burial-goes part owner_is c k 0 0 facts normal p earlier (made ++ rest) is))
      (ap (λ who. is_owner who c.number) owns) (little k)
  flies-little (Test z mark most) owner told is owns little = let off = quiet (little k) in omega (arith, off)
  flies-little (Value l) owner told is owns little = let off = quiet (little k) in omega (arith, off)
  flies-little (Snapshot l) owner told is owns little = let off = quiet (little k) in omega (arith, off)
  flies-little (System i) owner told is owns little = let off = quiet (little k) in omega (arith, off)
  flies-little (SetPressure n) owner told is owns little = let off = quiet (little k) in omega (arith, off)
  flies-little (SetNormal n) owner told is owns little = let off = quiet (little k) in omega (arith, off)
  flies-little (Turn n order most) owner told is owns little = let off = quiet (little k) in omega (arith, off)
  flies-little _ _ _ is owns little = absurd is

pub calls-fly_little : (pressure normal : ZoneSize → ℕ → ℕ → Type 0) → CallsCarryLittle pressure normal
    → CallsFlyLittle pressure normal
calls-fly_little pressure normal inside header base call owner p later earlier made rest told is since idle owns part
    none k k_in =
    flies-little pressure normal header base p later earlier made rest since idle part none k k_in call owner told is
    owns (inside header base call owner p later earlier made rest told is since idle).counters
