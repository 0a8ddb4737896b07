-- For other crates too: what a snapshot comes to, and what follows of that.
use Rattle.std.proofs.Common.{◌≡◌, ◌≢◌, ℕ, suc, ◌+◌, ◌*◌, ◌<◌, ◌≤◌, Bool, true, false, ℤ, pos, negsuc, neg_ℤ, ◌+ℤ◌}
use Rattle.std.proofs.Common.{◌-ℤ◌, ◌≤ℤ◌, List, [], ◌∷◌, ◌++◌, All, length, refl, sym, ap, ◌∙◌, subst, arith}
use Rattle.std.proofs.Common.{unsigned_abs, append_assoc, if◌then◌else◌, Option, Some, None}
use Rattle.std.proofs.lemmas.Int.{ints}
use Rattle.vms_base.proofs.Common.{place_of-lt}
use Rattle.vms_calls.specs.Common.{Absent, CounterId, CpuId, CpuState, Dead, Event, Extends, Facts, History, IsCounter}
use Rattle.vms_calls.specs.Common.{IsCpu, IsPlace, IsSnapshot, LoadG, Look, Online, State, Step, at_least_zero}
use Rattle.vms_calls.specs.Common.{carried_by_all, cpu_at, diff_at, effect, entry, group_of, hidden, in_turn, is_online}
use Rattle.vms_calls.specs.Common.{look_steps, online, other, owner_in, pages, peak, place_of, role, state_after}
use Rattle.vms_calls.specs.Common.{sum_below, true_total, value_at, cpu_in, if_present}
use Rattle.vms_core.specs.Drift.{size_below_zero}
use Rattle.vms_core.specs.Pages.{IsLegal}
use Rattle.vms_core.proofs.Common.{laws-kept}
use Rattle.vms_history.proofs.Common.{Extends-both, base_can_begin, own-on_top, prefix_is_legal, sum_below-zeros}
use Rattle.vms_drift.specs.Moments.{MadeSince}
use Rattle.vms_near.specs.Hiding.{may_hide}
use Rattle.vms_near.specs.Near.{TellsNearly, most_below}
use Rattle.vms_near.specs.Snapshots.{AllLeaveDiffs, IsExact, LeavesDiffs, SumsNearly, TellsByPeaks, TellsNearlyBut}
use Rattle.vms_near.specs.Snapshots.{before_look, hidden_by_dead, hides_at_look, moves, moves_until_look, off_by}
use Rattle.vms_near.specs.Snapshots.{online_looks, over_online, peak_at_look, with_load}
use Rattle.vms_near.proofs.ByValue.{off-bounded, values-tell_nearly}
use Rattle.vms_near.proofs.Sides.{below}
use Rattle.vms_near.proofs.BeforeLooks.{before_look-first}
use Rattle.vms_near.proofs.Looks.{AllTold, FoundOnline, looks-from, sums-near}
use Rattle.vms_near.proofs.HidingBounds.{hides-peak}
use Rattle.vms_near.proofs.MayHide.{diff-hidden}
use Rattle.vms_near.proofs.Moments.{earlier-legal, made-first}
use Rattle.vms_near.proofs.StandingDiffs.{all-later, moved-within, none-moves, online-with_dead, online_diff}

-- the load of a value leaves the state
state_after-load : (facts : Facts) (p : ℕ) (k : CounterId) (value : ℤ) (moment : History)
    → state_after facts (with_load p k value moment) ≡ state_after facts moment
state_after-load facts p k value moment = by (owner_in role moment p)
  where
    by : (who : Option CpuId)
        → effect facts who (LoadG k value) (state_after facts moment) ≡ state_after facts moment
    by None = refl
    by (Some c) = refl

-- what is told of numbers
told-most : (x : ℤ) → x ≤ℤ pos (at_least_zero x)
told-most (pos n) = omega (arith, ints)
told-most (negsuc n) = omega (arith, ints)

told-more : (x y : ℤ) (n : ℕ) → x ≤ℤ (y +ℤ pos n) → at_least_zero x ≤ at_least_zero y + n
told-more (pos m) y n less = omega (arith, ints, less, told-most y)
told-more (negsuc m) y n less = omega arith

told-least : (x : ℤ) → at_least_zero x ≢ 0 → pos (at_least_zero x) ≡ x
told-least (pos n) some = refl
told-least (negsuc n) some = absurd (some refl)

-- with as much as the looks found beside its value
tells-nearly_but : (facts : Facts) (h : History) (k : ℕ) (value found : ℤ) (more : ℕ)
    → TellsNearly facts h k value → value ≤ℤ (true_total facts h k +ℤ pos (most_below facts h k))
    → unsigned_abs found ≤ more → TellsNearlyBut facts h k (value +ℤ found) more
tells-nearly_but facts h k value found more near below within = record {
  signed = omega (arith, ints, near.signed, within);
  at_most =
      let less : value ≤ℤ ((value +ℤ found) +ℤ pos more) = omega (arith, ints, within) in
      omega (arith, ints, near.at_most, told-more value (value +ℤ found) more less);
  at_least = λ some.
      let is = told-least (value +ℤ found) some in
      omega (arith, ints, is, below, within);
}

-- what the looks found, at a moment with the load of the value
module _ (facts : Facts) (p : ℕ) (k : CounterId) (value : ℤ) (moment since later : History) (looks : List Look)
    (legal : IsLegal facts (with_load p k value moment)) (one_each : length looks ≡ facts.layout.cpus) where
  abbrev k_in : IsCounter facts.layout k.number
  k_in = legal.2.0

  abbrev first : History
  first = with_load p k value moment

  abbrev stands : ℕ → ℤ
  stands = online_diff (state_after facts moment) k.number

  abbrev hid : ℤ
  hid = hidden k.number looks

  load_same : state_after facts first ≡ state_after facts moment
  load_same = state_after-load facts p k value moment

  -- the sum is off by what the looks found other than what stood
  off_by-found : off_by facts moment k.number (value +ℤ hid) ≡ unsigned_abs (hid -ℤ sum_below stands facts.layout.cpus)
  off_by-found =
      let parts = online-with_dead facts moment k.number k_in legal.0 in
      let total = (laws-kept facts moment legal.0).totals k.number k_in in
      let loaded : value_at (state_after facts moment) k.number ≡ value = legal.2.1 in
      let same : ((value +ℤ hid) +ℤ (carried_by_all moment k.number
      +ℤ hidden_by_dead facts.layout (state_after facts moment) k.number)) -ℤ true_total facts moment k.number
      ≡ hid -ℤ sum_below stands facts.layout.cpus = omega (arith, ints, parts, total, loaded) in
      ap unsigned_abs same

  by_state : (c : ℕ) (b : Bool) → is_online (cpu_at (state_after facts first) c) ≡ b
      → stands c ≡ (if b then diff_at (state_after facts first) c k.number else pos 0)
  by_state c b is =
      ap (λ (s : State). online_diff s k.number c) (sym load_same)
      ∙ ap (λ (x : Bool). if x then diff_at (state_after facts first) c k.number else pos 0) is

  module _ (told : AllTold facts p k k_in first later since 0 looks) where
    abbrev Finds : ℕ → List ℤ → Type 0
    Finds = FoundOnline facts p k k_in first later since

    found-near : (most : ℕ → ℕ) → ((c : ℕ) (values : List ℤ) → Finds c values
        → unsigned_abs (entry values k.number -ℤ stands c) ≤ most c)
        → off_by facts moment k.number (value +ℤ hid) ≤ over_online most 0 looks
    found-near most near =
        let all = sums-near facts p k k_in first later since stands most near (λ c down. by_state c false down)
        looks 0 told in
        let count : 0 + length looks ≡ facts.layout.cpus = omega (arith, one_each) in
        omega (arith, ints, all, ap (sum_below stands) count, off_by-found)

    found-by_moves : off_by facts moment k.number (value +ℤ hid)
        ≤ over_online (moves_until_look facts p first since k.number) 0 looks
    found-by_moves = found-near (moves_until_look facts p first since k.number) (λ c values is.
        let moved = moved-within facts first k.number k_in is.before c in
        let same = ap (λ (h : History). moves facts first h k.number c) is.looks in
        omega (arith, ints, moved, same, is.told, by_state c true is.up))

    -- a differential that was found is at most what its CPU may hide then
    found-within : (c : ℕ) (values : List ℤ) → Finds c values
        → unsigned_abs (entry values k.number) ≤ hides_at_look facts p first since k.number c
    found-within c values is =
        let within = diff-hidden facts (is.before ++ first) is.legal c k.number is.c_in k_in in
        let same = ap (λ (h : History). may_hide facts (h ++ first) c (place_of facts.layout k.number)) is.looks in
        omega (arith, ints, within, same, is.told)

    found-by_hiding : off_by facts moment k.number (value +ℤ hid)
        ≤ over_online (λ c. may_hide facts moment c (place_of facts.layout k.number)
        + hides_at_look facts p first since k.number c) 0 looks
    found-by_hiding = found-near (λ c. may_hide facts moment c (place_of facts.layout k.number)
        + hides_at_look facts p first since k.number c) (λ c values is.
        let found = found-within c values is in
        let was = diff-hidden facts moment legal.0 c k.number is.c_in k_in in
        let same = ap (λ (s : State). diff_at s c k.number) load_same in
        omega (arith, ints, found, was, same, by_state c true is.up))

    found-size : unsigned_abs hid ≤ over_online (hides_at_look facts p first since k.number) 0 looks
    found-size =
        let all = sums-near facts p k k_in first later since (λ c. pos 0) (hides_at_look facts p first since k.number)
        (λ c values is. let found = found-within c values is in omega (arith, ints, found)) (λ c down. refl)
        looks 0 told in
        let none = sum_below-zeros (λ c. pos 0) (0 + length looks) (λ c below. refl) in
        omega (arith, ints, all, none)

-- a value is at most so many pages above its true total, also one that is negative
value-below : (facts : Facts) (h : History) → IsLegal facts h → (k : ℕ) → IsCounter facts.layout k
    → value_at (state_after facts h) k ≤ℤ (true_total facts h k +ℤ pos (most_below facts h k))
value-below facts h legal k k_in =
    omega (arith, ints, off-bounded neg_ℤ size_below_zero below facts h legal k k_in)

-- a snapshot that was taken between two histories
pub sums-nearly : (facts : Facts) (later earlier : History) (p : ℕ) (k : CounterId) (steps : List Step) (answer : ℕ)
    → IsSnapshot facts.layout k steps answer → MadeSince facts later earlier p steps
    → SumsNearly facts later earlier p k answer
sums-nearly facts later earlier p k steps answer is has =
    let turns = in_turn (look_steps (group_of k.number)) 0 is.looks in
    let at = made-first facts p later earlier (LoadG k is.value) turns
    (subst (MadeSince facts later earlier p) is.in_order has) in
    let all = looks-from facts p k (at.legal.2.0) (with_load p k is.value at.moment) later is.looks [] 0
    (LoadG k is.value, at.moment, refl) at.rest in
    let loaded : value_at (state_after facts at.moment) k.number ≡ is.value = at.legal.2.1 in
    let value_near = values-tell_nearly facts at.moment at.legal.0 k.number at.legal.2.0 in
    record {
      moment = at.moment;
      since = all.all;
      value = is.value;
      looks = is.looks;
      begins = at.begins;
      until = all.until;
      one_each = is.one_each;
      ends = all.ends;
      made = own-on_top all.all (with_load p k is.value at.moment) p turns all.mine;
      answers = is.answers;
      by_moves = found-by_moves facts p k is.value at.moment all.all later is.looks at.legal is.one_each all.told;
      by_hiding = found-by_hiding facts p k is.value at.moment all.all later is.looks at.legal is.one_each all.told;
      of_truth = tells-nearly_but facts at.moment k.number is.value (hidden k.number is.looks)
          (over_online (hides_at_look facts p (with_load p k is.value at.moment) all.all k.number) 0 is.looks)
          (subst (TellsNearly facts at.moment k.number) loaded value_near)
          (subst (λ v. v ≤ℤ (true_total facts at.moment k.number +ℤ pos (most_below facts at.moment k.number)))
          loaded (value-below facts at.moment at.legal.0 k.number at.legal.2.0))
          (found-size facts p k is.value at.moment all.all later is.looks at.legal is.one_each all.told);
      value_near = subst (TellsNearly facts at.moment k.number) loaded value_near;
    }

-- the same between histories that lie further apart
pub sums-within : (facts : Facts) (last later earlier first : History) (p : ℕ) (k : CounterId) (answer : ℕ)
    → Extends last later → Extends earlier first → SumsNearly facts later earlier p k answer
    → SumsNearly facts last first p k answer
sums-within facts last later earlier first p k answer until begins sums = record {
  moment = sums.moment;
  since = sums.since;
  value = sums.value;
  looks = sums.looks;
  begins = Extends-both sums.moment earlier first sums.begins begins;
  until = Extends-both last later (sums.since ++ with_load p k sums.value sums.moment) until sums.until;
  one_each = sums.one_each;
  ends = sums.ends;
  made = sums.made;
  answers = sums.answers;
  by_moves = sums.by_moves;
  by_hiding = sums.by_hiding;
  of_truth = sums.of_truth;
  value_near = sums.value_near;
}

if_present-within : (x : CpuState) (n : ℕ) → if_present x n ≤ n
if_present-within Absent n = omega arith
if_present-within Online n = omega arith
if_present-within Dead n = omega arith

-- sums over the CPUs found online
over_online-least : (f g : ℕ → ℕ) (looks : List Look) (c : ℕ) → ((d : ℕ) → d < c + length looks → f d ≤ g d)
    → over_online f c looks ≤ over_online g c looks
over_online-least f g [] c less = omega arith
over_online-least f g (online w ∷ looks) c less =
    omega (arith, less c (omega arith), over_online-least f g looks (suc c) (λ d below. less d (omega arith)))
over_online-least f g (other x differs ∷ looks) c less =
    over_online-least f g looks (suc c) (λ d below. less d (omega arith))

over_online-most : (f : ℕ → ℕ) (most : ℕ) (looks : List Look) (c : ℕ) → ((d : ℕ) → d < c + length looks → f d ≤ most)
    → over_online f c looks ≤ most * over_online (λ d. 1) c looks
over_online-most f most [] c within = omega arith
over_online-most f most (online w ∷ looks) c within =
    let rest = over_online-most f most looks (suc c) (λ d below. within d (omega arith)) in
    let one = within c (omega arith) in
    let more : most * (1 + over_online (λ d. 1) (suc c) looks)
    ≡ most + most * over_online (λ d. 1) (suc c) looks = omega arith in
    omega (arith, rest, one, more)
over_online-most f most (other x differs ∷ looks) c within =
    over_online-most f most looks (suc c) (λ d below. within d (omega arith))

-- what follows of what a snapshot tells
module _ (facts : Facts) (later earlier : History) (p : ℕ) (k : CounterId) (answer : ℕ)
    (sums : SumsNearly facts later earlier p k answer) where
  abbrev begun : History
  begun = with_load p k sums.value sums.moment

  abbrev sum : ℤ
  sum = sums.value +ℤ hidden k.number sums.looks

  pub sums-exact : over_online (moves_until_look facts p begun sums.since k.number) 0 sums.looks ≡ 0
      → IsExact facts sums.moment k.number sum
  sums-exact still = omega (arith, ints, sums.by_moves, still)

  module _ (legal : IsLegal facts later) where
    all_legal : IsLegal facts (sums.since ++ begun)
    all_legal = earlier-legal facts later (sums.since ++ begun) sums.until legal

    load_legal : IsLegal facts begun
    load_legal = prefix_is_legal pages facts sums.since begun all_legal

    -- what stood before a look is legal
    before-legal : (c : ℕ) → IsLegal facts (before_look p c sums.since ++ begun)
    before-legal c =
        let first = before_look-first p c sums.since in
        prefix_is_legal pages facts first.0 (before_look p c sums.since ++ begun)
        (subst (IsLegal facts) (ap (λ (h : History). h ++ begun) first.1
        ∙ append_assoc first.0 (before_look p c sums.since) begun) all_legal)

    pub sums-untouched : AllLeaveDiffs k.number sums.since → IsExact facts sums.moment k.number sum
    sums-untouched leave =
        let leaves = λ (e : Event Step). LeavesDiffs k.number e.step in
        let none : (c : ℕ) → moves_until_look facts p begun sums.since k.number c ≤ 0 =
        λ c. let first = before_look-first p c sums.since in
        let stays = none-moves facts begun k.number load_legal.2.0 (before_look p c sums.since) (before-legal c)
        (all-later leaves first.0 (before_look p c sums.since) (subst (All leaves) first.1 leave)) c in
        omega (arith, stays) in
        let all = over_online-most (moves_until_look facts p begun sums.since k.number) 0 sums.looks 0
        (λ c below. none c) in
        sums-exact (omega (arith, all))

    abbrev place : ℕ
    place = place_of facts.layout k.number

    place_in : IsPlace facts.layout place
    place_in = place_of-lt facts.layout (base_can_begin pages facts begun load_legal).layout k.number load_legal.2.0

    -- what a CPU may hide is at most its peak
    hides-within : (h : History) → IsLegal facts h → (c : ℕ) → IsCpu facts.layout c
        → may_hide facts h c place ≤ peak facts c place h
    hides-within h h_legal c c_in = omega (
      arith,
      hides-peak facts h h_legal place place_in c c_in,
      if_present-within (cpu_in facts c h) (peak facts c place h),
    )

    abbrev peaks_of : ℕ → ℕ
    peaks_of c = peak facts c place sums.moment + peak_at_look facts p begun sums.since k.number c

    looked-at : (c : ℕ) → c < 0 + length sums.looks → IsCpu facts.layout c
    looked-at c below = omega (arith, below, sums.one_each)

    both-within : over_online (λ c. may_hide facts sums.moment c place
        + hides_at_look facts p begun sums.since k.number c) 0 sums.looks ≤ over_online peaks_of 0 sums.looks
    both-within =
        over_online-least (λ c. may_hide facts sums.moment c place + hides_at_look facts p begun sums.since k.number c)
        peaks_of sums.looks 0 (λ c below.
        omega (
          arith,
          hides-within sums.moment load_legal.0 c (looked-at c below),
          hides-within (before_look p c sums.since ++ begun) (before-legal c) c (looked-at c below),
        ))

    looks-within : over_online (hides_at_look facts p begun sums.since k.number) 0 sums.looks
        ≤ over_online (peak_at_look facts p begun sums.since k.number) 0 sums.looks
    looks-within =
        over_online-least (hides_at_look facts p begun sums.since k.number)
        (peak_at_look facts p begun sums.since k.number) sums.looks 0
        (λ c below. hides-within (before_look p c sums.since ++ begun) (before-legal c) c (looked-at c below))

    pub sums-by_peaks : TellsByPeaks facts p k.number begun sums.since sum sums.moment sums.looks
    sums-by_peaks = record {
      by_peaks = omega (arith, sums.by_hiding, both-within);
      of_truth = record {
        signed = omega (arith, sums.of_truth.signed, looks-within);
        at_most = omega (arith, ints, sums.of_truth.at_most, looks-within);
        at_least = λ some. omega (arith, ints, sums.of_truth.at_least some, looks-within);
      };
    }

    pub sums-by_looks : off_by facts sums.moment k.number sum ≤ 250 * online_looks sums.looks
    sums-by_looks =
        let most = over_online-most peaks_of 250 sums.looks 0 (λ c below.
        omega (
          arith,
          (laws-kept facts sums.moment load_legal.0).peaks c place (looked-at c below) place_in,
          (laws-kept facts (before_look p c sums.since ++ begun) (before-legal c)).peaks c place (looked-at c below)
              place_in,
        )) in
        omega (arith, most, sums-by_peaks.by_peaks)
