-- A pass may load any word, and what its loads of one event found.
use Rattle.std.proofs.Common.{◌≡◌, ℕ, zero, suc, ◌<◌, ◌≤◌, ◌+◌, ◌^◌, true, false, List, [], ◌∷◌, ◌++◌, length, drop}
use Rattle.std.proofs.Common.{replicate, get_or, Option, Some, None, slice_set, refl, ap, sym, ◌∙◌, subst, arith}
use Rattle.std.proofs.Common.{append_assoc, append-nil, length-append}
use Rattle.std.specs.Prelude.{sum}
use Rattle.std.proofs.lemmas.List.{set-get_or, drop_more, drop_all, length-replicate}
use Rattle.std.proofs.lemmas.List.Sums.{sum_by-cons, sum_by-append}
use Rattle.vms_history.specs.Common.{CpuId, EventId, CpuState, Online, Dead, Absent, is_online, online_from, IsCpu}
use Rattle.vms_history.specs.Common.{owner_in}
use Rattle.vms_history.specs.declared.events.Event.{Event}
use Rattle.vms_event_core.specs.declared.states.EventState.{EventState}
use Rattle.vms_event_core.specs.declared.steps.EventFacts.{EventFacts}
use Rattle.vms_event_core.specs.declared.steps.EventStep.{EventStep}
use Rattle.vms_event_core.specs.declared.steps.EventStep.TheVariants.{LoadE}
use Rattle.vms_event_core.specs.Common.{cpu_at, AtMostStands, IsAllEvents, loads, online_cpus, events, History, IsLegal}
use Rattle.vms_event_core.specs.Common.{state_after, role, effect, IsEvent, word_at}
use Rattle.vms_event_core.proofs.Common.{beginnings-kept, words-grow, all_events-most}
use Rattle.vms_event.specs.SharedWords.{shown}
use Rattle.vms_event.specs.Common.{event_place}
use Rattle.vms_seats.specs.Common.{Pass, IsLive, Made, MadeOne, MayStep}
use Rattle.vms_seats.proofs.Common.{calls-none, calls-next}
use Rattle.vms_event.proofs.KnownSpending.{given}
use Rattle.vms_event.proofs.ShownWords.{shown-word}

load-leaves : (facts : EventFacts) (who : Option CpuId) (c : CpuId) (k : EventId) (v : ℕ) (s : EventState)
    → effect facts who (LoadE c k v) s ≡ s
load-leaves facts (Some d) c k v s = refl
load-leaves facts None c k v s = refl

pub load-may : (pass : Pass EventFacts EventStep) (facts : EventFacts) → pass.facts ≡ facts → (c : CpuId) (k : EventId)
    → IsCpu facts.layout c.number → IsEvent k.number
    → MayStep events shown pass (event_place c.number k.number) (λ n. n) (λ found. LoadE c k found)
load-may pass facts same c k c_in k_in h found goes small stands =
    let s = state_after pass.facts h in
    let least = (given pass h goes).0 in
    let known : IsCpu pass.facts.layout c.number =
    subst (λ (f : EventFacts). IsCpu f.layout c.number) (sym same) c_in in
    let place = event_place c.number k.number in
    record {
      legal = (
        goes.legal,
        ((λ main. let some = least in omega arith), goes.lives),
        record {
          cpu = known;
          event = k_in;
          value = sym (shown-word pass.facts s c.number k.number known k_in) ∙ stands;
        },
      );
      shows = ap (shown pass.facts) (load-leaves pass.facts (owner_in role h pass.number) c k found s)
          ∙ sym (set-get_or (shown pass.facts s) place 0) ∙ ap (slice_set (shown pass.facts s) place) stands;
    }

-- each of these CPUs is online
abbrev pub AllOnline : EventFacts → List CpuId → Type 0
AllOnline facts [] = Unit {0}
AllOnline facts (c ∷ cpus) = (cpu_at facts c.number ≡ Online) × AllOnline facts cpus

module _ (k : EventId) where
  loads-more : (cpus : List CpuId) (found : List ℕ) (c : CpuId) (v : ℕ) → length found ≡ length cpus
      → loads k (cpus ++ c ∷ []) (found ++ v ∷ []) ≡ loads k cpus found ++ LoadE c k v ∷ []
  loads-more [] [] c v same = refl
  loads-more [] (x ∷ found) c v same = absurd (omega arith)
  loads-more (d ∷ cpus) [] c v same = absurd (omega arith)
  loads-more (d ∷ cpus) (x ∷ found) c v same =
      ap (λ steps. LoadE d k x ∷ steps) (loads-more cpus found c v (omega arith))

  most-more : (s : EventState) (cpus : List CpuId) (found : List ℕ) (c : CpuId) (v : ℕ) → length found ≡ length cpus
      → AtMostStands s k.number cpus found → v ≤ word_at s c.number k.number
      → AtMostStands s k.number (cpus ++ c ∷ []) (found ++ v ∷ [])
  most-more s [] [] c v same most last = (last, tt)
  most-more s [] (x ∷ found) c v same most last = absurd (omega arith)
  most-more s (d ∷ cpus) [] c v same most last = absurd (omega arith)
  most-more s (d ∷ cpus) (x ∷ found) c v same most last =
      (most.0, most-more s cpus found c v (omega arith) most.1 last)

  most-zeros : (s : EventState) (cpus rest : List CpuId) (found : List ℕ) → length found ≡ length cpus
      → AtMostStands s k.number cpus found
      → AtMostStands s k.number (cpus ++ rest) (found ++ replicate (length rest) 0)
  most-zeros s [] [] [] same most = tt
  most-zeros s [] (c ∷ rest) [] same most = (omega arith, most-zeros s [] rest [] refl tt)
  most-zeros s [] rest (x ∷ found) same most = absurd (omega arith)
  most-zeros s (d ∷ cpus) rest [] same most = absurd (omega arith)
  most-zeros s (d ∷ cpus) rest (x ∷ found) same most = (most.0, most-zeros s cpus rest found (omega arith) most.1)

  most-grows : (facts : EventFacts) (m h : History) → IsLegal facts (m ++ h) → IsEvent k.number → (cpus : List CpuId)
      (found : List ℕ) → AllOnline facts cpus
      → AtMostStands (state_after facts h) k.number cpus found
      → AtMostStands (state_after facts (m ++ h)) k.number cpus found
  most-grows facts m h legal k_in [] found online most = tt
  most-grows facts m h legal k_in (c ∷ cpus) [] online most = tt
  most-grows facts m h legal k_in (c ∷ cpus) (v ∷ found) online most =
      let grows = words-grow facts m h c.number k.number legal online.0 k_in in
      let first = most.0 in
      (omega arith, most-grows facts m h legal k_in cpus found online.1 most.1)

-- the CPUs below n that are online are loaded, and what they had is summed
pub record SoFar (facts : EventFacts) (k : EventId) (now old : Pass EventFacts EventStep) (n answer : ℕ) : Type 0 where
  pub cpus : List CpuId
  pub found : List ℕ
  pub all : online_cpus facts ≡ cpus ++ online_from n (drop n facts.cpus)
  pub same : length found ≡ length cpus
  pub online : AllOnline facts cpus
  pub made : Made events now old (loads k cpus found)
  pub adds : answer ≡ sum found
  pub most : AtMostStands (state_after facts now.seen) k.number cpus found

pub so_far-none : (facts : EventFacts) (k : EventId) (pass : Pass EventFacts EventStep) → IsLive events pass
    → SoFar facts k pass pass 0 0
so_far-none facts k pass live = record {
  cpus = [];
  found = [];
  all = refl;
  same = refl;
  online = tt;
  made = calls-none events pass live;
  adds = refl;
  most = tt;
}

sum-more : (found : List ℕ) (v : ℕ) → sum (found ++ v ∷ []) ≡ sum found + v
sum-more found v = sum_by-append (λ x. x) found (v ∷ []) ∙ omega (arith, sum_by-cons (λ x. x) v [])

online-more : (facts : EventFacts) (cpus : List CpuId) (c : CpuId) → AllOnline facts cpus
    → cpu_at facts c.number ≡ Online → AllOnline facts (cpus ++ c ∷ [])
online-more facts [] c all last = (last, tt)
online-more facts (d ∷ cpus) c all last = (all.0, online-more facts cpus c all.1 last)

module _ (facts : EventFacts) (k : EventId) (k_in : IsEvent k.number) (now old : Pass EventFacts EventStep)
    (n answer : ℕ) (so_far : SoFar facts k now old n answer) (same_facts : old.facts ≡ facts) where
  legal_now : IsLegal facts now.seen
  legal_now = subst (λ f. IsLegal f now.seen) same_facts so_far.made.made.legal

  -- what is summed is not too large
  pub so_far-fits : answer < 2 ^ 62
  so_far-fits =
      let rest = online_from n (drop n facts.cpus) in
      let zeros : List ℕ = replicate (length rest) 0 in
      let cpus = so_far.cpus in
      let found = so_far.found in
      let most = subst (λ all. AtMostStands (state_after facts now.seen) k.number all (found ++ zeros)) (sym so_far.all)
      (most-zeros k (state_after facts now.seen) cpus rest found so_far.same so_far.most) in
      let long : length (found ++ zeros) ≡ length (online_cpus facts) =
      length-append found zeros ∙ omega (arith, so_far.same, length-replicate {A = ℕ} (length rest) 0)
      ∙ sym (length-append cpus rest) ∙ ap length (sym so_far.all) in
      let bound = all_events-most facts now.seen k (found ++ zeros) (loads k (online_cpus facts) (found ++ zeros))
      (sum (found ++ zeros)) legal_now k_in (record { one_each = long; in_order = refl; adds_up = refl }) most in
      let parts = sum_by-append (λ x. x) found zeros in
      let adds = so_far.adds in
      let below = (beginnings-kept facts [] now.seen legal_now).bounds.below in
      omega (arith, bound, parts, adds, below)

  module _ (x : CpuState) (inside : n < length facts.cpus) (is : x ≡ get_or facts.cpus n x) where
    left_is : online_from n (drop n facts.cpus) ≡ online_from n (x ∷ drop (n + 1) facts.cpus)
    left_is = ap (λ (states : List CpuState). online_from n states) (drop_more facts.cpus n x inside)
        ∙ ap (λ (y : CpuState). online_from n (y ∷ drop (n + 1) facts.cpus)) (sym is)

    next : suc n ≡ n + 1
    next = omega arith

    -- a CPU that isn't online
    pub so_far-past : is_online x ≡ false → SoFar facts k now old (n + 1) answer
    so_far-past off = record {
      cpus = so_far.cpus;
      found = so_far.found;
      all = so_far.all ∙ ap (λ (rest : List CpuId). so_far.cpus ++ rest) (left_is ∙ skipped x off);
      same = so_far.same;
      online = so_far.online;
      made = so_far.made;
      adds = so_far.adds;
      most = so_far.most;
    }
      where
        skipped : (y : CpuState) → is_online y ≡ false
            → online_from n (y ∷ drop (n + 1) facts.cpus) ≡ online_from (n + 1) (drop (n + 1) facts.cpus)
        skipped Online on = absurd cc
        skipped Dead on = ap (λ (d : ℕ). online_from d (drop (n + 1) facts.cpus)) next
        skipped Absent on = ap (λ (d : ℕ). online_from d (drop (n + 1) facts.cpus)) next

    -- a CPU that is online, once it is loaded
    pub so_far-loaded : x ≡ Online → get_or facts.cpus n Absent ≡ Online → (new : Pass EventFacts EventStep) (v : ℕ)
        → MadeOne events new now (LoadE (record { number = n }) k v) → SoFar facts k new old (n + 1) (answer + v)
    so_far-loaded on state new v one = record {
      cpus = so_far.cpus ++ c ∷ [];
      found = so_far.found ++ v ∷ [];
      all = so_far.all
          ∙ ap (λ (rest : List CpuId). so_far.cpus ++ rest)
          (left_is ∙ ap (λ (y : CpuState). online_from n (y ∷ drop (n + 1) facts.cpus)) on
          ∙ ap (λ (d : ℕ). c ∷ online_from d (drop (n + 1) facts.cpus)) next)
          ∙ sym (append_assoc so_far.cpus (c ∷ []) (online_from (n + 1) (drop (n + 1) facts.cpus)));
      same = omega (arith, so_far.same, length-append so_far.found (v ∷ []), length-append so_far.cpus (c ∷ []));
      online = online-more facts so_far.cpus c so_far.online state;
      made = subst (Made events new old) (sym (loads-more k so_far.cpus so_far.found c v so_far.same))
          (calls-next events new now old (loads k so_far.cpus so_far.found) (LoadE c k v) one so_far.made);
      adds = omega (arith, so_far.adds, sum-more so_far.found v);
      most = most-more k (state_after facts new.seen) so_far.cpus so_far.found c v so_far.same grown
          (omega (arith, stands));
    }
      where
        c : CpuId
        c = record { number = n }

        h : History
        h = one.at.before

        e : Event EventStep
        e = record { caller = now.number; step = LoadE c k v }

        m : History
        m = one.at.others.extends.0

        facts_now : now.facts ≡ facts
        facts_now = so_far.made.facts ∙ same_facts

        legal : IsLegal facts (e ∷ h)
        legal = subst (λ f. IsLegal f (e ∷ h)) facts_now
            (subst (IsLegal now.facts) one.at.newest one.at.legal)

        seen_is : new.seen ≡ (e ∷ m) ++ now.seen
        seen_is = one.at.newest ∙ ap (λ es. e ∷ es) one.at.others.extends.1

        grown : AtMostStands (state_after facts new.seen) k.number so_far.cpus so_far.found
        grown = subst (λ g. AtMostStands (state_after facts g) k.number so_far.cpus so_far.found) (sym seen_is)
            (most-grows k facts (e ∷ m) now.seen
            (subst (IsLegal facts) (ap (λ es. e ∷ es) one.at.others.extends.1) legal) k_in so_far.cpus so_far.found
            so_far.online so_far.most)

        stands : word_at (state_after facts new.seen) n k.number ≡ v
        stands = ap (λ g. word_at (state_after facts g) n k.number) one.at.newest
            ∙ ap (λ (s : EventState). word_at s n k.number)
            (load-leaves facts (owner_in role h now.number) c k v (state_after facts h))
            ∙ legal.2.value

  -- once all are past
  pub so_far-all : length facts.cpus ≤ n
      → (found : List ℕ) × (steps : List EventStep) × IsAllEvents (online_cpus facts) k found steps answer
      × Made events now old steps
  so_far-all past =
      let none : online_from n (drop n facts.cpus) ≡ [] =
      ap (λ (states : List CpuState). online_from n states) (drop_all n facts.cpus past) in
      let whole : online_cpus facts ≡ so_far.cpus =
      so_far.all ∙ ap (λ (rest : List CpuId). so_far.cpus ++ rest) none ∙ append-nil so_far.cpus in (
        so_far.found,
        loads k so_far.cpus so_far.found,
        record {
          one_each = so_far.same ∙ ap length (sym whole);
          in_order = ap (λ (cpus : List CpuId). loads k cpus so_far.found) (sym whole);
          adds_up = so_far.adds;
        },
        so_far.made,
      )

get-any : (xs : List CpuState) (n : ℕ) (d e : CpuState) → n < length xs → get_or xs n d ≡ get_or xs n e
get-any [] n d e inside = absurd (omega arith)
get-any (x ∷ xs) zero d e inside = refl
get-any (x ∷ xs) (suc n) d e inside = get-any xs n d e (omega arith)

online-true : (x : CpuState) → is_online x ≡ true → x ≡ Online
online-true Online on = refl
online-true Dead on = absurd cc
online-true Absent on = absurd cc

-- a turn of the loop over the states
module _ (facts : EventFacts) (k : EventId) (k_in : IsEvent k.number) (now old : Pass EventFacts EventStep)
    (n answer : ℕ) (so_far : SoFar facts k now old n answer) (same_facts : old.facts ≡ facts) (states : List CpuState)
    (states_are : states ≡ facts.cpus) (d : CpuState) (inside : n < length states) where
  inside_facts : n < length facts.cpus
  inside_facts = subst (λ (xs : List CpuState). n < length xs) states_are inside

  pub so_far-then : is_online (get_or states n d) ≡ true → (new : Pass EventFacts EventStep) (v : ℕ)
      → MadeOne events new now (LoadE (record { number = n }) k v) → SoFar facts k new old (n + 1) (answer + v)
  so_far-then on new v one =
      let x : CpuState = get_or facts.cpus n d in
      let on_facts : x ≡ Online =
      online-true x (subst (λ (xs : List CpuState). is_online (get_or xs n d) ≡ true) states_are on) in
      so_far-loaded facts k k_in now old n answer so_far same_facts x inside_facts
      (get-any facts.cpus n d x inside_facts) on_facts (get-any facts.cpus n Absent d inside_facts ∙ on_facts) new v one

  pub so_far-else : is_online (get_or states n d) ≡ false → SoFar facts k now old (n + 1) answer
  so_far-else off =
      let x : CpuState = get_or facts.cpus n d in
      so_far-past facts k k_in now old n answer so_far same_facts x inside_facts
      (get-any facts.cpus n d x inside_facts)
      (subst (λ (xs : List CpuState). is_online (get_or xs n d) ≡ false) states_are off)
