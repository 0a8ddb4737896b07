-- The first and the last load of a sum of an event, and what the words were in sum then.
use Rattle.std.proofs.Common.{◌≡◌, ◌≢◌, ℕ, zero, suc, ◌≤◌, Bool, true, false, List, [], ◌∷◌, ◌++◌, length, Option, Some}
use Rattle.std.proofs.Common.{None, refl, sym, ap, subst, ◌∙◌, arith, append_assoc, nat_eq, if◌then◌else◌}
use Rattle.std.proofs.lemmas.Int.{ints}
use Rattle.vms_base.specs.declared.ids.EventId.{EventId}
use Rattle.vms_base.specs.declared.kinds.CpuState.TheVariants.{Dead, Online}
use Rattle.vms_event_core.specs.declared.steps.EventStep.TheVariants.{LoadE}
use Rattle.vms_event_core.specs.CallLaws.{HasMade, SumsBetween}
use Rattle.vms_event_core.specs.Events.{History, IsLegal, state_after}
use Rattle.vms_event_core.specs.Calls.{IsAllEvents, loads}
use Rattle.vms_event_core.specs.Laws.{KeepsLaws}
use Rattle.vms_event_core.specs.Steps.{effect, role}
use Rattle.vms_history.proofs.Common.{Extends-both, after-append, after-steps, base_can_begin, last_in_row}
use Rattle.vms_history.proofs.Common.{lives_in-others, own-append, own-mine, own-on_top, prefix_is_legal}
use Rattle.vms_history.specs.Events.{NewestOwn}
use Rattle.vms_truth.specs.EventTruth.{EventSumIsTrue}
use Rattle.vms_truth.proofs.EventWords.{lacks-little, online-total}
use Rattle.vms_world.specs.Common.{Absent, CpuId, CpuState, Event, EventFacts, EventState, EventStep, Extends, IsEvent}
use Rattle.vms_world.specs.Common.{after, events, online_cpus, online_from, own, owner_in, state_at, sum_over}

-- e is the oldest own event of p in a list
record OldestOwn {K : Type 0} (m : List (Event K)) (p : ℕ) (e : Event K) : Type 0 where
  since : List (Event K)
  before : List (Event K)
  parts : m ≡ since ++ (e ∷ before)
  none_before : own before p ≡ []

oldest_own : {K : Type 0} (m : List (Event K)) (p : ℕ) (e : Event K) (front : List (Event K))
    → own m p ≡ front ++ (e ∷ []) → OldestOwn m p e
oldest_own [] p e [] is = absurd cc
oldest_own [] p e (f ∷ front) is = absurd cc
oldest_own {K} (d ∷ m) p e front is = by (nat_eq d.caller p) front is (oldest_own m p e)
  where
    later : OldestOwn m p e → OldestOwn (d ∷ m) p e
    later oldest = record {
      since = d ∷ oldest.since;
      before = oldest.before;
      parts = ap (λ (es : List (Event K)). d ∷ es) oldest.parts;
      none_before = oldest.none_before;
    }

    by : (b : Bool) (f : List (Event K)) → (if b then d ∷ own m p else own m p) ≡ f ++ (e ∷ [])
        → ((g : List (Event K)) → own m p ≡ g ++ (e ∷ []) → OldestOwn m p e) → OldestOwn (d ∷ m) p e
    by false f same rest = later (rest f same)
    by true [] same rest =
        let first : d ≡ e = cc in
        record { since = []; before = m; parts = ap (λ (x : Event K). x ∷ m) first; none_before = cc }
    by true (x ∷ f) same rest = later (rest f cc)

-- the last of the loads
record LastLoad (k : EventId) (steps : List EventStep) : Type 0 where
  front : List EventStep
  cpu : CpuId
  found : ℕ
  parts : steps ≡ front ++ (LoadE cpu k found ∷ [])

last_load : (k : EventId) (c : CpuId) (cpus : List CpuId) (v : ℕ) (found : List ℕ)
    → LastLoad k (loads k (c ∷ cpus) (v ∷ found))
last_load k c [] v found = record { front = []; cpu = c; found = v; parts = refl }
last_load k c (d ∷ cpus) v [] = record { front = []; cpu = c; found = v; parts = refl }
last_load k c (d ∷ cpus) v (w ∷ found) =
    let rest = last_load k d cpus w found in
    record {
      front = LoadE c k v ∷ rest.front;
      cpu = rest.cpu;
      found = rest.found;
      parts = ap (λ (ks : List EventStep). LoadE c k v ∷ ks) rest.parts;
    }

-- where a CPU is online, some are listed
some-online : (states : List CpuState) (n c : ℕ) → state_at states c ≡ Online → online_from n states ≢ []
some-online [] n c is none = cc
some-online (Online ∷ states) n c is none = cc
some-online (Dead ∷ states) n zero is none = cc
some-online (Dead ∷ states) n (suc c) is none = some-online states (suc n) c is none
some-online (Absent ∷ states) n zero is none = cc
some-online (Absent ∷ states) n (suc c) is none = some-online states (suc n) c is none

module _ (laws-kept : (facts : EventFacts) (more h : History) → IsLegal facts (more ++ h) → KeepsLaws facts h)
    (between : (facts : EventFacts) (later earlier : History) (p : ℕ) (k : EventId) (found : List ℕ)
    (steps : List EventStep) (answer : ℕ) → HasMade facts later earlier p steps → IsEvent k.number
    → IsAllEvents (online_cpus facts) k found steps answer → SumsBetween facts later earlier k found answer)
    (facts : EventFacts) (later earlier : History) (p : ℕ) (k : EventId) (steps : List EventStep) (sum : ℕ)
    (legal : IsLegal facts later) (since : Extends later earlier)
    (made : own later p ≡ after p steps (own earlier p)) where
  abbrev load : CpuId → ℕ → Event EventStep
  load c v = record { caller = p; step = LoadE c k v }

  prefix : (more h : History) → later ≡ more ++ h → IsLegal facts h
  prefix more h is = prefix_is_legal events facts more h (subst (IsLegal facts) is legal)

  -- a load leaves the words
  load-leaves : (c : CpuId) (v : ℕ) (h : History) → state_after facts (load c v ∷ h) ≡ state_after facts h
  load-leaves c v h = by (owner_in role h p)
    where
      by : (who : Option CpuId) → effect facts who (LoadE c k v) (state_after facts h) ≡ state_after facts h
      by None = refl
      by (Some o) = refl

  some-cpu : online_cpus facts ≢ []
  some-cpu = let online = (base_can_begin events facts later legal).some_online in
      some-online facts.cpus 0 online.0 online.2

  loaded-true : (c : CpuId) (cpus : List CpuId) (v : ℕ) (found : List ℕ) → online_cpus facts ≡ c ∷ cpus
      → IsAllEvents (online_cpus facts) k (v ∷ found) steps sum → EventSumIsTrue facts later earlier p k sum
  loaded-true c cpus v found are call = record {
    first = first;
    last = last;
    first_load = record {
      cpu = c;
      found = v;
      begins = (oldest.before, refl);
      until = Extends-both later (load d w ∷ last) (load c v ∷ first) (newest.since, newest.parts)
          (oldest.since, in_parts);
    };
    last_load = record {
      cpu = d;
      found = w;
      begins = goes_on oldest.since in_parts;
      until = (newest.since, newest.parts);
    };
    none_before = own_first;
    none_after = ap (λ (h : History). own h p) newest.parts
        ∙ own-append newest.since (load d w ∷ last) p
        ∙ ap (λ (es : History). es ++ own (load d w ∷ last) p) newest.none_since
        ∙ own-mine (load d w) last p refl;
    words_least = sums.least;
    words_most = most;
    least = let online = online-total facts k.number first legal_first.0 laws_first k_in in
        omega (arith, ints, online, sums.least);
    most = let online = online-total facts k.number last legal_last.0 laws_last k_in in
        omega (arith, ints, online, most);
    lacks_first = lacks-little facts k.number first legal_first.0 laws_first k_in;
    lacks_last = lacks-little facts k.number last legal_last.0 laws_last k_in;
  }
    where
      rest : List EventStep
      rest = loads k cpus found

      in_order : steps ≡ LoadE c k v ∷ rest
      in_order = call.in_order ∙ ap (λ (cs : List CpuId). loads k cs (v ∷ found)) are

      end : LastLoad k (loads k (c ∷ cpus) (v ∷ found))
      end = last_load k c cpus v found

      d : CpuId
      d = end.cpu

      w : ℕ
      w = end.found

      at_end : steps ≡ end.front ++ (LoadE d k w ∷ [])
      at_end = in_order ∙ end.parts

      newest : NewestOwn later p (load d w) (after p end.front (own earlier p))
      newest = (last_in_row later earlier p end.front (LoadE d k w) since
          (made ∙ ap (λ ks. after p ks (own earlier p)) at_end)).0

      last : History
      last = newest.before

      last_since : Extends last earlier
      last_since = (last_in_row later earlier p end.front (LoadE d k w) since
          (made ∙ ap (λ ks. after p ks (own earlier p)) at_end)).1

      legal_last : IsLegal facts (load d w ∷ last)
      legal_last = prefix newest.since (load d w ∷ last) newest.parts

      own_last : own (load d w ∷ last) p ≡ after p steps (own earlier p)
      own_last = own-mine (load d w) last p refl ∙ ap (λ (es : History). load d w ∷ es) newest.own_before
          ∙ sym (after-steps p end.front (LoadE d k w ∷ []) (own earlier p))
          ∙ ap (λ ks. after p ks (own earlier p)) (sym at_end)

      more : Extends (load d w ∷ last) earlier
      more = Extends-both (load d w ∷ last) last earlier (load d w ∷ [], refl) last_since

      oldest : OldestOwn more.0 p (load c v)
      oldest = oldest_own more.0 p (load c v) (after p rest [])
          (own-on_top more.0 earlier p steps (sym (ap (λ (h : History). own h p) more.1) ∙ own_last)
          ∙ ap (λ ks. after p ks []) in_order ∙ after-append p rest [] (load c v ∷ []))

      first : History
      first = oldest.before ++ earlier

      own_first : own first p ≡ own earlier p
      own_first = own-append oldest.before earlier p ∙ ap (λ (es : History). es ++ own earlier p) oldest.none_before

      in_parts : load d w ∷ last ≡ oldest.since ++ (load c v ∷ first)
      in_parts = more.1 ∙ ap (λ (es : History). es ++ earlier) oldest.parts
          ∙ append_assoc oldest.since (load c v ∷ oldest.before) earlier

      goes_on : (es : History) → load d w ∷ last ≡ es ++ (load c v ∷ first) → Extends last first
      goes_on [] is = ([], cc)
      goes_on (e ∷ es) is =
          let tail : last ≡ es ++ (load c v ∷ first) = cc in
          Extends-both last (load c v ∷ first) first (es, tail) (load c v ∷ [], refl)

      legal_first : IsLegal facts (load c v ∷ first)
      legal_first = prefix_is_legal events facts oldest.since (load c v ∷ first)
          (subst (IsLegal facts) in_parts legal_last)

      k_in : IsEvent k.number
      k_in = legal_first.2.event

      laws_first : KeepsLaws facts first
      laws_first = laws-kept facts [] first legal_first.0

      laws_last : KeepsLaws facts last
      laws_last = laws-kept facts [] last legal_last.0

      sums : SumsBetween facts (load d w ∷ last) first k (v ∷ found) sum
      sums = between facts (load d w ∷ last) first p k (v ∷ found) steps sum
          (record {
            legal = legal_last;
            extends = Extends-both (load d w ∷ last) (load c v ∷ first) first (oldest.since, in_parts)
                (load c v ∷ [], refl);
            lived = legal_first.1.1;
            lives = lives_in-others role (load d w) last p legal_last.1.0 ∙ legal_last.1.1;
            made = own_last ∙ ap (after p steps) (sym own_first);
          }) k_in call

      most : sum ≤ sum_over (state_after facts last) k.number (online_cpus facts)
      most = subst (λ (s : EventState). sum ≤ sum_over s k.number (online_cpus facts)) (load-leaves d w last) sums.most

  pub sum-true : (found : List ℕ) → IsAllEvents (online_cpus facts) k found steps sum
      → EventSumIsTrue facts later earlier p k sum
  sum-true found call = by (online_cpus facts) refl found call
    where
      by : (cpus : List CpuId) → online_cpus facts ≡ cpus → (vs : List ℕ)
          → IsAllEvents (online_cpus facts) k vs steps sum → EventSumIsTrue facts later earlier p k sum
      by [] are vs is = absurd (some-cpu are)
      by (c ∷ cpus) are [] is =
          let same : length (online_cpus facts) ≡ length (c ∷ cpus) = ap length are in
          absurd (omega (arith, is.one_each, same))
      by (c ∷ cpus) are (v ∷ vs) is = loaded-true c cpus v vs are is
