-- For other crates too: a CPU that a line has buried has nothing left in the tables of events and percpu counters.
use Rattle.std.proofs.Common.{◌≡◌, ◌≢◌, ℕ, zero, suc, ◌+◌, ◌<◌, nat_eq, ◌&&◌, Bool, true, false, pos, List, [], ◌∷◌}
use Rattle.std.proofs.Common.{◌++◌, length, Option, Some, None, inl, inr, ◌⊎◌, refl, sym, ap, subst, ◌∙◌, arith}
use Rattle.std.proofs.Common.{append_assoc, if◌then◌else◌}
use Rattle.std.specs.List.{Contains}
use Rattle.std.proofs.lemmas.Bool.Decides.{nat_tests}
use Rattle.vms_world.specs.Common.{Header, CpuId, Absent, ZoneSize, IsCpu, Event, owner_in, cpu_at, Total, EventFacts}
use Rattle.vms_world.specs.Common.{EventStep, TakeE, AddF, folds, moves, word_after, word_in, IsEvent, word_at}
use Rattle.vms_world.specs.Common.{numbers_after, IsPcpu, local_at, Act, Item, Control, EventSteps, acts_of, has_line}
use Rattle.vms_world.specs.Common.{is_among, lanes_of, TableHistories, LeavesNothing, left_by, event_facts, pcpu_facts}
use Rattle.vms_base.specs.declared.kinds.CpuState.TheVariants.{Online, Dead as IsDead}
use Rattle.vms_history.proofs.Common.{prefix_is_legal}
use Rattle.vms_event_core.specs.declared.call_values.EventAnswer.TheVariants.{Done}
use Rattle.vms_event_core.specs.Bases as event_bases
use Rattle.vms_event_core.specs.Events as events
use Rattle.vms_event_core.specs.Laws as event_laws
use Rattle.vms_event_core.specs.Steps as event_steps
use Rattle.vms_event_core.proofs.Common.{word_at-state_after}
use Rattle.vms_pcpu_core.specs.Histories as percpu
use Rattle.vms_pcpu_core.specs.States.{counters_of}
use Rattle.vms_pcpu_core.proofs.Common.{laws-kept, folded-none, fold-call, HasShape-state_after}
use Rattle.vms_text.specs.declared.acts.Act.TheVariants.{Dead}
use Rattle.vms_world.specs.declared.worlds.World.{World}
use Rattle.vms_file_order.specs.Common.{AbsentAreBuried, pass_of, MakeInAnyOrder, event_makes, pcpu_makes}
use Rattle.vms_file_order.proofs.LaneLists.{among-lanes}
use Rattle.vms_file_order.proofs.MadeActs.{MadeAct, MakesActs-lane, each-made, step-made}
use Rattle.vms_file_order.proofs.OnePass.{acts_of-none}

-- the word of a CPU for event k is taken among these steps
record Takes (from : CpuId) (k : ℕ) (steps : List EventStep) : Type 0 where
  pub first : List EventStep
  pub word : ℕ
  pub last : List EventStep
  pub parts : steps ≡ first ++ (TakeE from (record { number = k }) word ∷ last)

Takes-later : (from : CpuId) (k : ℕ) (front steps : List EventStep) → Takes from k steps → Takes from k (front ++ steps)
Takes-later from k front steps takes =
    let taking : List EventStep = TakeE from (record { number = k }) takes.word ∷ takes.last in
    record {
      first = front ++ takes.first;
      word = takes.word;
      last = takes.last;
      parts = ap (λ rest. front ++ rest) takes.parts ∙ sym (append_assoc front takes.first taking);
    }

Takes-move : (from into : CpuId) (k v : ℕ) (rest : List EventStep) → Takes from k (moves from into k v ++ rest)
Takes-move from into k zero rest = record { first = []; word = 0; last = rest; parts = refl }
Takes-move from into k (suc v) rest = record {
  first = [];
  word = suc v;
  last = AddF into (record { number = k }) (suc v) ∷ rest;
  parts = refl;
}

-- a fold of the events from `least` on takes each of them
folds-take : (from into : CpuId) (least k i : ℕ) (found : List ℕ) → k ≡ least + i → i < length found
    → Takes from k (folds from into least found)
folds-take from into least k i [] is below = absurd (omega arith)
folds-take from into least k zero (v ∷ found) is below =
    let here : least ≡ k = omega arith in
    subst (λ (n : ℕ). Takes from n (folds from into least (v ∷ found))) here
    (Takes-move from into least v (folds from into (suc least) found))
folds-take from into least k (suc i) (v ∷ found) is below =
    Takes-later from k (moves from into least v) (folds from into (suc least) found)
    (folds-take from into (suc least) k i found (omega arith) (omega arith))

-- a lane with an act is among those that have lines
pub control-among : (header : Header) (items : List Item) (a : Act) → Contains (acts_of Control items) a
    → is_among Control (lanes_of header.layout items) ≡ true
control-among header items a (k, within, is) = by (has_line Control items) refl
  where
    by : (b : Bool) → has_line Control items ≡ b → is_among Control (lanes_of header.layout items) ≡ true
    by true has = among-lanes header items Control tt has
    by false none =
        let empty : length (acts_of Control items) ≡ 0 = ap length (acts_of-none Control items none) in
        absurd (omega (arith, within, empty))

-- a word that was taken is 0, and its CPU was dead
record IsTaken (facts : EventFacts) (h : events.History) (c k : ℕ) : Type 0 where
  pub dead : event_bases.cpu_at facts c ≡ IsDead
  pub none : word_at (events.state_after facts h) c k ≡ 0

take-empties : (facts : EventFacts) (p : ℕ) (c : CpuId) (k v : ℕ) (h : events.History) → IsEvent k
    → events.IsLegal facts (record { caller = p; step = TakeE c (record { number = k }) v } ∷ h)
    → IsTaken facts (record { caller = p; step = TakeE c (record { number = k }) v } ∷ h) c.number k
take-empties facts p c k v h k_in legal = record {
  dead = legal.2.dead;
  none = word_at-state_after facts (record { caller = p; step = TakeE c (record { number = k }) v } ∷ h) c.number k
      legal k_in ∙ by (owner_in event_steps.role h p) same;
}
  where
    same : (nat_eq c.number c.number && nat_eq k k) ≡ true
    same = grind (arith, nat_tests)

    by : (who : Option CpuId) → (nat_eq c.number c.number && nat_eq k k) ≡ true
        → word_after who c.number k (TakeE c (record { number = k }) v) (word_in facts h c.number k) ≡ 0
    by None is = ap (λ x. if x then 0 else word_in facts h c.number k) is
    by (Some d) is = ap (λ x. if x then 0 else word_in facts h c.number k) is

module _ (stays : (facts : EventFacts) (m h : events.History) (c k : ℕ) → events.IsLegal facts (m ++ h)
    → event_bases.cpu_at facts c ≢ Online → IsEvent k → word_at (events.state_after facts h) c k ≡ 0
    → word_at (events.state_after facts (m ++ h)) c k ≡ 0)
    (keeps : (facts : EventFacts) (more h : events.History) → events.IsLegal facts (more ++ h)
    → event_laws.KeepsLaws facts h)
    (header : Header) (pressure normal : ZoneSize → ℕ → ℕ → Type 0) (w : World) (items : List Item)
    (hs : TableHistories)
    (phase : MakeInAnyOrder header pressure normal w items hs) where
  -- what a burial leaves of an event
  buried-events : (c : CpuId) → Contains (acts_of Control items) (Dead c) → (k : ℕ) → IsEvent k
      → IsTaken (event_facts header w) hs.events c.number k
  buried-events c buries k k_in =
      let facts = event_facts header w in
      let lanes = lanes_of header.layout items in
      let p = pass_of lanes Control in
      let control = MakesActs-lane (event_makes facts) lanes items hs.events Control phase.event_lines
      (control-among header items (Dead c) buries) in
      let act = each-made (event_makes facts Control p) p (acts_of Control items) hs.events control (Dead c) buries in
      at p act act.making
    where
      at : (p : ℕ) (act : MadeAct (event_makes (event_facts header w) Control p) p (Dead c) hs.events)
          → EventSteps (event_facts header w) Control (Dead c) act.steps
          → IsTaken (event_facts header w) hs.events c.number k
      at p act (Total answer, no_call) = absurd no_call
      at p act (Done, (into, found, lowest, fold)) =
          let facts = event_facts header w in
          let takes = folds-take c into 0 k k found (omega arith) (omega (arith, k_in, fold.one_each)) in
          let stands = step-made (event_makes facts Control p) p (Dead c) hs.events act takes.first
          (TakeE c (record { number = k }) takes.word) takes.last (fold.in_order ∙ takes.parts) in
          let e : Event EventStep = record { caller = p; step = TakeE c (record { number = k }) takes.word } in
          let whole : events.IsLegal facts (stands.since ++ (e ∷ stands.before)) =
          subst (events.IsLegal facts) stands.parts phase.complete.events.legal in
          let taken = take-empties facts p c k takes.word stands.before k_in
          (prefix_is_legal events.events facts stands.since (e ∷ stands.before) whole) in
          record {
            dead = taken.dead;
            none = ap (λ h. word_at (events.state_after facts h) c.number k) stands.parts
                ∙ stays facts stands.since (e ∷ stands.before) c.number k whole
                (λ online. let both : IsDead ≡ Online = sym taken.dead ∙ online in absurd cc) k_in taken.none;
          }

  -- and of a percpu counter
  buried-counters : (c : CpuId) → Contains (acts_of Control items) (Dead c) → (j : ℕ) → IsPcpu (pcpu_facts header w) j
      → local_at (numbers_after (pcpu_facts header w) hs.counters) c.number j ≡ pos 0
  buried-counters c buries j j_in =
      let facts = pcpu_facts header w in
      let lanes = lanes_of header.layout items in
      let p = pass_of lanes Control in
      let control = MakesActs-lane (pcpu_makes facts) lanes items hs.counters Control phase.pcpu_lines
      (control-among header items (Dead c) buries) in
      let act = each-made (pcpu_makes facts Control p) p (acts_of Control items) hs.counters control (Dead c) buries in
      let dead = (buried-events c buries 0 (omega arith)).dead in
      let whole : percpu.IsLegal facts (act.since ++ (act.more ++ act.before)) =
      subst (percpu.IsLegal facts) act.parts phase.complete.counters.legal in
      ap (λ h. local_at (numbers_after facts h) c.number j) act.parts
      ∙ folded-none facts act.before (act.more ++ act.before) act.since p c (counters_of facts.base) act.steps
      (record {
        legal = prefix_is_legal percpu.percpu facts act.since (act.more ++ act.before) whole;
        goes_on = (act.more, refl);
        made = act.made;
      }) (fold-call facts c act.steps act.making) dead whole j j_in j_in

  pub LeavesNothing-buried : AbsentAreBuried header w items (left_by header w items hs)
      → LeavesNothing header (left_by header w items hs)
  LeavesNothing-buried buried = record {
    events = λ c k c_in gone k_in. of_events (record { number = c }) k k_in c_in
        (buried (record { number = c }) c_in gone);
    counters = λ c j c_in gone j_in.
        let here : IsPcpu (pcpu_facts header w) j = subst (λ batch. j < length batch)
        (HasShape-state_after (pcpu_facts header w) hs.counters phase.complete.counters.legal).batch j_in in
        of_counters (record { number = c }) j here c_in (buried (record { number = c }) c_in gone);
  }
    where
      of_events : (c : CpuId) (k : ℕ) → IsEvent k → IsCpu header.layout c.number
          → (cpu_at w.pages c.number ≡ Absent) ⊎ Contains (acts_of Control items) (Dead c)
          → word_at (events.state_after (event_facts header w) hs.events) c.number k ≡ 0
      of_events c k k_in c_in (inl was) =
          (keeps (event_facts header w) [] hs.events phase.complete.events.legal).absent c.number k c_in was k_in
      of_events c k k_in c_in (inr buries) = (buried-events c buries k k_in).none

      of_counters : (c : CpuId) (j : ℕ) → IsPcpu (pcpu_facts header w) j → IsCpu header.layout c.number
          → (cpu_at w.pages c.number ≡ Absent) ⊎ Contains (acts_of Control items) (Dead c)
          → local_at (numbers_after (pcpu_facts header w) hs.counters) c.number j ≡ pos 0
      of_counters c j j_in c_in (inl was) =
          (laws-kept (pcpu_facts header w) [] hs.counters phase.complete.counters.legal).local_parts.absent c.number j
          c_in was j_in
      of_counters c j j_in c_in (inr buries) = buried-counters c buries j j_in
