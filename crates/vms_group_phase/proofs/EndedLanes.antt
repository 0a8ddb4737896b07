-- The lanes that have run end one after another. What a lane has made when it ends stays so.
use Rattle.std.proofs.Common.{◌≡◌, ℕ, suc, ◌<◌, ◌≤◌, nat_eq, Bool, true, false, List, [], ◌∷◌, ◌++◌, length, map}
use Rattle.std.proofs.Common.{get_or, set, Ok, Err, refl, sym, ap, ◌∙◌, subst, arith, All, if◌then◌else◌, append_assoc}
use Rattle.std.proofs.Common.{append-nil, eq-eqb, eqb-true}
use Rattle.std.specs.Prelude.{Result, IfOk, ℤ}
use Rattle.std.proofs.lemmas.List.{length-map, map-set}
use Rattle.std.proofs.lemmas.List.Elements.{All-head, All-nil, All-push, All-tail, All-weaker}
use Rattle.vms_base.specs.declared.failures.Memory.{Memory}
use Rattle.vms_history.specs.Common.{CpuId, Extends, after, begun_in, lives_in, own}
use Rattle.vms_history.specs.declared.events.Event.{Event}
use Rattle.vms_history.proofs.Common.{acts_of, begun_in-append, get_or-set, legal_before, live_is_given, lives_in-main}
use Rattle.vms_history.proofs.Common.{own-ended}
use Rattle.vms_history.proofs.PassLaws.{lives_in-ended}
use Rattle.vms_group_core.specs.declared.steps.GroupFacts.{GroupFacts}
use Rattle.vms_group_core.specs.declared.steps.GroupStep.{GroupStep}
use Rattle.vms_group_core.specs.declared.steps.GroupStep.TheVariants.{Join}
use Rattle.vms_group_core.specs.Common.{History, IsLegal, groups, role}
use Rattle.vms_seats.specs.Common.{HasEnded, IsFrom, Pass, Shared}
use Rattle.vms_group_phase.specs.declared.items.GroupItem.{GroupItem}
use Rattle.vms_group_phase.specs.declared.jobs.LaneDone.{LaneDone}
use Rattle.vms_group_phase.specs.declared.jobs.LaneJob.{LaneJob}
use Rattle.vms_group_phase.specs.declared.lanes.LaneValues.{LaneValues}
use Rattle.vms_group_phase.specs.Common.{AreOfLines, AreResults, HasRunJob, HasRunLane, HaveBegunLanes, HaveEndedLanes}
use Rattle.vms_group_phase.specs.Common.{HaveRunJobs, HaveRunLanes, IsLaneJob, IsOver, joins_of, lane_lines}
use Rattle.vms_group_phase.specs.Common.{lanes_below, pass_of, splits_of, values_of}
use Rattle.vms_group_phase.proofs.MainPasses.{closed-parts, ended-closed, joins-more, lane-holds, lanes-known, own-made}

-- values that are put into the place of a CPU
pub values_of-set : (lanes : List LaneValues) (i c : ℕ) (own : LaneValues) → i < length lanes
    → values_of (set lanes i own) c ≡ (if nat_eq i c then own.items.items else values_of lanes c)
values_of-set lanes i c own within =
    let lists : List (List ℤ) = map (λ (lane : LaneValues). lane.items.items) lanes in
    let inside : i < length lists =
    omega (arith, within, length-map lanes (λ (lane : LaneValues). lane.items.items)) in
    ap (λ (all : List (List ℤ)). get_or all c [])
    (map-set (λ (lane : LaneValues). lane.items.items) lanes i own)
    ∙ get_or-set lists i c own.items.items [] inside

middle : (P : ℕ → Type 0) (first rest : List ℕ) (c : ℕ) → All P (first ++ (c ∷ rest)) → P c
middle P [] rest c all = All-head P c rest all
middle P (d ∷ first) rest c all = middle P first rest c (All-tail P d (first ++ (c ∷ rest)) all)

module _ (table : Shared GroupFacts) (items : List GroupItem) where
  -- the result of a job is that of its lane
  run-lane : (job : LaneJob) (done : LaneDone) → IsLaneJob table items job → HasRunJob table job done
      → HasRunLane table items job.cpu.number done
  run-lane job done is run =
      let made = run.lines.made in
      record {
        is = ap (λ (d : CpuId). d.number) run.cpu;
        of = record {
          table = made.table ∙ is.may.of.table;
          facts = made.facts ∙ is.may.of.facts;
        };
        number = made.number ∙ is.number;
        steps = run.lines.steps;
        own_events = subst (λ (p : ℕ). own done.pass.pass.seen p ≡ after p run.lines.steps []) is.number
            (made.made.made ∙ ap (after job.pass.pass.number run.lines.steps) is.fresh);
        answers = run.lines.answers;
        of_lines = subst (λ (lines : List GroupItem).
            AreOfLines table.facts (lane_lines job.cpu.number lines) run.lines.answers run.lines.steps)
            is.lines run.lines.of_lines;
        told = run.lines.told;
      }

  result-of : (job : LaneJob) (result : Result LaneDone Memory) → IsLaneJob table items job
      → IfOk result (HasRunJob table job) → IfOk result (HasRunLane table items job.cpu.number)
  result-of job (Ok done) is run = run-lane job done is run
  result-of job (Err e) is run = tt

  results-of : (jobs : List LaneJob) (results : List (Result LaneDone Memory)) → All (IsLaneJob table items) jobs
      → HaveRunJobs table jobs results → AreResults table items (map (λ (job : LaneJob). job.cpu.number) jobs) results
  results-of [] [] are run = tt
  results-of [] (r ∷ results) are run = absurd (omega (arith, run.one_each))
  results-of (job ∷ jobs) [] are run = absurd (omega (arith, run.one_each))
  results-of (job ∷ jobs) (r ∷ results) are run = (
    result-of job r (All-head (IsLaneJob table items) job jobs are) (run.each 0 job r (omega arith)),
    results-of jobs results (All-tail (IsLaneJob table items) job jobs are) (record {
      one_each = omega (arith, run.one_each);
      each = λ i other result below. run.each (suc i) other result (omega (arith, below));
    }),
  )

  -- before the first lane ends
  pub ended-none : (main : Pass GroupFacts GroupStep) (jobs : List LaneJob) (lanes : List LaneValues)
      (results : List (Result LaneDone Memory)) → HaveBegunLanes table items table.facts.tree.cpus main jobs
      → HaveRunJobs table jobs results → length lanes ≡ table.facts.tree.cpus
      → HaveEndedLanes table items main lanes results
  ended-none main jobs lanes results begun run one_each = record {
    of = begun.of;
    one_each = one_each;
    over = [];
    left = lanes_below items table.facts.tree.cpus;
    parts = refl;
    own_events = begun.own_events;
    each = All-nil (IsOver table.facts items lanes main.seen);
    rest = subst (λ (left : List ℕ). AreResults table items left results) begun.lanes
        (results-of jobs results begun.each run);
  }

  pub ended-head : (main : Pass GroupFacts GroupStep) (lanes : List LaneValues)
      (all rest : List (Result LaneDone Memory)) (result : Result LaneDone Memory) (done : LaneDone)
      → all ≡ result ∷ rest → result ≡ Ok done → HaveEndedLanes table items main lanes all
      → HaveEndedLanes table items main lanes (Ok done ∷ rest)
  ended-head main lanes all rest result done parts is have =
      subst (λ (results : List (Result LaneDone Memory)). HaveEndedLanes table items main lanes results)
      (parts ∙ ap (λ (r : Result LaneDone Memory). r ∷ rest) is) have

  -- the lane that ends next
  pub record EndsNext (over left : List ℕ) (done : LaneDone) (rest : List (Result LaneDone Memory)) : Type 0 where
    pub lane : ℕ
    pub others : List ℕ
    pub parts : left ≡ lane ∷ others
    pub run : HasRunLane table items lane done
    pub results : AreResults table items others rest

  module _ (old : Pass GroupFacts GroupStep) (lanes : List LaneValues) (done : LaneDone)
      (rest : List (Result LaneDone Memory)) (have : HaveEndedLanes table items old lanes (Ok done ∷ rest)) where
    pub ends-next : EndsNext have.over have.left done rest
    ends-next = by have.left have.rest
      where
        by : (left : List ℕ) → AreResults table items left (Ok done ∷ rest) → EndsNext have.over left done rest
        by [] run = absurd run
        by (lane ∷ others) run =
            record { lane = lane; others = others; parts = refl; run = run.0; results = run.1 }

    -- its pass may end, and its answers have a place
    pub next-from : IsFrom old table × IsFrom done.pass.pass table
    next-from = (have.of, ends-next.run.of)

    pub next-place : done.cpu.number < length lanes
    next-place =
        let next = ends-next in
        let cpus = table.facts.tree.cpus in
        let parts : lanes_below items cpus ≡ have.over ++ (next.lane ∷ next.others) =
        have.parts ∙ ap (λ left. have.over ++ left) next.parts in
        let below = middle (λ c. c < cpus) have.over next.others next.lane
        (subst (All (λ c. c < cpus)) parts (lanes-known items cpus)) in
        omega (arith, next.run.is, below, have.one_each)

    module _ (new : Pass GroupFacts GroupStep) (grown : List LaneValues)
        (ended : HasEnded groups Join new old done.pass.pass) (one_each : length grown ≡ length lanes)
        (placed : (c : ℕ) → values_of grown c
        ≡ (if nat_eq done.cpu.number c then done.values.items else values_of lanes c)) where
      legal : IsLegal table.facts new.seen
      legal = subst (λ (f : GroupFacts). IsLegal f new.seen) have.of.facts ended.made.legal

      abbrev p : ℕ
      p = done.pass.pass.number

      abbrev join : Event GroupStep
      join = record { caller = 0; step = Join done.pass.pass.number }

      legal-newest : IsLegal table.facts (join ∷ ended.made.before)
      legal-newest = subst (IsLegal table.facts) ended.made.newest legal

      given : (0 < p) × (p ≤ begun_in role ended.made.before)
      given =
          live_is_given groups table.facts ended.made.before p
          (legal_before groups table.facts join ended.made.before legal-newest)
          (acts_of groups table.facts join ended.made.before legal-newest).1

      -- the lane is over then
      over-now : IsOver table.facts items grown new.seen ends-next.lane
      over-now =
          let run = ends-next.run in
          let begun : begun_in role ended.made.before ≤ begun_in role new.seen =
          subst (λ (h : History). begun_in role ended.made.before ≤ begun_in role h) (sym ended.made.newest)
          (begun_in-append role (join ∷ []) ended.made.before) in
          let most : p ≤ begun_in role new.seen = let some = given.1 in omega (arith, some, begun) in
          let over : lives_in role new.seen p ≡ false =
          ap (λ h. lives_in role h p) ended.made.newest
          ∙ lives_in-main role join ended.made.before p refl
          ∙ ap (λ (b : Bool). if b then false else lives_in role ended.made.before p) (eq-eqb p p refl) in
          record {
            given = subst (λ (q : ℕ). q ≤ begun_in role new.seen) run.number most;
            ended = ap (lives_in role new.seen) (sym run.number) ∙ over;
            steps = run.steps;
            own_events = ap (own new.seen) (sym run.number) ∙ ended.all_steps ∙ ap (own done.pass.pass.seen) run.number
                ∙ run.own_events;
            answers = run.answers;
            of_lines = run.of_lines;
            told = placed ends-next.lane
                ∙ ap (λ (b : Bool). if b then done.values.items else values_of lanes ends-next.lane)
                (eq-eqb done.cpu.number ends-next.lane run.is)
                ∙ run.told;
          }

      -- and those that were over are
      over-still : (c : ℕ) → IsOver table.facts items lanes old.seen c → IsOver table.facts items grown new.seen c
      over-still c is = by (nat_eq done.cpu.number c) refl
        where
          later : Extends new.seen old.seen
          later = ended.main.extends

          legal-there : IsLegal table.facts (later.0 ++ old.seen)
          legal-there = subst (IsLegal table.facts) later.1 legal

          by : (b : Bool) → nat_eq done.cpu.number c ≡ b → IsOver table.facts items grown new.seen c
          by true same =
              let here : ends-next.lane ≡ c = sym ends-next.run.is ∙ eqb-true done.cpu.number c same in
              subst (IsOver table.facts items grown new.seen) here over-now
          by false other = record {
            given = subst (λ (h : History). pass_of items c ≤ begun_in role h) (sym later.1)
                (let grows = begun_in-append role later.0 old.seen in omega (arith, grows, is.given));
            ended = ap (λ h. lives_in role h (pass_of items c)) later.1
                ∙ lives_in-ended groups table.facts later.0 old.seen (pass_of items c) legal-there is.given is.ended;
            steps = is.steps;
            own_events = ap (λ h. own h (pass_of items c)) later.1
                ∙ own-ended groups table.facts later.0 old.seen (pass_of items c) legal-there (omega arith) is.given
                is.ended
                ∙ is.own_events;
            answers = is.answers;
            of_lines = is.of_lines;
            told = placed c ∙ ap (λ (b : Bool). if b then done.values.items else values_of lanes c) other
                ∙ is.told;
          }

      pub ended-next : HaveEndedLanes table items new grown rest
      ended-next = record {
        of = record {
          table = ended.main.table ∙ have.of.table;
          facts = ended.main.facts ∙ have.of.facts;
        };
        one_each = one_each ∙ have.one_each;
        over = have.over ++ ends-next.lane ∷ [];
        left = ends-next.others;
        parts = have.parts ∙ ap (λ left. have.over ++ left) ends-next.parts
            ∙ sym (append_assoc have.over (ends-next.lane ∷ []) ends-next.others);
        own_events = own-made old.facts new.seen old.seen (Join p) ended.made
            ∙ ap (λ es. join ∷ es) have.own_events
            ∙ ap (λ (q : ℕ). let e : Event GroupStep = record { caller = 0; step = Join q } in
            e ∷ after 0 (joins_of items have.over)
            (after 0 (splits_of items (lanes_below items table.facts.tree.cpus)) [])) ends-next.run.number
            ∙ sym (joins-more items have.over ends-next.lane
            (after 0 (splits_of items (lanes_below items table.facts.tree.cpus)) []));
        each = All-push (IsOver table.facts items grown new.seen) have.over ends-next.lane
            (All-weaker (IsOver table.facts items lanes old.seen) (IsOver table.facts items grown new.seen)
            over-still have.over have.each) over-now;
        rest = ends-next.results;
      }

  -- once all have ended
  pub all-ended : (main : Pass GroupFacts GroupStep) (lanes : List LaneValues)
      (results : List (Result LaneDone Memory)) → length results ≡ 0
      → HaveEndedLanes table items main lanes results → HaveRunLanes table items main lanes
  all-ended main lanes results none have =
      let cpus = table.facts.tree.cpus in
      let begun = lanes_below items cpus in
      let nothing = no-lane have.left results have.rest none in
      let all : begun ≡ have.over =
      have.parts ∙ ap (λ left. have.over ++ left) nothing ∙ append-nil have.over in
      let events : own main.seen 0 ≡ after 0 (splits_of items begun ++ joins_of items begun) [] =
      have.own_events
      ∙ ap (λ over. after 0 (joins_of items over) (after 0 (splits_of items begun) [])) (sym all)
      ∙ sym (closed-parts items cpus) in
      record {
        of = have.of;
        one_each = have.one_each;
        ended = ended-closed items cpus main.seen events;
        own_events = events;
        each = lane-holds items (IsOver table.facts items lanes main.seen) cpus
            (subst (All (IsOver table.facts items lanes main.seen)) (sym all) have.each);
      }
    where
      no-lane : (left : List ℕ) (results : List (Result LaneDone Memory)) → AreResults table items left results
          → length results ≡ 0 → left ≡ []
      no-lane [] results are none = refl
      no-lane (c ∷ left) [] are none = absurd are
      no-lane (c ∷ left) (r ∷ results) are none = absurd (omega (arith, none))
