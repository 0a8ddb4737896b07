-- The main passes end the lanes that have run one after another.
use Rattle.std.proofs.Common.{◌≡◌, ℕ, zero, suc, ◌+◌, ◌<◌, ◌≤◌, List, [], ◌∷◌, ◌++◌, length, map, refl, sym, ap, subst}
use Rattle.std.proofs.Common.{◌∙◌, arith, append_assoc, length-append, Ok, Err}
use Rattle.std.specs.Prelude.{Result, IfOk}
use Rattle.vms_world.specs.Common.{Memory, Header, ZoneSize, pages, events, own, percpu, LaneItem, lane_items, Item}
use Rattle.vms_world.specs.Common.{Lane, Cpu, Control}
use Rattle.vms_core.specs.Own.{CarriesNothing}
use Rattle.vms_burial.specs.declared.passes.ControlPasses.{ControlPasses}
use Rattle.vms_burial.specs.Passes as burial
use Rattle.vms_tables.specs.declared.passes.CpuPasses.{CpuPasses}
use Rattle.vms_tables.specs.declared.tables.Tables.{Tables}
use Rattle.vms_tables.specs.Common.{AreFrom, TablePasses, passes_of, AreMadeFrom, world_of}
use Rattle.vms_world.specs.declared.worlds.World.{World}
use Rattle.vms_answers.specs.Common.{NumberedAnswer, answer_of_kept}
use Rattle.vms_file_order.specs.Common.{event_passes, page_passes, pcpu_passes}
use Rattle.vms_lane.specs.declared.passes.LanePasses.TheVariants.{Cpu as OfCpu, Control as OfControl}
use Rattle.vms_lane.specs.Common.{AreReadyFor, HaveSpentAll, passes_in, MakeLines, acts_in}
use Rattle.vms_lane.proofs.Common.{MakeLines-world}
use Rattle.vms_phase.specs.declared.jobs.LaneDone.{LaneDone}
use Rattle.vms_phase.specs.declared.jobs.LaneJob.{LaneJob}
use Rattle.vms_phase.specs.declared.lane_joins.JoinedLane.{JoinedLane}
use Rattle.vms_phase.specs.Common.{AreJobs, HasRunJob, HaveRunJobs, IsJob, AreJoinedLanes, HasRunLane, HasVolumesOf}
use Rattle.vms_phase.specs.Common.{HaveJoinedLanes, HaveRunLanes, IsJoinedLane, AreWhole, EndPasses, HaveEnded}
use Rattle.vms_phase.specs.Common.{HaveNumber}
use Rattle.vms_phase.proofs.EndedLanes.{whole-now, whole-still}

-- what passes that are ready for a lane may do at its end
pub record MayEnd (tables : Tables) (passes : TablePasses) : Type 0 where
  pub of : AreFrom tables passes
  pub nothing : CarriesNothing tables.pages.facts.layout (own passes.pages.seen passes.pages.number)

pub MayEnd-cpu : (tables : Tables) (lane : Lane) (passes : CpuPasses) → AreReadyFor tables lane (OfCpu passes)
    → MayEnd tables (passes_of passes)
MayEnd-cpu tables (Cpu c) passes ready = record { of = ready.of; nothing = ready.nothing }
MayEnd-cpu tables Control passes ready = absurd ready

pub MayEnd-control : (tables : Tables) (lane : Lane) (passes : ControlPasses)
    → AreReadyFor tables lane (OfControl passes) → MayEnd tables (burial.passes_of passes)
MayEnd-control tables (Cpu c) passes ready = absurd ready
MayEnd-control tables Control passes ready = record { of = ready.of; nothing = ready.nothing }

module _ (header : Header) (pressure normal : ZoneSize → ℕ → ℕ → Type 0) (tables : Tables) (w : World)
    (items : List Item) where
  -- the results of jobs are those of their lanes
  module _ (made : AreMadeFrom w tables) where
    run-lane : (number : ℕ) (lane : Lane) (job : LaneJob) (done : LaneDone)
        → IsJob header tables w items number lane job → HasRunJob header pressure normal tables job done
        → HasRunLane header pressure normal tables w items number lane done
    run-lane number lane job done is run =
        let answers : List NumberedAnswer = map answer_of_kept done.answers.items in
        let there : MakeLines header pressure normal (world_of tables) lane (lane_items lane items)
        (passes_in done.passes) (passes_in job.passes) answers =
        subst (λ (script : List LaneItem). MakeLines header pressure normal (world_of tables) lane script
        (passes_in done.passes) (passes_in job.passes) answers) is.lines
        (subst (λ (l : Lane). MakeLines header pressure normal (world_of tables) l job.lines
        (passes_in done.passes) (passes_in job.passes) answers) is.is run.lines) in
        record {
          first = job.passes;
          is = run.lane ∙ is.is;
          fresh = is.fresh;
          lines = MakeLines-world header pressure normal tables w made.pages made.events made.counters lane
              (lane_items lane items) (passes_in done.passes) (passes_in job.passes) answers there;
          volumes = is.volumes;
          spent = subst (λ (script : List LaneItem). HaveSpentAll (acts_in script) done.passes job.passes) is.lines
              run.spent;
          ready = subst (λ (l : Lane). AreReadyFor tables l done.passes) is.is run.ready;
        }

    run-result : (number : ℕ) (lane : Lane) (job : LaneJob) (result : Result LaneDone Memory)
        → IsJob header tables w items number lane job
        → IfOk result (HasRunJob header pressure normal tables job)
        → IfOk result (HasRunLane header pressure normal tables w items number lane)
    run-result number lane job (Ok done) is run = run-lane number lane job done is run
    run-result number lane job (Err e) is run = tt

    pub HaveRunLanes-jobs : (number : ℕ) (lanes : List Lane) (jobs : List LaneJob)
        (results : List (Result LaneDone Memory)) → AreJobs header tables w items number lanes jobs
        → HaveRunJobs header pressure normal tables jobs results
        → HaveRunLanes header pressure normal tables w items number lanes results
    HaveRunLanes-jobs number [] [] [] are run = tt
    HaveRunLanes-jobs number [] [] (r ∷ results) are run = absurd (omega (arith, run.one_each))
    HaveRunLanes-jobs number [] (job ∷ jobs) results are run = absurd are
    HaveRunLanes-jobs number (lane ∷ lanes) [] results are run = absurd are
    HaveRunLanes-jobs number (lane ∷ lanes) (job ∷ jobs) [] are run = absurd (omega (arith, run.one_each))
    HaveRunLanes-jobs number (lane ∷ lanes) (job ∷ jobs) (r ∷ results) are run = (
      run-result number lane job r are.0 (run.each 0 job r (omega arith)),
      HaveRunLanes-jobs (suc number) lanes jobs results are.1 (record {
        one_each = omega (arith, run.one_each);
        each = λ i other result below. run.each (suc i) other result (omega (arith, below));
      }),
    )

  -- before the first lane ends
  pub HaveJoinedLanes-none : (lanes : List Lane) (mains : TablePasses) (results : List (Result LaneDone Memory))
      → AreFrom tables mains → HaveEnded lanes 0 mains
      → HaveRunLanes header pressure normal tables w items 1 lanes results
      → HaveJoinedLanes header pressure normal tables w items lanes mains [] results
  HaveJoinedLanes-none lanes mains results of ended run = record {
    over = [];
    left = lanes;
    parts = refl;
    of = of;
    ended = ended;
    each = tt;
    results = run;
  }

  -- lanes that have ended stay so
  joined-later : (old new : TablePasses) (number : ℕ) (lanes : List Lane) (joined : List JoinedLane)
      → ((q : ℕ) (first last : TablePasses) → number ≤ q → q < number + length lanes → AreWhole q first last old
      → AreWhole q first last new)
      → AreJoinedLanes header pressure normal w items old number lanes joined
      → AreJoinedLanes header pressure normal w items new number lanes joined
  joined-later old new number [] [] later are = tt
  joined-later old new number [] (j ∷ joined) later are = absurd are
  joined-later old new number (lane ∷ lanes) [] later are = absurd are
  joined-later old new number (lane ∷ lanes) (j ∷ joined) later are =
      let this = are.0 in (
        record {
          first = this.first;
          last = this.last;
          is = this.is;
          whole = later number (passes_in this.first) (passes_in this.last) (omega arith) (omega arith) this.whole;
          lines = this.lines;
          volumes = this.volumes;
          spent = this.spent;
          left = this.left;
        },
        joined-later old new (suc number) lanes joined
            (λ q first last least below. later q first last (omega (arith, least)) (omega (arith, below))) are.1,
      )

  joined-push : (mains : TablePasses) (number : ℕ) (lanes : List Lane) (joined : List JoinedLane) (lane : Lane)
      (one : JoinedLane) → AreJoinedLanes header pressure normal w items mains number lanes joined
      → IsJoinedLane header pressure normal w items mains (number + length lanes) lane one
      → AreJoinedLanes header pressure normal w items mains number (lanes ++ lane ∷ []) (joined ++ one ∷ [])
  joined-push mains number [] [] lane one are is =
      let at : number + 0 ≡ number = omega arith in
      (subst (λ (n : ℕ). IsJoinedLane header pressure normal w items mains n lane one) at is, tt)
  joined-push mains number [] (j ∷ joined) lane one are is = absurd are
  joined-push mains number (l ∷ lanes) [] lane one are is = absurd are
  joined-push mains number (l ∷ lanes) (j ∷ joined) lane one are is =
      let at : number + suc (length lanes) ≡ suc number + length lanes = omega arith in (
        are.0,
        joined-push mains (suc number) lanes joined lane one are.1
            (subst (λ (n : ℕ). IsJoinedLane header pressure normal w items mains n lane one) at is),
      )

  pub have-next : (lanes : List Lane) (mains : TablePasses) (joined : List JoinedLane)
      (all rest : List (Result LaneDone Memory)) (result : Result LaneDone Memory) (done : LaneDone)
      → all ≡ result ∷ rest → result ≡ Ok done
      → HaveJoinedLanes header pressure normal tables w items lanes mains joined all
      → HaveJoinedLanes header pressure normal tables w items lanes mains joined (Ok done ∷ rest)
  have-next lanes mains joined all rest result done parts is have =
      subst (λ (results : List (Result LaneDone Memory)).
      HaveJoinedLanes header pressure normal tables w items lanes mains joined results)
      (parts ∙ ap (λ (r : Result LaneDone Memory). r ∷ rest) is) have

  -- the lane that ends next
  pub record EndsNext (lanes : List Lane) (over : List Lane) (done : LaneDone) (rest : List (Result LaneDone Memory))
      : Type 0 where
    pub lane : Lane
    pub left : List Lane
    pub parts : lanes ≡ over ++ (lane ∷ left)
    pub run : HasRunLane header pressure normal tables w items (suc (length over)) lane done
    pub results : HaveRunLanes header pressure normal tables w items (suc (suc (length over))) left rest

  module _ (lanes : List Lane) (old : TablePasses) (joined : List JoinedLane) (done : LaneDone)
      (rest : List (Result LaneDone Memory))
      (have : HaveJoinedLanes header pressure normal tables w items lanes old joined (Ok done ∷ rest)) where
    pub ends-next : EndsNext lanes have.over done rest
    ends-next = by have.left have.parts have.results
      where
        by : (left : List Lane) → lanes ≡ have.over ++ left
            → HaveRunLanes header pressure normal tables w items (suc (length have.over)) left (Ok done ∷ rest)
            → EndsNext lanes have.over done rest
        by [] parts run = absurd run
        by (lane ∷ left) parts run = record {
          lane = lane;
          left = left;
          parts = parts;
          run = run.0;
          results = run.1;
        }

    pub next-below : length have.over < length lanes
    next-below =
        let next = ends-next in
        omega (arith, ap length next.parts, length-append have.over (next.lane ∷ next.left))

    pub next-number : HaveNumber (suc (length have.over)) (passes_in done.passes)
    next-number =
        let run = ends-next.run in
        record {
          pages = run.lines.pages.number ∙ run.fresh.pages.is;
          events = run.lines.events.number ∙ run.fresh.events.is;
          counters = run.lines.counters.number ∙ run.fresh.counters.is;
        }

    module _ (new : TablePasses) (ended : EndPasses new old (passes_in done.passes)) (one : JoinedLane)
        (lane : one.lane ≡ done.lane) (answers : one.answers.items ≡ done.answers.items)
        (volumes : HasVolumesOf done.passes one.volumes) where
      abbrev n : ℕ
      n = length have.over

      still : (q : ℕ) (first last : TablePasses) → 1 ≤ q → q < 1 + length have.over → AreWhole q first last old
          → AreWhole q first last new
      still zero first last least below whole = absurd (omega (arith, least))
      still (suc i) first last least below whole =
          let before : i < length have.over = omega (arith, below) in
          record {
            pages = whole-still pages page_passes lanes n new.pages old.pages (passes_in done.passes).pages next-below
                have.ended.pages next-number.pages ended.pages i before first.pages last.pages whole.pages;
            events = whole-still events event_passes lanes n new.events old.events (passes_in done.passes).events
                next-below have.ended.events next-number.events ended.events i before first.events last.events
                whole.events;
            counters = whole-still percpu pcpu_passes lanes n new.counters old.counters
                (passes_in done.passes).counters next-below have.ended.counters next-number.counters ended.counters i
                before first.counters last.counters whole.counters;
          }

      now : AreWhole (suc (length have.over)) (passes_in ends-next.run.first) (passes_in done.passes) new
      now =
          let first = passes_in ends-next.run.first in
          let fresh = ends-next.run.fresh in
          record {
            pages = whole-now pages page_passes lanes n new.pages old.pages (passes_in done.passes).pages next-below
                have.ended.pages next-number.pages ended.pages first.pages fresh.pages;
            events = whole-now events event_passes lanes n new.events old.events (passes_in done.passes).events
                next-below have.ended.events next-number.events ended.events first.events fresh.events;
            counters = whole-now percpu pcpu_passes lanes n new.counters old.counters
                (passes_in done.passes).counters next-below have.ended.counters next-number.counters ended.counters
                first.counters fresh.counters;
          }

      -- it stands next among those that have ended
      pub HaveJoinedLanes-next : HaveEnded lanes (suc (length have.over)) new
          → HaveJoinedLanes header pressure normal tables w items lanes new (joined ++ one ∷ []) rest
      HaveJoinedLanes-next ended_more =
          let next = ends-next in
          let run = next.run in
          let long : length (have.over ++ next.lane ∷ []) ≡ suc (length have.over) =
          omega (arith, length-append have.over (next.lane ∷ [])) in
          let at : suc (length have.over) ≡ 1 + length have.over = omega arith in
          let is : IsJoinedLane header pressure normal w items new (suc (length have.over)) next.lane one = record {
            first = run.first;
            last = done.passes;
            is = lane ∙ run.is;
            whole = now;
            lines = subst (λ (told : List NumberedAnswer). MakeLines header pressure normal w next.lane
                (lane_items next.lane items) (passes_in done.passes) (passes_in run.first) told)
                (sym (ap (map answer_of_kept) answers)) run.lines;
            volumes = run.volumes;
            spent = run.spent;
            left = volumes;
          } in
          record {
            over = have.over ++ next.lane ∷ [];
            left = next.left;
            parts = next.parts ∙ sym (append_assoc have.over (next.lane ∷ []) next.left);
            of = record {
              pages = record {
                table = ended.pages.main.table ∙ have.of.pages.table;
                facts = ended.pages.main.facts ∙ have.of.pages.facts;
              };
              events = record {
                table = ended.events.main.table ∙ have.of.events.table;
                facts = ended.events.main.facts ∙ have.of.events.facts;
              };
              counters = record {
                table = ended.counters.main.table ∙ have.of.counters.table;
                facts = ended.counters.main.facts ∙ have.of.counters.facts;
              };
            };
            ended = subst (λ (m : ℕ). HaveEnded lanes m new) (sym long) ended_more;
            each = joined-push new 1 have.over joined next.lane one
                (joined-later old new 1 have.over joined still have.each)
                (subst (λ (m : ℕ). IsJoinedLane header pressure normal w items new m next.lane one) at is);
            results = subst (λ (m : ℕ). HaveRunLanes header pressure normal tables w items (suc m) next.left rest)
                (sym long) next.results;
          }
