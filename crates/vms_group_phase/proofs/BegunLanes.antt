-- The passes of the lanes with lines begin one after another, each with its job.
use Rattle.std.proofs.Common.{◌≡◌, ℕ, suc, true, List, [], ◌∷◌, ◌++◌, length, get_or, Some, sym, ap, ◌∙◌, subst, arith}
use Rattle.std.proofs.Common.{All}
use Rattle.std.proofs.lemmas.List.{map-append}
use Rattle.std.proofs.lemmas.List.Elements.{All-push, All-weaker}
use Rattle.vms_history.specs.Common.{CpuId, after, cell, own}
use Rattle.vms_history.specs.declared.events.Event.{Event}
use Rattle.vms_group_core.specs.declared.steps.GroupFacts.{GroupFacts}
use Rattle.vms_group_core.specs.declared.steps.GroupStep.{GroupStep}
use Rattle.vms_group_core.specs.declared.steps.GroupStep.TheVariants.{Split}
use Rattle.vms_group_core.specs.Common.{IsGroup, IsLegal, IsTreeCpu, group_count, groups}
use Rattle.vms_group.specs.Common.{HoldsSpending}
use Rattle.vms_seats.specs.Common.{HasBegun, IsFrom, Pass, Shared, next_number}
use Rattle.vms_group_phase.specs.declared.items.GroupItem.{GroupItem}
use Rattle.vms_group_phase.specs.declared.jobs.LaneJob.{LaneJob}
use Rattle.vms_group_phase.specs.Common.{FitVolumes, HaveBegunLanes, HasRoom, IsLaneJob, IsLineOf, group_of, has_some}
use Rattle.vms_group_phase.specs.Common.{lane_lines, lanes_below, pass_of, spent_by_lines, splits_of}
use Rattle.vms_group_phase.proofs.MainPasses.{begun-opened, lanes-more, own-made, spent-next, splits-more}

module _ (table : Shared GroupFacts) (items : List GroupItem) where
  module _ (c : CpuId) (old : Pass GroupFacts GroupStep) (jobs : List LaneJob)
      (have : HaveBegunLanes table items c.number old jobs) where
    -- its volumes hold what it spent so far, which is nothing
    pub first-volume : (volume : List ℕ) → IsLegal old.facts old.seen → length volume ≡ group_count table.facts.tree
        → HoldsSpending old.facts.tree old.seen c.number volume
    first-volume volume legal long = record {
      one_each = long ∙ ap (λ (f : GroupFacts). group_count f.tree) (sym have.of.facts);
      spent_within = λ g g_in.
          let none = spent-next items old.facts c g old.seen legal have.own_events in omega (arith, none);
    }

    module _ (new pass : Pass GroupFacts GroupStep) (begun : HasBegun groups Split new old pass (Some c)) where
      abbrev split : ℕ → Event GroupStep
      split q = record { caller = 0; step = Split q (Some c) }

      next-is : next_number groups old.seen ≡ pass_of items c.number
      next-is = ap suc (begun-opened items c.number old.seen have.own_events)

      -- the job of the lane whose pass began
      pub job-made : (job : LaneJob) (volumes : List ℕ) → job.cpu ≡ c → job.pass.pass ≡ pass
          → job.items.now ≡ items → IsTreeCpu table.facts.tree c.number
          → FitVolumes table.facts.tree volumes items
          → ((g : ℕ) → IsGroup table.facts.tree g
          → get_or job.pass.volume g 0 ≡ get_or volumes (cell (group_count table.facts.tree) c.number g) 0)
          → IsLaneJob table items job
      job-made job volumes cpu is lines c_in fit each = record {
        lines = lines;
        number = ap (λ (p : Pass GroupFacts GroupStep). p.number) is ∙ begun.number ∙ next-is
            ∙ ap (λ (d : CpuId). pass_of items d.number) (sym cpu);
        fresh = subst (λ (p : Pass GroupFacts GroupStep). own p.seen p.number ≡ []) (sym is) begun.no_steps;
        may = record {
          of = subst (λ (p : Pass GroupFacts GroupStep). IsFrom p table) (sym is) (record {
            table = begun.table ∙ have.of.table;
            facts = begun.facts ∙ have.of.facts;
          });
          named = subst (All (λ (item : GroupItem). IsGroup table.facts.tree (group_of item.call))) (sym lines)
              (All-weaker (IsLineOf table.facts.tree)
              (λ (item : GroupItem). IsGroup table.facts.tree (group_of item.call))
              (λ item is_line. is_line.group) items fit.lines);
          room = subst (λ (list : List GroupItem). HasRoom table.facts.tree
              (spent_by_lines (lane_lines job.cpu.number list)) job.pass.volume) (sym lines)
              (subst (λ (d : CpuId). HasRoom table.facts.tree (spent_by_lines (lane_lines d.number items))
              job.pass.volume) (sym cpu)
              (λ g g_in. omega (arith, each g g_in, fit.most c.number g c_in g_in)));
        };
      }

      -- it stands next
      pub begun-next : (job : LaneJob) → job.cpu ≡ c → has_some (lane_lines c.number items) ≡ true
          → IsLaneJob table items job → HaveBegunLanes table items (suc c.number) new (jobs ++ job ∷ [])
      begun-next job cpu some is = record {
        of = record {
          table = begun.main.table ∙ have.of.table;
          facts = begun.main.facts ∙ have.of.facts;
        };
        own_events = own-made old.facts new.seen old.seen (Split (next_number groups old.seen) (Some c)) begun.made
            ∙ ap (λ (q : ℕ). split q ∷ own old.seen 0) next-is
            ∙ ap (λ es. split (pass_of items c.number) ∷ es) have.own_events
            ∙ sym (splits-more items (lanes_below items c.number) c.number [])
            ∙ ap (λ lanes. after 0 (splits_of items lanes) []) (sym (lanes-more items c.number some));
        lanes = map-append (λ (one : LaneJob). one.cpu.number) jobs (job ∷ [])
            ∙ ap (λ lanes. lanes ++ job.cpu.number ∷ []) have.lanes
            ∙ ap (λ (d : CpuId). lanes_below items c.number ++ d.number ∷ []) cpu
            ∙ sym (lanes-more items c.number some);
        each = All-push (IsLaneJob table items) jobs job have.each is;
      }
