-- Once the passes of the control lane have begun, they may make the lane's lines.
use Rattle.std.proofs.Common.{◌≡◌, ℕ, suc, ◌≤◌, List, [], ◌∷◌, ◌++◌, length, None, refl, sym, ap, subst, ◌∙◌, arith}
use Rattle.std.proofs.Common.{length-append}
use Rattle.std.specs.Prelude.{All}
use Rattle.std.proofs.lemmas.List.{length-map}
use Rattle.std.proofs.lemmas.List.Elements.{All-map}
use Rattle.vms_world.specs.Common.{Header, State, Facts, cpu_at, own, begun_in, owner_in, IsActOf, LaneItem, Fits}
use Rattle.vms_world.specs.Common.{lane_items, Start, Item, Lane, Control, acts_of}
use Rattle.vms_burial.specs.declared.passes.ControlPasses.{ControlPasses}
use Rattle.vms_burial.specs.Passes as burial
use Rattle.vms_core.specs.Pages.{History, IsLegal}
use Rattle.vms_core.specs.Steps.{role}
use Rattle.vms_tables.specs.declared.tables.Tables.{Tables}
use Rattle.vms_tables.specs.Common.{TablePasses, AreMadeFrom}
use Rattle.vms_world.specs.declared.worlds.World.{World}
use Rattle.vms_file_order.specs.Common.{StandOnce, opening_of, page_passes, IsStartOf}
use Rattle.vms_lane.specs.declared.passes.LanePasses.TheVariants.{Control as OfControl}
use Rattle.vms_lane.specs.Common.{BuryTheDead, MayControl, AreReadyToControl, acts_in}
use Rattle.vms_lane.proofs.Common.{BuryTheDead-world, MayControl-fresh, acts_in-lane_items}
use Rattle.vms_phase.specs.declared.jobs.LaneJob.{LaneJob}
use Rattle.vms_phase.specs.Common.{HaveBegunJobs, AreFresh, BeginPasses, HaveBegun}
use Rattle.vms_phase.proofs.BegunLanes.{begun-lanes, number-last}
use Rattle.vms_phase.proofs.JobLists.{AreFresh-next, HaveBegun-next, HaveBegunJobs-next}
use Rattle.vms_phase.proofs.ReadyJobs.{lane-acts}

module _ (header : Header) (tables : Tables) (w : World) (items : List Item) (made : AreMadeFrom w tables)
    (start : Start) (is_start : IsStartOf header start w) (fits : Fits header start items) where
  -- the lane's acts bury CPUs that are dead in the world of the tables
  control-buries : (script : List LaneItem) → script ≡ lane_items Control items
      → BuryTheDead (cpu_at tables.pages.facts.base) (acts_in script)
  control-buries script lines =
      let acts : acts_in (lane_items Control items) ≡ acts_of Control items = acts_in-lane_items Control items in
      let known : All (IsActOf header Control) (acts_of Control items) =
      subst (All (IsActOf header Control)) acts
      (All-map (IsActOf header Control) (λ (item : LaneItem). item.act) (lane_items Control items)
      (lane-acts header Control items fits.known)) in
      let here : BuryTheDead (cpu_at w.pages) (acts_in script) =
      subst (BuryTheDead (cpu_at w.pages)) (sym (ap acts_in lines ∙ acts))
      (BuryTheDead-world header start w is_start.states items fits known) in
      subst (λ (s : State). BuryTheDead (cpu_at s) (acts_in script)) (sym made.pages) here

  module _ (lanes : List Lane) (mains : TablePasses) (jobs : List LaneJob)
      (have : HaveBegunJobs header tables w items lanes mains jobs) (new : TablePasses) (passes : ControlPasses)
      (begun : BeginPasses None new mains (burial.passes_of passes)) (script : List LaneItem)
      (lines : script ≡ lane_items Control items) where
    abbrev control_job : LaneJob
    control_job = record { lane = Control; passes = OfControl passes; lines = script }

    abbrev all : List Lane
    all = lanes ++ Control ∷ []

    module _ (once : StandOnce (lanes ++ Control ∷ [])) (few : length script ≤ 1000000) where
      may-control : MayControl tables.pages.facts (acts_in script) passes.page.seen
      may-control =
          let next : HaveBegun all new =
          HaveBegun-next header tables w items lanes mains jobs have Control new control_job begun in
          let fresh : AreFresh (suc (length lanes)) (burial.passes_of passes) =
          AreFresh-next header tables w items lanes mains jobs have Control new control_job begun in
          let facts : Facts = tables.pages.facts in
          let h : History = passes.page.seen in
          let told : new.pages.facts ≡ facts = begun.pages.main.facts ∙ have.of.pages.facts in
          let legal : IsLegal facts h = subst (IsLegal facts) (sym begun.pages.seen)
          (subst (λ (f : Facts). IsLegal f new.pages.seen) told next.pages.legal) in
          let main : own h 0 ≡ opening_of page_passes all =
          ap (λ (g : History). own g 0) begun.pages.seen ∙ next.pages.own_events in
          let count : begun_in role h ≡ length all = begun-lanes page_passes all h main in
          let long = length-append lanes (Control ∷ []) in
          let none : (q : ℕ) → 1 ≤ q → q ≤ begun_in role h → owner_in role h q ≡ None → own h q ≡ [] =
          λ q some most owner. subst (λ (p : ℕ). own h p ≡ [])
          (sym (number-last page_passes lanes Control h once main q (omega (arith, some))
          (omega (arith, most, count, long)) owner)) fresh.pages.none in
          let size = length-map script (λ (item : LaneItem). item.act) in
          MayControl-fresh facts h legal none (acts_in script) (omega (arith, few, size))
          (control-buries script lines)

      -- so its job stands next
      pub HaveBegunJobs-control : AreReadyToControl tables passes
          → HaveBegunJobs header tables w items (lanes ++ Control ∷ []) new (jobs ++ control_job ∷ [])
      HaveBegunJobs-control ready =
          HaveBegunJobs-next header tables w items lanes mains jobs have Control new control_job begun
          (record {
            is = refl;
            lines = lines;
            fresh = AreFresh-next header tables w items lanes mains jobs have Control new control_job begun;
            ready = ready;
            volumes = tt;
          })
          (record {
            acts = subst (All (λ (item : LaneItem). IsActOf header Control item.act)) (sym lines)
                (lane-acts header Control items fits.known);
            ready = ready;
            may = may-control;
          })
