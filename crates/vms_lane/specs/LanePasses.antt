-- The passes of a lane, whichever lane it is.
use Rattle.std.specs.Prelude.{List, [], ◌∷◌}
use Rattle.vms_burial.specs.Passes as burial
use Rattle.vms_tables.specs.declared.tables.Tables.{Tables}
use Rattle.vms_tables.specs.Common.{TablePasses, passes_of}
use Rattle.vms_world.specs.Common.{Act, Lane, Cpu, Control}
use Rattle.vms_lane.specs.declared.passes.LanePasses.{LanePasses}
use Rattle.vms_lane.specs.declared.passes.LanePasses.TheVariants.{Cpu as OfCpu, Control as OfControl}
use Rattle.vms_lane.specs.Controlling.{HasControlled, MayControl}
use Rattle.vms_lane.specs.Ready.{AreReady, AreReadyToControl}
use Rattle.vms_lane.specs.Spending.{HaveRoom, HaveSpent, spending_of, spent_by_all}

-- a pass in each table
abbrev pub passes_in : LanePasses → TablePasses
passes_in (OfCpu passes) = passes_of passes
passes_in (OfControl passes) = burial.passes_of passes

-- passes of this lane, which may make a line
abbrev pub AreReadyFor : Tables → Lane → LanePasses → Type 0
AreReadyFor tables (Cpu c) (OfCpu passes) = AreReady tables c passes
AreReadyFor tables Control (OfControl passes) = AreReadyToControl tables passes
AreReadyFor tables _ _ = ⊥

-- these acts, one after another: the CPU's volumes have room for all of them, or the control lane may make them
abbrev pub MayMakeActs : Tables → List Act → LanePasses → Type 0
MayMakeActs tables acts (OfCpu passes) = HaveRoom (spent_by_all acts) passes
MayMakeActs tables acts (OfControl passes) = MayControl tables.pages.facts acts passes.page.seen

-- one act
abbrev pub MayMakeAct : Tables → Act → LanePasses → Type 0
MayMakeAct tables act (OfCpu passes) = HaveRoom (spending_of act) passes
MayMakeAct tables act (OfControl passes) = MayControl tables.pages.facts (act ∷ []) passes.page.seen

-- what an act leaves: the CPU's volumes grew by what it says, or the control lane made it
abbrev pub AreLeftBy : Tables → Act → (new old : LanePasses) → Type 0
AreLeftBy tables act (OfCpu new) (OfCpu old) = HaveSpent (spending_of act) new old
AreLeftBy tables act (OfControl new) (OfControl old) =
    HasControlled tables.pages.facts act new.page.seen old.page.seen
AreLeftBy tables act _ _ = ⊥

-- what all acts of a lane's lines leave of the volumes that its passes have
abbrev pub HaveSpentAll : List Act → (new old : LanePasses) → Type 0
HaveSpentAll acts (OfCpu new) (OfCpu old) = HaveSpent (spent_by_all acts) new old
HaveSpentAll acts (OfControl new) (OfControl old) = Unit {0}
HaveSpentAll acts _ _ = ⊥
