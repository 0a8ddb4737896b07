-- What reading a header line by line answers. What the reader keeps between two lines is a stage of the header.
use Rattle.std.specs.Prelude.{◌≡◌, reverse, Result, Ok, Err}
use Rattle.vms_header.specs.declared.causes.HeaderCause.{HeaderCause}
use Rattle.vms_header.specs.declared.causes.ReadError.{ReadError}
use Rattle.vms_header.specs.declared.causes.ReadError.TheVariants.{Refused, Memory}
use Rattle.vms_header.specs.declared.drafts.Draft.{Draft as KeptDraft}
use Rattle.vms_header.specs.declared.drafts.Section.{Section as KeptSection}
use Rattle.vms_header.specs.declared.drafts.Section.TheVariants.{Cpus, Watermarks, Items, Zones, Bases, Counters}
use Rattle.vms_header.specs.declared.drafts.Stage.{Stage as KeptStage}
use Rattle.vms_header.specs.declared.drafts.Stage.TheVariants as kept_stage
use Rattle.vms_header.specs.declared.drafts.HeadStep.{HeadStep as KeptStep}
use Rattle.vms_header.specs.declared.drafts.HeadStep.TheVariants as kept_step
use Rattle.vms_header.specs.Drafts.{Draft, Section}
use Rattle.vms_header.specs.Drafts.Section.{AtCpus, AtWatermarks, AtItems, AtZones, AtBases, AtCounters}
use Rattle.vms_header.specs.Stages.{Stage, HeadStep}
use Rattle.vms_header.specs.Stages.Stage.{Opening, Versioned, Drafting}
use Rattle.vms_header.specs.Stages.HeadStep.{Goes, Ends}

-- a section, as the reader keeps it
abbrev pub section_of : KeptSection → Section
section_of Cpus = AtCpus
section_of Watermarks = AtWatermarks
section_of Items = AtItems
section_of Zones = AtZones
section_of Bases = AtBases
section_of Counters = AtCounters

-- a draft, as the reader keeps it: here its bases stand newest first
abbrev pub draft_of : KeptDraft → Draft
draft_of draft = record {
  wide = draft.wide;
  cpus = draft.cpus;
  section = section_of draft.section;
  share = draft.share;
  items = draft.items.items;
  zones = draft.zones.items;
  bases = reverse draft.bases.items;
  counters = draft.counters.items;
}

-- an answer that needs no memory: what is found, as `view` shows it, or the cause
abbrev pub IsSameAnswer : {A B : Type 0} → (A → B) → Result B HeaderCause → Result A HeaderCause → Type 0
IsSameAnswer view answer (Ok found) = answer ≡ Ok (view found)
IsSameAnswer view answer (Err cause) = answer ≡ Err cause

-- an answer for which memory may run out, of which nothing is said: what is found, as `view` shows it, or the cause
abbrev pub IsSameRead : {A B : Type 0} → (A → B) → Result B HeaderCause → Result A ReadError → Type 0
IsSameRead view answer (Ok found) = answer ≡ Ok (view found)
IsSameRead view answer (Err (Refused cause)) = answer ≡ Err cause
IsSameRead view answer (Err Memory) = Unit {0}

-- a stage, as the reader keeps it
abbrev pub stage_of : KeptStage → Stage
stage_of kept_stage.Opening = Opening
stage_of (kept_stage.Versioned wide) = Versioned wide
stage_of (kept_stage.Drafting draft) = Drafting (draft_of draft)

-- what a line makes of a stage, as the reader keeps it
abbrev pub step_of : KeptStep → HeadStep
step_of (kept_step.Goes stage) = Goes (stage_of stage)
step_of (kept_step.Ends draft) = Ends (draft_of draft)
