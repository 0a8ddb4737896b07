-- How far a header was read, and what is true of it then. What the lines so far declare stands as a header, which may
-- still have no group.
use Rattle.std.specs.Prelude.{◌≡◌, ◌≢◌, ℕ, ◌<◌, ◌≤◌, IsTrue, [], length, All, AllPairs, Some}
use Rattle.vms_base.specs.Names.{is_name}
use Rattle.vms_group_core.specs.Common.{group_count, parent_of}
use Rattle.vms_group_lines.specs.declared.headers.GroupHeader.{GroupHeader}
use Rattle.vms_group_lines.specs.declared.stages.GroupStage.{GroupStage}
use Rattle.vms_group_lines.specs.declared.stages.GroupStage.TheVariants.{Opening, Versioned, Declaring}
use Rattle.vms_group_lines.specs.declared.stages.HeadStep.{HeadStep}
use Rattle.vms_group_lines.specs.declared.stages.HeadStep.TheVariants.{Goes, Ends}
use Rattle.vms_group_lines.specs.Headers.{IsGroupHeader}

-- after the line `cpus`
abbrev pub first_draft : ℕ → GroupHeader
first_draft cpus = record { tree = record { parents = []; cpus = cpus }; names = [] }

-- a header in which only a first group may be missing
pub record IsGroupDraft (header : GroupHeader) : Type 0 where
  pub groups_most : group_count header.tree ≤ 64
  pub cpus_least : 1 ≤ header.tree.cpus
  pub cpus_most : header.tree.cpus ≤ 64
  pub parents_above : (g parent : ℕ) → parent_of header.tree g ≡ Some parent → parent < g
  pub named : length header.names ≡ group_count header.tree
  pub valid : All (λ name. IsTrue (is_name name)) header.names
  pub differ : AllPairs ◌≢◌ header.names

abbrev pub IsGroupStage : GroupStage → Type 0
IsGroupStage (Declaring header) = IsGroupDraft header
IsGroupStage Opening = Unit {0}
IsGroupStage Versioned = Unit {0}

-- what a line may make: `go` comes after a group
abbrev pub IsHeadStep : HeadStep → Type 0
IsHeadStep (Goes stage) = IsGroupStage stage
IsHeadStep (Ends header) = IsGroupHeader header
