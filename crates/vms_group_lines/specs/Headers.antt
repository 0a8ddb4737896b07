-- What is true of every header of groups, and which group a word names.
use Rattle.std.specs.Prelude.{◌≡◌, ◌≢◌, ℕ, IsTrue, List, length, All, AllPairs, bytes_eq, position, ok_or, Result}
use Rattle.vms_base.specs.Names.{is_name}
use Rattle.vms_group_core.specs.Common.{IsTree, group_count}
use Rattle.vms_group_lines.specs.declared.causes.GroupCause.{GroupCause}
use Rattle.vms_group_lines.specs.declared.causes.GroupCause.TheVariants.{UnknownGroup}
use Rattle.vms_group_lines.specs.declared.headers.GroupHeader.{GroupHeader}

-- a tree, with a name of the form for each group, and no name twice
pub record IsGroupHeader (header : GroupHeader) : Type 0 where
  pub tree : IsTree header.tree
  pub named : length header.names ≡ group_count header.tree
  pub valid : All (λ name. IsTrue (is_name name)) header.names
  pub differ : AllPairs ◌≢◌ header.names

-- the number of the group that a word names
abbrev pub group_field : GroupHeader → List ℕ → Result ℕ GroupCause
group_field header word = ok_or (position (bytes_eq word) header.names) UnknownGroup
