-- What a report of a tree of groups prints.
use Rattle.std.specs.Prelude.{ℕ, ℤ, List, [], ◌∷◌, codes, flat_map}
use Rattle.std.specs.Fmt.{signed_decimal}
use Rattle.std.specs.List.{enumerate_from}
use Rattle.vms_group_core.specs.declared.states.GroupState.{GroupState}
use Rattle.vms_group_core.specs.declared.trees.Tree.{Tree}
use Rattle.vms_group_core.specs.Common.{as_is, over_subtree, pending_of, value_at}
use Rattle.vms_text.specs.Common.{sentence}

-- what is pending in the subtree of a group, from all CPUs and from children
abbrev pub pending_under : Tree → GroupState → ℕ → ℤ
pending_under tree w g = over_subtree tree g (pending_of as_is tree w)

-- `NAME value V pending P total T`
abbrev pub group_words : List ℕ → ℤ → ℤ → ℤ → List (List ℕ)
group_words name value pending total =
    name ∷ codes "value" ∷ signed_decimal value ∷ codes "pending" ∷ signed_decimal pending ∷ codes "total"
    ∷ signed_decimal total ∷ []

-- the lines of the groups of these names, in order of declaration, with these totals
abbrev pub group_lines : List (List ℕ) → Tree → GroupState → (ℕ → ℤ) → List ℕ
group_lines names tree w total =
    flat_map (λ (g, name). sentence (group_words name (value_at w g) (pending_under tree w g) (total g)))
    (enumerate_from 0 names)
