-- For other crates too: where acts in a row lead, and how far own events go along them. The same events aren't cut into
-- acts in two ways where no act's steps begin other steps of the act.
use Rattle.std.proofs.Common.{◌≡◌, ℕ, List, [], ◌∷◌, ◌++◌, sym, ap, subst, ◌∙◌, append_assoc, append-nil}
use Rattle.vms_world.specs.Common.{Step, Act, after}
use Rattle.vms_core.specs.Pages.{History}
use Rattle.vms_history.proofs.Common.{after-steps}
use Rattle.vms_own_acts.specs.Common.{Along, MakesInRow}
use Rattle.vms_own_acts.specs.Along.AlongAct.{here, past, within}
use Rattle.vms_own_acts.proofs.StepLists.{OneBegins, after-injective, nothing_first, nothing_last, one_begins}
use Rattle.vms_own_acts.proofs.StepLists.OneBegins.{first_longer, second_longer}

module _ (makes : Act → History → List Step → Type 0) (p : ℕ) where
  abbrev Row : List Act → History → History → Type 0
  Row acts from to = MakesInRow makes p acts from to

  abbrev Goes : List Act → History → History → Type 0
  Goes acts from to = Along makes p acts from to

  pub along-here : (acts : List Act) (from to : History) → from ≡ to → Goes acts from to
  along-here [] from to same = same
  along-here (act ∷ acts) from to same = here same

  pub along-row : (made acts : List Act) (from mid to : History) → Row made from mid → Goes acts mid to
      → Goes (made ++ acts) from to
  along-row [] acts from mid to row along = subst (λ h. Goes acts h to) (sym row) along
  along-row (act ∷ made) acts from mid to row along =
      past row.0 row.1 (along-row made acts (after p row.0 from) mid to row.2 along)

  pub row-last : (made : List Act) (from mid : History) (act : Act) (steps : List Step) → Row made from mid
      → makes act mid steps → Row (made ++ act ∷ []) from (after p steps mid)
  row-last [] from mid act steps row making =
      (steps, subst (λ h. makes act h steps) (sym row) making, ap (after p steps) row)
  row-last (first ∷ made) from mid act steps row making =
      (row.0, row.1, row-last made (after p row.0 from) mid act steps row.2 making)

  -- both add steps
  pub row-after : (acts : List Act) (from to : History) → Row acts from to
      → (steps : List Step) × (to ≡ after p steps from)
  row-after [] from to row = ([], sym row)
  row-after (act ∷ acts) from to row =
      let rest = row-after acts (after p row.0 from) to row.2 in
      (row.0 ++ rest.0, rest.1 ∙ sym (after-steps p row.0 rest.0 from))

  pub along-after : (acts : List Act) (from to : History) → Goes acts from to
      → (steps : List Step) × (to ≡ after p steps from)
  along-after [] from to along = ([], sym along)
  along-after (act ∷ acts) from to (here same) = ([], sym same)
  along-after (act ∷ acts) from to (within begun due making parts) = (begun, parts)
  along-after (act ∷ acts) from to (past steps making later) =
      let rest = along-after acts (after p steps from) to later in
      (steps ++ rest.0, rest.1 ∙ sym (after-steps p steps rest.0 from))

  -- no act's steps begin other steps of it
  module _ (one : (act : Act) (from : History) (first more : List Step) → makes act from first
      → makes act from (first ++ more) → more ≡ []) where
    pub same_steps : (act : Act) (from : History) (steps rest others left : List Step) → makes act from steps
        → makes act from others → steps ++ rest ≡ others ++ left → steps ≡ others
    same_steps act from steps rest others left making other same =
        by (one_begins steps rest others left same)
      where
        by : OneBegins steps rest others left → steps ≡ others
        by (first_longer more is parts) =
            let none = one act from others more other (subst (λ ks. makes act from ks) is making) in
            is ∙ ap (λ ks. others ++ ks) none ∙ append-nil others
        by (second_longer more is parts) =
            let none = one act from steps more making (subst (λ ks. makes act from ks) is other) in
            sym (is ∙ ap (λ ks. steps ++ ks) none ∙ append-nil steps)

    module _ (act : Act) (acts : List Act) (from to : History) (steps rest : List Step) (making : makes act from steps)
        (parts : to ≡ after p rest (after p steps from)) where
      whole : to ≡ after p (steps ++ rest) from
      whole = parts ∙ sym (after-steps p steps rest from)

      ended : rest ≡ [] → after p steps from ≡ to
      ended none = sym (parts ∙ ap (λ ks. after p ks (after p steps from)) none)

      -- once an act is made, own events go along those after it
      pub along-past : Goes (act ∷ acts) from to → Goes acts (after p steps from) to
      along-past (here same) =
          let none : steps ++ rest ≡ [] = after-injective p (steps ++ rest) [] from (sym whole ∙ sym same) in
          along-here acts (after p steps from) to (ended (nothing_last steps rest none))
      along-past (within begun due other other_parts) =
          let same : begun ≡ steps ++ rest = after-injective p begun (steps ++ rest) from (sym other_parts ∙ whole) in
          let longer : makes act from (steps ++ (rest ++ due)) =
          subst (λ ks. makes act from ks) (ap (λ ks. ks ++ due) same ∙ append_assoc steps rest due) other in
          let none = one act from steps (rest ++ due) making longer in
          along-here acts (after p steps from) to (ended (nothing_first rest due none))
      along-past (past others other later) =
          let left = along-after acts (after p others from) to later in
          let same : steps ++ rest ≡ others ++ left.0 =
          after-injective p (steps ++ rest) (others ++ left.0) from
          (sym whole ∙ left.1 ∙ sym (after-steps p others left.0 from)) in
          subst (λ ks. Goes acts (after p ks from) to)
          (sym (same_steps act from steps rest others left.0 making other same)) later

      pub row-past : Row (act ∷ acts) from to → Row acts (after p steps from) to
      row-past row =
          let left = row-after acts (after p row.0 from) to row.2 in
          let same : steps ++ rest ≡ row.0 ++ left.0 =
          after-injective p (steps ++ rest) (row.0 ++ left.0) from
          (sym whole ∙ left.1 ∙ sym (after-steps p row.0 left.0 from)) in
          subst (λ ks. Row acts (after p ks from) to)
          (sym (same_steps act from steps rest row.0 left.0 making row.1 same)) row.2

    pub along-front : (made acts : List Act) (from mid to : History) (rest : List Step) → Row made from mid
        → to ≡ after p rest mid → Goes (made ++ acts) from to → Goes acts mid to
    along-front [] acts from mid to rest row parts along = subst (λ h. Goes acts h to) row along
    along-front (act ∷ made) acts from mid to rest row parts along =
        let more = row-after made (after p row.0 from) mid row.2 in
        along-front made acts (after p row.0 from) mid to rest row.2 parts
        (along-past act (made ++ acts) from to row.0 (more.0 ++ rest) row.1
        (parts ∙ ap (after p rest) more.1 ∙ sym (after-steps p more.0 rest (after p row.0 from))) along)

    pub row-front : (made acts : List Act) (from mid to : History) (rest : List Step) → Row made from mid
        → to ≡ after p rest mid → Row (made ++ acts) from to → Row acts mid to
    row-front [] acts from mid to rest row parts whole = subst (λ h. Row acts h to) row whole
    row-front (act ∷ made) acts from mid to rest row parts whole =
        let more = row-after made (after p row.0 from) mid row.2 in
        row-front made acts (after p row.0 from) mid to rest row.2 parts
        (row-past act (made ++ acts) from to row.0 (more.0 ++ rest) row.1
        (parts ∙ ap (after p rest) more.1 ∙ sym (after-steps p more.0 rest (after p row.0 from))) whole)
