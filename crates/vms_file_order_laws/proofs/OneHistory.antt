-- Lines that follow one another have one history, where the steps of each act are determined by what stands.
use Rattle.std.proofs.Common.{◌≡◌, ℕ, List, [], ◌∷◌, ◌++◌, refl, sym, ap, subst, ◌∙◌}
use Rattle.std.specs.Prelude.{All}
use Rattle.vms_world.specs.Common.{Shape, Event, Machine, after, Act, Item, Lane, lanes_of}
use Rattle.vms_history.specs.Legal.{IsLegal}
use Rattle.vms_file_order.specs.Common.{Follow, IsFileOrder, PassSteps, closing_of, ends_from, pass_of, none, line}
use Rattle.vms_file_order_laws.proofs.LegalSteps.{legal_before}

module _ {A : Type 0} where
  -- two lists with one element more each are the same lists with the same element
  pub last_same : (xs ys : List A) (x y : A) → xs ++ x ∷ [] ≡ ys ++ y ∷ [] → (xs ≡ ys) × (x ≡ y)
  last_same [] [] x y same = (refl, cc)
  last_same [] (b ∷ ys) x y same = absurd (nothing_after ys y (cc))
    where
      nothing_after : (zs : List A) (z : A) → [] ≡ zs ++ z ∷ [] → ⊥
      nothing_after [] z is = cc
      nothing_after (c ∷ zs) z is = cc
  last_same (a ∷ xs) [] x y same = absurd (nothing_after xs x (cc))
    where
      nothing_after : (zs : List A) (z : A) → zs ++ z ∷ [] ≡ [] → ⊥
      nothing_after [] z is = cc
      nothing_after (c ∷ zs) z is = cc
  last_same (a ∷ xs) (b ∷ ys) x y same =
      let rest = last_same xs ys x y (cc) in
      (cc, rest.1)

module _ {F K S : Type 0} (machine : Machine F K S) (passes : PassSteps K machine.role)
    (makes : Lane → ℕ → Act → List (Event K) → List K → Type 0) (IsAlone : K → Type 0) (facts : F)
    (once : (lane : Lane) (p : ℕ) (act : Act) (h : List (Event K)) (a b : List K) → makes lane p act h a
    → makes lane p act h b → All IsAlone a → All IsAlone b → IsLegal machine facts (after p a h)
    → IsLegal machine facts (after p b h) → a ≡ b) where
  -- one line more
  line-once : (lanes : List Lane) (next next' : Item) (g g' : List (Event K)) (steps steps' : List K) → next ≡ next'
      → g ≡ g' → makes next.lane (pass_of lanes next.lane) next.act g steps
      → makes next'.lane (pass_of lanes next'.lane) next'.act g' steps' → All IsAlone steps → All IsAlone steps'
      → IsLegal machine facts (after (pass_of lanes next.lane) steps g)
      → IsLegal machine facts (after (pass_of lanes next'.lane) steps' g')
      → after (pass_of lanes next.lane) steps g ≡ after (pass_of lanes next'.lane) steps' g'
  line-once lanes next next' g g' steps steps' same from making making' alone alone' legal legal' =
      let p : Item → ℕ = λ item. pass_of lanes item.lane in
      let made : makes next.lane (p next) next.act g steps' =
      subst (λ (item : Item). makes item.lane (p item) item.act g steps') (sym same)
      (subst (λ h. makes next'.lane (p next') next'.act h steps') (sym from) making') in
      let stands : IsLegal machine facts (after (p next) steps' g) =
      subst (λ (item : Item). IsLegal machine facts (after (p item) steps' g)) (sym same)
      (subst (λ h. IsLegal machine facts (after (p next') steps' h)) (sym from) legal') in
      let equal = once next.lane (p next) next.act g steps steps' making made alone alone' legal stands in
      ap (λ ks. after (p next) ks g) equal ∙ ap (λ h. after (p next) steps' h) from
      ∙ ap (λ (item : Item). after (p item) steps' g') same

  pub Follow-once : (lanes : List Lane) (items items' : List Item) (h h' : List (Event K)) → items ≡ items'
      → Follow passes makes IsAlone lanes items h → Follow passes makes IsAlone lanes items' h'
      → IsLegal machine facts h → IsLegal machine facts h' → h ≡ h'
  Follow-once lanes items items' h h' same none none legal legal' = refl
  Follow-once lanes items items' h h' same none (line before' next' g' steps' follow' among' making' alone') legal
      legal' = absurd (nothing_after before' next' same)
    where
      nothing_after : (zs : List Item) (z : Item) → [] ≡ zs ++ z ∷ [] → ⊥
      nothing_after [] z is = cc
      nothing_after (c ∷ zs) z is = cc
  Follow-once lanes items items' h h' same (line before next g steps follow among making alone) none legal legal' =
      absurd (nothing_after before next same)
    where
      nothing_after : (zs : List Item) (z : Item) → zs ++ z ∷ [] ≡ [] → ⊥
      nothing_after [] z is = cc
      nothing_after (c ∷ zs) z is = cc
  Follow-once lanes items items' h h' same (line before next g steps follow among making alone)
      (line before' next' g' steps' follow' among' making' alone') legal legal' =
      let parts = last_same before before' next next' same in
      line-once lanes next next' g g' steps steps' parts.1
      (Follow-once lanes before before' g g' parts.0 follow follow'
      (legal_before machine facts (pass_of lanes next.lane) steps g legal)
      (legal_before machine facts (pass_of lanes next'.lane) steps' g' legal'))
      making making' alone alone' legal legal'

  -- a history in file order is one
  pub IsFileOrder-once : (shape : Shape) (items : List Item) (h h' : List (Event K)) → IsLegal machine facts h
      → IsLegal machine facts h' → IsFileOrder passes makes IsAlone shape items h
      → IsFileOrder passes makes IsAlone shape items h' → h ≡ h'
  IsFileOrder-once shape items h h' legal legal' order order' =
      let lanes = lanes_of shape items in
      let ends = ends_from passes 1 lanes in
      let before = legal_before machine facts 0 ends order.lines (subst (IsLegal machine facts) order.ends legal) in
      let before' = legal_before machine facts 0 ends order'.lines (subst (IsLegal machine facts) order'.ends legal') in
      order.ends
      ∙ ap (closing_of passes lanes)
      (Follow-once lanes items items order.lines order'.lines refl order.follow order'.follow before before')
      ∙ sym order'.ends
