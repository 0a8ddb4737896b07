-- The steps of each call may be made while others act.
use Rattle.std.proofs.Common.{◌≡◌, ◌≢◌, ℕ, zero, suc, ◌+◌, ◌<◌, ◌≤◌, Bool, true, false, true≢false, List, [], ◌∷◌, ◌++◌}
use Rattle.std.proofs.Common.{length, All, Option, Some, None, Contains, ℤ, pos, unsigned_abs, refl, sym, ap, ◌∙◌}
use Rattle.std.proofs.Common.{subst, arith, if◌then◌else◌, nat_eq, eq-eqb}
use Rattle.std.specs.Ordering.{int_eq}
use Rattle.std.proofs.lemmas.Bool.Decides.{Decides-int_eq}
use Rattle.std.proofs.lemmas.Int.{ints}
use Rattle.std.proofs.lemmas.List.Elements.{All-nil, All-cons, All-head, All-tail}
use Rattle.vms_history.specs.Common.{CpuId, most_volume, own, after, total, owner_in}
use Rattle.vms_history.specs.declared.events.Event.{Event}
use Rattle.vms_history.proofs.Common.{base_can_begin, made-given, made-owner}
use Rattle.vms_group_core.specs.declared.call_values.GroupAnswer.{GroupAnswer}
use Rattle.vms_group_core.specs.declared.call_values.GroupAnswer.TheVariants.{Done, Value as Answers}
use Rattle.vms_group_core.specs.declared.call_values.GroupCall.{GroupCall}
use Rattle.vms_group_core.specs.declared.call_values.GroupCall.TheVariants.{Change, Flush, Value}
use Rattle.vms_group_core.specs.declared.steps.GroupFacts.{GroupFacts}
use Rattle.vms_group_core.specs.declared.steps.GroupStep.{GroupStep}
use Rattle.vms_group_core.specs.declared.steps.GroupStep.TheVariants.{AddP, TakeP, TakeU, AddV, AddU, LoadV, Split}
use Rattle.vms_group_core.specs.declared.steps.GroupStep.TheVariants.{Join}
use Rattle.vms_group_core.specs.declared.trees.Tree.{Tree}
use Rattle.vms_group_core.specs.Common.{IsTree, IsGroup, IsTreeCpu, group_count, parent_of, is_parent, in_subtree}
use Rattle.vms_group_core.specs.Common.{subtree, subtree_below, as_is, size_of, sum_of, carried, carried_up, changed}
use Rattle.vms_group_core.specs.Common.{spent, role, groups, History, IsLegal, IsBase, Found, IsGroupCall, all_of}
use Rattle.vms_group_core.specs.Common.{flushes, flushes_each, moves_up, raises, takes, HasMade, MayCall, MayMake}
use Rattle.vms_group_core.specs.Common.{Tells}
use Rattle.vms_group_core.proofs.CallCarrying.{takes-carry, flush-carries}
use Rattle.vms_group_core.proofs.CallSpending.{spent-made}

-- the groups of a subtree are groups of the tree
subtree_below-known : (tree : Tree) (g n : ℕ) → n ≤ group_count tree → All (IsGroup tree) (subtree_below tree g n)
subtree_below-known tree g zero most = All-nil (IsGroup tree)
subtree_below-known tree g (suc x) most = by (in_subtree tree g x) (subtree_below-known tree g x (omega arith))
  where
    by : (b : Bool) → All (IsGroup tree) (subtree_below tree g x)
        → All (IsGroup tree) (if b then x ∷ subtree_below tree g x else subtree_below tree g x)
    by true rest = All-cons (IsGroup tree) x (subtree_below tree g x) (omega arith) rest
    by false rest = rest

module _ (facts : GroupFacts) (p : ℕ) (earlier : History) where
  -- a pass that has changed nothing of a group since may change it
  record MayChange (es : List (Event GroupStep)) (g : ℕ) (a : ℤ) : Type 0 where
    cpu : CpuId
    owns : owner_in role earlier p ≡ Some cpu
    group : IsGroup facts.tree g
    affordable : spent earlier cpu.number g + unsigned_abs a ≤ most_volume
    none_since : total (changed size_of g) es ≡ total (changed size_of g) (own earlier p)

  -- it may add what it carries
  record MayAddValue (es : List (Event GroupStep)) (g : ℕ) (a : ℤ) : Type 0 where
    group : IsGroup facts.tree g
    carries : carried g es ≡ a
    some : a ≢ pos 0

  record MayAddUp (es : List (Event GroupStep)) (g : ℕ) (a : ℤ) : Type 0 where
    group : IsGroup facts.tree g
    carries : Contains (carried_up facts.tree g es) a
    some : a ≢ pos 0

  -- the condition of a step by the caller's own events, but for what the step tells
  abbrev Fits : List (Event GroupStep) → GroupStep → Type 0
  Fits es (AddP g a) = MayChange es g a
  Fits es (TakeP c g v) = IsTreeCpu facts.tree c.number × IsGroup facts.tree g
  Fits es (TakeU g v) = IsGroup facts.tree g
  Fits es (AddV g a) = MayAddValue es g a
  Fits es (AddU g a) = MayAddUp es g a
  Fits es (LoadV g v) = IsGroup facts.tree g
  Fits es _ = ⊥

  -- each of these steps fits once the ones before it are made
  abbrev Runs : List GroupStep → List (Event GroupStep) → Type 0
  Runs [] es = Unit {0}
  Runs (step ∷ steps) es = Fits es step × Runs steps (record { caller = p; step = step } ∷ es)

  runs-at : (done rest : List GroupStep) (step : GroupStep) (es : List (Event GroupStep))
      → Runs (done ++ (step ∷ rest)) es → Fits (after p done es) step
  runs-at [] rest step es runs = runs.0
  runs-at (first ∷ done) rest step es runs = runs-at done rest step (record { caller = p; step = first } ∷ es) runs.1

  runs-both : (first second : List GroupStep) (es : List (Event GroupStep)) → Runs first es
      → Runs second (after p first es) → Runs (first ++ second) es
  runs-both [] second es one two = two
  runs-both (step ∷ first) second es one two =
      (one.0, runs-both first second (record { caller = p; step = step } ∷ es) one.1 two)

  module _ (later : History) (done : List GroupStep) (made : HasMade facts later earlier p done) where
    given : p ≢ 0
    given main = let first = (made-given groups facts later earlier p done made).0 in omega arith

    owner : owner_in role later p ≡ owner_in role earlier p
    owner = made-owner groups facts later earlier p done made

    fits-may : (step : GroupStep) → Fits (own later p) step → Tells facts later p step
        → IsLegal facts (record { caller = p; step = step } ∷ later)
    fits-may (AddP g a) fits tells =
        let along = spent-made facts later earlier p done made fits.cpu g fits.owns in
        let since : total (changed size_of g) (after p done (own earlier p))
        ≡ total (changed size_of g) (own earlier p) =
        ap (total (changed size_of g)) (sym made.made) ∙ fits.none_since in
        let same : spent later fits.cpu.number g ≡ spent earlier fits.cpu.number g =
        omega (arith, ints, along, since) in (
          made.legal,
          (given, made.lives),
          record {
            cpu = fits.cpu;
            owns = owner ∙ fits.owns;
            group = fits.group;
            affordable = omega (arith, same, fits.affordable);
          },
        )
    fits-may (TakeP c g v) fits tells =
        (made.legal, (given, made.lives), record { cpu = fits.0; group = fits.1; value = tells })
    fits-may (TakeU g v) fits tells = (made.legal, (given, made.lives), record { group = fits; value = tells })
    fits-may (AddV g a) fits tells = (
      made.legal,
      (given, made.lives),
      record { group = fits.group; carries = fits.carries; some = fits.some },
    )
    fits-may (AddU g a) fits tells = (
      made.legal,
      (given, made.lives),
      record { group = fits.group; carries = fits.carries; some = fits.some },
    )
    fits-may (LoadV g v) fits tells = (made.legal, (given, made.lives), record { group = fits; value = tells })
    fits-may (Split q who) fits tells = absurd fits
    fits-may (Join q) fits tells = absurd fits

  -- steps that fit one after another may be made while others act
  runs-may : (steps : List GroupStep) → (IsBase facts → Runs steps (own earlier p)) → MayMake facts p earlier steps
  runs-may steps runs later done step rest parts made tells =
      let base = base_can_begin groups facts later made.legal in
      let fits = runs-at done rest step (own earlier p)
      (subst (λ ks. Runs ks (own earlier p)) parts (runs base)) in
      fits-may later done made step (subst (λ es. Fits es step) (sym made.made) fits) tells

  takes-run : (g c : ℕ) (found : List ℤ) (es : List (Event GroupStep)) → IsGroup facts.tree g
      → c + length found ≤ facts.tree.cpus → Runs (takes g c found) es
  takes-run g c [] es g_in few = tt
  takes-run g c (v ∷ found) es g_in few = ((omega arith, g_in), takes-run g (suc c) found _ g_in (omega arith))

  -- an amount that is carried is added to the value and is carried for the parent then
  raises-run : (up : Option ℕ) (g : ℕ) (a : ℤ) (es : List (Event GroupStep)) → parent_of facts.tree g ≡ up
      → ((y : ℕ) → up ≡ Some y → IsGroup facts.tree y) → MayAddValue es g a → Runs (raises up g a) es
  raises-run None g a es is known may = (may, tt)
  raises-run (Some y) g a es is known may = (
    may,
    (
      record {
        group = known y refl;
        carries = subst (λ up. Contains (if is_parent up y then a ∷ carried_up facts.tree y es
            else carried_up facts.tree y es) a) (sym is)
            (subst (λ b. Contains (if b then a ∷ carried_up facts.tree y es else carried_up facts.tree y es) a)
            (sym (eq-eqb y y refl)) (0, omega arith, refl));
        some = may.some;
      },
      tt,
    ),
  )

  moves_up-run : (g : ℕ) (a : ℤ) (es : List (Event GroupStep)) → IsTree facts.tree → IsGroup facts.tree g
      → carried g es ≡ a → Runs (moves_up facts.tree g a) es
  moves_up-run g a es is g_in carries = by (int_eq a (pos 0)) refl
    where
      by : (b : Bool) → int_eq a (pos 0) ≡ b
          → Runs (if b then [] else raises (parent_of facts.tree g) g a) es
      by true nothing = tt
      by false some = raises-run (parent_of facts.tree g) g a es refl
          (λ y up. let above : y < g = is.parents_above g y up in omega arith)
          (record {
            group = g_in;
            carries = carries;
            some = λ none. true≢false (sym ((Decides-int_eq a (pos 0)).1 none) ∙ some);
          })

  -- what a flush found of a group is carried for it then
  found-carried : (g : ℕ) (one : Found) (es : List (Event GroupStep)) → carried g es ≡ pos 0
      → carried g (record { caller = p; step = TakeU g one.up } ∷ after p (takes g 0 one.by_cpu) es) ≡ all_of one
  found-carried g one es none =
      let same : nat_eq g g ≡ true = eq-eqb g g refl in
      let taken = takes-carry facts.tree p g g 0 one.by_cpu es in
      let here : (if nat_eq g g then sum_of as_is one.by_cpu else pos 0) ≡ sum_of as_is one.by_cpu = rw same refl in
      let up : (if nat_eq g g then one.up else pos 0) ≡ one.up = rw same refl in
      omega (arith, ints, taken, here, up, none)

  flush-run : (g : ℕ) (one : Found) (es : List (Event GroupStep)) → IsTree facts.tree → IsGroup facts.tree g
      → length one.by_cpu ≡ facts.tree.cpus → carried g es ≡ pos 0 → Runs (flushes facts.tree g one) es
  flush-run g one es is g_in cpus none =
      runs-both (takes g 0 one.by_cpu) (TakeU g one.up ∷ moves_up facts.tree g (all_of one)) es
      (takes-run g 0 one.by_cpu es g_in (omega arith))
      (g_in, moves_up-run g (all_of one) _ is g_in (found-carried g one es none))

  flushes-run : (names : List ℕ) (found : List Found) (es : List (Event GroupStep)) → IsTree facts.tree
      → All (IsGroup facts.tree) names → All (λ one. length one.by_cpu ≡ facts.tree.cpus) found
      → ((x : ℕ) → IsGroup facts.tree x → carried x es ≡ pos 0) → Runs (flushes_each facts.tree names found) es
  flushes-run [] found es is known cpus nothing = tt
  flushes-run (g ∷ names) [] es is known cpus nothing = tt
  flushes-run (g ∷ names) (one ∷ found) es is known cpus nothing =
      let g_in = All-head (IsGroup facts.tree) g names known in
      runs-both (flushes facts.tree g one) (flushes_each facts.tree names found) es
      (flush-run g one es is g_in (All-head (λ o. length o.by_cpu ≡ facts.tree.cpus) one found cpus) (nothing g g_in))
      (flushes-run names found _ is (All-tail (IsGroup facts.tree) g names known)
      (All-tail (λ o. length o.by_cpu ≡ facts.tree.cpus) one found cpus)
      (λ x x_in. (flush-carries facts.tree p g x one es).value ∙ nothing x x_in))

pub call-may : (facts : GroupFacts) (h : History) (p : ℕ) (call : GroupCall) (steps : List GroupStep)
    (answer : GroupAnswer) → MayCall facts h p call → IsGroupCall facts call steps answer → MayMake facts p h steps
call-may facts h p (Change g a) steps Done may is =
    runs-may facts p h steps (λ base. subst (λ ks. Runs facts p h ks (own h p)) (sym is.in_order) (
      record { cpu = may.cpu; owns = may.owns; group = may.group; affordable = may.affordable; none_since = refl },
      tt,
    ))
call-may facts h p (Value g) steps (Answers v) g_in is =
    runs-may facts p h steps (λ base. subst (λ ks. Runs facts p h ks (own h p)) (sym is.in_order) (g_in, tt))
call-may facts h p (Flush g) steps Done may (found, is) =
    runs-may facts p h steps (λ base. subst (λ ks. Runs facts p h ks (own h p)) (sym is.in_order)
    (flushes-run facts p h (subtree facts.tree g) found (own h p) base.tree
    (subtree_below-known facts.tree g (group_count facts.tree) (omega arith)) is.every_cpu
    (λ x x_in. (may.nothing x x_in).value)))
call-may facts h p _ steps _ may is = absurd is
