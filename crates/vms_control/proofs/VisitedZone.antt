-- A zone is visited: what was acknowledged and its mark are loaded, and then it is rated or spared.
use Rattle.std.proofs.Common.{◌≡◌, ℕ, ◌<◌, true, false, true≢false, List, [], ◌∷◌, ◌++◌, length, get_or, Option, refl}
use Rattle.std.proofs.Common.{sym, ◌∙◌, subst, arith, eq-eqb, eqb-true}
use Rattle.std.proofs.lemmas.List.{append-nil}
use Rattle.vms_calls.specs.Common.{CpuId, ZoneSize, IsPlace, IsZone, IsValidSize, size_at, KnowsByOwnSteps, Rates}
use Rattle.vms_calls.specs.Common.{Visits, acknowledged_steps, rating_steps, unmarked, marked, MarkRead, Facts, Step}
use Rattle.vms_calls.specs.Common.{LoadM, IsBase, IsControl, pages, History, after, choice_of, is_spared, rated_by}
use Rattle.vms_calls.proofs.Common.{Each, each-append}
use Rattle.vms_calls.specs.declared.choices.Rating.{Rating}
use Rattle.vms_calls.specs.declared.choices.Rating.TheVariants.{Pressure, Normal, Refresh}
use Rattle.vms_control.specs.Common.{SetsAtMost, MayStillSet, never}
use Rattle.vms_control.proofs.PassCalls.{control-new, has-made, sums-made}
use Rattle.vms_control.proofs.SameSums.{rates-same}
use Rattle.vms_control.proofs.QuietSteps.{SetsNothing, quiet-sets}
use Rattle.vms_control.proofs.StepCounts.{still-may}
use Rattle.vms_history.proofs.Common.{base_can_begin}
use Rattle.vms_seats.specs.Common.{Pass, Shared, IsFrom, Made, MadeOne}
use Rattle.vms_seats.proofs.Common.{calls-both, calls-next}

abbrev pub no_size : ZoneSize
no_size = record { managed = 0; min = 0; low = 0; high = 0 }

module _ (pressure normal : ZoneSize → ℕ → ℕ → Type 0) (facts : Facts) (p : ℕ) (online : List CpuId) (g m : ℕ)
    (h : History) where
  -- a zone that a call spares
  spared : (rating : Rating) → is_spared rating m ≡ true → rated_by rating pressure normal facts p online g 0 m h []
  spared Pressure is = subst (λ (n : ℕ). rated_by Pressure pressure normal facts p online g 0 n h [])
      (sym (eqb-true m 0 is)) (unmarked h)
  spared Normal is = subst (λ (n : ℕ). rated_by Normal pressure normal facts p online g 0 n h [])
      (sym (eqb-true m 0 is)) (unmarked h)
  spared Refresh is = absurd (true≢false (sym is))

  -- and one that it rates
  not_spared : (rating : Rating) → is_spared rating m ≡ false → (t : ℕ) (steps : List Step)
      → Rates facts p online (choice_of rating pressure normal) g t m h steps
      → rated_by rating pressure normal facts p online g t m h steps
  not_spared Pressure is t steps rates =
      marked t m h steps (λ zero_mark. true≢false (sym (eq-eqb m 0 zero_mark) ∙ is)) rates
  not_spared Normal is t steps rates =
      marked t m h steps (λ zero_mark. true≢false (sym (eq-eqb m 0 zero_mark) ∙ is)) rates
  not_spared Refresh is t steps rates = rates

module _ (words : Shared Facts) (loaded found old : Pass Facts Step) (of : IsFrom old words) (know : KnowsByOwnSteps)
    (online : List CpuId) (g : ℕ) (zone : IsZone words.facts.layout g) (mark : MarkRead)
    (acknowledged : (numbers : List (Option ℕ)) × (length numbers ≡ length online)
    × Made pages found old (acknowledged_steps g online numbers)) (control : IsControl old.seen old.number)
    (one : MadeOne pages loaded found (LoadM (record { number = g }) mark.mark mark.number)) where
  abbrev facts : Facts
  facts = words.facts

  abbrev p : ℕ
  p = old.number

  abbrev loads : List Step
  loads = acknowledged_steps g online acknowledged.0
      ++ (LoadM (record { number = g }) mark.mark mark.number ∷ [])

  made-loads : Made pages loaded old loads
  made-loads = calls-next pages loaded found old (acknowledged_steps g online acknowledged.0)
      (LoadM (record { number = g }) mark.mark mark.number) one acknowledged.2

  pub control-loaded : IsControl loaded.seen loaded.number
  control-loaded = control-new words loaded old loads of made-loads control

  base-loaded : IsBase facts
  base-loaded = base_can_begin pages facts loaded.seen (has-made words loaded old loads of made-loads).legal

  pub zone-sized : (sizes : List ZoneSize) → sizes ≡ facts.sizes → g < length sizes
  zone-sized sizes same = let each = base-loaded.one_size_each in
      subst (λ (all : List ZoneSize). g < length all) (sym same) (omega (arith, each, zone))

  pub zone-valid : (sizes : List ZoneSize) → sizes ≡ facts.sizes → IsValidSize (get_or sizes g no_size)
  zone-valid sizes same = subst (λ (all : List ZoneSize). IsValidSize (get_or all g no_size)) (sym same)
      (base-loaded.sizes g no_size (zone-sized facts.sizes refl))

  -- the loads set nothing
  acknowledged-quiet : (cs : List CpuId) (numbers : List (Option ℕ))
      → Each SetsNothing (acknowledged_steps g cs numbers)
  acknowledged-quiet [] numbers = tt
  acknowledged-quiet (c ∷ cs) [] = tt
  acknowledged-quiet (c ∷ cs) (x ∷ numbers) = (tt, acknowledged-quiet cs numbers)

  pub loads-still : SetsAtMost facts never never loaded.seen old.seen
  loads-still = quiet-sets facts loaded.seen old.seen p loads (has-made words loaded old loads of made-loads) control
      (each-append SetsNothing (acknowledged_steps g online acknowledged.0)
      (LoadM (record { number = g }) mark.mark mark.number ∷ []) (acknowledged-quiet online acknowledged.0) (tt, tt))

  pub loads-may : MayStillSet facts old.seen g → MayStillSet facts loaded.seen g
  loads-may may =
      let place : IsPlace facts.layout g = omega (arith, zone) in
      still-may facts never never loaded.seen old.seen g place loads-still refl refl may

  module _ (pressure normal : ZoneSize → ℕ → ℕ → Type 0) (rating : Rating) where
    -- the relation of a visit
    abbrev Visited : ℕ → List Step → Type 0
    Visited t steps =
        Visits facts p online (rated_by rating pressure normal facts p online) g t old.seen steps

    pub visit-spared : is_spared rating mark.mark ≡ true
        → (steps : List Step) × Visited 0 steps × Made pages loaded old steps
    visit-spared is = (
      loads,
      record {
        numbers = acknowledged.0;
        one_each = acknowledged.1;
        mark = mark;
        loads = loads;
        loads_are = refl;
        further = [];
        rated = spared pressure normal facts p online g mark.mark (after p loads old.seen) rating is;
        in_order = sym (append-nil loads);
      },
      made-loads,
    )

    pub visit-rated : is_spared rating mark.mark ≡ false → (t usual : ℕ)
        → choice_of rating pressure normal (size_at facts.sizes g) (length online) t usual → (new : Pass Facts Step)
        → Made pages new loaded (rating_steps facts loaded.number online loaded.seen g mark.mark usual t)
        → (steps : List Step) × Visited t steps × Made pages new old steps
    visit-rated is t usual chosen new rated =
        let further = rating_steps facts p online loaded.seen g mark.mark usual t in
        let made : Made pages new loaded further =
        subst (λ (q : ℕ). Made pages new loaded (rating_steps facts q online loaded.seen g mark.mark usual t))
        made-loads.number rated in (
          loads ++ further,
          record {
            numbers = acknowledged.0;
            one_each = acknowledged.1;
            mark = mark;
            loads = loads;
            loads_are = refl;
            further = further;
            rated = not_spared pressure normal facts p online g mark.mark (after p loads old.seen) rating is t further
                (rates-same facts p online (choice_of rating pressure normal) g t mark.mark loaded.seen
                (after p loads old.seen) further (sums-made words loaded old loads of made-loads know control)
                (record { usual = usual; chosen = chosen; in_order = refl }));
            in_order = refl;
          },
          calls-both pages new loaded old loads further made made-loads,
        )
