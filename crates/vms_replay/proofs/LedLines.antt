-- A phase and the boundary line that ends it lead from world to world, and what is known of a phase that is made.
use Rattle.std.proofs.Common.{◌≡◌, ℕ, true, false, List, [], ◌∷◌, ◌++◌, map, refl, sym, ap, ap₂, subst, ◌∙◌, Option}
use Rattle.std.proofs.Common.{Some, None, Ok}
use Rattle.std.proofs.lemmas.List.Elements.{All-cons, All-nil}
use Rattle.std.specs.Prelude.{All, is_some, reverse}
use Rattle.vms_world.specs.Common.{Header, IsHeader, Fits, Between, Phase, Segment, phase_if_any, Start, first_start}
use Rattle.vms_world.specs.Common.{start_after, start_at_end, line_of, Item, Line, MayCross, IsWorldPhase, SegmentsLead}
use Rattle.vms_world.specs.Common.{TableHistories, left_by, IsWorldOf}
use Rattle.vms_command.specs.Common.{IsJudgedAfter, LinesAbove, nothing_above, with_judged}
use Rattle.vms_file_order.specs.Common.{KeepAllLaws, IsStartOf}
use Rattle.vms_file_order.proofs.Common.{MayCross-allowed, start_at_end-lines}
use Rattle.vms_stream.specs.Common.{MayGive, at_most_one}
use Rattle.vms_total_laws.specs.Common.{SumsAreTotals}
use Rattle.vms_truth.specs.Common.{LinesAreTrue, WaysKeepWorlds, WaysStayNear}
use Rattle.vms_script.proofs.Common.{Fits-none}
use Rattle.vms_text.specs.declared.acts.Boundary.{Boundary as BoundaryOf}
use Rattle.vms_text.specs.declared.acts.Line.TheVariants.{Boundary}
use Rattle.vms_world.specs.declared.worlds.World.{World}
use Rattle.vms_replay.specs.Common.{normal_rule, pressure_rule, PastPhase, crossed, world_after, IsLawful, histories_in}
use Rattle.vms_replay.specs.Common.{PhaseFacts, phase_facts, phase_of, phases_on, Kept, MayBe, first_kept, has_some}
use Rattle.vms_replay.specs.Common.{next_kept, AddUpOn, HasPlainTotals}
use Rattle.vms_replay.proofs.KernelThresholds.{Crosses-crossed, IsStartOf-past, IsStartOf-started}
use Rattle.vms_replay.proofs.PassedBoundaries.{allowed-boundary, known-boundary}
use Rattle.vms_replay.proofs.PlainTotals.{HasPlainTotals-crossed}

-- the lines that are kept fit the world that is kept, and are with the lines above them all that count
pub record IsLed (header : Header) (above : LinesAbove) (kept : Kept) : Type 0 where
  pub begins : IsStartOf header (start_after first_start kept.above) kept.world
  pub fits : Fits header (start_after first_start kept.above) kept.items
  pub lines : above.lines ≡ reverse (map line_of kept.items) ++ kept.above

pub IsLed-first : (header : Header) → IsHeader header → IsLed header nothing_above (first_kept header)
IsLed-first header valid = record {
  begins = IsStartOf-started header valid;
  fits = Fits-none header first_start;
  lines = refl;
}

-- what is known of a phase that an engine makes of lines that fit
pub record Knows (Makes : Header → World → List Item → TableHistories → Type 0) : Type 0 where
  pub phase : (header : Header) (start : Start) (w : World) (items : List Item) (hs : TableHistories)
      → IsStartOf header start w → Fits header start items → Makes header w items hs
      → IsWorldPhase header pressure_rule normal_rule w items hs (left_by header w items hs)
  pub start : (header : Header) (start : Start) (w : World) (items : List Item) (hs : TableHistories)
      → IsStartOf header start w → Fits header start items → Makes header w items hs
      → IsStartOf header (start_at_end start (map line_of items)) (left_by header w items hs)
  pub laws : (header : Header) (w : World) (items : List Item) (hs : TableHistories) (next : World)
      → IsWorldPhase header pressure_rule normal_rule w items hs next → KeepAllLaws header w hs
  pub truth : (header : Header) (start : Start) (w : World) (items : List Item) (hs : TableHistories) (next : World)
      → Fits header start items → IsWorldPhase header pressure_rule normal_rule w items hs next
      → LinesAreTrue header pressure_rule normal_rule w items hs
  pub near : WaysStayNear pressure_rule normal_rule
  pub worlds : WaysKeepWorlds pressure_rule normal_rule
  pub sums : (header : Header) (w : World) → IsWorldOf header w → SumsAreTotals header w
  pub adds : (header : Header) (start : Start) (w : World) (items : List Item) (hs : TableHistories)
      → IsStartOf header start w → Fits header start items → Makes header w items hs → (before : List PastPhase)
      → HasPlainTotals header before w
      → HasPlainTotals header (phase_of header w items hs ∷ before) (left_by header w items hs)

module _ (Makes : Header → World → List Item → TableHistories → Type 0) (header : Header) where
  -- a phase that was made of these lines from this world
  pub record IsPhaseFrom (w : World) (items : List Item) (phase : PastPhase) : Type 0 where
    pub be : MayBe Makes header w items phase
    pub is : IsWorldPhase header pressure_rule normal_rule w items phase.histories
        (left_by header phase.world phase.items phase.histories)
    pub laws : KeepAllLaws header phase.world phase.histories
    pub truth : LinesAreTrue header pressure_rule normal_rule phase.world phase.items phase.histories
    pub adds : (before : List PastPhase) → HasPlainTotals header before w
        → HasPlainTotals header (phase ∷ before) (left_by header phase.world phase.items phase.histories)

  -- these phases lead through segments from one world to another
  abbrev pub LeadOn : List Segment → List PastPhase → World → World → Type 0
  LeadOn [] [] w last = w ≡ last
  LeadOn (Phase items ∷ segments) (phase ∷ more) w last =
      IsPhaseFrom w items phase × LeadOn segments more (left_by header phase.world phase.items phase.histories) last
  LeadOn (Between n b ∷ segments) made w last =
      IsWorldOf header w × MayCross header.layout w.pages b × LeadOn segments made (crossed header b w) last
  LeadOn _ _ w last = ⊥

  -- a way on from another
  pub LeadOn-append : (segments more : List Segment) (made others : List PastPhase) (w mid last : World)
      → LeadOn segments made w mid → LeadOn more others mid last
      → LeadOn (segments ++ more) (made ++ others) w last
  LeadOn-append [] more [] others w mid last same leads =
      subst (λ (v : World). LeadOn more others v last) (sym same) leads
  LeadOn-append [] more (phase ∷ made) others w mid last none leads = absurd none
  LeadOn-append (Phase items ∷ segments) more (phase ∷ made) others w mid last (is, on) leads = (
    is,
    LeadOn-append segments more made others (left_by header phase.world phase.items phase.histories) mid
        last on leads,
  )
  LeadOn-append (Phase items ∷ segments) more [] others w mid last none leads = absurd none
  LeadOn-append (Between n b ∷ segments) more made others w mid last (of, may, on) leads =
      (of, may, LeadOn-append segments more made others (crossed header b w) mid last on leads)

  -- it is a way of the model, and the phases are those on it
  pub record IsWay (segments : List Segment) (made : List PastPhase) (w last : World) : Type 0 where
    pub way : SegmentsLead header pressure_rule normal_rule segments (histories_in made) w last
    pub phases : phases_on header segments (histories_in made) w last way ≡ made
    pub lawful : All (IsLawful Makes header) made
    pub plain : (before : List PastPhase) → HasPlainTotals header before w
        → AddUpOn header segments (histories_in made) w last way before

  made-same : (w : World) (items : List Item) (phase : PastPhase) → MayBe Makes header w items phase
      → phase_of header w items phase.histories ≡ phase
  made-same w items phase be =
      ap₂ (λ (v : World) (xs : List Item).
      record { world = v; items = xs; facts = phase_facts header w; histories = phase.histories })
      (sym be.from) (sym be.of)
      ∙ ap (λ (facts : PhaseFacts).
      record { world = phase.world; items = phase.items; facts = facts; histories = phase.histories }) (sym be.told)

  lawful-from : (w : World) (items : List Item) (phase : PastPhase) → IsPhaseFrom w items phase
      → IsLawful Makes header phase
  lawful-from w items phase is = record {
    makes = subst (λ (xs : List Item). Makes header phase.world xs phase.histories) (sym is.be.of)
        (subst (λ (v : World). Makes header v items phase.histories) (sym is.be.from) is.be.makes);
    laws = is.laws;
    truth = is.truth;
  }

  module _ (valid : IsHeader header) where
    pub IsWay-led : (segments : List Segment) (made : List PastPhase) (w last : World) → LeadOn segments made w last
        → IsWay segments made w last
    IsWay-led [] [] w last same =
        record { way = same; phases = refl; lawful = All-nil (IsLawful Makes header); plain = λ before has. has }
    IsWay-led [] (phase ∷ made) w last none = absurd none
    IsWay-led (Phase items ∷ segments) [] w last none = absurd none
    IsWay-led (Phase items ∷ segments) (phase ∷ made) w last (is, on) =
        let left : World = left_by header phase.world phase.items phase.histories in
        let later : IsWay segments made left last = IsWay-led segments made left last on in
        record {
          way = (left, is.is, later.way);
          phases = ap₂ (λ (x : PastPhase) (xs : List PastPhase). x ∷ xs) (made-same w items phase is.be) later.phases;
          lawful = All-cons (IsLawful Makes header) phase made (lawful-from w items phase is) later.lawful;
          plain = λ before has. (
            has,
            later.plain (phase_of header w items phase.histories ∷ before)
                (subst (λ (x : PastPhase). HasPlainTotals header (x ∷ before) left)
                (sym (made-same w items phase is.be)) (is.adds before has)),
          );
        }
    IsWay-led (Between n b ∷ segments) made w last (of, may, on) =
        let later : IsWay segments made (crossed header b w) last =
        IsWay-led segments made (crossed header b w) last on in
        record {
          way = (crossed header b w, may, Crosses-crossed header valid b w, later.way);
          phases = later.phases;
          lawful = later.lawful;
          plain = λ before has. (has, later.plain before (HasPlainTotals-crossed header valid before w b of has));
        }

module _ (Makes : Header → World → List Item → TableHistories → Type 0) (knows : Knows Makes) (header : Header) where
  -- the phase that is open is made
  module _ (above : LinesAbove) (kept : Kept) (led : IsLed header above kept) (phase : PastPhase)
      (be : MayBe Makes header kept.world kept.items phase) where
    abbrev start : Start
    start = start_after first_start kept.above

    abbrev left : World
    left = left_by header phase.world phase.items phase.histories

    begins : IsStartOf header start phase.world
    begins = subst (IsStartOf header start) (sym be.from) led.begins

    makes : Makes header phase.world kept.items phase.histories
    makes = subst (λ (v : World). Makes header v kept.items phase.histories) (sym be.from) be.makes

    phase-is : IsWorldPhase header pressure_rule normal_rule phase.world kept.items phase.histories left
    phase-is = subst (λ (xs : List Item). IsWorldPhase header pressure_rule normal_rule phase.world kept.items
        phase.histories (left_by header phase.world xs phase.histories)) (sym be.of)
        (knows.phase header start phase.world kept.items phase.histories begins led.fits makes)

    pub IsPhaseFrom-led : IsPhaseFrom Makes header kept.world kept.items phase
    IsPhaseFrom-led = record {
      be = be;
      is = subst (λ (v : World). IsWorldPhase header pressure_rule normal_rule v kept.items phase.histories left)
          be.from phase-is;
      laws = knows.laws header phase.world kept.items phase.histories left phase-is;
      truth = subst (λ (xs : List Item). LinesAreTrue header pressure_rule normal_rule phase.world xs phase.histories)
          (sym be.of) (knows.truth header start phase.world kept.items phase.histories left led.fits phase-is);
      adds = λ before has.
          subst (λ (x : PastPhase). HasPlainTotals header (x ∷ before)
          (left_by header x.world x.items x.histories)) (made-same Makes header kept.world kept.items phase be)
          (knows.adds header start kept.world kept.items phase.histories led.begins led.fits be.makes before has);
    }

    pub IsStartOf-left : IsStartOf header (start_after first_start above.lines) left
    IsStartOf-left = subst (λ (s : Start). IsStartOf header s left)
        (start_at_end-lines kept.above kept.items ∙ ap (start_after first_start) (sym led.lines))
        (subst (λ (xs : List Item). IsStartOf header (start_at_end start (map line_of kept.items))
        (left_by header phase.world xs phase.histories)) (sym be.of)
        (knows.start header start phase.world kept.items phase.histories begins led.fits makes))

  -- past boundary line n, where the open phase has this outcome if one is open: the phase and the line lead from the
  -- world that was kept to the one that is kept, and the lines fit it
  pub record LeadsPast (n : ℕ) (above : LinesAbove) (kept : Kept) (b : BoundaryOf) (given : Option PastPhase) : Type 0
    where
      pub leads : LeadOn Makes header (phase_if_any kept.items ++ Between n b ∷ []) (at_most_one given) kept.world
          (next_kept header n above (Ok (Boundary b)) given kept).world
      pub is_led : IsLed header (with_judged (Ok (Boundary b)) above) (next_kept header n above (Ok (Boundary b)) given
          kept)

  module _ (n : ℕ) (above : LinesAbove) (b : BoundaryOf) (valid : IsHeader header)
      (judged_is : IsJudgedAfter header above (Ok (Boundary b))) where
    past : (kept : Kept) (given : Option PastPhase)
        → IsStartOf header (start_after first_start above.lines) (world_after header kept.world given)
        → (IsWorldOf header (world_after header kept.world given)
        → MayCross header.layout (world_after header kept.world given).pages b
        → LeadOn Makes header (phase_if_any kept.items ++ Between n b ∷ []) (at_most_one given) kept.world
        (crossed header b (world_after header kept.world given)))
        → LeadsPast n above kept b given
    past kept given is leads = record {
      leads = leads is.world (MayCross-allowed header (start_after first_start above.lines)
          (world_after header kept.world given) is.states b (known-boundary header valid above b judged_is)
          (allowed-boundary header valid above b judged_is));
      is_led = record {
        begins = IsStartOf-past header valid (start_after first_start above.lines)
            (world_after header kept.world given) is b (known-boundary header valid above b judged_is)
            (allowed-boundary header valid above b judged_is);
        fits = Fits-none header (start_after first_start (Boundary b ∷ above.lines));
        lines = refl;
      };
    }

    pub LeadsPast-led : (kept : Kept) (given : Option PastPhase) → IsLed header above kept
        → has_some kept.items ≡ is_some given
        → MayGive (has_some kept.items) (MayBe Makes header kept.world kept.items) given
        → LeadsPast n above kept b given
    LeadsPast-led kept None led ended may = by kept.items refl ended
      where
        by : (items : List Item) → kept.items ≡ items → has_some items ≡ false → LeadsPast n above kept b None
        by [] is same =
            past kept None
            (subst (λ (lines : List Line). IsStartOf header (start_after first_start lines) kept.world)
            (sym (led.lines ∙ ap (λ (xs : List Item). reverse (map line_of xs) ++ kept.above) is)) led.begins)
            (λ of crosses. subst (λ (xs : List Item). LeadOn Makes header (phase_if_any xs ++ Between n b ∷ []) []
            kept.world (crossed header b kept.world)) (sym is) (of, crosses, refl))
        by (item ∷ items) is same = absurd cc
    LeadsPast-led kept (Some phase) led ended may = by kept.items refl ended
      where
        by : (items : List Item) → kept.items ≡ items → has_some items ≡ true
            → LeadsPast n above kept b (Some phase)
        by [] is same = absurd cc
        by (item ∷ items) is same =
            past kept (Some phase) (IsStartOf-left above kept led phase may.1)
            (λ of crosses. subst (λ (xs : List Item). LeadOn Makes header (phase_if_any xs ++ Between n b ∷ [])
            (phase ∷ []) kept.world (crossed header b
            (left_by header phase.world phase.items phase.histories))) (sym is) (
              subst (λ (xs : List Item). IsPhaseFrom Makes header kept.world xs phase) is
                  (IsPhaseFrom-led above kept led phase may.1),
              (of, crosses, refl),
            ))
