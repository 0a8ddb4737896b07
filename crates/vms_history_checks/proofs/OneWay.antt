-- A written history of segments goes one way, and its first lists are those of each way.
use Rattle.std.proofs.Common.{◌≡◌, ℕ, ◌≤◌, List, [], ◌∷◌, ◌++◌, length, map, refl, sym, ap, subst, ◌∙◌, arith}
use Rattle.std.specs.Prelude.{reverse}
use Rattle.std.proofs.lemmas.List.{get_or-map, length-map}
use Rattle.vms_base.specs.declared.kinds.CpuState.TheVariants.{Dead, Online as IsOnline}
use Rattle.vms_text.specs.declared.acts.Boundary.{Boundary as BoundaryOf}
use Rattle.vms_text.specs.declared.acts.Boundary.TheVariants.{Online, Sync}
use Rattle.vms_text.specs.declared.acts.Line.TheVariants.{Boundary}
use Rattle.vms_world.specs.Common.{Between, Phase, Segment, AreAnswers, Flush, GivesThresholds, Header, IsHeader}
use Rattle.vms_world.specs.Common.{IsLineOf, Item, Offline, Report, Start, State, ZoneSize, bare_pages, count_online}
use Rattle.vms_world.specs.Common.{facts_of, first_start, flushed_pages, line_of, normal_threshold_of, refreshed}
use Rattle.vms_world.specs.Common.{settled, start_at_end, start_past, with_cpu}
use Rattle.vms_core.specs.Pages.{History, state_after}
use Rattle.vms_written.specs.Common.{CrossesPages, IsWrittenHistory, IsWrittenPhase, LeadsThrough}
use Rattle.vms_written_states.specs.PageStarts.{IsPageStart}
use Rattle.vms_written_states.proofs.Crossings.{IsPageStart-crossed}
use Rattle.vms_written_states.proofs.PhaseEnds.{IsPageStart-first, IsPageStart-left}
use Rattle.vms_history_checks.specs.Bounds.{MayStandInTurn, scripts_of}
use Rattle.vms_history_checks.specs.Leads.{Begins, LeadsOn}
use Rattle.vms_history_checks.specs.Leads.LeadsOn.{between, here, phase}
use Rattle.vms_history_checks.proofs.KernelAnswers.{AreAnswers-exact, AreAnswers-one, IsExact, no_size}
use Rattle.vms_page_crossings.proofs.PageRooms.{MayCross-page, online-least-page, online-most-page}

module _ (header : Header) (valid : IsHeader header) (pressure normal : ZoneSize → ℕ → ℕ → Type 0)
    (gives : GivesThresholds normal) (exact : IsExact normal) where
  -- the thresholds of the zones where so many CPUs are online
  abbrev pub zones-of : ℕ → List ℕ
  zones-of online = map (λ size. normal_threshold_of size online) header.sizes

  pub answers-of : (online : ℕ) → 1 ≤ online → online ≤ 128 → AreAnswers header normal online (zones-of online)
  answers-of online least most = AreAnswers-exact header valid online least most (zones-of online) normal exact
      (record {
        one_each = length-map header.sizes (λ size. normal_threshold_of size online) ∙ valid.sizes_length;
        each = λ g g_in. get_or-map (λ size. normal_threshold_of size online) header.sizes g no_size 0
            (omega (arith, g_in, valid.sizes_length));
      })

  module _ (start : Start) (s : State) (is : IsPageStart header start s) where
    -- a boundary line leads to page counters, and to no others
    pub crossed-once : (b : BoundaryOf) → IsLineOf header (Boundary b) → (next other : State)
        → CrossesPages header normal b s next → CrossesPages header normal b s other → next ≡ other
    crossed-once (Offline c) known next other one two = one ∙ sym two
    crossed-once (Online c) known next other (zones, are, same) (others, other_are, other_same) =
        same
        ∙ ap (λ (zs : List ℕ). refreshed header zs (with_cpu s c.number IsOnline))
        (AreAnswers-one header valid (count_online (with_cpu s c.number IsOnline).cpu)
        (online-least-page header start s is c known) (online-most-page header start s is c known) zones normal exact
        others are other_are)
        ∙ sym other_same
    crossed-once Flush known next other one two = one ∙ sym two
    crossed-once Sync known next other one two = one ∙ sym two
    crossed-once (Report kind) known next other one two = one ∙ sym two

    crossed-some : (b : BoundaryOf) → IsLineOf header (Boundary b) → (next : State)
        × CrossesPages header normal b s next
    crossed-some (Offline c) known = (with_cpu s c.number Dead, refl)
    crossed-some (Online c) known =
        let up = with_cpu s c.number IsOnline in
        let online = count_online up.cpu in (
          refreshed header (zones-of online) up,
          (
            zones-of online,
            answers-of online
                (online-least-page header start s is c known) (online-most-page header start s is c known),
            refl,
          ),
        )
    crossed-some Flush known = (flushed_pages header.layout s, refl)
    crossed-some Sync known = (s, refl)
    crossed-some (Report kind) known = (s, refl)

  abbrev Through : List Segment → List History → State → State → Type 0
  Through = LeadsThrough header pressure normal

  -- what leads through goes on where a way has led
  pub way-on : (segments : List Segment) (hs : List History) (s : State) (left : List Segment) (t : State)
      → LeadsOn header pressure normal segments hs s left t → (start : Start) → IsPageStart header start s
      → MayStandInTurn header start segments → (rest : List History) (last : State)
      → Through segments (hs ++ rest) s last → Through left rest t last
  way-on segments hs s left t (here same at) start begun stands rest last led = led
  way-on segments hs s left t (phase items later h others from to end is way) start begun (some, fits, stands) rest last
      (written, led) =
      way-on later others (settled (state_after (facts_of header s) h)) left t way
      (start_at_end start (map line_of items))
      (IsPageStart-left header pressure normal start s items h begun.volumes begun.is fits is) stands rest last led
  way-on segments hs s left t (between number b later others from next to end may crosses way) start begun
      (known, allowed, stands) rest last (other, may_other, crosses_other, led) =
      way-on later others next left t way (start_past (Boundary b) start)
      (IsPageStart-crossed header normal gives start s next b begun known allowed crosses) stands rest last
      (subst (λ (x : State). Through later (others ++ rest) x last)
      (crossed-once start s begun b known other next crosses_other crosses) led)

  -- and where a way has led and the rest leads through, the whole does
  pub led-on : (segments : List Segment) (hs : List History) (s : State) (left : List Segment) (t : State)
      → LeadsOn header pressure normal segments hs s left t → (rest : List History) (last : State)
      → Through left rest t last → Through segments (hs ++ rest) s last
  led-on segments hs s left t (here same at) rest last led = led
  led-on segments hs s left t (phase items later h others from to end is way) rest last led =
      (is, led-on later others (settled (state_after (facts_of header s) h)) left t way rest last led)
  led-on segments hs s left t (between number b later others from next to end may crosses way) rest last led =
      (next, may, crosses, led-on later others next left t way rest last led)

  -- boundary lines alone lead through
  pub boundaries-lead : (left : List Segment) → scripts_of left ≡ [] → (start : Start) (s : State)
      → IsPageStart header start s → MayStandInTurn header start left → (last : State) × Through left [] s last
  boundaries-lead [] none start s begun stands = (s, refl)
  boundaries-lead (Phase items ∷ left) none start s begun stands = absurd cc
  boundaries-lead (Between number b ∷ left) none start s begun (known, allowed, stands) =
      let crossed = crossed-some start s begun b known in
      let on = boundaries-lead left none (start_past (Boundary b) start) crossed.0
      (IsPageStart-crossed header normal gives start s crossed.0 b begun known allowed crossed.1) stands in
      (on.0, (crossed.0, MayCross-page header start s begun b known allowed, crossed.1, on.1))

  -- there is a list for each phase
  pub length-through : (segments : List Segment) (hs : List History) (s last : State) → Through segments hs s last
      → length hs ≡ length (scripts_of segments)
  length-through [] [] s last led = refl
  length-through [] (h ∷ hs) s last led = absurd led
  length-through (Phase items ∷ segments) [] s last led = absurd led
  length-through (Phase items ∷ segments) (h ∷ hs) s last (is, led) =
      omega (arith, length-through segments hs (settled (state_after (facts_of header s) h)) last led)
  length-through (Between number b ∷ segments) hs s last (next, may, crosses, led) =
      length-through segments hs next last led

  -- in a written history whose first lists these are, the next one is a phase of the lines that begin there
  module _ (segments : List Segment) (stands : MayStandInTurn header first_start segments) where
    module _ (older : List History) (s : State) (items : List Item) (left : List Segment)
        (begins : Begins header pressure normal segments older s items left) (g : History) (newer : List History)
        (is : IsWrittenHistory header pressure normal segments (reverse older ++ g ∷ newer)) where
      pub through-of_history : Through (Phase items ∷ left) (g ∷ newer) s is.last
      through-of_history =
          let same : is.zones ≡ begins.zones =
          AreAnswers-one header valid header.layout.cpus valid.is_layout.cpus_least valid.is_layout.cpus_most is.zones
          normal exact begins.zones is.answers begins.answers in
          way-on segments (reverse older) (refreshed header begins.zones (bare_pages header)) (Phase items ∷ left) s
          begins.leads first_start (IsPageStart-first header valid normal gives begins.zones begins.answers) stands
          (g ∷ newer) is.last
          (subst (λ (zones : List ℕ). Through segments (reverse older ++ g ∷ newer)
          (refreshed header zones (bare_pages header)) is.last) same is.leads)

      pub phase-of_history : IsWrittenPhase header pressure normal s items g
      phase-of_history = through-of_history.0
