-- What stands in each place after one part of a call and then another.
use Rattle.std.proofs.Common.{◌≡◌, ◌≢◌, ℕ, suc, ◌+◌, ◌<◌, ◌≤◌, ◌&&◌, nat_eq, max, if◌then◌else◌, true, false, List}
use Rattle.std.proofs.Common.{get_or, length, Option, None, refl, sym, ap, ◌∙◌, arith, subst, ⊎_elim}
use Rattle.std.proofs.lemmas.Bool.{cases_eq, ne_eqb}
use Rattle.vms_calls.specs.Common.{ByNormal, Choice, CpuState, Header, IsCpu, IsNode, IsPlace, IsZone, Shape, State}
use Rattle.vms_calls.specs.Common.{HasShape, ZoneSize, acknowledged_at, largest_on, node_number, cell, count_below}
use Rattle.vms_calls.specs.Common.{cover_mark_of, cpu_at, if_present, is_number, is_online, is_spared, linux_mark_of}
use Rattle.vms_calls.specs.Common.{mark_at, mark_sets_at, node_of_zone, size_at, threshold_at, threshold_sets_at}
use Rattle.vms_calls.specs.declared.choices.Rating.{Rating}
use Rattle.vms_calls.specs.declared.choices.Rating.TheVariants.{Pressure, Normal, Refresh}
use Rattle.vms_history.proofs.Common.{count_below-same}
use Rattle.vms_plain_control.specs.Common.{GetsThreshold, KeepsMark, KeepsThresholds, KeepsZone, RatesZone}
use Rattle.vms_plain_control.specs.Common.{RefreshesPlaces, RatesZoneOn, SetsOnly, SparesZone, VisitsZone, mark_given}
use Rattle.vms_plain_control.specs.Common.{online_in, peak_found, peak_given, peak_in}

pub KeepsThresholds-none : (shape : Shape) (g : ℕ) (s : State) → KeepsThresholds shape g s s
KeepsThresholds-none shape g s = record { pages = λ c c_in. refl; numbers = λ c c_in. refl }

pub KeepsMark-none : (g : ℕ) (s : State) → KeepsMark g s s
KeepsMark-none g s = record { pages = refl; number = refl }

pub KeepsZone-none : (shape : Shape) (g : ℕ) (s : State) (peaks : List ℕ) → KeepsZone shape g s peaks s peaks
KeepsZone-none shape g s peaks = record {
  thresholds = KeepsThresholds-none shape g s;
  mark = KeepsMark-none g s;
  peaks_stay = λ c c_in. refl;
}

module _ (shape : Shape) (g : ℕ) (s mid next : State) where
  pub KeepsThresholds-both : KeepsThresholds shape g s mid → KeepsThresholds shape g mid next
      → KeepsThresholds shape g s next
  KeepsThresholds-both first second = record {
    pages = λ c c_in. second.pages c c_in ∙ first.pages c c_in;
    numbers = λ c c_in. second.numbers c c_in ∙ first.numbers c c_in;
  }

  pub KeepsMark-both : KeepsMark g s mid → KeepsMark g mid next → KeepsMark g s next
  KeepsMark-both first second = record {
    pages = second.pages ∙ first.pages;
    number = second.number ∙ first.number;
  }

  pub GetsThreshold-later : (t : ℕ) → mid.cpu ≡ s.cpu → KeepsThresholds shape g s mid
      → GetsThreshold shape g t mid next
      → GetsThreshold shape g t s next
  GetsThreshold-later t cpus first second = record {
    pages = λ c c_in. second.pages c c_in
        ∙ ap (λ (xs : List CpuState). if is_online (cpu_at (record s { cpu = xs }) c) then t else threshold_at mid c g)
        cpus
        ∙ ap (λ n. if is_online (cpu_at s c) then t else n) (first.pages c c_in);
    numbers = λ c c_in. second.numbers c c_in
        ∙ ap (λ (xs : List CpuState). if is_online (cpu_at (record s { cpu = xs }) c)
        then suc (threshold_sets_at mid c g)
        else threshold_sets_at mid c g) cpus
        ∙ ap (λ n. if is_online (cpu_at s c) then suc n else n) (first.numbers c c_in);
  }

  pub GetsThreshold-stays : (t : ℕ) → GetsThreshold shape g t s mid → KeepsThresholds shape g mid next
      → GetsThreshold shape g t s next
  GetsThreshold-stays t first second = record {
    pages = λ c c_in. second.pages c c_in ∙ first.pages c c_in;
    numbers = λ c c_in. second.numbers c c_in ∙ first.numbers c c_in;
  }

  module _ (peaks some known : List ℕ) where
    pub KeepsZone-both : KeepsZone shape g s peaks mid some → KeepsZone shape g mid some next known
        → KeepsZone shape g s peaks next known
    KeepsZone-both first second = record {
      thresholds = KeepsThresholds-both first.thresholds second.thresholds;
      mark = KeepsMark-both first.mark second.mark;
      peaks_stay = λ c c_in. second.peaks_stay c c_in ∙ first.peaks_stay c c_in;
    }

    pub SparesZone-stays : SparesZone shape g s peaks mid some → KeepsZone shape g mid some next known
        → SparesZone shape g s peaks next known
    SparesZone-stays first second = record {
      thresholds = KeepsThresholds-both first.thresholds second.thresholds;
      mark = KeepsMark-both first.mark second.mark;
      peaks_found = λ c c_in. second.peaks_stay c c_in ∙ first.peaks_found c c_in;
    }

-- what was done stays
module _ (header : Header) (Chooses : Choice) (g : ℕ) (s mid next : State) (peaks some known : List ℕ)
    (stays : KeepsZone header.layout g mid some next known) where
  pub RatesZone-stays : (t : ℕ) → RatesZone header Chooses g t s peaks mid some
      → RatesZone header Chooses g t s peaks next known
  RatesZone-stays t first = record {
    usual = first.usual;
    chosen = first.chosen;
    thresholds = GetsThreshold-stays header.layout g s mid next t first.thresholds stays.thresholds;
    mark = record {
      pages = stays.mark.pages ∙ first.mark.pages;
      number = stays.mark.number ∙ first.mark.number;
    };
    peaks_given = λ c c_in. stays.peaks_stay c c_in ∙ first.peaks_given c c_in;
  }

  pub RatesZoneOn-stays : (node : ℕ) → RatesZoneOn header Chooses node g s peaks mid some
      → RatesZoneOn header Chooses node g s peaks next known
  RatesZoneOn-stays node first = record {
    rated = λ on has. let one = first.rated on has in (one.0, RatesZone-stays one.0 one.1);
    spared = λ on none. SparesZone-stays header.layout g s mid next peaks some known (first.spared on none) stays;
    elsewhere = λ off. KeepsZone-both header.layout g s mid next peaks some known (first.elsewhere off) stays;
  }

-- what was kept before is done
module _ (header : Header) (g : ℕ) (s mid : State) (peaks some : List ℕ) (rest : SetsOnly s mid)
    (shaped : HasShape header.layout s) (shaped_mid : HasShape header.layout mid)
    (kept : KeepsZone header.layout g s peaks mid some) where
  abbrev shape : Shape
  shape = header.layout

  same-cpu : (c : ℕ) → cpu_at mid c ≡ cpu_at s c
  same-cpu c = ap (λ (x : State). cpu_at x c) rest

  same-acknowledged : (c : ℕ) → acknowledged_at mid c g ≡ acknowledged_at s c g
  same-acknowledged c = ap (λ (x : State). acknowledged_at x c g) rest
      ∙ ap (λ (n : ℕ). get_or s.acknowledged (cell n c g) None) (shaped_mid.mark ∙ sym shaped.mark)

  same-found : (c : ℕ) → IsCpu shape c → peak_found shape mid some c g ≡ peak_found shape s peaks c g
  same-found c c_in =
      ap (λ (x : CpuState). if is_online x && is_number (acknowledged_at mid c g) (threshold_sets_at mid c g)
      then threshold_at mid c g
      else peak_in shape some c g) (same-cpu c)
      ∙ ap (λ (a : Option ℕ). if is_online (cpu_at s c) && is_number a (threshold_sets_at mid c g)
      then threshold_at mid c g
      else peak_in shape some c g) (same-acknowledged c)
      ∙ ap (λ (n : ℕ). if is_online (cpu_at s c) && is_number (acknowledged_at s c g) n
      then threshold_at mid c g
      else peak_in shape some c g) (kept.thresholds.numbers c c_in)
      ∙ ap (λ (t : ℕ). if is_online (cpu_at s c) && is_number (acknowledged_at s c g) (threshold_sets_at s c g)
      then t
      else peak_in shape some c g) (kept.thresholds.pages c c_in)
      ∙ ap (λ (p : ℕ). if is_online (cpu_at s c) && is_number (acknowledged_at s c g) (threshold_sets_at s c g)
      then threshold_at s c g
      else p) (kept.peaks_stay c c_in)

  same-given : (t c : ℕ) → IsCpu shape c → peak_given shape mid some t c g ≡ peak_given shape s peaks t c g
  same-given t c c_in =
      ap (λ (x : CpuState). if is_online x
      then max t (peak_found shape mid some c g)
      else peak_found shape mid some c g) (same-cpu c)
      ∙ ap (λ (n : ℕ). if is_online (cpu_at s c) then max t n else n) (same-found c c_in)

  same-online : length (online_in mid) ≡ length (online_in s)
  same-online = ap (λ (x : State). length (online_in x)) rest

  same-mark : (usual t : ℕ) → mark_given header g usual t mid some ≡ mark_given header g usual t s peaks
  same-mark usual t =
      ap (λ (n : ℕ). cover_mark_of (size_at header.sizes g) (linux_mark_of (size_at header.sizes g) n usual)
      (count_below (λ c. if_present (cpu_at mid c) (peak_given shape mid some t c g)) shape.cpus)) same-online
      ∙ ap (cover_mark_of (size_at header.sizes g)
      (linux_mark_of (size_at header.sizes g) (length (online_in s)) usual))
      (count_below-same (λ c. if_present (cpu_at mid c) (peak_given shape mid some t c g))
      (λ c. if_present (cpu_at s c) (peak_given shape s peaks t c g)) shape.cpus
      (λ c c_in. ap (λ (x : CpuState). if_present x (peak_given shape mid some t c g)) (same-cpu c)
      ∙ ap (if_present (cpu_at s c)) (same-given t c c_in)))

  module _ (next : State) (known : List ℕ) where
    pub SparesZone-later : SparesZone shape g mid some next known → SparesZone shape g s peaks next known
    SparesZone-later second = record {
      thresholds = KeepsThresholds-both shape g s mid next kept.thresholds second.thresholds;
      mark = KeepsMark-both shape g s mid next kept.mark second.mark;
      peaks_found = λ c c_in. second.peaks_found c c_in ∙ same-found c c_in;
    }

    pub RatesZone-later : (Chooses : Choice) (t : ℕ) → RatesZone header Chooses g t mid some next known
        → RatesZone header Chooses g t s peaks next known
    RatesZone-later Chooses t second = record {
      usual = second.usual;
      chosen = subst (λ (n : ℕ). Chooses (size_at header.sizes g) n t second.usual) same-online second.chosen;
      thresholds = GetsThreshold-later shape g s mid next t (ap (λ (x : State). x.cpu) rest) kept.thresholds
          second.thresholds;
      mark = record {
        pages = second.mark.pages ∙ same-mark second.usual t;
        number = second.mark.number
            ∙ ap (λ (m : ℕ). if nat_eq m (mark_at mid g) then mark_sets_at mid g else suc (mark_sets_at mid g))
            (same-mark second.usual t)
            ∙ ap (λ (m : ℕ). if nat_eq (mark_given header g second.usual t s peaks) m
            then mark_sets_at mid g
            else suc (mark_sets_at mid g)) kept.mark.pages
            ∙ ap (λ (n : ℕ). if nat_eq (mark_given header g second.usual t s peaks) (mark_at s g) then n else suc n)
            kept.mark.number;
      };
      peaks_given = λ c c_in. second.peaks_given c c_in ∙ same-given t c c_in;
    }

-- which ratings spare a zone
pub spared-is : (rating : Rating) (m : ℕ) → rating ≢ Refresh → m ≡ 0 → is_spared rating m ≡ true
spared-is Pressure m other none = rw none refl
spared-is Normal m other none = rw none refl
spared-is Refresh m other none = absurd (other refl)

pub rated-is : (rating : Rating) (m : ℕ) → m ≢ 0 → is_spared rating m ≡ false
rated-is Pressure m has = ne_eqb m 0 has
rated-is Normal m has = ne_eqb m 0 has
rated-is Refresh m has = refl

-- a zone more is visited, after those below it
module _ (header : Header) (Chooses : Choice) (n : ℕ) (s now next : State) (peaks some known : List ℕ)
    (left : (g : ℕ) → n ≤ g → IsZone header.layout g → KeepsZone header.layout g s peaks now some)
    (others : (g : ℕ) → IsZone header.layout g → g ≢ n → KeepsZone header.layout g now some next known) where
  pub left-more : (g : ℕ) → n + 1 ≤ g → IsZone header.layout g → KeepsZone header.layout g s peaks next known
  left-more g past zone = KeepsZone-both header.layout g s now next peaks some known (left g (omega arith) zone)
      (others g zone (λ same. omega arith))

  pub zones-more : (node : ℕ) → (zone : IsZone header.layout n)
      → ((g : ℕ) → g < n → RatesZoneOn header Chooses node g s peaks now some)
      → RatesZoneOn header Chooses node n s peaks next known
      → (g : ℕ) → g < n + 1 → RatesZoneOn header Chooses node g s peaks next known
  zones-more node zone zones last g below = ⊎_elim
      (λ (is : g ≡ n). subst (λ (m : ℕ). RatesZoneOn header Chooses node m s peaks next known) (sym is) last)
      (λ (other : g ≢ n). RatesZoneOn-stays header Chooses g s now next peaks some known (others g (omega arith) other)
      node (zones g (omega arith)))
      (cases_eq g n)

-- a zone of the node is visited, and another is not
pub visited-on : (header : Header) (Chooses : Choice) (n node : ℕ) → (zone : IsZone header.layout n)
    → (s now next : State) (peaks some known : List ℕ) → SetsOnly s now → HasShape header.layout s
    → HasShape header.layout now → KeepsZone header.layout n s peaks now some → (rating : Rating) (t : ℕ)
    → rating ≢ Refresh → node_of_zone header.layout n ≡ node
    → VisitsZone header Chooses (is_spared rating (mark_at now n)) n t now some next known
    → RatesZoneOn header Chooses node n s peaks next known
visited-on header Chooses n node zone s now next peaks some known rest shaped shaped_now kept rating t other on visit =
    record {
      rated = λ same has. (
        t,
        RatesZone-later header n s now peaks some rest shaped shaped_now kept next known Chooses t
            (visit.rated (rated-is rating (mark_at now n) (λ none. has (sym kept.mark.pages ∙ none)))),
      );
      spared = λ same none. SparesZone-later header n s now peaks some rest shaped shaped_now kept next known
          (visit.spared (spared-is rating (mark_at now n) other (kept.mark.pages ∙ none)));
      elsewhere = λ off. absurd (off on);
    }

pub unvisited-off : (header : Header) (Chooses : Choice) (n node : ℕ) (s now : State) (peaks some : List ℕ)
    → node_of_zone header.layout n ≢ node → KeepsZone header.layout n s peaks now some
    → RatesZoneOn header Chooses node n s peaks now some
unvisited-off header Chooses n node s now peaks some off kept = record {
  rated = λ same has. absurd (off same);
  spared = λ same none. absurd (off same);
  elsewhere = λ other. kept;
}

-- a node more gets a threshold, after those before it
module _ (shape : Shape) (n t : ℕ) (s now next : State) (cpus : now.cpu ≡ s.cpu) (T : ℕ → ℕ) (is : T n ≡ t)
    (gives : GetsThreshold shape n t now next)
    (others : (f : ℕ) → IsPlace shape f → f ≢ n → KeepsThresholds shape f now next)
    (left : (f : ℕ) → IsNode shape f → n ≤ f → KeepsThresholds shape f s now) where
  pub nodes-left : (f : ℕ) → IsNode shape f → n + 1 ≤ f → KeepsThresholds shape f s next
  nodes-left f node past = KeepsThresholds-both shape f s now next (left f node (omega arith))
      (others f node.1 (λ same. omega arith))

  pub nodes-more : ((f : ℕ) → IsNode shape f → f < n → GetsThreshold shape f (T f) s now)
      → (f : ℕ) → IsNode shape f → f < n + 1 → GetsThreshold shape f (T f) s next
  nodes-more nodes f node below = ⊎_elim
      (λ (same : f ≡ n).
      subst (λ (u : ℕ). GetsThreshold shape f u s next) (sym (ap T same ∙ is))
      (GetsThreshold-later shape f s now next t cpus (left f node (omega arith))
      (subst (λ (m : ℕ). GetsThreshold shape m t now next) (sym same) gives)))
      (λ (other : f ≢ n). GetsThreshold-stays shape f s now next (T f) (nodes f node (omega arith))
      (others f node.1 other))
      (cases_eq f n)

-- the zones were visited, and then the nodes got theirs
pub refreshed-places : (header : Header) (normal : ZoneSize → ℕ → ℕ → Type 0) (s mid next : State)
    → (peaks known ts : List ℕ) → length ts ≡ length header.layout.zones → SetsOnly s mid
    → ((g : ℕ) → IsZone header.layout g
    → RatesZone header (ByNormal normal) g (get_or ts g 0) s peaks mid known)
    → ((f : ℕ) → IsNode header.layout f → KeepsThresholds header.layout f s mid)
    → ((g : ℕ) → IsZone header.layout g → KeepsThresholds header.layout g mid next)
    → ((g : ℕ) → KeepsMark g mid next)
    → ((f : ℕ) → IsNode header.layout f → GetsThreshold header.layout f
    (largest_on header.layout ts (node_number header.layout (record { number = f }))) mid next)
    → RefreshesPlaces header normal s peaks next known
refreshed-places header normal s mid next peaks known ts one_each rest zones nodes kept marks gives = record {
  thresholds = ts;
  one_each = one_each;
  zones = λ g zone. RatesZone-stays header (ByNormal normal) g s mid next peaks known known
      (record { thresholds = kept g zone; mark = marks g; peaks_stay = λ c c_in. refl }) (get_or ts g 0) (zones g zone);
  nodes = λ f node. GetsThreshold-later header.layout f s mid next
      (largest_on header.layout ts (node_number header.layout (record { number = f })))
      (ap (λ (x : State). x.cpu) rest) (nodes f node) (gives f node);
}
