-- For other crates too: a run begins with a world of its header.
use Rattle.std.proofs.Common.{◌≡◌, ℕ, zero, suc, ◌+◌, ◌*◌, ◌^◌, ◌<◌, ◌≤◌, ℤ, pos, unsigned_abs, List, length, map}
use Rattle.std.proofs.Common.{get_or, replicate, None, Option, [], ◌∷◌, refl, sym, ap, ◌∙◌, arith, ⊎_elim, cond}
use Rattle.std.proofs.lemmas.Bool.{cases_lt}
use Rattle.std.proofs.lemmas.Int.{ints}
use Rattle.std.proofs.lemmas.List.{get_or-map, get_or-replicate, get_or_past, length-map, length-replicate}
use Rattle.std.proofs.lemmas.List.Elements.{All-get_or}
use Rattle.std.proofs.lemmas.List.Sums.{sum_by-append}
use Rattle.vms_calls.specs.Common.{Decl, Header, Online, Absent, ZoneSize, is_online, IsHeader, IsValidDecl, Shape}
use Rattle.vms_calls.specs.Common.{IsCpu, IsItem, cell, counter_count, item_count, place_count, GivesThresholds, State}
use Rattle.vms_calls.specs.Common.{cpu_at, diff_at, system_at, IsWithinVolumes, differentials}
use Rattle.vms_history.proofs.Common.{sum_below-zeros}
use Rattle.vms_core.specs.Bases as pages
use Rattle.vms_core.proofs.Common.{get_or-copies, values_of_item-most}
use Rattle.vms_event_core.specs.Bases as events
use Rattle.vms_event_core.specs.Common.{event_count, word_at, sum_of_words}
use Rattle.vms_pcpu_core.specs.Bases as percpu
use Rattle.vms_pcpu_core.specs.Common.{count_at, local_at, locals}
use Rattle.vms_world.specs.declared.worlds.World.{World}
use Rattle.vms_world.specs.Common.{AreAnswers, MayRefresh, count_online, bare_pages, base_of, base_of_item, started}
use Rattle.vms_world.specs.Common.{IsWorldOf, AreVolumes, page_facts, event_facts, pcpu_facts, page_volume}
use Rattle.vms_world.proofs.Answers.{AreThresholds-answers}
use Rattle.vms_world.proofs.ListedReads.{length-listed, get_or-listed}
use Rattle.vms_world.proofs.PlaceThresholds.{AreThresholds}
use Rattle.vms_world.proofs.RefreshedStates.{IsBase-refreshed}

-- all of n CPUs are online
pub count_online-replicate : (n : ℕ) → count_online (replicate n Online) ≡ n
count_online-replicate zero = refl
count_online-replicate (suc n) =
    let more : count_online (replicate (suc n) Online) ≡ 1 + count_online (replicate n Online) =
    sum_by-append (λ x. cond (is_online x) 1 0) (Online ∷ []) (replicate n Online) in
    omega (arith, more, count_online-replicate n)

-- no base is larger than 2^48
pub base_of-most : (header : Header) → IsHeader header → (k : ℕ) → unsigned_abs (base_of header k) ≤ 2 ^ 48
base_of-most header valid k = ⊎_elim
    (λ (within : k < length header.bases).
    All-get_or (λ (base : ℤ). unsigned_abs base ≤ 2 ^ 48) header.bases k (pos 0) within valid.bases_most)
    (λ (past : length header.bases ≤ k). rw (get_or_past header.bases k (pos 0) past) (omega arith))
    (cases_lt k (length header.bases))

-- zeros are volumes
AreVolumes-zeros : (shape : Shape) (width : ℕ) → AreVolumes shape width (replicate (shape.cpus * width) 0)
AreVolumes-zeros shape width = record {
  one_each = length-replicate (shape.cpus * width) 0;
  most = λ c k c_in k_in. rw (get_or-copies {X = ℕ} (shape.cpus * width) (cell width c k) 0) (omega arith);
}

module _ (header : Header) (valid : IsHeader header) where
  abbrev layout : Shape
  layout = header.layout

  abbrev bare : State
  bare = bare_pages header

  first_cpu : IsCpu layout 0
  first_cpu = omega (arith, valid.is_layout.cpus_least)

  pub online-bare : (c : ℕ) → IsCpu layout c → cpu_at bare c ≡ Online
  online-bare c c_in = get_or-replicate layout.cpus c Online Absent c_in

  pub diff-bare : (c k : ℕ) → diff_at bare c k ≡ pos 0
  diff-bare c k = get_or-copies (layout.cpus * counter_count layout) (cell (length header.bases) c k) (pos 0)

  pub system-bare : (i : ℕ) → IsItem layout i → system_at bare i ≡ base_of_item header i
  system-bare i i_in = get_or-listed (base_of_item header) (item_count layout) i (pos 0) i_in

  pub system-most : (i : ℕ) → IsItem layout i → unsigned_abs (system_at bare i) ≤ 2 ^ 52
  system-most i i_in = omega (
    arith,
    ap unsigned_abs (system-bare i i_in),
    values_of_item-most layout valid.is_layout bare i (2 ^ 48) (λ k k_in. base_of-most header valid k),
  )

  pub MayRefresh-bare : MayRefresh layout bare
  MayRefresh-bare = record {
    shaped = record {
      place = valid.bases_length;
      system = length-listed (base_of_item header) (item_count layout);
      diff = length-replicate (layout.cpus * counter_count layout) (pos 0);
      threshold = length-replicate {A = ℕ} (layout.cpus * place_count layout) 0;
      mark = length-replicate {A = ℕ} (length layout.zones) 0;
      cpu = length-replicate layout.cpus Online;
      acknowledged = length-replicate {A = Option ℕ} (layout.cpus * length layout.zones) None;
      threshold_sets = length-replicate {A = ℕ} (layout.cpus * place_count layout) 0;
      mark_sets = length-replicate {A = ℕ} (length layout.zones) 0;
    };
    some_online = (0, first_cpu, online-bare 0 first_cpu);
    values = λ k k_in. let small = base_of-most header valid k in omega arith;
    systems = λ i i_in. let small = system-most i i_in in omega arith;
    diffs = λ c k c_in k_in. rw (diff-bare c k) (omega arith);
    absent = λ c k c_in gone k_in. diff-bare c k;
    thresholds = λ c g c_in g_in. rw (get_or-copies {X = ℕ} (layout.cpus * place_count layout) _ 0) (omega arith);
    unacknowledged = λ c g c_in g_in. get_or-copies {X = Option ℕ} (layout.cpus * length layout.zones) _ None;
    unset_thresholds = λ c g c_in g_in. get_or-copies {X = ℕ} (layout.cpus * place_count layout) _ 0;
    unset_marks = λ g g_in. get_or-copies {X = ℕ} (length layout.zones) g 0;
  }

  abbrev decls : ℕ
  decls = length header.counters

  abbrev no_decl : Decl
  no_decl = record { name = []; batch = 0 }

  batches-long : length (map (λ decl. decl.batch) header.counters) ≡ decls
  batches-long = length-map header.counters (λ decl. decl.batch)

  batch-bounds : (j : ℕ) → j < length (map (λ decl. decl.batch) header.counters)
      → (1 ≤ get_or (map (λ decl. decl.batch) header.counters) j 0)
      × (get_or (map (λ decl. decl.batch) header.counters) j 0 ≤ 65536)
  batch-bounds j j_in =
      let inside : j < decls = omega (arith, batches-long) in
      let known = All-get_or IsValidDecl header.counters j no_decl inside valid.counters_valid in
      rw (get_or-map (λ (decl : Decl). decl.batch) header.counters j no_decl 0 inside)
      (known.batch_least, known.batch_most)

  module _ (zones : List ℕ) (thresholds : AreThresholds layout zones) where
    abbrev w : World
    w = started header zones

    words-zero : (k : ℕ) → sum_of_words layout w.events k ≡ pos 0
    words-zero k = sum_below-zeros (λ c. pos (word_at w.events c k)) layout.cpus
        (λ c c_in. ap pos (get_or-copies {X = ℕ} (layout.cpus * event_count) (cell event_count c k) 0))

    local-zero : (c j : ℕ) → local_at w.counters c j ≡ pos 0
    local-zero c j = get_or-copies (layout.cpus * decls) _ (pos 0)

    count-zero : (j : ℕ) → count_at w.counters j ≡ pos 0
    count-zero j = get_or-copies decls j (pos 0)

    locals-zero : (j : ℕ) → locals layout w.counters j ≡ pos 0
    locals-zero j = sum_below-zeros (λ c. local_at w.counters c j) layout.cpus (λ c c_in. local-zero c j)

    differentials-zero : (k : ℕ) → differentials layout w.pages k ≡ pos 0
    differentials-zero k = sum_below-zeros (λ c. diff_at w.pages c k) layout.cpus (λ c c_in. diff-bare c k)

    page-part : pages.IsBase (page_facts header w)
    page-part = IsBase-refreshed header valid.is_layout valid.sizes_length valid.sizes_valid zones thresholds bare
        MayRefresh-bare

    event-part : events.IsBase (event_facts header w)
    event-part = record {
      layout = valid.is_layout;
      one_state_each = length-replicate layout.cpus Online;
      shaped = length-replicate {A = ℕ} (layout.cpus * event_count) 0;
      some_online = (0, first_cpu, online-bare 0 first_cpu);
      absent = λ c k c_in gone k_in. get_or-copies {X = ℕ} (layout.cpus * event_count) (cell event_count c k) 0;
      sums = λ k k_in. rw (words-zero k) (omega (arith, ints));
    }

    pcpu-part : percpu.IsBase (pcpu_facts header w)
    pcpu-part = record {
      layout = valid.is_layout;
      lengths = record {
        one_state_each = length-replicate layout.cpus Online;
        one_count_each = length-replicate decls (pos 0) ∙ sym batches-long;
        one_local_each = length-replicate (layout.cpus * decls) (pos 0)
            ∙ ap (λ n. layout.cpus * n) (sym batches-long);
      };
      some_online = (0, first_cpu, online-bare 0 first_cpu);
      counters = λ j j_in. record {
        batch_least = (batch-bounds j j_in).0;
        batch_most = (batch-bounds j j_in).1;
        count = rw (count-zero j) (omega arith);
      };
      locals = λ c c_in j j_in. record {
        within = rw (local-zero c j) (omega arith);
        absent = λ gone. local-zero c j;
      };
    }

    pages-part : IsWithinVolumes layout (page_volume header w) w.pages
    pages-part = record {
      totals = λ k k_in. let small = base_of-most header valid k in rw (differentials-zero k) (omega (arith, ints));
      systems = system-bare;
    }

    pub IsWorldOf-started : IsWorldOf header w
    IsWorldOf-started = record {
      page_base = page-part;
      event_base = event-part;
      pcpu_base = pcpu-part;
      batches = refl;
      page_volumes = AreVolumes-zeros layout (counter_count layout);
      event_volumes = AreVolumes-zeros layout event_count;
      pcpu_volumes = AreVolumes-zeros layout decls;
      pages_within = pages-part;
      events_within = λ k k_in. rw (words-zero k) (omega (arith, ints));
      pcpu_within = λ j j_in. rw (count-zero j, locals-zero j) (omega (arith, ints));
    }

  pub IsWorldOf-start : (answers : ZoneSize → ℕ → ℕ → Type 0) → GivesThresholds answers → (zones : List ℕ)
      → AreAnswers header answers layout.cpus zones → IsWorldOf header (started header zones)
  IsWorldOf-start answers gives zones are = IsWorldOf-started zones
      (AreThresholds-answers header valid.sizes_length valid.sizes_valid answers gives layout.cpus
      valid.is_layout.cpus_least valid.is_layout.cpus_most zones are)
