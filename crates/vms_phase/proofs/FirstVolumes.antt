-- The volumes of a CPU with which its passes may begin.
use Rattle.std.proofs.Common.{◌≡◌, ℕ, suc, ◌+◌, ◌*◌, ◌<◌, ◌≤◌, List, length, get_or, sym, ap, subst, ◌∙◌, arith}
use Rattle.std.proofs.Math.Nat.{mul-le-mul_right}
use Rattle.vms_world.specs.Common.{Header, CpuId, Shape, counter_count, Facts, event_count, Lane, Cpu, IsWorldOf}
use Rattle.vms_world.specs.Common.{volume_in}
use Rattle.vms_event.specs.Common.{HoldsSpending}
use Rattle.vms_pcpu.specs.IdlePasses as pcpu_passes
use Rattle.vms_words.specs.PagePasses as page_passes
use Rattle.vms_tables.specs.declared.passes.CpuPasses.{CpuPasses}
use Rattle.vms_tables.specs.declared.tables.Tables.{Tables}
use Rattle.vms_tables.specs.Common.{TablePasses, AreTables}
use Rattle.vms_world.specs.declared.worlds.World.{World}
use Rattle.vms_phase.specs.Common.{HaveVolumesOf, MayBeginLane}
use Rattle.vms_phase.proofs.FreshCpus.{counters-fresh, events-fresh, pages-fresh}

-- a CPU's volumes stand in the row of all
pub row-within : (c cpus width n : ℕ) → c < cpus → n ≡ cpus * width → c * width + width ≤ n
row-within c cpus width n c_in each =
    let most : suc c * width ≤ cpus * width = mul-le-mul_right {m = suc c} {n = cpus} width c_in in
    omega (arith, most, each)

module _ (header : Header) (tables : Tables) (w : World) (world : IsWorldOf header w) (are : AreTables header tables)
    (lanes : List Lane) (c : CpuId) (mains : TablePasses) (may : MayBeginLane header tables lanes (Cpu c) mains)
    (volume : List ℕ) where
  pub page-volume : length volume ≡ counter_count header.layout
      → ((k : ℕ) → k < counter_count header.layout
      → get_or volume k 0 ≡ volume_in w.volumes.pages (counter_count header.layout) c.number k)
      → page_passes.HoldsSpending tables.pages.facts.layout mains.pages.seen c.number volume
  page-volume each same =
      subst (λ (shape : Shape). page_passes.HoldsSpending shape mains.pages.seen c.number volume)
      (sym (ap (λ (facts : Facts). facts.layout) are.pages)) (record {
        one_each = each;
        spent_within = λ k k_in.
            omega (arith, pages-fresh lanes c may.once may.apart mains.pages may.begun.pages k);
        most = λ k k_in.
            omega (arith, same k k_in, world.page_volumes.most c.number k may.online.0 k_in);
      })

  pub event-volume : length volume ≡ event_count → HoldsSpending mains.events.seen c.number volume
  event-volume each = record {
    one_each = each;
    spent_within = λ k k_in. omega (arith, events-fresh lanes c may.once may.apart mains.events may.begun.events k);
  }

  pub counter-volume : length volume ≡ length header.counters
      → pcpu_passes.HoldsSpending mains.counters.facts mains.counters.seen c.number volume
  counter-volume each = record {
    one_each = omega (arith, each, are.declared, ap (λ facts. length facts.base.batch) may.of.counters.facts);
    spent_within = λ j j_in.
        omega (arith, counters-fresh lanes c may.once may.apart mains.counters may.begun.counters j);
  }

-- passes that began with the volumes of a CPU have them
pub HaveVolumesOf-read : (header : Header) (w : World) (c counters declared : ℕ)
    → counters ≡ counter_count header.layout → declared ≡ length header.counters → (passes : CpuPasses)
    → (pages events locals : List ℕ) → passes.page.volume ≡ pages → passes.event.volume ≡ events
    → passes.pcpu.volume ≡ locals → length pages ≡ counters → length events ≡ event_count → length locals ≡ declared
    → ((k : ℕ) → k < counters → get_or pages k 0 ≡ volume_in w.volumes.pages counters c k)
    → ((k : ℕ) → k < event_count → get_or events k 0 ≡ volume_in w.volumes.events event_count c k)
    → ((j : ℕ) → j < declared → get_or locals j 0 ≡ volume_in w.volumes.counters declared c j)
    → HaveVolumesOf header w c passes
HaveVolumesOf-read header w c counters declared many all passes pages events locals page event pcpu page_len event_len
    pcpu_len page_is event_is pcpu_is = record {
      pages_each = ap length page ∙ page_len ∙ many;
      pages = subst (λ (v : List ℕ). (k : ℕ) → k < counter_count header.layout →
          get_or v k 0 ≡ volume_in w.volumes.pages (counter_count header.layout) c k) (sym page)
          (subst (λ (n : ℕ). (k : ℕ) → k < n → get_or pages k 0 ≡ volume_in w.volumes.pages n c k) many page_is);
      events_each = ap length event ∙ event_len;
      events = subst (λ (v : List ℕ). (k : ℕ) → k < event_count →
          get_or v k 0 ≡ volume_in w.volumes.events event_count c k) (sym event) event_is;
      counters_each = ap length pcpu ∙ pcpu_len ∙ all;
      counters = subst (λ (v : List ℕ). (j : ℕ) → j < length header.counters →
          get_or v j 0 ≡ volume_in w.volumes.counters (length header.counters) c j) (sym pcpu)
          (subst (λ (n : ℕ). (j : ℕ) → j < n → get_or locals j 0 ≡ volume_in w.volumes.counters n c j) all pcpu_is);
    }
