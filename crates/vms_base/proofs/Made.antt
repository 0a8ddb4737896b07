-- What zones in order make a layout.
use Rattle.std.proofs.Common.{◌≡◌, ℕ, ◌<◌, ◌≤◌, ◌↔◌, ◌∙◌, List, length, get_or, map, Bool, false, arith, inl, inr, sym}
use Rattle.std.specs.Prelude.{IsPermutation, Contains, All, ◌==◌}
use Rattle.std.specs.List.Sorted.{IsStrictlyIncreasing}
use Rattle.std.proofs.lemmas.Bool.Decides.{nat_tests}
use Rattle.std.proofs.lemmas.List.{get_or-map, length-map}
use Rattle.std.proofs.lemmas.List.Elements.{Contains-get_or}
use Rattle.std.proofs.lemmas.List.Sorted.{length_permutation, All-permutation}
use Rattle.vms_base.specs.declared.kinds.ZoneKind.TheVariants.{Dma}
use Rattle.vms_base.specs.declared.kinds.ZoneName.{ZoneName}
use Rattle.vms_base.specs.Common.{rank_of, IsLayout, IsWidth}

pub not_empty : (n : ℕ) (empty : Bool) → empty ≡ (n == 0) → empty ≡ false → 0 < n
not_empty n empty is test = grind (arith, nat_tests)

abbrev node_of : ZoneName → ℕ
node_of zone = zone.node

module _ (given zones : List ZoneName) (nodes : List ℕ) (cpus most positions : ℕ)
    (known : All (λ zone. zone.node ≤ 15) given) (some_zone : 0 < length given) (zones_most : length given ≤ 16)
    (moved : IsPermutation given zones) (up : IsStrictlyIncreasing (map rank_of zones))
    (nodes_up : IsStrictlyIncreasing nodes)
    (named : (node : ℕ) → Contains nodes node ↔ Contains (map node_of zones) node)
    (width : IsWidth positions most) (some_cpu : 1 ≤ cpus) (cpus_most : cpus ≤ most) where
  nodes_most : All (λ node. node ≤ 15) nodes
  nodes_most k d within =
      let found = (named (get_or nodes k d)).0 (Contains-get_or nodes k d within) in
      let any : ZoneName = record { node = 0; kind = Dma } in
      let inside : found.0 < length zones = omega (arith, found.1, length-map zones node_of) in
      let same = sym (get_or-map node_of zones found.0 any (get_or nodes k d) inside) ∙ found.2 in
      rw (← same) (All-permutation (λ zone. zone.node ≤ 15) given zones moved known found.0 any inside)

  pub IsLayout-made : IsLayout (record { zones = zones; nodes = nodes; cpus = cpus; positions = positions })
  IsLayout-made = record {
    some_zone = omega (arith, length_permutation given zones moved);
    zones_most = omega (arith, length_permutation given zones moved);
    zones_ascend = up;
    nodes_ascend = nodes_up;
    nodes_named = named;
    nodes_most = nodes_most;
    cpus_least = some_cpu;
    cpus_most = elim width [ inl w ↦ omega (arith, w.1) | inr w ↦ omega (arith, w.1) ];
    positions = elim width [ inl w ↦ inl w.0 | inr w ↦ inr w.0 ];
    narrow_cpus = λ narrow. elim width [ inl w ↦ omega (arith, w.1) | inr w ↦ absurd (omega (arith, w.0)) ];
  }
