-- Nodes that a layout lacks.
use Rattle.std.proofs.Common.{ℕ, ◌≡◌, ◌≢◌, ◌==◌, ◌+◌, false, None, subst, ap, arith, length, option_map, map, get_or}
use Rattle.std.proofs.lemmas.Bool.{ne_eqb}
use Rattle.std.proofs.lemmas.List.{get_or-map, length-map}
use Rattle.std.proofs.lemmas.List.Elements.{All-contains, Contains-get_or}
use Rattle.std.specs.List.{All, Contains}
use Rattle.vms_base.specs.declared.kinds.ZoneKind.{ZoneKind}
use Rattle.vms_base.specs.declared.kinds.ZoneName.{ZoneName}
use Rattle.vms_base.specs.Common.{IsLayout, Shape, node_place, rank_of, zone_place}
use Rattle.vms_base.proofs.Common.{rank_of-injective}
use Rattle.vms_text.proofs.NameLookups.{position-nowhere}

pub node_place-absent : (shape : Shape) (node : ℕ) → All (λ number. number ≢ node) shape.nodes
    → node_place shape node ≡ None
node_place-absent shape node absent =
    ap (option_map (λ index. length shape.zones + index))
    (position-nowhere (λ number. number == node) shape.nodes
    (λ k d below. ne_eqb (get_or shape.nodes k d) node (absent k d below)))

pub zone_place-absent : (shape : Shape) (node : ℕ) (kind : ZoneKind) → IsLayout shape
    → All (λ number. number ≢ node) shape.nodes → zone_place shape (record { node = node; kind = kind }) ≡ None
zone_place-absent shape node kind layout absent =
    position-nowhere (λ zone. rank_of zone == rank_of name) shape.zones other
  where
    name : ZoneName
    name = record { node = node; kind = kind }

    other : All (λ zone. rank_of zone == rank_of name ≡ false) shape.zones
    other k d below =
        ne_eqb (rank_of zone) (rank_of name)
        (λ same. absent_zone (ap (λ one. one.node) (rank_of-injective zone name same)))
      where
        zone : ZoneName
        zone = get_or shape.zones k d

        listed : Contains (map (λ one. one.node) shape.zones) zone.node
        listed =
            subst (Contains (map (λ one. one.node) shape.zones))
            (get_or-map (λ one. one.node) shape.zones k d d.node below)
            (Contains-get_or (map (λ one. one.node) shape.zones) k d.node
            (omega (arith, length-map shape.zones (λ one. one.node))))

        absent_zone : zone.node ≢ node
        absent_zone =
            All-contains (λ number. number ≢ node) shape.nodes zone.node absent
            ((layout.nodes_named zone.node).1 listed)
