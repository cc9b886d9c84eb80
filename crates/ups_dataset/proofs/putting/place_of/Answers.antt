use Rattle.std.proofs.Common.{nat_lt, rules}
use Rattle.std.proofs.lemmas.List.Sorted.{IsPartitionPoint-from_clause, IsPartitionedBy-ltb}
use Rattle.ups_dataset.specs.Tag.{number}
use Rattle.ups_dataset.proofs.Halves.{number_in, rising, place_point}
use Rattle.ups_dataset.proofs.putting.place_of.Goals as goal

pub returns : goal.returns
returns g c =
    let parted = IsPartitionedBy-ltb (λ e. number_in e) c.args.elements.now (number c.args.tag) (rising 0 c.args.elements.now c.requires) in
    let point = IsPartitionPoint-from_clause (λ e. nat_lt (number_in e) (number c.args.tag)) _ _ c.partition_point.ensures.partitioned parted (λ a r q k. search rules) in
    place_point c.args.tag c.args.elements.now c.partition_point.result c.partition_point.ensures.bound point
