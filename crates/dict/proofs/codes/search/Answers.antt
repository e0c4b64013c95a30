use Rattle.std.proofs.Common.{ℕ, ltb, rules}
use Rattle.std.proofs.lemmas.List.Sorted.{IsPartitionedBy-ltb, IsPartitionPoint-from_clause}
use Rattle.column.specs.Kinds.{key, number_of}
use Rattle.dict.proofs.PlaceLaws.{rises, at-point}
use Rattle.dict.proofs.codes.search.Goals as goal

pub returns : goal.returns
returns c =
    let k = number_of c.args.kind in
    let v = c.args.value in
    let ds = c.args.distinct.now in
    let before = λ (y : ℕ). ltb (key k y) (key k v) in
    at-point k v ds c.partition_point.result c.requires.ascends c.requires.known
    (IsPartitionPoint-from_clause before ds c.partition_point.result c.partition_point.ensures.partitioned
    (IsPartitionedBy-ltb (key k) ds (key k v) (rises k ds c.requires.ascends)) (λ a r f g. search rules))
