-- A key: the name of the tree that it is made of.
use Rattle.std.proofs.Common.{ap, ◌∙◌}
use Rattle.symbol_table.specs.Name.{hash_of}
use Rattle.symbol_table.specs.Contract.{IsName}
use Rattle.symbol_table.specs.declared.name.Key.{Key}

pub is_name : (k : Key) → IsName k.tree.now k.at k.name.hash
is_name k = record { stands = k.stands; is = k.name.is ∙ ap hash_of k.named }
