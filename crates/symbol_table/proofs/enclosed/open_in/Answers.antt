-- `symbol_table::enclosed::open_in` meets its contract.
use native.Mathlib.Omega.{arith}
use Rattle.symbol_table.proofs.Keys.{is_name}
use Rattle.symbol_table.proofs.Tables.{entered_good, entered_none}
use Rattle.symbol_table.proofs.Defining.{opened}
use Rattle.symbol_table.proofs.enclosed.open_in.Goals as goal

pub define_params-requires : goal.define_params-requires
define_params-requires c =
    let s = c in
    let e = c.enter_in.ensures in
    let r = s.args.part.now in
    let k = s.args.key.now in
    let b = c.new.ensures in
    record {
      tree_len_bound = rw b.bytes s.requires.tree_len_bound;
      good_table = rw (b.bytes, e) (entered_good _ _ _ (omega arith) k.stands r s.requires.part_len (is_name k).is);
      none = rw e (entered_none k.tree.now k.at _ (omega arith) k.stands r s.requires.part_len);
      params = rw (b.bytes, b.at, b.end) s.requires.params;
    }

pub returns : goal.returns
returns c h =
    let b = c.new.ensures in
    opened _ _ _ _ _ _ _ c.requires.part_len c.args.key.now.within c.args.key.now.stands c.enter_in.ensures ((rw (b.bytes, b.at, b.end) at c.define_params.ensures) h)
