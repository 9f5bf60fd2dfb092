-- The test of the code is the definition's `ValidInstr`.
use mathlib.Core.Path.{◌≡◌}
use mathlib.Core.Bool.{true}
use lib.Dec.{leb, ltb}
use borrow.Author.Tests.{leb-true, ltb-true, le-leb, lt-ltb}
use Rattle.definition.specs.Opcode.{Instr, width, op_last}
use Rattle.definition.specs.Valid.{operand_bound, captures_bound, ValidInstr}
use Rattle.opcode.specs.Encoding.{valid}
use Rattle.definition.proofs.Basic.{both_left, both_right}

-- what passes the test is valid
pub passes : (i : Instr) → valid i ≡ true → ValidInstr i
passes i e =
    let r = both_right (leb i.op op_last) _ e in
    record {
      known = leb-true i.op op_last (both_left (leb i.op op_last) _ e);
      operand = ltb-true i.a _ (both_left (ltb i.a (operand_bound (width i.op))) _ r);
      captures = ltb-true i.b _ (both_right (ltb i.a (operand_bound (width i.op))) _ r);
    }

-- and what is valid passes it
pub passed : {i : Instr} → ValidInstr i → valid i ≡ true
passed {i} v =
    rw (
      le-leb i.op op_last v.known,
      lt-ltb i.a (operand_bound (width i.op)) v.operand,
      lt-ltb i.b (captures_bound (width i.op)) v.captures,
    )
