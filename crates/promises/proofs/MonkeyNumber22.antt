-- Number 22 of the exported compile call: the number's halves are 22 and the place exactly when the walk comes to the end of a branch
-- without a value there.
use Prim.Native.Nat.{ℕ}
use mathlib.Core.Bool.{true}
use mathlib.Core.Logic.{◌↔◌}
use mathlib.Core.Path.{◌≡◌, refl}
use lib.ListN.{take}
use Rattle.definition.specs.Basic.{Bytes}
use Rattle.definition.specs.Limit.{session_size}
use Rattle.definition.specs.Number
use Rattle.definition.specs.Number.{refusal}
use Rattle.definition.specs.Syntax.{Stmts}
use Rattle.definition.specs.Tree.{Parsed, read_tree}
use Rattle.definition.specs.Session.{Session}
use Rattle.definition.specs.Decode.{decoded, read_session}
use Rattle.definition.specs.Compile.{start, enough}
use Rattle.definition.specs.Call.{Lent, request, call}
use Rattle.definition.specs.Valid.{AreBytes}
use Rattle.compiler.proofs.Conditions.{compile_condition_2}
use Rattle.exported.specs.Packed.{CompilesPacked}
use Rattle.promises.specs.Branch.{NoValueAt}
use Rattle.promises.specs.Monkey.{Refuses}
use Rattle.promises.proofs.MonkeyNumbers.{refused_halves, both_ways}
use Rattle.promises.proofs.Number22.{number_22}

-- with buffers that are long enough, a session z and a tree that reads
pub monkey_number_22 : {tree : Bytes} {l l' : Lent} {r : ℕ} → AreBytes (take session_size l.session) → CompilesPacked tree l r l'
    → enough (request l tree) ≡ true
    → {z : Session} {k : ℕ} → read_session (take session_size l.session) ≡ decoded z k → {b : Stmts} {n : ℕ} → read_tree tree ≡ Parsed.parsed b n → (p : ℕ) → Refuses r Number.no_value p ↔ NoValueAt p b (start z)
monkey_number_22 {tree} {l} a c big {z} {k} s t p =
    let exact = ((compile_condition_2 tree l (call tree l).answer (call tree l).lent a (record { answer = refl; lent = refl })).within z k big s).refused (refusal Number.no_value p) in
    both_ways (refused_halves Number.no_value p c.answer) (both_ways (exact.1, exact.0) (number_22 z (request l tree) big t p))
