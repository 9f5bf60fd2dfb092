-- The whole tree: what is written to the output.
use Rattle.std.proofs.Common.{◌≡◌, ℕ, ◌<◌, ◌≤◌, ◌++◌, length, take, drop, sym, ap, ◌∙◌, take_at}
use Rattle.definition.specs.Basic.{Bytes}
use Rattle.definition.specs.Number.{refusal, output_short}
use Rattle.definition.specs.Output.{output_answer, output_after}
use Rattle.std.specs.Prelude.{Ok, Err}
use Rattle.opcode.proofs.Encoding.{placing, refusing}
use Rattle.definition.specs.Node.{written}
use Rattle.load.specs.Load.{program, tree_of}
use Rattle.load.specs.Writing.{Wrote}
use Rattle.load.proofs.Parts.{written-size}

tree_length : (seed : ℕ) {n t : ℕ} {b after : Bytes} → Wrote (program seed) n t b after → length (tree_of seed) ≡ n
unfolding tree_of
tree_length seed w = written-size (program seed).value ∙ sym w.len

tree_taken : (seed : ℕ) {n t : ℕ} {b tree : Bytes} → Wrote (program seed) n t b tree → take n tree ≡ tree_of seed
unfolding tree_of
tree_taken seed {n} {b = b} w =
    let c = written (program seed).value in
    ap (take n) w.bytes ∙ take_at c (drop (length c) b) n (tree_length seed w)

-- the output where the tree does not fit, and where it does
pub tree_refused : (seed : ℕ) (out : Bytes) {n t : ℕ} {b tree : Bytes} → Wrote (program seed) n t b tree → length out < n
    → (Err (refusal output_short 0) ≡ output_answer (tree_of seed) (length out)) × (out ≡ output_after (tree_of seed) out)
tree_refused seed out {n = n} w h = refusing (tree_of seed) out n (tree_length seed w) h

pub tree_written : (seed : ℕ) (out : Bytes) {n t : ℕ} {b tree front : Bytes} → Wrote (program seed) n t b tree → n ≤ length out → front ≡ take n tree
    → (Ok n ≡ output_answer (tree_of seed) (length out)) × (front ++ drop n out ≡ output_after (tree_of seed) out)
tree_written seed out {n = n} w h p =
    let e = tree_length seed w in
    let d = placing (tree_of seed) out n e h in
    (d.0, (λ i. (p ∙ tree_taken seed w) i ++ drop (sym e i) out) ∙ d.1)
