-- `symbol_table::words::find_builtin` meets its contract: the first byte says whose words they are, and a word's index is small.
use mathlib.Core.Path.{ap, ◌∙◌}
use native.Mathlib.Omega.{arith}
use Rattle.field.proofs.First.{first_is, first_not}
use Rattle.symbol_table.specs.Contract.{IsWords, hit_of}
use Rattle.symbol_table.proofs.OwnWords.{six_there, own_there, word_index, word_hit, word_miss}
use Rattle.symbol_table.proofs.words.find_builtin.Goals as goal
use Rattle.symbol_table.proofs.words.find_builtin.Goals.{then-ne, else-ne}

pub find_name-requires : goal.find_name-requires
find_name-requires c = elim c.if-ne.branch [
  | then-ne w ↦ rw w.words-is (six_there {b = c.args.names.now} (first_not _ _ _ c.first.ensures.value c.ne.ensures w.if-ne.true (omega arith)) w.new-words.ensures).row
  | else-ne w ↦
      rw w.words-is (own_there c.requires (first_is _ _ _ c.first.ensures.value c.ne.ensures w.if-ne.false) (rw w.after_at.ensures.is at w.new-words-else-ne.ensures)).row
]

-- the fields are those of the words
words : (c : goal.In_ok-k) → IsWords c.args.names.now c.if-ne.words
words c = elim c.if-ne.branch [
  | then-ne w ↦ rw w.words-is (six_there {b = c.args.names.now} (first_not _ _ _ c.first.ensures.value c.ne.ensures w.if-ne.true (omega arith)) w.new-words.ensures)
  | else-ne w ↦
      rw w.words-is (own_there c.requires (first_is _ _ _ c.first.ensures.value c.ne.ensures w.if-ne.false) (rw w.after_at.ensures.is at w.new-words-else-ne.ensures))
]

pub returns-in_err-k : goal.returns-in_err-k
returns-in_err-k c =
    let w : IsWords c.args.names.now c.if-ne.words = elim c.if-ne.branch [
      | then-ne w ↦ rw w.words-is (six_there {b = c.args.names.now} (first_not _ _ _ c.first.ensures.value c.ne.ensures w.if-ne.true (omega arith)) w.new-words.ensures)
      | else-ne w ↦
          rw w.words-is (own_there c.requires (first_is _ _ _ c.first.ensures.value c.ne.ensures w.if-ne.false) (rw w.after_at.ensures.is at w.new-words-else-ne.ensures))
    ] in
    ap hit_of c.from_residual.ensures ∙ word_miss w _ c.find_name.ensures c.in_err-k.was

pub overflow_cast-result : goal.overflow_cast-result
overflow_cast-result c = omega (arith, word_index (words c) _ c.find_name.ensures c.in_ok-k.was)

pub overflow_add-result : goal.overflow_add-result
overflow_add-result c = omega (arith, word_index (words c) _ c.find_name.ensures c.in_ok-k.was)

pub returns : goal.returns
returns c = word_hit (words c) _ c.find_name.ensures c.in_ok-k.was
