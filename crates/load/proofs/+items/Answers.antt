-- The cycle of calls of items.
use Rattle.std.proofs.Common.{[], get_or, ◌+◌, ◌-◌, ◌*◌, ◌≤◌, ◌∷◌, length, subst, refl, arith, sym, ap, ◌∙◌}
use Rattle.std.proofs.lemmas.List.{get_or_default}
use Rattle.definition.specs.Tag.{tag_name, tag_params, tag_call, tag_array, tag_hash, tag_block}
use Rattle.definition.specs.Node.{leaf, node, operator}
use Rattle.load.specs.Draw.{drawn, bind, field_of, times}
use Rattle.load.specs.Load.{infixes, name_field, function_names, parameters, pairs, row_need, an_expression, a_statement}
use Rattle.load.proofs.Laws.{draw-wrote, wrote_as}
use Rattle.load.proofs.Rows.{field-wrote, empty_block, block_is, branch-high, expression-low, expression-high, statement-high, yielding-high}
use Rattle.load.proofs.Items.{no_items, behind_first, items-wrote, taken_need, taken_cost, taken-wrote, call_times, pairs_times, parameters-wrote}
use Rattle.load.specs.declared.row.Item.TheVariants.{Expression, Statement}
use Rattle.load.proofs.+items.Goals.{put_item-in-Statement, put_item-in_default, put_branch-then-draw-eq0, put_branch-else-draw-eq0}
use Rattle.load.proofs.+items.Goals as goal

pub put_branch-returns : goal.put_branch-returns
put_branch-returns t c = elim c.if-draw-eq0.branch [
  | put_branch-then-draw-eq0 w ↦
      branch-high c.args.below _ c.args.draws.now.state {k = 0} (omega (arith, c.requires.0)) (sym w.if-draw-eq0.true ∙ c.draw.ensures.is) c.draw.ensures.state (rw w.row-is at c.put_node.ensures)
  | put_branch-else-draw-eq0 w ↦
      branch-high c.args.below _ c.args.draws.now.state {k = 1} (omega (arith, c.requires.0)) (omega (arith, w.if-draw-eq0.false, c.draw.ensures.small, c.draw.ensures.is)) c.draw.ensures.state (rw w.row-is at c.put_node.ensures)
]

pub put_expression-returns-then-below-eq0 : goal.put_expression-returns-then-below-eq0
put_expression-returns-then-below-eq0 t c = expression-low _ _ _ c.if-below-eq0.true c.draw.ensures.is c.draw.ensures.state c.put_leaf.ensures

pub put_expression-returns : goal.put_expression-returns
put_expression-returns t c = expression-high _ _ _ (omega (arith, c.if-below-eq0.false)) c.choices.ensures c.draw-k.ensures.is c.draw-k.ensures.state c.put_row.ensures

pub put_item-returns-in-PrefixOperator : goal.put_item-returns-in-PrefixOperator
put_item-returns-in-PrefixOperator t c =
    rw c.in-PrefixOperator.is (draw-wrote (λ k. drawn (operator (2 + k))) 2 _ c.draw.ensures.is c.draw.ensures.state (c.put.ensures _))

pub put_item-returns-in-InfixOperator : goal.put_item-returns-in-InfixOperator
put_item-returns-in-InfixOperator t c =
    rw c.in-InfixOperator.is (draw-wrote (λ k. drawn (operator (get_or infixes k 1))) 8 _ c.draw-in-InfixOperator.ensures.is c.draw-in-InfixOperator.ensures.state (wrote_as (ap (λ o. drawn (operator o) c.draw-in-InfixOperator.new.self.state) (get_or_default infixes c.draw-in-InfixOperator.result 0 1 c.draw-in-InfixOperator.ensures.small)) (c.put-in-InfixOperator.ensures _)))

pub put_item-returns-in-LetName : goal.put_item-returns-in-LetName
put_item-returns-in-LetName t c =
    rw c.in-LetName.is (draw-wrote (λ k. drawn (name_field k)) 3 _ c.draw-in-LetName.ensures.is c.draw-in-LetName.ensures.state (c.put-in-LetName.ensures _))

pub put_item-returns-in-FunctionName : goal.put_item-returns-in-FunctionName
put_item-returns-in-FunctionName t c =
    rw c.in-FunctionName.is (draw-wrote (λ k. drawn (leaf tag_name (get_or function_names k []))) 4 _ c.draw-in-FunctionName.ensures.is c.draw-in-FunctionName.ensures.state (wrote_as (ap (λ b. drawn (leaf tag_name b) c.draw-in-FunctionName.new.self.state) c.function_word.ensures.is) (c.put-in-FunctionName.ensures _)))

pub put_item-returns-in-Name : goal.put_item-returns-in-Name
put_item-returns-in-Name t c = rw c.in-Name.is (c.put-in-Name.ensures _)

pub put_item-returns-in-Parameters : goal.put_item-returns-in-Parameters
put_item-returns-in-Parameters t c =
    rw c.in-Parameters.is
    (draw-wrote (λ n s. bind (parameters n s) (λ xs. drawn (node tag_params xs))) 3 _ c.draw-n.ensures.is c.draw-n.ensures.state
    (parameters-wrote c.args.below c.draw-n.result _ _ (omega (arith, c.draw-n.ensures.small)) c.put_node-in-Parameters.ensures))

pub put_items-returns-in_default : goal.put_items-returns-in_default
put_items-returns-in_default t c = no_items _ _ _ _ _ (omega (arith, c.in_default.len_below))

pub put_items-returns : goal.put_items-returns
put_items-returns t c = items-wrote _ _ _ _ _ _ _ (omega (arith, c.in-len1-up.len_at_least)) (behind_first c.args.items.now) (ap (λ n. length c.args.out.now - n) c.needs.ensures) c.put_item-n.ensures refl c.put_items.ensures refl

pub put_node-returns : goal.put_node-returns
put_node-returns t c = field-wrote _ _ _ _ (omega (arith, c.requires)) c.put_items-n.ensures refl c.put_head.ensures

pub put_yielding-returns : goal.put_yielding-returns
put_yielding-returns t c = yielding-high _ _ _ (omega (arith, c.requires.0)) c.put_node.ensures

pub put_statement-returns-in-Expression : goal.put_statement-returns-in-Expression
put_statement-returns-in-Expression t c =
    statement-high c.args.below _ _ (omega (arith, c.requires.0)) c.statement_choices.ensures c.draw-k.ensures.is c.draw-k.ensures.state c.in-Expression.is c.put_node.ensures

pub put_statement-returns-in-Let : goal.put_statement-returns-in-Let
put_statement-returns-in-Let t c =
    statement-high c.args.below _ _ (omega (arith, c.requires.0)) c.statement_choices.ensures c.draw-k.ensures.is c.draw-k.ensures.state c.in-Let.is c.put_node-in-Let.ensures

pub put_statement-returns-in-Return : goal.put_statement-returns-in-Return
put_statement-returns-in-Return t c =
    statement-high c.args.below _ _ (omega (arith, c.requires.0)) c.statement_choices.ensures c.draw-k.ensures.is c.draw-k.ensures.state c.in-Return.is c.put_node-in-Return.ensures

pub put_statement-returns-in-Block : goal.put_statement-returns-in-Block
put_statement-returns-in-Block t c =
    statement-high c.args.below _ _ (omega (arith, c.requires.0)) c.statement_choices.ensures c.draw-k.ensures.is c.draw-k.ensures.state c.in-Block.is
    (wrote_as (sym (block_is c.args.below _ _ (omega (arith, c.requires.0)))) c.put_block.ensures)

pub put_row-put_node-requires-in-Call : goal.put_row-put_node-requires-in-Call
put_row-put_node-requires-in-Call t c =
    let n = 1 + c.draw-n.result in
    let h : n ≤ 6 = omega (arith, c.draw-n.ensures.small) in
    let room : 48 ≤ length c.args.out.now = subst (λ r. row_need r ≤ length c.args.out.now) c.in-Call.is c.requires in
    (omega (arith, taken_cost 6 n Expression h), omega (arith, c.draw-n.ensures.small, taken_need 6 n Expression h))

pub put_row-returns-in-Call : goal.put_row-returns-in-Call
put_row-returns-in-Call t c =
    let e = an_expression c.args.below in
    rw c.in-Call.is
    (draw-wrote (λ k. field_of tag_call (e ∷ times k e) (length c.args.out.now)) 3 _ c.draw-n.ensures.is c.draw-n.ensures.state
    (taken-wrote c.args.below 6 (1 + c.draw-n.result) Expression tag_call _ _ (omega (arith, c.draw-n.ensures.small)) (call_times c.draw-n.result e) c.put_node-in-Call.ensures))

pub put_row-put_node-requires-in-Array : goal.put_row-put_node-requires-in-Array
put_row-put_node-requires-in-Array t c =
    let n = c.draw-n-in-Array.result in
    let h : n ≤ 6 = omega (arith, c.draw-n-in-Array.ensures.small) in
    let room : 48 ≤ length c.args.out.now = subst (λ r. row_need r ≤ length c.args.out.now) c.in-Array.is c.requires in
    (omega (arith, taken_cost 6 n Expression h), omega (arith, c.draw-n-in-Array.ensures.small, taken_need 6 n Expression h))

pub put_row-returns-in-Array : goal.put_row-returns-in-Array
put_row-returns-in-Array t c =
    let e = an_expression c.args.below in
    rw c.in-Array.is
    (draw-wrote (λ k. field_of tag_array (times k e) (length c.args.out.now)) 4 _ c.draw-n-in-Array.ensures.is c.draw-n-in-Array.ensures.state
    (taken-wrote c.args.below 6 (c.draw-n-in-Array.result) Expression tag_array _ _ (omega (arith, c.draw-n-in-Array.ensures.small)) refl c.put_node-in-Array.ensures))

pub put_row-put_node-requires-in-Hash : goal.put_row-put_node-requires-in-Hash
put_row-put_node-requires-in-Hash t c =
    let n = 2 * c.draw-n-in-Hash.result in
    let h : n ≤ 6 = omega (arith, c.draw-n-in-Hash.ensures.small) in
    let room : 48 ≤ length c.args.out.now = subst (λ r. row_need r ≤ length c.args.out.now) c.in-Hash.is c.requires in
    (omega (arith, taken_cost 6 n Expression h), omega (arith, c.draw-n-in-Hash.ensures.small, taken_need 6 n Expression h))

pub put_row-returns-in-Hash : goal.put_row-returns-in-Hash
put_row-returns-in-Hash t c =
    let e = an_expression c.args.below in
    rw c.in-Hash.is
    (draw-wrote (λ k. field_of tag_hash (pairs k e) (length c.args.out.now)) 3 _ c.draw-n-in-Hash.ensures.is c.draw-n-in-Hash.ensures.state
    (taken-wrote c.args.below 6 (2 * c.draw-n-in-Hash.result) Expression tag_hash _ _ (omega (arith, c.draw-n-in-Hash.ensures.small)) (pairs_times c.draw-n-in-Hash.result e) c.put_node-in-Hash.ensures))

pub put_block-returns : goal.put_block-returns
put_block-returns t c =
    let p = a_statement (c.args.below - 1) in
    wrote_as (block_is c.args.below _ _ (omega (arith, c.requires.0)))
    (draw-wrote (λ k. field_of tag_block (times k p) (length c.args.out.now)) 3 _ c.draw-n.ensures.is c.draw-n.ensures.state
    (taken-wrote (c.args.below - 1) 2 c.draw-n.result Statement tag_block _ _ (omega (arith, c.draw-n.ensures.small)) refl c.put_node.ensures))

pub put_item-returns-then-matches : goal.put_item-returns-then-matches
put_item-returns-then-matches t c =
    rw c.if-below-eq0.true
    (elim c.match-matches.branch [
      | put_item-in-Statement w ↦ wrote_as (empty_block w.in-Statement.is _ _) c.put_node.ensures
      | put_item-in_default w ↦ grind (arith, c.if-matches.true, w.matches-is)
    ])
