-- `put_leaf` meets its contract: by the leaf.
use Rattle.std.proofs.Common.{[], ◌∷◌, get_or, ap, arith}
use Rattle.definition.specs.Tag.{tag_identifier, tag_integer, tag_boolean, tag_string}
use Rattle.definition.specs.Node.{leaf}
use Rattle.load.specs.Draw.{drawn, bind}
use Rattle.load.specs.Load.{words, name_of, letters}
use Rattle.load.proofs.Laws.{draw-wrote, wrote_as, string_wrote}
use Rattle.load.proofs.leaf.put_leaf.Goals as goal

pub returns-in-Identifier : goal.returns-in-Identifier
returns-in-Identifier c =
    rw c.in-Identifier.is
    (draw-wrote (λ k. drawn (leaf tag_identifier (get_or words k (name_of 0)))) 9 _ c.draw.ensures.is c.draw.ensures.state
    (wrote_as (ap (λ b. drawn (leaf tag_identifier b) c.draw.new.self.state) c.word.ensures.is) (c.put.ensures _)))

pub returns-in-Boolean : goal.returns-in-Boolean
returns-in-Boolean c =
    rw c.in-Boolean.is (draw-wrote (λ k. drawn (leaf tag_boolean (k ∷ []))) 2 _ c.draw-in-Boolean.ensures.is c.draw-in-Boolean.ensures.state (c.put-in-Boolean.ensures _))

pub returns-in-Integer : goal.returns-in-Integer
returns-in-Integer c =
    rw c.in-Integer.is
    (draw-wrote (λ k. drawn (leaf tag_integer (0 ∷ 0 ∷ 0 ∷ 0 ∷ 0 ∷ 0 ∷ 0 ∷ k ∷ []))) 256 _ c.draw-in-Integer.ensures.is c.draw-in-Integer.ensures.state (c.put-in-Integer.ensures _))

pub returns-in-String : goal.returns-in-String
returns-in-String c =
    rw c.in-String.is
    (draw-wrote (λ n s. bind (letters n s) (λ b. drawn (leaf tag_string b))) 9 _ c.draw-n.ensures.is c.draw-n.ensures.state
    (string_wrote _ c.draw-n.result _ c.args.out.now (omega (arith, c.draw-n.ensures.small)) (omega arith) c.put_letters.ensures.bytes c.put_letters.ensures.state c.put_head.ensures))
