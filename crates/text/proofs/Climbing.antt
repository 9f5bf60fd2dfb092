-- Expressions: the operand, and what is made of it token by token.
use Prim.Native.Nat.{ℕ, suc, ◌+◌, ◌*◌, ◌-◌, ◌≤◌, ◌<◌}
use native.Mathlib.Omega.{arith}
use mathlib.Core.Bool.{Bool, true, false}
use mathlib.Core.Path.{◌≡◌, refl, sym, ap, subst, ◌∙◌}
use lib.Dec.{ltb}
use borrow.Author.Tests.{eqb-false, ltb-true, ltb-false, ne_eqb}
use Rattle.definition.specs.Basic.{Bytes}
use Rattle.text.specs.Kind.{open_paren, number_of}
use Rattle.text.specs.Token.{Row, kind_of, behind}
use Rattle.definition.specs.Node.{Node, node, ◌then◌, written, levels, levels_all}
use Rattle.text.specs.Shape.{tight_of, closes_group, ends_at, continued_tag}
use Rattle.text.specs.Parse.{ExpressionRow, ClimbRow, OperandRow, InsideRow}
use Rattle.text.specs.Parts.{end_of, row_at, Sees, Put, PutNode, Bounds, Spares, WritesNode, Skips, Continues, moved_on}
use Rattle.text.specs.declared.part.Part.{Part}
use Rattle.text.specs.declared.part.Groups.{Groups}
use Rattle.text.specs.declared.scan.Token as piece
use Rattle.text.proofs.Larger.{larger_is}
use Rattle.text.proofs.Bounding.{bounds_from, bounds_on}
use Rattle.text.proofs.Operands.{no_both_ways}

-- what continues an operand holds it
climb_levels : {least opened : ℕ} {x y : Node} {ts us : Row} → ClimbRow least opened x ts us y → levels x ≤ levels y
unfolding levels levels_all
climb_levels (ClimbRow.closes _ c) = climb_levels c
climb_levels (ClimbRow.ends _ _) = omega arith
climb_levels {x = x} (ClimbRow.goes {xs = xs} _ _ _ c) = omega (arith, climb_levels c, (larger_is (levels x) (levels_all xs)).left)

-- what the loop of an expression has put: a node that the row continues, or too much
pub data Climbs (least opened : ℕ) (text : Bytes) (rest : Row) (y : Node) (left to : ℕ) (old out : Bytes) (p : Part) : Type 0 where
  lost : left < levels y → left < p.levels → Climbs least opened text rest y left to old out p
  going : (x : Node) (row : Row) → ClimbRow least opened x row rest y → levels x ≤ left → row_at text p.at ≡ row → PutNode text row x left to old out p → Climbs least opened text rest y left to old out p

-- by what was put of the operand
pub climbs : {least opened : ℕ} {text : Bytes} {rest : Row} {y : Node} {left to : ℕ} {old out : Bytes} {p : Part} (x : Node) (row : Row) → ClimbRow least opened x row rest y → PutNode text row x left to old out p → Climbs least opened text rest y left to old out p
climbs {least} {opened} {text} {rest} {y} {left} {to} {old} {out} {p} x row c w = by w.put
  where
    by : Put text row (written x) (levels x) left to old out p → Climbs least opened text rest y left to old out p
    by (Put.too_deep a b) = Climbs.lost (omega (arith, climb_levels c)) b
    by (Put.fits a r b d e) = Climbs.going x row c a r w

-- what the loop keeps
pub record Climbing (least : ℕ) (text : Bytes) (at to left opened : ℕ) (old out : Bytes) (p : Part) : Type 0 where
  pub bounds : Bounds text at to 0 left old out p
  pub spares : Spares text at to p
  pub going : (y : Node) (rest : Row) → ExpressionRow least 0 (row_at text at) rest y → Climbs least opened text rest y left to old out p

-- behind the first operand
pub climb_begins : {least : ℕ} {text : Bytes} {at to left : ℕ} {old out : Bytes} {g : Groups} {p : Part} → Skips text at g → WritesNode OperandRow text g.at to 0 left old out p → Spares text g.at to p → Climbing least text at to left g.opened old out p
climb_begins {least} {text} {at} {to} {left} {old} {out} {g} {p} k w v =
    record {
      bounds = bounds_from w.bounds k.onward (omega arith);
      spares = λ h. spare (ltb g.at (end_of text)) refl h;
      going = λ y rest f. go y rest (k.rows least rest y f);
    }
  where
    spare : (b : Bool) → ltb g.at (end_of text) ≡ b → at < end_of text → p.to + 3 + 16 * at ≤ to + 16 * p.at
    spare true e h = omega (arith, v (ltb-true g.at (end_of text) e), k.onward)
    spare false e h = omega (arith, ltb-false g.at (end_of text) e, w.bounds.room)

    go : (y : Node) (rest : Row) → ExpressionRow least g.opened (row_at text g.at) rest y → Climbs least g.opened text rest y left to old out p
    go y rest (ExpressionRow.grouped e _) = absurd (no_both_ways e k.operand)
    go y rest (ExpressionRow.begins {us = us} {x = x} _ d c) = climbs x us c (w.puts x us d)

-- the tests of a token are those of the row's next
told : {text : Bytes} {at : ℕ} {t : piece.Token} {row : Row} (test : ℕ → Bool) {b : Bool} → Sees text at t → row_at text at ≡ row → test (number_of t.kind) ≡ b → test (kind_of row) ≡ b
told test a h e = ap (λ r. test (kind_of r)) (sym h) ∙ ap test (sym a.kind) ∙ e

module _ {least : ℕ} {text : Bytes} {at to left opened : ℕ} {old out : Bytes} {p : Part} {t : piece.Token} where
  -- a `)` of its own
  pub climb_closes : {s : Part} → Climbing least text at to left opened old out p → Sees text p.at t → p.at ≤ t.end → closes_group opened (number_of t.kind) ≡ true → s ≡ moved_on p t.end → Climbing least text at to left (opened - 1) old out s
  climb_closes l a o e i =
      subst (λ s. Climbing least text at to left (opened - 1) old out s) (sym i)
      (record { bounds = bounds_on l.bounds o a.within; spares = λ h. omega (arith, l.spares h); going = λ y rest f. by y rest (l.going y rest f) })
    where
      step : (y : Node) (rest row : Row) (x : Node) → ClimbRow least opened x row rest y → levels x ≤ left → row_at text p.at ≡ row → PutNode text row x left to old out p → Climbs least (opened - 1) text rest y left to old out (moved_on p t.end)
      step y rest row x (ClimbRow.closes _ c) n h w = Climbs.going x (behind row) c n (a.rest ∙ ap behind h) (record { put = on w.put; tag = w.tag })
        where
          on : Put text row (written x) (levels x) left to old out p → Put text (behind row) (written x) (levels x) left to old out (moved_on p t.end)
          on (Put.too_deep a b) = Put.too_deep a b
          on (Put.fits b c d f g) = Put.fits b (a.rest ∙ ap behind h) d f g
      step _ _ row x (ClimbRow.ends n _) m h w = absurd (no_both_ways (told (closes_group opened) a h e) n)
      step y rest row x (ClimbRow.goes n _ _ _) m h w = absurd (no_both_ways (told (closes_group opened) a h e) n)

      by : (y : Node) (rest : Row) → Climbs least opened text rest y left to old out p → Climbs least (opened - 1) text rest y left to old out (moved_on p t.end)
      by y rest (Climbs.lost b c) = Climbs.lost b c
      by y rest (Climbs.going x row c n h w) = step y rest row x c n h w

  -- its end
  pub climb_ended : Climbing least text at to left opened old out p → Sees text p.at t → closes_group opened (number_of t.kind) ≡ false → ends_at opened least (number_of t.kind) ≡ true → WritesNode (ExpressionRow least 0) text at to 0 left old out p
  climb_ended l a e f = record { bounds = l.bounds; puts = λ y rest f. by y rest (l.going y rest f) }
    where
      step : (y : Node) (rest row : Row) (x : Node) → ClimbRow least opened x row rest y → row_at text p.at ≡ row → PutNode text row x left to old out p → PutNode text rest y left to old out p
      step y rest row x (ClimbRow.closes n _) h w = absurd (no_both_ways n (told (closes_group opened) a h e))
      step _ _ row x (ClimbRow.ends _ _) h w = w
      step y rest row x (ClimbRow.goes _ n _ _) h w = absurd (no_both_ways (told (ends_at opened least) a h f) n)

      by : (y : Node) (rest : Row) → Climbs least opened text rest y left to old out p → PutNode text rest y left to old out p
      by y rest (Climbs.lost b c) = record { put = Put.too_deep b c; tag = λ z. absurd (omega arith) }
      by y rest (Climbs.going x row c n h w) = step y rest row x c h w

-- an operator, a call or an index
pub climb_goes : {least : ℕ} {text : Bytes} {at to left opened : ℕ} {old mid out : Bytes} {p s : Part} {t : piece.Token} → Climbing least text at to left opened old mid p → Sees text p.at t → closes_group opened (number_of t.kind) ≡ false → ends_at opened least (number_of t.kind) ≡ false → Continues text t to p left mid out s → Climbing least text at to left opened old out s
climb_goes {least} {text} {at} {to} {left} {opened} {old} {mid} {out} {p} {s} {t} l a e f w =
    record {
      bounds =
          record {
            lengths = w.bounds.lengths ∙ l.bounds.lengths;
            onward = omega (arith, l.bounds.onward, w.bounds.onward);
            within = w.bounds.within;
            room = omega (arith, l.bounds.room, w.bounds.room);
            behind = omega (arith, l.bounds.behind, w.bounds.behind);
            depth = w.bounds.depth;
          };
      spares = λ h. omega (arith, l.spares h, w.bounds.room);
      going = λ y rest f. by y rest (l.going y rest f);
    }
  where
    step : (y : Node) (rest row : Row) (x : Node) → ClimbRow least opened x row rest y → row_at text p.at ≡ row → PutNode text row x left to old mid p → Climbs least opened text rest y left to old out s
    step y rest row x (ClimbRow.closes n _) h v = absurd (no_both_ways n (told (closes_group opened) a h e))
    step _ _ row x (ClimbRow.ends _ n) h v = absurd (no_both_ways n (told (ends_at opened least) a h f))
    step y rest row x (ClimbRow.goes {us = us} {xs = xs} _ _ i c) h v =
        let k : number_of t.kind ≡ kind_of row = a.kind ∙ ap kind_of h in
        let r : row_at text t.end ≡ behind row = a.rest ∙ ap behind h in
        let i' : InsideRow (number_of t.kind) (tight_of (number_of t.kind)) (row_at text t.end) us xs = rw (k, r) i in
        let c' : ClimbRow least opened (node (continued_tag (number_of t.kind)) (x then xs)) us rest y = rw k c in
        let v' : PutNode text (row_at text p.at) x left to old mid p = rw h v in
        climbs (node (continued_tag (number_of t.kind)) (x then xs)) us c' (w.puts x xs us old l.bounds.lengths v' i')

    by : (y : Node) (rest : Row) → Climbs least opened text rest y left to old mid p → Climbs least opened text rest y left to old out s
    by y rest (Climbs.lost b c) = Climbs.lost b (w.deep (omega arith))
    by y rest (Climbs.going x row c n h v) = step y rest row x c h v

-- the parentheses that an expression begins with
pub record Skipping (text : Bytes) (from at opened : ℕ) : Type 0 where
  pub onward : from ≤ at
  pub within : at ≤ end_of text
  pub few : opened ≤ at
  pub rows : (least : ℕ) (rest : Row) (y : Node) → ExpressionRow least 0 (row_at text from) rest y → ExpressionRow least opened (row_at text at) rest y

-- one more
pub skips_on : {text : Bytes} {from at opened : ℕ} {t : piece.Token} → Skipping text from at opened → Sees text at t → at < t.end → number_of t.kind ≡ open_paren → Skipping text from t.end (opened + 1)
skips_on {text} {from} {at} {opened} {t} k a o e =
    record { onward = omega (arith, k.onward); within = a.within; few = omega (arith, k.few); rows = λ least rest y f. go least rest y (k.rows least rest y f) }
  where
    go : (least : ℕ) (rest : Row) (y : Node) → ExpressionRow least opened (row_at text at) rest y → ExpressionRow least (opened + 1) (row_at text t.end) rest y
    go least rest y (ExpressionRow.grouped _ d) = let n : opened + 1 ≡ suc opened = omega arith in rw (n, a.rest) d
    go least rest y (ExpressionRow.begins n _ _) = absurd (eqb-false (kind_of (row_at text at)) open_paren n (sym a.kind ∙ e))

-- and what stands behind them
pub skips_end : {text : Bytes} {from : ℕ} {g : Groups} {t : piece.Token} → Skipping text from g.at g.opened → Sees text g.at t → (number_of t.kind ≡ open_paren → ⊥) → Skips text from g
skips_end {text} {from} {g} k a n =
    record { onward = k.onward; within = k.within; few = k.few; rows = k.rows; operand = ne_eqb (kind_of (row_at text g.at)) open_paren (λ e. n (a.kind ∙ e)) }
