-- Parts put one behind the other, within a field, and in a row: what was put of the whole.
use Prim.Native.Nat.{ℕ, suc, ◌+◌, ◌-◌, ◌≤◌, ◌<◌}
use native.Mathlib.Omega.{arith}
use mathlib.Core.List.{[], ◌++◌, append_assoc, append-nil}
use mathlib.Core.Path.{◌≡◌, refl, sym, ap, ◌∙◌}
use lib.ListN.{length, length-append}
use lib.Seq.{sets}
use Rattle.definition.specs.Basic.{Bytes}
use Rattle.definition.specs.Field.{field}
use Rattle.session.proofs.Stores.{sets_append, sets_before}
use Rattle.text.specs.Token.{Row}
use Rattle.definition.specs.Node.{Node, Nodes, none, ◌then◌, one, written, written_all, levels, levels_all, larger}
use Rattle.session.specs.Write.{heading}
use Rattle.text.specs.Parts.{row_at, Put, joined_of, moved_on, closed_of}
use Rattle.text.specs.declared.part.Part.{Part}
use Rattle.text.proofs.Larger.{larger_is, larger_assoc, larger_zero, zero_larger}

-- nothing
pub put_none : (text : Bytes) (at to left : ℕ) (old : Bytes) {p : Part} → p.at ≡ at → p.to ≡ to → p.levels ≡ 0 → Put text (row_at text at) [] 0 left to old old p
put_none text at to left old a b c = Put.fits (omega arith) (ap (row_at text) a) (omega arith) c (λ _. refl)

-- other words for the same
pub put_same : {text : Bytes} {rest : Row} {new new' : Bytes} {deep deep' left to : ℕ} {old out : Bytes} {p : Part} → new ≡ new' → deep ≡ deep' → Put text rest new deep left to old out p → Put text rest new' deep' left to old out p
put_same {text} {rest} {left = left} {to = to} {old = old} {out = out} {p = p} e f x = rw f at (rw e at x)

-- the same further on
pub put_on : {text : Bytes} {us rest : Row} {new : Bytes} {deep left to at : ℕ} {old out : Bytes} {p : Part} → (row_at text p.at ≡ us → row_at text at ≡ rest) → Put text us new deep left to old out p → Put text rest new deep left to old out (moved_on p at)
put_on e (Put.too_deep a b) = Put.too_deep a b
put_on e (Put.fits a b c d f) = Put.fits a (e b) c d f

-- another part behind
pub put-behind : {text : Bytes} {us rest : Row} {xs ys : Bytes} {d e left to : ℕ} {old mid out : Bytes} {p q : Part} → Put text us xs d left to old mid p → length mid ≡ length old → p.to ≤ q.to → (row_at text p.at ≡ us → Put text rest ys e left p.to mid out q) → Put text rest (xs ++ ys) (larger d e) left to old out (joined_of p q)
put-behind {d = d} {e = e} {p = p} {q = q} (Put.too_deep h k) l o f =
    let m = larger_is d e in
    let n = larger_is p.levels q.levels in
    Put.too_deep (omega (arith, m.left)) (omega (arith, n.left))
put-behind {text} {us} {rest} {xs} {ys} {d} {e} {left} {to} {old} {mid} {out} {p} {q} (Put.fits a r b c s) l o f = go (f r)
  where
    go : Put text rest ys e left p.to mid out q → Put text rest (xs ++ ys) (larger d e) left to old out (joined_of p q)
    go (Put.too_deep h k) =
        let m = larger_is d e in
        let n = larger_is p.levels q.levels in
        Put.too_deep (omega (arith, m.right)) (omega (arith, n.right))
    go (Put.fits h r t v w) =
        Put.fits ((larger_is d e).least left a h) r (omega (arith, length-append xs ys)) (ap (λ i. larger i q.levels) c ∙ ap (larger d) v)
        (λ z. w (omega arith) ∙ ap (λ m. sets m p.to ys) (s (omega arith)) ∙ sets_append old to {j = p.to} xs ys (sym b))

-- a head in front of what was put behind it
pub put-field : {text : Bytes} {rest : Row} {xs : Bytes} {d left to : ℕ} {old mid out : Bytes} {p : Part} (tag : ℕ) → Put text rest xs d left (to + 3) old mid p → out ≡ sets mid to (heading tag (p.to - to - 3)) → Put text rest (field tag xs) (suc d) (suc left) to old out (closed_of tag p)
put-field tag (Put.too_deep h k) e = Put.too_deep (omega arith) (omega arith)
put-field {xs = xs} {to = to} {old = old} {p = p} tag (Put.fits a r b c s) e =
    let n : p.to - to - 3 ≡ length xs = omega arith in
    Put.fits (omega arith) r (omega arith) (omega arith)
    (λ z. e ∙ ap (λ m. sets m to (heading tag (p.to - to - 3))) (s z) ∙ ap (λ k. sets (sets old (to + 3) xs) to (heading tag k)) n ∙ sets_before old to {j = to + 3} (heading tag (length xs)) xs refl)

-- one field as a row
pub put_one : {text : Bytes} {rest : Row} (x : Node) {left to : ℕ} {old out : Bytes} {p : Part} → Put text rest (written x) (levels x) left to old out p → Put text rest (written_all (one x)) (levels_all (one x)) left to old out p
unfolding written_all levels_all
put_one x h = put_same (sym (append-nil (written x))) (sym (larger_zero (levels x))) h

-- rows read one after the other: what is put so far, and what is left
pub record Going (F : Row → Row → Nodes → Type 0) (text : Bytes) (rest : Row) (xs : Nodes) (left to : ℕ) (old out : Bytes) (p : Part) : Type 0 where
  pub more : Nodes
  pub row : Row
  pub new : Bytes
  pub deep : ℕ
  pub ahead : F row rest more
  pub bytes : written_all xs ≡ new ++ written_all more
  pub depth : levels_all xs ≡ larger deep (levels_all more)
  pub put : Put text row new deep left to old out p

-- nothing yet
pub going_begins : {F : Row → Row → Nodes → Type 0} {text : Bytes} {rest : Row} {xs : Nodes} (at : ℕ) {left to : ℕ} {old : Bytes} {p : Part} → F (row_at text at) rest xs → p.at ≡ at → p.to ≡ to → p.levels ≡ 0 → Going F text rest xs left to old old p
going_begins {text = text} {xs = xs} at {left} {to} {old} f a b c =
    record { more = xs; row = row_at text at; new = []; deep = 0; ahead = f; bytes = refl; depth = sym (zero_larger (levels_all xs)); put = put_none text at to left old a b c }

-- one more
pub going_on : {F : Row → Row → Nodes → Type 0} {text : Bytes} {rest : Row} {xs : Nodes} {left to : ℕ} {old mid out : Bytes} {p q : Part} (g : Going F text rest xs left to old mid p) (x : Node) (more : Nodes) (us : Row) → g.more ≡ x then more → F us rest more → length mid ≡ length old → p.to ≤ q.to → (row_at text p.at ≡ g.row → Put text us (written x) (levels x) left p.to mid out q) → Going F text rest xs left to old out (joined_of p q)
unfolding written_all levels_all
going_on {p = p} {q = q} g x more us e f l o h =
    record {
      more = more;
      row = us;
      new = g.new ++ written x;
      deep = larger g.deep (levels x);
      ahead = f;
      bytes = g.bytes ∙ ap (λ z. g.new ++ written_all z) e ∙ sym (append_assoc g.new (written x) (written_all more));
      depth = g.depth ∙ ap (λ z. larger g.deep (levels_all z)) e ∙ sym (larger_assoc g.deep (levels x) (levels_all more));
      put = put-behind g.put l o h;
    }

-- all
pub going_ends : {F : Row → Row → Nodes → Type 0} {text : Bytes} {rest : Row} {xs : Nodes} {left to : ℕ} {old out : Bytes} {p : Part} (g : Going F text rest xs left to old out p) → g.more ≡ none → Put text g.row (written_all xs) (levels_all xs) left to old out p
unfolding written_all levels_all
going_ends g e =
    put_same (sym (g.bytes ∙ ap (λ z. g.new ++ written_all z) e ∙ append-nil g.new)) (sym (g.depth ∙ ap (λ z. larger g.deep (levels_all z)) e ∙ larger_zero g.deep)) g.put

-- what is too deep already stays so
pub going_lost : {F : Row → Row → Nodes → Type 0} {text : Bytes} {rest : Row} {xs : Nodes} {left to : ℕ} {old out out' : Bytes} {p q : Part} (g : Going F text rest xs left to old out p) → left < g.deep → left < q.levels → Going F text rest xs left to old out' q
going_lost g a b = record { more = g.more; row = g.row; new = g.new; deep = g.deep; ahead = g.ahead; bytes = g.bytes; depth = g.depth; put = Put.too_deep a b }
