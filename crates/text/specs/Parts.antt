-- What passes 2 and 3 promise: the bytes of what is read at an offset, put into an output where there is room, and its levels.
use Rattle.std.specs.Prelude.{None, Some, ℕ, zero, suc, ◌+◌, ◌*◌, ◌-◌, ◌≤◌, ◌<◌, false, [], ◌∷◌, ◌≡◌, length, ltb, eqb}
use Rattle.std.proofs.lemmas.List.Edits.{sets}
use Rattle.definition.specs.Basic.{Bytes, byte_at, pick}
use Rattle.definition.specs.Field.{bytes, field}
use Rattle.text.specs.Kind.{a_name, a_string, an_integer, true_word, false_word, open_paren, number_of}
use Rattle.text.specs.Token.{Row, kind_of, bytes_of, behind}
use Rattle.definition.specs.Tag.{tag_program, tag_function, tag_name}
use Rattle.definition.specs.Node
use Rattle.definition.specs.Node.{Node, leaf, node, Nodes, ◌then◌, written, written_all, levels, levels_all, larger}
use Rattle.text.specs.Named.{named}
use Rattle.text.specs.Shape.{tight_of, continued_tag}
use Rattle.text.specs.Parse.{past_semicolon, ExpressionRow, InsideRow, StatementsRow}
use Rattle.text.specs.Scan.{Next, found, large, broken, finished, next_at, text_limit, smaller, value, eight}
use Rattle.text.specs.declared.part.Part.{Part}
use Rattle.text.specs.declared.part.Groups.{Groups}
use Rattle.text.specs.declared.scan.Token as piece

-- bytes moved further back, where there is room for all
abbrev pub moved_by : Bytes → ℕ → ℕ → ℕ → Bytes
moved_by out from end by = pick (ltb (length out) (end + by)) out (sets out (from + by) (bytes (byte_at out) from (end - from)))

-- where a text's tokens end at the latest
unfoldable pub end_of : Bytes → ℕ
end_of text = smaller (length text) text_limit

-- a text's tokens from an offset on, as far as there are any
abbrev pub row_next : Next → (ℕ → Row) → Row
row_next (found start end t) rest = t ∷ rest end
row_next (large start t) rest = []
row_next (broken start) rest = []
row_next (finished end) rest = []

unfoldable pub row_from : (ℕ → ℕ) → ℕ → ℕ → ℕ → Row
row_from byte n zero at = []
row_from byte n (suc fuel) at = row_next (next_at byte n at) (λ end. row_from byte n fuel end)

unfoldable pub row_at : Bytes → ℕ → Row
row_at text at = row_from (byte_at text) (length text) (suc (length text)) at

-- the bytes that a token from one offset to another denotes
unfoldable pub denoted : Bytes → ℕ → ℕ → ℕ → Bytes
denoted text k start end =
    pick (eqb k a_name) (bytes (byte_at text) start (end - start))
    (pick (eqb k a_string) (bytes (byte_at text) (start + 1) (end - 1 - (start + 1)))
    (pick (eqb k an_integer) (eight (value 0 (bytes (byte_at text) start (end - start)))) []))

-- what a token shows of a row, and where it stands
pub record Sees (text : Bytes) (at : ℕ) (t : piece.Token) : Type 0 where
  pub kind : number_of t.kind ≡ kind_of (row_at text at)
  pub rest : row_at text t.end ≡ behind (row_at text at)
  pub content : denoted text (number_of t.kind) t.start t.end ≡ bytes_of (row_at text at)
  pub from : at ≤ t.start
  pub order : t.start ≤ t.end
  pub within : t.end ≤ end_of text
  pub onward : at < end_of text → at < t.end
  pub string : number_of t.kind ≡ a_string → t.start + 2 ≤ t.end
  pub integer : number_of t.kind ≡ an_integer → value 0 (bytes (byte_at text) t.start (t.end - t.start)) ≤ 9223372036854775807

-- the content of a field that is one token
unfoldable pub content_of : Bytes → piece.Token → Bytes
content_of text t =
    pick (eqb (number_of t.kind) an_integer) (eight (value 0 (bytes (byte_at text) t.start (t.end - t.start))))
    (pick (eqb (number_of t.kind) a_string) (bytes (byte_at text) (t.start + 1) (t.end - 1 - (t.start + 1)))
    (pick (eqb (number_of t.kind) true_word) (1 ∷ [])
    (pick (eqb (number_of t.kind) false_word) (0 ∷ []) (bytes (byte_at text) t.start (t.end - t.start)))))

-- where a token stands in a text
pub record Holds (text : Bytes) (t : piece.Token) : Type 0 where
  pub order : t.start ≤ t.end
  pub within : t.end ≤ end_of text
  pub string : number_of t.kind ≡ a_string → t.start + 2 ≤ t.end
  pub integer : number_of t.kind ≡ an_integer → value 0 (bytes (byte_at text) t.start (t.end - t.start)) ≤ 9223372036854775807

-- a field of one token put
pub record PutToken (tag : ℕ) (text : Bytes) (t : piece.Token) (to : ℕ) (old out : Bytes) (p : Part) : Type 0 where
  pub part : p ≡ record { at = t.end; to = to + 3 + length (content_of text t); levels = 1; tag = Some tag }
  pub stored : out ≡ sets old to (field tag (content_of text t))
  pub most : length (content_of text t) ≤ 8 + (t.end - t.start)

-- the tag of a field
abbrev pub tag_of : Node → ℕ
tag_of (leaf t c) = t
tag_of (node t xs) = t

-- a function as it is read: its name is empty
pub record Shaped (x : Node) : Type 0 where
  pub body : tag_of x ≡ tag_function → Nodes
  pub shape : (e : tag_of x ≡ tag_function) → x ≡ node tag_function (leaf tag_name [] then body e)

-- bytes put, of so many levels, with so many left; behind them this row is left of the text
pub data Put (text : Bytes) (rest : Row) (new : Bytes) (deep left to : ℕ) (old out : Bytes) (p : Part) : Type 0 where
  too_deep : left < deep → left < p.levels → Put text rest new deep left to old out p
  fits : deep ≤ left → row_at text p.at ≡ rest → p.to ≡ to + length new → p.levels ≡ deep → (p.to ≤ length old → out ≡ sets old to new) → Put text rest new deep left to old out p

-- a field put, and its tag known
pub record PutNode (text : Bytes) (rest : Row) (x : Node) (left to : ℕ) (old out : Bytes) (p : Part) : Type 0 where
  pub put : Put text rest (written x) (levels x) left to old out p
  pub tag : levels x ≤ left → p.tag ≡ Some (tag_of x)

-- from where a part may be put: no sum leaves the machine's numbers
pub record Ready (most : ℕ) (text : Bytes) (at to left : ℕ) : Type 0 where
  pub within : at ≤ end_of text
  pub room : to + 16 * end_of text ≤ most + 16 * at
  pub small : most ≤ 140003
  pub few : left ≤ 64

-- how far it may get: at most 16 bytes for each byte of the text, and some more
pub record Bounds (text : Bytes) (at to slack left : ℕ) (old out : Bytes) (p : Part) : Type 0 where
  pub lengths : length out ≡ length old
  pub onward : at ≤ p.at
  pub within : p.at ≤ end_of text
  pub room : p.to + 16 * at ≤ to + slack + 16 * p.at
  pub behind : to ≤ p.to
  pub depth : p.levels ≤ left + 2

-- three bytes less where there is text
abbrev pub Spares : Bytes → ℕ → ℕ → Part → Type 0
Spares text at to p = at < end_of text → p.to + 3 + 16 * at ≤ to + 16 * p.at

-- a field, or several in a row, as they are read
pub record WritesNode (F : Row → Row → Node → Type 0) (text : Bytes) (at to slack left : ℕ) (old out : Bytes) (p : Part) : Type 0 where
  pub bounds : Bounds text at to slack left old out p
  pub puts : (x : Node) (rest : Row) → F (row_at text at) rest x → PutNode text rest x left to old out p

pub record Writes (F : Row → Row → Nodes → Type 0) (text : Bytes) (at to slack left : ℕ) (old out : Bytes) (p : Part) : Type 0 where
  pub bounds : Bounds text at to slack left old out p
  pub puts : (xs : Nodes) (rest : Row) → F (row_at text at) rest xs → Put text rest (written_all xs) (levels_all xs) left to old out p

-- a part and the one behind it
abbrev pub joined_of : Part → Part → Part
joined_of p q = record { at = q.at; to = q.to; levels = larger p.levels q.levels; tag = None }

-- the same further on in the text
abbrev pub moved_on : Part → ℕ → Part
moved_on p at = record { at = at; to = p.to; levels = p.levels; tag = p.tag }

-- a field of what was put behind its head
abbrev pub closed_of : ℕ → Part → Part
closed_of tag p = record { at = p.at; to = p.to; levels = 1 + p.levels; tag = Some tag }

-- parentheses passed
pub record Skips (text : Bytes) (from : ℕ) (g : Groups) : Type 0 where
  pub onward : from ≤ g.at
  pub within : g.at ≤ end_of text
  pub few : g.opened ≤ g.at
  pub rows : (least : ℕ) (rest : Row) (y : Node) → ExpressionRow least 0 (row_at text from) rest y → ExpressionRow least g.opened (row_at text g.at) rest y
  pub operand : eqb (kind_of (row_at text g.at)) open_paren ≡ false

-- a part behind a `;`
pub record Passes (text : Bytes) (p q : Part) : Type 0 where
  pub part : q ≡ moved_on p q.at
  pub onward : p.at ≤ q.at
  pub within : q.at ≤ end_of text
  pub row : row_at text q.at ≡ past_semicolon (row_at text p.at)

-- a value with the name of its `let`
pub record Named (text : Bytes) (name : piece.Token) (to : ℕ) (v : Part) (old out : Bytes) (p : Part) : Type 0 where
  pub at : p.at ≡ v.at
  pub levels : p.levels ≡ v.levels
  pub behind : v.to ≤ p.to
  pub most : p.to ≤ v.to + (name.end - name.start)
  pub lengths : length out ≡ length old
  pub puts : (x : Node) (rest : Row) (left : ℕ) (base : Bytes) → length old ≡ length base → number_of name.kind ≡ a_name → Shaped x → PutNode text rest x left to base old v → Put text rest (written (named (content_of text name) x)) (Node.levels (named (content_of text name) x)) left to base out p

-- a call, an index or an infix operator behind what was put
pub record Continues (text : Bytes) (t : piece.Token) (to : ℕ) (v : Part) (left : ℕ) (old out : Bytes) (p : Part) : Type 0 where
  pub bounds : Bounds text v.at v.to 0 left old out p
  pub ahead : t.end ≤ end_of text → t.end ≤ p.at
  pub deep : left ≤ v.levels → left < p.levels
  pub puts : (x : Node) (xs : Nodes) (rest : Row) (base : Bytes) → length old ≡ length base → PutNode text (row_at text v.at) x left to base old v → InsideRow (number_of t.kind) (tight_of (number_of t.kind)) (row_at text t.end) rest xs → PutNode text rest (node (continued_tag (number_of t.kind)) (x then xs)) left to base out p

-- a whole tree put at the start of an output
pub record PutsTree (text old out : Bytes) (p : Part) : Type 0 where
  pub lengths : length out ≡ length old
  pub puts : (xs : Nodes) → StatementsRow (row_at text 0) [] xs → Put text [] (written (node tag_program xs)) (levels (node tag_program xs)) 64 0 old out p
