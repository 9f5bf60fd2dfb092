-- A row that is alike to a script is a script, and denotes what is alike.
use Prim.Native.Nat.{ℕ, ◌<◌}
use native.Mathlib.Omega.{arith}
use mathlib.Core.Bool.{Bool, true, false}
use mathlib.Core.List.{[], ◌∷◌}
use mathlib.Core.Path.{◌≡◌, refl, sym, subst, ◌∙◌}
use lib.ListN.{length}
use lib.Dec.{eqb}
use borrow.Author.Tests.{eqb-true}
use Rattle.definition.specs.Basic.{Bytes}
use Rattle.definition.specs.Tag.{tag_program, tag_expr_stmt, tag_block, tag_let, tag_return, tag_identifier, tag_prefix, tag_infix, tag_if, tag_function, tag_call, tag_integer, tag_boolean, tag_string, tag_array, tag_index, tag_hash, tag_name, tag_params, tag_operator}
use Rattle.tree.specs.Grammar.{either}
use Rattle.text.specs.Kind.{a_name, an_integer, a_string, true_word, false_word, open_paren}
use Rattle.text.specs.Token.{Token, token, Row, kind_of}
use Rattle.definition.specs.Node
use Rattle.definition.specs.Node.{Node, leaf, node, Nodes, ◌then◌, operator}
use Rattle.text.specs.Named.{named}
use Rattle.text.specs.Grammar.{Is, Infix, Prefixed, Names, Parameters, Statements, More, Statement, Block, Expression, Binary, Prefix, Postfix, Primary, Branches, Items, SomeItems, Pairs, SomePairs, Script}
use Rattle.text.proofs.GoodTrees.{Real}
use Rattle.shape.proofs.Alike.{clash}
use Rattle.alike.specs.Scripts.{AlikeToken, AlikeTokens}
use Rattle.alike.proofs.Nodes.{LikeNode, LikeNodes, like_one, like_named}

-- `true` and `false`; an integer and a string
abbrev is_bool : ℕ → Bool
is_bool k = either (eqb k true_word) (eqb k false_word)

abbrev is_value : ℕ → Bool
is_value k = either (eqb k an_integer) (eqb k a_string)

-- two tokens as texts have them
pub data Like : Token → Token → Type 0 where
  same : (t : Token) → Like t t
  values : {k : ℕ} {b c : Bytes} → is_value k ≡ true → length b ≡ length c → Like (token k b) (token k c)
  bools : {k l : ℕ} {b c : Bytes} → is_bool k ≡ true → is_bool l ≡ true → Like (token k b) (token l c)

pub data LikeRows : Row → Row → Type 0 where
  ended : LikeRows [] []
  next : {t u : Token} {ts us : Row} → Like t u → LikeRows ts us → LikeRows (t ∷ ts) (u ∷ us)

-- integers of a text are eight bytes
pub like_real : {ts us : Row} → AlikeTokens ts us → Real ts → Real us → LikeRows ts us
like_real AlikeTokens.ended _ _ = LikeRows.ended
like_real (AlikeTokens.next (AlikeToken.same t) a) (Real.another _ r) (Real.another _ q) = LikeRows.next (Like.same t) (like_real a r q)
like_real (AlikeTokens.next (AlikeToken.integers b c) a) (Real.another i r) (Real.another j q) =
    LikeRows.next (Like.values refl (i.integer refl ∙ sym (j.integer refl))) (like_real a r q)
like_real (AlikeTokens.next (AlikeToken.true_false b c) a) (Real.another _ r) (Real.another _ q) =
    LikeRows.next (Like.bools refl refl) (like_real a r q)
like_real (AlikeTokens.next (AlikeToken.false_true b c) a) (Real.another _ r) (Real.another _ q) =
    LikeRows.next (Like.bools refl refl) (like_real a r q)
like_real (AlikeTokens.next (AlikeToken.strings b c h) a) (Real.another _ r) (Real.another _ q) =
    LikeRows.next (Like.values refl h) (like_real a r q)

-- a row begins with the same token, of which some bytes may differ
record Token-again (k : ℕ) (vs us : Row) (b : Bytes) : Type 0 where
  pub left : Row
  pub bytes : Bytes
  pub derived : Is k vs left bytes
  pub rest : LikeRows us left
  pub long : length b ≡ length bytes
  pub plain : is_value k ≡ false → b ≡ bytes

is_again : {k : ℕ} {ts us vs : Row} {b : Bytes} → is_bool k ≡ false → Is k ts us b → LikeRows ts vs → Token-again k vs us b
is_again e Is.is (LikeRows.next {us = left} (Like.same (token k b)) ls) = record { left = left; bytes = b; derived = Is.is; rest = ls; long = refl; plain = λ _. refl }
is_again e Is.is (LikeRows.next {us = left} (Like.values {c = c} i h) ls) = record { left = left; bytes = c; derived = Is.is; rest = ls; long = h; plain = λ n. clash i n }
is_again e Is.is (LikeRows.next (Like.bools i _) ls) = clash i e

-- a name stays
record Name-again (vs us : Row) (b : Bytes) : Type 0 where
  pub left : Row
  pub derived : Is a_name vs left b
  pub rest : LikeRows us left

name_again : {ts us vs : Row} {b : Bytes} → Is a_name ts us b → LikeRows ts vs → Name-again vs us b
name_again {vs = vs} i l =
    let t = is_again refl i l in record { left = t.left; derived = subst (λ b. Is a_name vs t.left b) (sym (t.plain refl)) t.derived; rest = t.rest }

-- what is derived of one row is derived of the other, and is alike
record Again {A : Type 0} (F : Row → Row → A → Type 0) (R : A → A → Type 0) (vs us : Row) (x : A) : Type 0 where
  pub left : Row
  pub made : A
  pub derived : F vs left made
  pub rest : LikeRows us left
  pub like : R x made

-- `true` or `false`
bool_made : {us left : Row} {c : Bytes} (v l : ℕ) → is_bool l ≡ true → LikeRows us left
    → Again Primary LikeNode (token l c ∷ left) us (leaf tag_boolean (v ∷ []))
bool_made {us} {left} {c} v l h ls = go (eqb l true_word) refl (eqb l false_word) refl
  where
    go : (a : Bool) → eqb l true_word ≡ a → (b : Bool) → eqb l false_word ≡ b
        → Again Primary LikeNode (token l c ∷ left) us (leaf tag_boolean (v ∷ []))
    go true e b f =
        record {
          left = left;
          made = leaf tag_boolean (1 ∷ []);
          derived = Primary.yes (subst (λ k. Is true_word (token k c ∷ left) left c) (sym (eqb-true l true_word e)) Is.is);
          rest = ls;
          like = LikeNode.literal tag_boolean (v ∷ []) (1 ∷ []) refl refl;
        }
    go false e true f =
        record {
          left = left;
          made = leaf tag_boolean (0 ∷ []);
          derived = Primary.no (subst (λ k. Is false_word (token k c ∷ left) left c) (sym (eqb-true l false_word f)) Is.is);
          rest = ls;
          like = LikeNode.literal tag_boolean (v ∷ []) (0 ∷ []) refl refl;
        }
    go false e false f = clash h (λ i. either (e i) (f i))

bool_again : {k : ℕ} {ts us vs : Row} {b : Bytes} (v : ℕ) → is_bool k ≡ true → Is k ts us b → LikeRows ts vs
    → Again Primary LikeNode vs us (leaf tag_boolean (v ∷ []))
bool_again v e Is.is (LikeRows.next (Like.same (token k b)) ls) = bool_made v k e ls
bool_again v e Is.is (LikeRows.next (Like.values {k} i h) ls) = bool_made v k e ls
bool_again v e Is.is (LikeRows.next (Like.bools {l = l} _ j) ls) = bool_made v l j ls

-- what may stand behind a statement without `;`
bool_low : (l : ℕ) → is_bool l ≡ true → l < open_paren
bool_low l h = go (eqb l true_word) refl (eqb l false_word) refl
  where
    go : (a : Bool) → eqb l true_word ≡ a → (b : Bool) → eqb l false_word ≡ b → l < open_paren
    go true e b f = let z = eqb-true l true_word e in omega arith
    go false e true f = let z = eqb-true l false_word f in omega arith
    go false e false f = clash h (λ i. either (e i) (f i))

low_again : {ts vs : Row} → LikeRows ts vs → kind_of ts < open_paren → kind_of vs < open_paren
low_again LikeRows.ended h = h
low_again (LikeRows.next (Like.same (token k b)) _) h = h
low_again (LikeRows.next (Like.values _ _) _) h = h
low_again (LikeRows.next (Like.bools {l = l} _ j) _) h = bool_low l j

-- operators are no booleans
infix_plain : {n k o : ℕ} → Infix n k o → is_bool k ≡ false
infix_plain Infix.times = refl
infix_plain Infix.over = refl
infix_plain Infix.add = refl
infix_plain Infix.subtract = refl
infix_plain Infix.less_than = refl
infix_plain Infix.more_than = refl
infix_plain Infix.equals = refl
infix_plain Infix.differs = refl

prefix_plain : {k o : ℕ} → Prefixed k o → is_bool k ≡ false
prefix_plain Prefixed.not = refl
prefix_plain Prefixed.negative = refl

-- an operator, and a name
like_operator : (o : ℕ) → LikeNode (operator o) (operator o)
like_operator o = LikeNode.same tag_operator (o ∷ []) refl refl

like_name : (n : Bytes) → LikeNode (leaf tag_name n) (leaf tag_name n)
like_name n = LikeNode.same tag_name n refl refl

-- names
names_again : {ts us vs : Row} {xs : Nodes} → Names ts us xs → LikeRows ts vs → Again Names LikeNodes vs us xs
names_again (Names.last_name {n = n} i) l =
    let t = name_again i l in record { left = t.left; made = leaf tag_name n then Node.none; derived = Names.last_name t.derived; rest = t.rest; like = like_one (like_name n) }
names_again (Names.more_names {n = n} i c d) l =
    let t = name_again i l in
    let u = is_again refl c t.rest in
    let v = names_again d u.rest in
    record { left = v.left; made = leaf tag_name n then v.made; derived = Names.more_names t.derived u.derived v.derived; rest = v.rest; like = LikeNodes.another (like_name n) v.like }

-- parameters
parameters_again : {ts us vs : Row} {xs : Nodes} → Parameters ts us xs → LikeRows ts vs → Again Parameters LikeNodes vs us xs
parameters_again {vs = vs} Parameters.no_parameters l = record { left = vs; made = Node.none; derived = Parameters.no_parameters; rest = l; like = LikeNodes.none }
parameters_again (Parameters.parameters d) l =
    let t = names_again d l in record { left = t.left; made = t.made; derived = Parameters.parameters t.derived; rest = t.rest; like = t.like }

mutual
  -- statements
  statements_again : {ts us vs : Row} {xs : Nodes} → Statements ts us xs → LikeRows ts vs → Again Statements LikeNodes vs us xs
  statements_again {vs = vs} Statements.no_statements l = record { left = vs; made = Node.none; derived = Statements.no_statements; rest = l; like = LikeNodes.none }
  statements_again (Statements.statements d m) l =
      let t = statement_again d l in
      let u = more_again m t.rest in
      record { left = u.left; made = t.made then u.made; derived = Statements.statements t.derived u.derived; rest = u.rest; like = LikeNodes.another t.like u.like }

  -- statements behind one
  more_again : {ts us vs : Row} {xs : Nodes} → More ts us xs → LikeRows ts vs → Again More LikeNodes vs us xs
  more_again {vs = vs} More.no_more l = record { left = vs; made = Node.none; derived = More.no_more; rest = l; like = LikeNodes.none }
  more_again (More.after_semicolon i d) l =
      let t = is_again refl i l in
      let u = statements_again d t.rest in
      record { left = u.left; made = u.made; derived = More.after_semicolon t.derived u.derived; rest = u.rest; like = u.like }
  more_again (More.at_once h d m) l =
      let t = statement_again d l in
      let u = more_again m t.rest in
      record { left = u.left; made = t.made then u.made; derived = More.at_once (low_again l h) t.derived u.derived; rest = u.rest; like = LikeNodes.another t.like u.like }

  -- a statement
  statement_again : {ts us vs : Row} {x : Node} → Statement ts us x → LikeRows ts vs → Again Statement LikeNode vs us x
  statement_again (Statement.let_statement {n = n} {e = e} i j k d v) l =
      let t = is_again refl i l in
      let u = name_again j t.rest in
      let w = is_again refl k u.rest in
      let x = expression_again d w.rest in
      record {
        left = x.left;
        made = node tag_let (leaf tag_name n then named n x.made then Node.none);
        derived = Statement.let_statement t.derived u.derived w.derived x.derived refl;
        rest = x.rest;
        like =
            LikeNode.inside tag_let refl (LikeNodes.another (like_name n) (like_one (subst (λ z. LikeNode z (named n x.made)) (sym v) (like_named n x.like))));
      }
  statement_again (Statement.return_statement i d) l =
      let t = is_again refl i l in
      let u = expression_again d t.rest in
      record { left = u.left; made = node tag_return (u.made then Node.none); derived = Statement.return_statement t.derived u.derived; rest = u.rest; like = LikeNode.inside tag_return refl (like_one u.like) }
  statement_again (Statement.expression_statement d) l =
      let u = expression_again d l in
      record { left = u.left; made = node tag_expr_stmt (u.made then Node.none); derived = Statement.expression_statement u.derived; rest = u.rest; like = LikeNode.inside tag_expr_stmt refl (like_one u.like) }

  -- a block
  block_again : {ts us vs : Row} {x : Node} → Block ts us x → LikeRows ts vs → Again Block LikeNode vs us x
  block_again (Block.block i d j) l =
      let t = is_again refl i l in
      let u = statements_again d t.rest in
      let w = is_again refl j u.rest in
      record { left = w.left; made = node tag_block u.made; derived = Block.block t.derived u.derived w.derived; rest = w.rest; like = LikeNode.inside tag_block refl u.like }

  -- an expression
  expression_again : {ts us vs : Row} {x : Node} → Expression ts us x → LikeRows ts vs → Again Expression LikeNode vs us x
  expression_again (Expression.expression d) l =
      let t = binary_again d l in record { left = t.left; made = t.made; derived = Expression.expression t.derived; rest = t.rest; like = t.like }

  -- an expression of some levels
  binary_again : {n : ℕ} {ts us vs : Row} {x : Node} → Binary n ts us x → LikeRows ts vs → Again (Binary n) LikeNode vs us x
  binary_again (Binary.unary d) l =
      let t = unary_again d l in record { left = t.left; made = t.made; derived = Binary.unary t.derived; rest = t.rest; like = t.like }
  binary_again (Binary.tighter d) l =
      let t = binary_again d l in record { left = t.left; made = t.made; derived = Binary.tighter t.derived; rest = t.rest; like = t.like }
  binary_again (Binary.infixed {o = o} d k i e) l =
      let t = binary_again d l in
      let u = is_again (infix_plain k) i t.rest in
      let w = binary_again e u.rest in
      record {
        left = w.left;
        made = node tag_infix (t.made then operator o then w.made then Node.none);
        derived = Binary.infixed t.derived k u.derived w.derived;
        rest = w.rest;
        like = LikeNode.inside tag_infix refl (LikeNodes.another t.like (LikeNodes.another (like_operator o) (like_one w.like)));
      }

  -- a prefix expression
  unary_again : {ts us vs : Row} {x : Node} → Prefix ts us x → LikeRows ts vs → Again Prefix LikeNode vs us x
  unary_again (Prefix.prefix {o = o} k i d) l =
      let t = is_again (prefix_plain k) i l in
      let u = unary_again d t.rest in
      record {
        left = u.left;
        made = node tag_prefix (operator o then u.made then Node.none);
        derived = Prefix.prefix k t.derived u.derived;
        rest = u.rest;
        like = LikeNode.inside tag_prefix refl (LikeNodes.another (like_operator o) (like_one u.like));
      }
  unary_again (Prefix.postfix d) l =
      let t = postfix_again d l in record { left = t.left; made = t.made; derived = Prefix.postfix t.derived; rest = t.rest; like = t.like }

  -- a postfix expression
  postfix_again : {ts us vs : Row} {x : Node} → Postfix ts us x → LikeRows ts vs → Again Postfix LikeNode vs us x
  postfix_again (Postfix.call d i e j) l =
      let t = postfix_again d l in
      let u = is_again refl i t.rest in
      let w = items_again e u.rest in
      let z = is_again refl j w.rest in
      record { left = z.left; made = node tag_call (t.made then w.made); derived = Postfix.call t.derived u.derived w.derived z.derived; rest = z.rest; like = LikeNode.inside tag_call refl (LikeNodes.another t.like w.like) }
  postfix_again (Postfix.index d i e j) l =
      let t = postfix_again d l in
      let u = is_again refl i t.rest in
      let w = expression_again e u.rest in
      let z = is_again refl j w.rest in
      record { left = z.left; made = node tag_index (t.made then w.made then Node.none); derived = Postfix.index t.derived u.derived w.derived z.derived; rest = z.rest; like = LikeNode.inside tag_index refl (LikeNodes.another t.like (like_one w.like)) }
  postfix_again (Postfix.primary d) l =
      let t = primary_again d l in record { left = t.left; made = t.made; derived = Postfix.primary t.derived; rest = t.rest; like = t.like }

  -- a primary
  primary_again : {ts us vs : Row} {x : Node} → Primary ts us x → LikeRows ts vs → Again Primary LikeNode vs us x
  primary_again (Primary.identifier {b = b} i) l =
      let t = name_again i l in record { left = t.left; made = leaf tag_identifier b; derived = Primary.identifier t.derived; rest = t.rest; like = LikeNode.same tag_identifier b refl refl }
  primary_again (Primary.integer {b = b} i) l =
      let t = is_again refl i l in record { left = t.left; made = leaf tag_integer t.bytes; derived = Primary.integer t.derived; rest = t.rest; like = LikeNode.literal tag_integer b t.bytes refl t.long }
  primary_again (Primary.string {b = b} i) l =
      let t = is_again refl i l in record { left = t.left; made = leaf tag_string t.bytes; derived = Primary.string t.derived; rest = t.rest; like = LikeNode.literal tag_string b t.bytes refl t.long }
  primary_again (Primary.yes i) l = bool_again 1 refl i l
  primary_again (Primary.no i) l = bool_again 0 refl i l
  primary_again (Primary.group i d j) l =
      let t = is_again refl i l in
      let u = expression_again d t.rest in
      let w = is_again refl j u.rest in
      record { left = w.left; made = u.made; derived = Primary.group t.derived u.derived w.derived; rest = w.rest; like = u.like }
  primary_again (Primary.array i d j) l =
      let t = is_again refl i l in
      let u = items_again d t.rest in
      let w = is_again refl j u.rest in
      record { left = w.left; made = node tag_array u.made; derived = Primary.array t.derived u.derived w.derived; rest = w.rest; like = LikeNode.inside tag_array refl u.like }
  primary_again (Primary.hash i d j) l =
      let t = is_again refl i l in
      let u = pairs_again d t.rest in
      let w = is_again refl j u.rest in
      record { left = w.left; made = node tag_hash u.made; derived = Primary.hash t.derived u.derived w.derived; rest = w.rest; like = LikeNode.inside tag_hash refl u.like }
  primary_again (Primary.conditional i j d k b) l =
      let t = is_again refl i l in
      let u = is_again refl j t.rest in
      let w = expression_again d u.rest in
      let y = is_again refl k w.rest in
      let z = branches_again b y.rest in
      record { left = z.left; made = node tag_if (w.made then z.made); derived = Primary.conditional t.derived u.derived w.derived y.derived z.derived; rest = z.rest; like = LikeNode.inside tag_if refl (LikeNodes.another w.like z.like) }
  primary_again (Primary.function i j d k b) l =
      let t = is_again refl i l in
      let u = is_again refl j t.rest in
      let w = parameters_again d u.rest in
      let y = is_again refl k w.rest in
      let z = block_again b y.rest in
      record {
        left = z.left;
        made = node tag_function (leaf tag_name [] then node tag_params w.made then z.made then Node.none);
        derived = Primary.function t.derived u.derived w.derived y.derived z.derived;
        rest = z.rest;
        like =
            LikeNode.inside tag_function refl (LikeNodes.another (like_name []) (LikeNodes.another (LikeNode.inside tag_params refl w.like) (like_one z.like)));
      }

  -- an if's branches
  branches_again : {ts us vs : Row} {xs : Nodes} → Branches ts us xs → LikeRows ts vs → Again Branches LikeNodes vs us xs
  branches_again (Branches.without_else d) l =
      let t = block_again d l in record { left = t.left; made = t.made then Node.none; derived = Branches.without_else t.derived; rest = t.rest; like = like_one t.like }
  branches_again (Branches.with_else d i e) l =
      let t = block_again d l in
      let u = is_again refl i t.rest in
      let w = block_again e u.rest in
      record { left = w.left; made = t.made then w.made then Node.none; derived = Branches.with_else t.derived u.derived w.derived; rest = w.rest; like = LikeNodes.another t.like (like_one w.like) }

  -- a list
  items_again : {ts us vs : Row} {xs : Nodes} → Items ts us xs → LikeRows ts vs → Again Items LikeNodes vs us xs
  items_again {vs = vs} Items.no_items l = record { left = vs; made = Node.none; derived = Items.no_items; rest = l; like = LikeNodes.none }
  items_again (Items.items d) l =
      let t = some_items_again d l in record { left = t.left; made = t.made; derived = Items.items t.derived; rest = t.rest; like = t.like }

  some_items_again : {ts us vs : Row} {xs : Nodes} → SomeItems ts us xs → LikeRows ts vs → Again SomeItems LikeNodes vs us xs
  some_items_again (SomeItems.last_item d) l =
      let t = expression_again d l in record { left = t.left; made = t.made then Node.none; derived = SomeItems.last_item t.derived; rest = t.rest; like = like_one t.like }
  some_items_again (SomeItems.more_items d i e) l =
      let t = expression_again d l in
      let u = is_again refl i t.rest in
      let w = some_items_again e u.rest in
      record { left = w.left; made = t.made then w.made; derived = SomeItems.more_items t.derived u.derived w.derived; rest = w.rest; like = LikeNodes.another t.like w.like }

  -- pairs
  pairs_again : {ts us vs : Row} {xs : Nodes} → Pairs ts us xs → LikeRows ts vs → Again Pairs LikeNodes vs us xs
  pairs_again {vs = vs} Pairs.no_pairs l = record { left = vs; made = Node.none; derived = Pairs.no_pairs; rest = l; like = LikeNodes.none }
  pairs_again (Pairs.pairs d) l =
      let t = some_pairs_again d l in record { left = t.left; made = t.made; derived = Pairs.pairs t.derived; rest = t.rest; like = t.like }

  some_pairs_again : {ts us vs : Row} {xs : Nodes} → SomePairs ts us xs → LikeRows ts vs → Again SomePairs LikeNodes vs us xs
  some_pairs_again (SomePairs.last_pair d i e) l =
      let t = expression_again d l in
      let u = is_again refl i t.rest in
      let w = expression_again e u.rest in
      record { left = w.left; made = t.made then w.made then Node.none; derived = SomePairs.last_pair t.derived u.derived w.derived; rest = w.rest; like = LikeNodes.another t.like (like_one w.like) }
  some_pairs_again (SomePairs.more_pairs d i e j f) l =
      let t = expression_again d l in
      let u = is_again refl i t.rest in
      let w = expression_again e u.rest in
      let y = is_again refl j w.rest in
      let z = some_pairs_again f y.rest in
      record {
        left = z.left;
        made = t.made then w.made then z.made;
        derived = SomePairs.more_pairs t.derived u.derived w.derived y.derived z.derived;
        rest = z.rest;
        like = LikeNodes.another t.like (LikeNodes.another w.like z.like);
      }

-- a whole row
pub record Script-again (vs : Row) (x : Node) : Type 0 where
  pub made : Node
  pub script : Script vs made
  pub like : LikeNode x made

pub script_like : {ts vs : Row} {x : Node} → Script ts x → LikeRows ts vs → Script-again vs x
script_like {vs = vs} (Script.script d) l = go (statements_again d l)
  where
    go : {xs : Nodes} → Again Statements LikeNodes vs [] xs → Script-again vs (node tag_program xs)
    go {xs} a = whole a.rest a.derived
      where
        whole : {left : Row} → LikeRows [] left → Statements vs left a.made → Script-again vs (node tag_program xs)
        whole LikeRows.ended s = record { made = node tag_program a.made; script = Script.script s; like = LikeNode.inside tag_program refl a.like }

-- a row that is alike to a script is a script, and what they denote is alike
pub script_again : {ts vs : Row} {x : Node} → AlikeTokens ts vs → Real ts → Real vs → Script ts x → Script-again vs x
script_again a r q d = script_like d (like_real a r q)
