-- What the steps on session and table area promise.
use Rattle.std.specs.Prelude.{ℕ, ◌+◌, ◌≤◌, ◌≡◌, Bool, false, List, leb, length, Ok, Err, Result}
use Rattle.definition.specs.Basic.{Bytes, pick}
use Rattle.definition.specs.Limit.{constants_limit, pool_limit}
use Rattle.definition.specs.Number.{refusal}
use Rattle.definition.specs.Opcode.{Instr, instr, op_set_global, op_set_local}
use Rattle.definition.specs.Walk.{Res, bind, Go}
use Rattle.symbol_table.specs.Layout.{part_size, base, part, Sized}
use Rattle.symbol_table.specs.Contract.{Definition, define_reason}
use Rattle.symbol_table.specs.declared.Slot.TheVariants.{Global, Local}
use Rattle.scope.specs.View.{View, then, Fits, Ready}
use Rattle.scope.specs.Machine.{define, enter, close_over, leave}
use Rattle.field.specs.Layout.{content, after, Whole}
use Rattle.tree.specs.At.{ParamsAt}
use Rattle.tree.specs.Reads.{Some, Counted}
use Rattle.step.specs.Memory.{Rest, rest, settled, answered, memory, RoomyState, FineState, Fine, Deeper, Keeps, Walks}
use Rattle.definition.specs.declared.reason.Refusal.{Refusal}
use Rattle.scope.specs.declared.State.{State}
use Rattle.scope.specs.Walked.{Walked, walked}
use Rattle.symbol_table.specs.declared.Access.{Access}

-- a step that stands alone: on whatever the memory stands for
abbrev pub Steps : Bytes → Go View → Bytes → Bytes → Rest → Rest → Walked → Walked → Type 0
Steps tree k = Walks {A = Unit {0}} tree (λ _. Unit {0}) (λ _. k)

-- a step on code and session, whatever table area stands well beside them
pub record StepsBeside (tree : Bytes) (k : Go View) (c c' e e' : Bytes) (w r : Walked) : Type 0 where
  pub steps : (t : List ℕ) → Fine tree (rest e t) w → Steps tree k c c' (rest e t) (rest e' t) w r

-- the pool has room for a constant of n bytes
abbrev pub has_room : ℕ → State → Bool
has_room n s = pick (leb constants_limit s.constants) false (leb (s.pool_end + (3 + n)) (s.names_end + 3 + pool_limit))

-- a constant more in the session, and its index, whatever stands beside
pub record Adds (k : View → Res View ℕ) (e e' : Bytes) (s s' : State) (r : Result ℕ Refusal) : Type 0 where
  pub step : (tree c : Bytes) (t : List ℕ) → answered tree c (rest e' t) r s' ≡ settled (bind (memory tree c (rest e t) (Ok s)) (λ _. k))
  pub fine : (tree : Bytes) (t : List ℕ) → FineState tree (rest e t) s → Fine tree (rest e' t) (walked r s')
  pub keeps : Keeps (Ok s) (walked r s')
  pub chunk : s'.chunk ≡ s.chunk

-- the instruction that a setting stands for
abbrev pub instr_of : Result Access Refusal → Result Instr Refusal
instr_of (Ok x) = Ok (instr x.op x.operand 0)
instr_of (Err r) = Err r

-- a definition, with the instruction that will set it
pub record Defines (tree : Bytes) (p : ℕ) (c : Bytes) (m m' : Rest) (s : State) (r : Result Access Refusal) : Type 0 where
  pub step : answered tree c m' (instr_of r) s ≡ settled (bind (memory tree c m (Ok s)) (λ _. define p (content tree (p + 3))))
  pub fine : Fine tree m' (walked r s)

-- the table area stands well beside some session
pub record FineBeside (tree : Bytes) (t : List ℕ) (s : State) : Type 0 where
  pub session : Bytes
  pub fine : FineState tree (rest session t) s

-- a definition in the table area, whatever code and session stand beside it
pub record DefinesBeside (tree : Bytes) (p : ℕ) (t t' : List ℕ) (s : State) (r : Result Access Refusal) : Type 0 where
  pub defines : (c e : Bytes) → FineState tree (rest e t) s → Defines tree p c (rest e t) (rest e t') s r

-- a definition's answer, with the instruction that will set it, or the refusal
abbrev pub placed_at : ℕ → Definition → Result Access Refusal
placed_at p (Ok (Global k)) = Ok (record { op = op_set_global; operand = k })
placed_at p (Ok (Local k)) = Ok (record { op = op_set_local; operand = k })
placed_at p (Err e) = Err (refusal (define_reason e) p)

-- the name of the function at p, and its n parameters
pub record HeadAt (tree : Bytes) (p n : ℕ) : Type 0 where
  pub named : Whole tree (p + 3)
  pub params : Some (ParamsAt tree (after tree (p + 3)))
  pub counted : Counted tree (after tree (p + 3) + 3) (after tree (after tree (p + 3))) n

-- a function is entered
pub record Enters (tree : Bytes) (p : ℕ) (c : Bytes) (m m' : Rest) (w r : Walked) : Type 0 where
  pub step : (ps : List Bytes) → ParamsAt tree (after tree (p + 3)) ps → memory tree c m' r ≡ settled (then (memory tree c m w) (enter p (content tree (p + 3)) ps))
  pub ready : Ready c r
  pub fine : Fine tree m' r
  pub inside : Deeper 1 w r

-- the function in which `w` goes on is left; `o` is the state before it was entered
pub record Leaves (tree : Bytes) (p n : ℕ) (c c' : Bytes) (m m' : Rest) (o : State) (w r : Walked) : Type 0 where
  pub step : (v : View) → v.state ≡ o → memory tree c' m' r ≡ settled (then (memory tree c m w) (leave p n v))
  pub ready : Ready c' r
  pub fine : Fine tree m' r
  pub keeps : Keeps (Ok o) r

-- the memory stands well for some tree
pub record FineFor (m : Rest) (s : State) : Type 0 where
  pub tree : Bytes
  pub fine : FineState tree m s

-- a state in a function that was entered in another
pub record Inside (o s : State) : Type 0 where
  pub level : s.level ≡ o.level + 1
  pub names : s.names_end ≡ o.names_end

-- what closing needs: `o` is the state outside, `s` the state inside
pub record Closable (e : Bytes) (t : List ℕ) (o s : State) : Type 0 where
  pub outer : Fits o
  pub inside : Inside o s
  pub roomy : RoomyState e s
  pub table : base o.level + part_size ≤ length t
  pub sized : Sized (part o.level t)

-- a function whose code is complete is closed: `o` is the state outside, `s` the state inside
pub record Closed (p n : ℕ) (c c' e e' : Bytes) (t : List ℕ) (o s : State) (r : Walked) : Type 0 where
  pub step : (tree : Bytes) → memory tree c' (rest e' t) r ≡ settled (then (memory tree c (rest e t) (Ok s)) (λ v. close_over p n o v v.symbols.tables))
  pub fine : (tree : Bytes) → FineState tree (rest e t) s → Fine tree (rest e' t) r
  pub keeps : Keeps (Ok o) r
