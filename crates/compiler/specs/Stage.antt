-- What is known between the parts of a compile call.
use Rattle.std.specs.Prelude.{ℕ, ◌≤◌, ◌≡◌, List, length, Some}
use Rattle.definition.specs.Basic.{Bytes}
use Rattle.definition.specs.Limit.{session_size, code_size, table_size}
use Rattle.definition.specs.Tree.{read_tree}
use Rattle.definition.specs.Session.{Session, words_field, session_bytes}
use Rattle.definition.specs.Decode.{decoded, read_session}
use Rattle.definition.specs.Valid.{ValidSession}
use Rattle.definition.specs.Call.{Lent}
use Rattle.refinement.specs.Relation.{names_end, pool_end}
use Rattle.bytecode.specs.Checked.{layout_of}
use Rattle.bytecode.specs.declared.SessionLayout.{SessionLayout}
use Rattle.tree.specs.Check.{Good, verdict}

-- what is lent
abbrev pub lent_of : Bytes → Bytes → Bytes → List ℕ → Lent
lent_of e o c t = record { session = e; output = o; code = c; table = t }

-- what number 1 asks
pub record Long (e c : Bytes) (t : List ℕ) : Type 0 where
  pub session : session_size ≤ length e
  pub code : code_size ≤ length c
  pub table : table_size ≤ length t

-- the lent parts of a call that gets past number 1
pub record Lengths (e c : Bytes) (t : List ℕ) : Type 0 where
  pub session : length e ≡ session_size
  pub code : length c ≡ code_size
  pub table : length t ≡ table_size

-- where the words end in a session's bytes
abbrev pub words_end : Session → ℕ
words_end z = length (words_field z.words)

-- where the parts of a session lie in its bytes
abbrev pub layout_at : Session → SessionLayout
layout_at z = record { words_end = words_end z; names_end = names_end z; pool_end = pool_end z; names = length z.globals; constants = length z.pool }

-- bytes that read as a session of that layout
pub record Opened (e : Bytes) (l : SessionLayout) : Type 0 where
  pub session : Session
  pub end : ℕ
  pub reads : read_session e ≡ decoded session end
  pub bytes : e ≡ session_bytes session
  pub valid : ValidSession session
  pub layout : l ≡ layout_at session

-- a checked tree, a session of that layout, and work areas of their sizes
pub record Checked (tree e c : Bytes) (t : List ℕ) (l : SessionLayout) : Type 0 where
  pub lengths : Lengths e c t
  pub layout : layout_of e ≡ Some l
  pub good : verdict (read_tree tree) ≡ Good
