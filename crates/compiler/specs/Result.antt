-- What a compile call gives once its buffers are large enough, on exactly the session's 65,536 bytes.
use Rattle.std.specs.Prelude.{◌++◌, length, drop, Ok, Err}
use Rattle.definition.specs.Basic.{Bytes}
use Rattle.definition.specs.Limit.{session_size}
use Rattle.definition.specs.Number
use Rattle.definition.specs.Number.{refusal}
use Rattle.definition.specs.Bytecode.{image_bytes}
use Rattle.definition.specs.Tree.{read_tree}
use Rattle.definition.specs.Session.{Session, session_bytes}
use Rattle.definition.specs.Decode.{Decoded, decoded, malformed, read_session}
use Rattle.definition.specs.Compile.{Outcome, Step, translate}
use Rattle.definition.specs.Call.{Lent, Called, ended}
use Rattle.definition.specs.Output.{over}
use Rattle.definition.specs.declared.reason.Refusal.{Refusal}
use Rattle.definition.specs.Answer.{Answer}

-- the answer, and session and output afterwards
pub record Result : Type 0 where
  pub answer : Answer
  pub session : Bytes
  pub output : Bytes

-- a refusal leaves both as they were
abbrev pub refused_result : Bytes → Bytes → Refusal → Result
refused_result e o r = record { answer = Err r; session = e; output = o }

abbrev pub result_of : Bytes → Bytes → Session → Outcome → Result
result_of e o z (Outcome.accepted m) = record { answer = Ok (length (image_bytes m)); session = session_bytes z; output = over (image_bytes m) o }
result_of e o z (Outcome.refused r) = refused_result e o r

abbrev pub step_result : Bytes → Bytes → Step → Result
step_result e o x = result_of e o x.session x.outcome

abbrev pub session_result : Bytes → Bytes → Bytes → Decoded Session → Result
session_result tree e o (decoded z n) = step_result e o (translate (length o) z (read_tree tree))
session_result tree e o (malformed p) = refused_result e o (refusal Number.no_session 0)

-- a tree, a session of 65,536 bytes, an output
unfoldable pub call_result : Bytes → Bytes → Bytes → Result
call_result tree e o = session_result tree e o (read_session e)

-- a result, with the rest of what is lent: the bytes behind the session's, and the work areas zeroed
abbrev pub whole_of : Lent → Result → Called
whole_of l x = record { answer = x.answer; lent = ended (x.session ++ drop session_size l.session) x.output l }
