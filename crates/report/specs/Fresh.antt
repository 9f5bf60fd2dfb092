-- What a call in a session of its own is lent.
use Rattle.std.specs.Prelude.{replicate}
use Rattle.definition.specs.Basic.{Bytes}
use Rattle.definition.specs.Limit.{session_size, code_size, table_size}
use Rattle.definition.specs.Call.{Lent, made}

-- a fresh session, an output, and zeroed work areas
abbrev pub fresh_lent : Bytes → Lent
fresh_lent o = record { session = (made (replicate session_size 0)).session; output = o; code = replicate code_size 0; table = replicate table_size 0 }
