-- A session whose layout is sound: what it holds, and where.
use Rattle.std.specs.Prelude.{◌+◌, ◌≤◌, ◌≡◌, true, length, drop}
use Rattle.definition.specs.Basic.{Bytes, byte_at}
use Rattle.definition.specs.Limit.{constants_limit, globals_limit, pool_limit}
use Rattle.definition.specs.Field.{head}
use Rattle.definition.specs.Session.{Session}
use Rattle.definition.specs.Decode.{decoded, all_zero, read_words, read_names, read_pool, read_session}
use Rattle.bytecode.specs.declared.SessionLayout.{SessionLayout}
use Rattle.bytecode.specs.Checked.{constants, name_fields}

pub record LaidOut (b : Bytes) (l : SessionLayout) : Type 0 where
  -- the session that the bytes hold
  pub session : Session
  pub reads : read_session b ≡ decoded session l.pool_end
  -- its words, in front
  pub words-read : read_words (byte_at b) 0 (length b) ≡ decoded session.words l.words_end
  -- its names, behind them
  pub names-read : read_names (byte_at b) l.words_end (length b) ≡ decoded session.globals l.names_end
  pub names-field : l.words_end + 3 + (head (byte_at b) l.words_end).len ≡ l.names_end
  pub names-items : name_fields (byte_at b) globals_limit (l.words_end + 3) l.names_end ≡ decoded session.globals l.names_end
  pub names-count : length session.globals ≡ l.names
  pub names_few : l.names ≤ globals_limit
  -- its pool, behind them
  pub pool-read : read_pool (byte_at b) l.names_end (length b) ≡ decoded session.pool l.pool_end
  pub pool-field : l.names_end + 3 + (head (byte_at b) l.names_end).len ≡ l.pool_end
  pub pool_short : (head (byte_at b) l.names_end).len ≤ pool_limit
  pub pool-items : constants (byte_at b) (l.names_end + 3) l.pool_end ≡ decoded session.pool l.pool_end
  pub pool-count : length session.pool ≡ l.constants
  pub pool_few : l.constants ≤ constants_limit
  -- and zeros up to the end
  pub within : l.pool_end ≤ length b
  pub zeros : all_zero (drop l.pool_end b) ≡ true
