-- The shape of a tree (document 01's term): its bytes, with 00 for the content of each literal that reading gets past.
use Rattle.std.specs.Prelude.{ℕ, Bool, length}
use Rattle.definition.specs.Basic.{Bytes, byte_at, pick}
use Rattle.definition.specs.Field.{bytes}
use Rattle.definition.specs.Tree.{literals, read_program}

-- 0 where a byte is a literal's
abbrev pub blanked : (ℕ → Bool) → (ℕ → ℕ) → ℕ → ℕ
blanked l f i = pick (l i) 0 (f i)

unfoldable pub shape : Bytes → Bytes
shape tree = bytes (blanked (literals (read_program (byte_at tree) (length tree))) (byte_at tree)) 0 (length tree)
