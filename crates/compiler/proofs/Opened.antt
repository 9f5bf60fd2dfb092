-- A session's bytes: their layout, and what its parts hold.
use Prim.Native.Nat.{ℕ, ◌+◌, ◌-◌, ◌≤◌}
use native.Mathlib.Omega.{arith}
use mathlib.Core.Path.{◌≡◌, refl, sym, ap, ◌∙◌}
use lib.ListN.{length, take, replicate, length-append}
use Rattle.definition.specs.Basic.{Bytes, byte_at}
use Rattle.definition.specs.Limit.{session_size, pool_limit}
use Rattle.definition.specs.Number
use Rattle.definition.specs.Number.{refusal}
use Rattle.definition.specs.Tag.{tag_names, tag_pool}
use Rattle.definition.specs.Field.{field}
use Rattle.definition.specs.Syntax.{Stmts}
use Rattle.definition.specs.Tree.{Parsed, read_tree}
use Rattle.definition.specs.Compile.{translate}
use Rattle.definition.specs.declared.reason.Refusal.{Refusal}
use Rattle.definition.specs.Bytecode.{pool_bytes}
use Rattle.definition.specs.Session.{Session, names_bytes, words_field, front_fields, session_fields, session_bytes}
use Rattle.definition.specs.Decode.{Decoded, decoded, malformed, read_words, read_names, read_session}
use Rattle.definition.specs.Valid.{AreBytes, ValidSession}
use Rattle.definition.proofs.Bytes.{Stands, stands_at, stands_left, stands_right, stands_front, stands_self}
use Rattle.definition.proofs.Fields.{head-field}
use Rattle.definition.proofs.Sessions.{names-length, words-length, read-words, read-names, read-session, write_session}
use Rattle.session.proofs.Sessions.{front_length, front_stands}
use Rattle.tree.specs.Check.{verdict}
use Rattle.std.specs.Prelude.{Err, Some, None}
use Rattle.field.specs.Layout.{after}
use Rattle.refinement.specs.Relation.{names_end, pool_end}
use Rattle.bytecode.specs.Checked.{layout_of, layout_answer, session_answer}
use Rattle.bytecode.specs.declared.SessionLayout.{SessionLayout}
use Rattle.bytecode.proofs.Laid.{laid}
use Rattle.compiler.specs.Result.{refused_result, step_result, session_result, call_result}
use Rattle.compiler.specs.Stage.{words_end, Opened}

-- words and names stand in front of all of a session's bytes
front_stand : (z : Session) → Stands (byte_at (session_bytes z)) 0 (front_fields z.words z.globals)
front_stand z = stands_left (front_fields z.words z.globals) (field tag_pool (pool_bytes z.pool)) (stands_front (session_fields z) (replicate (session_size - pool_end z) 0))

-- the names, behind the words
names_stand : (z : Session) → Stands (byte_at (session_bytes z)) (words_end z) (field tag_names (names_bytes z.globals))
names_stand z = stands_at (omega arith) (stands_right (words_field z.words) (field tag_names (names_bytes z.globals)) (front_stand z))

-- where the pool ends
pub pool-end : (z : Session) → pool_end z ≡ names_end z + 3 + length (pool_bytes z.pool)
pool-end z = omega (arith, length-append (front_fields z.words z.globals) (field tag_pool (pool_bytes z.pool)))

-- the fields are within the session's bytes
ends_within : (z : Session) → names_end z ≤ length (session_bytes z)
ends_within z = let zeros : Bytes = replicate (session_size - pool_end z) 0 in omega (arith, pool-end z, length-append (session_fields z) zeros)

-- the words are read there
words-read : (z : Session) → ValidSession z → read_words (byte_at (session_bytes z)) 0 (length (session_bytes z)) ≡ decoded z.words (words_end z)
words-read z v = read-words z.words z.globals v.words (length (session_bytes z)) (front_stand z) (omega (arith, ends_within z, front_length z.words z.globals))

-- and so are the names
pub names-read : (z : Session) → ValidSession z → read_names (byte_at (session_bytes z)) (words_end z) (length (session_bytes z)) ≡ decoded z.globals (names_end z)
names-read z v =
    let n : words_end z + length (field tag_names (names_bytes z.globals)) ≡ names_end z = omega (arith, front_length z.words z.globals) in
    read-names v.names v.count (length (session_bytes z)) (names_stand z) (omega (arith, ends_within z)) ∙ ap (decoded z.globals) n

-- and the field that they are ends
pub names_after : (z : Session) → ValidSession z → after (session_bytes z) (words_end z) ≡ names_end z
names_after z v =
    let names = names_bytes z.globals in
    let h = head-field tag_names names (omega (arith, names-length v.names, v.count)) (names_stand z) in
    let n : after (session_bytes z) (words_end z) ≡ words_end z + 3 + length names = λ i. words_end z + 3 + (h i).len in
    omega (arith, front_length z.words z.globals)

-- the words are read in what stands before the pool, too
pub words_before : (z : Session) → ValidSession z → {b : Bytes} → b ≡ take (names_end z) (session_bytes z) → read_words (byte_at b) 0 (length b) ≡ decoded z.words (words_end z)
words_before z v e =
    let front = front_fields z.words z.globals in
    ap (λ b. read_words (byte_at b) 0 (length b)) (e ∙ front_stands z refl)
    ∙ read-words z.words z.globals v.words (length front) (stands_self front) (omega (arith, front_length z.words z.globals))

-- a session has room for a whole pool behind its names
pub room_behind : (z : Session) → ValidSession z → names_end z + 3 + pool_limit ≤ session_size
room_behind z v = omega (arith, words-length z.words v.words, names-length v.names, v.count, front_length z.words z.globals)

-- a layout that was found is that of a valid session
pub opened : (e : Bytes) → AreBytes e → length e ≡ session_size → {l : SessionLayout} → layout_of e ≡ Some l → Opened e l
opened e a size {l} h =
    let x = laid e (sym h) in
    let z = x.session in
    let w = write_session e a size x.reads in
    let v = w.sound in
    let back : e ≡ session_bytes z = sym w.bytes in
    let words : decoded z.words l.words_end ≡ decoded z.words (words_end z) = sym x.words-read ∙ ap (λ b. read_words (byte_at b) 0 (length b)) back ∙ words-read z v in
    let first : l.words_end ≡ words_end z = cc in
    let names : decoded z.globals l.names_end ≡ decoded z.globals (names_end z) = sym x.names-read ∙ (λ i. read_names (byte_at (back i)) (first i) (length (back i))) ∙ names-read z v in
    let second : l.names_end ≡ names_end z = cc in
    let all : decoded z l.pool_end ≡ decoded z (pool_end z) = sym x.reads ∙ ap read_session back ∙ read-session z v in
    let last : l.pool_end ≡ pool_end z = cc in
    record {
      session = z;
      end = l.pool_end;
      reads = x.reads;
      bytes = back;
      valid = v;
      layout = λ i. record { words_end = first i; names_end = second i; pool_end = last i; names = sym x.names-count i; constants = sym x.pool-count i };
    }

-- where there is none the session is refused
pub broken : (tree e o : Bytes) → layout_answer None ≡ session_answer (read_session e) → call_result tree e o ≡ refused_result e o (refusal Number.no_session 0)
unfolding call_result
broken tree e o = go (read_session e)
  where
    go : (d : Decoded Session) → layout_answer None ≡ session_answer d → session_result tree e o d ≡ refused_result e o (refusal Number.no_session 0)
    go (decoded z n) h = let no : ◌≡◌ {A = ℕ} 0 1 = cc in absurd (omega arith)
    go (malformed p) h = refl

-- a tree that was refused is refused
pub refused_tree : (tree e o : Bytes) {l : SessionLayout} → Opened e l → {r : Refusal} → verdict (read_tree tree) ≡ Err r → call_result tree e o ≡ refused_result e o r
unfolding call_result
refused_tree tree e o x {r} h = ap (session_result tree e o) x.reads ∙ go (read_tree tree) h
  where
    go : (p : Parsed Stmts) → verdict p ≡ Err r → step_result e o (translate (length o) x.session p) ≡ refused_result e o r
    go (Parsed.parsed b n) h = let no : ◌≡◌ {A = ℕ} 0 1 = cc in absurd (omega arith)
    go (Parsed.refused q) h = let same : q ≡ r = cc in ap (refused_result e o) same
