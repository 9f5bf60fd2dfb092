-- The session that an accepted tree leaves, and that a refused one leaves.
use Prim.Native.Nat.{ℕ, ◌+◌, ◌-◌, ◌≤◌}
use native.Mathlib.Omega.{arith}
use mathlib.Core.List.{List, [], ◌∷◌, ◌++◌, append_assoc, append-nil}
use mathlib.Core.Path.{◌≡◌, refl, sym, ap, ◌∙◌}
use lib.ListN.{length, take, drop, replicate, length-append, length-replicate, replicate-append-replicate}
use lib.Seq.{sets, sets-eq, length-sets, length-take-le, take_at, drop_at, drop-append-add}
use Rattle.definition.specs.Basic.{Bytes}
use Rattle.definition.specs.Field.{field}
use Rattle.definition.specs.Limit.{session_size}
use Rattle.definition.specs.Tag.{tag_names, tag_pool}
use Rattle.definition.specs.Bytecode.{Const, written, pool_bytes}
use Rattle.definition.specs.SymbolTable.{builtins}
use Rattle.definition.specs.Session.{Words, six, listed, word_list, Session, name_bytes, names_bytes, words_field, front_fields, session_fields, session_bytes}
use Rattle.session.specs.Write.{heading, finished, written_back}
use Rattle.session.proofs.Stores.{sets_append, sets_front, sets_same, sets_over, take_sets, drop_sets, restored}

-- Zeros

abbrev zeros : ℕ → Bytes
zeros n = replicate n 0

-- the first of them, and the others
split_zeros : (n k : ℕ) → n ≤ k → zeros k ≡ zeros n ++ zeros (k - n)
split_zeros n k h = let e : n + (k - n) ≡ k = omega arith in ap zeros (sym e) ∙ sym (replicate-append-replicate n (k - n) 0)

take_zeros : (n k : ℕ) → n ≤ k → take n (zeros k) ≡ zeros n
take_zeros n k h = ap (take n) (split_zeros n k h) ∙ take_at (zeros n) (zeros (k - n)) n (length-replicate n 0)

drop_zeros : (n k : ℕ) → n ≤ k → drop n (zeros k) ≡ zeros (k - n)
drop_zeros n k h = ap (drop n) (split_zeros n k h) ∙ drop_at (zeros n) (zeros (k - n)) n (length-replicate n 0)

-- The bytes of a session

-- within 65,536
pub session_bytes-length : (z : Session) → length (session_fields z) ≤ session_size → length (session_bytes z) ≡ session_size
session_bytes-length z h =
    let k = session_size - length (session_fields z) in
    omega (arith, length-append (session_fields z) (zeros k), length-replicate {A = ℕ} k 0)

-- words and names are in front
pub front_stands : (z : Session) {k : ℕ} → k ≡ length (front_fields z.words z.globals) → take k (session_bytes z) ≡ front_fields z.words z.globals
front_stands z {k} e =
    let front = front_fields z.words z.globals in
    let pool = field tag_pool (pool_bytes z.pool) in
    let rest = zeros (session_size - length (session_fields z)) in
    ap (take k) (append_assoc front pool rest) ∙ take_at front (pool ++ rest) k (omega arith)

-- zeros are behind the pool
zeros_behind : (z : Session) (n : ℕ) → length (session_fields z) ≤ n → n ≤ session_size → drop n (session_bytes z) ≡ zeros (session_size - n)
zeros_behind z n h l =
    let f = length (session_fields z) in
    let e : f + (n - f) ≡ n = omega arith in
    let s : session_size - f - (n - f) ≡ session_size - n = omega arith in
    ap (λ k. drop k (session_bytes z)) (sym e)
    ∙ drop-append-add (session_fields z) (zeros (session_size - f)) (n - f)
    ∙ drop_zeros (n - f) (session_size - f) (omega arith)
    ∙ ap zeros s

-- A refused tree: what was stored behind the pool is zeroed again
pub refused_session : (z : Session) (added : Bytes) {i n : ℕ} → i ≡ length (session_fields z) → n ≡ length added → i + n ≤ session_size
    → sets (sets (session_bytes z) i added) i (replicate n 0) ≡ session_bytes z
refused_session z added {i} {n} e s h =
    let f = session_fields z in
    let rest = session_size - length f in
    let behind : take (length added) (drop i (session_bytes z)) ≡ zeros (length added) =
    ap (take (length added)) (drop_at f (zeros rest) i (sym e)) ∙ take_zeros (length added) rest (omega arith) in
    ap (λ k. sets (sets (session_bytes z) i added) i (zeros k)) s ∙ restored (session_bytes z) i added behind

-- An accepted tree

-- later items are written behind
pub written-append : {A : Type 0} (w : A → Bytes) (new old : List A) → written w (new ++ old) ≡ written w old ++ written w new
written-append w [] old = sym (append-nil (written w old))
written-append w (x ∷ new) old = ap (λ b. b ++ w x) (written-append w new old) ∙ append_assoc (written w old) (written w new) (w x)

-- words, a head and names stand in front: the names' head is written anew, and the pool behind them
headed_fields : (s words all pool : Bytes) (n : ℕ) {start end : ℕ} → start ≡ length words → end ≡ start + 3 + length all
    → finished start end pool (sets s 0 (words ++ (heading tag_names n ++ all))) ≡ sets s 0 ((words ++ field tag_names all) ++ field tag_pool pool)
headed_fields s words all pool n {start} {end} p q =
    let old = heading tag_names n in
    let len : end - (start + 3) ≡ length all = omega arith in
    let front : 0 + length words ≡ start = omega arith in
    let apart : sets s 0 (words ++ (old ++ all)) ≡ sets (sets s 0 words) start (old ++ all) = sym (sets_append s 0 words (old ++ all) front) in
    (λ j. sets (sets (apart j) start (heading tag_names (len j))) end (field tag_pool pool))
    ∙ ap (λ m. sets m end (field tag_pool pool)) (sets_front (sets s 0 words) start old (heading tag_names (length all)) all refl ∙ sets_append s 0 words (field tag_names all) front)
    ∙ sets_append s 0 (words ++ field tag_names all) (field tag_pool pool) (omega (arith, length-append words (field tag_names all)))

-- the length of a session's fields before the pool
pub front_length : (w : Words) (ns : List Bytes) → length (front_fields w ns) ≡ length (words_field w) + 3 + length (names_bytes ns)
front_length w ns = omega (arith, length-append (words_field w) (field tag_names (names_bytes ns)))

-- old names and new ones behind them, after the words and a head
names-joined : (w : Words) (ns new : List Bytes) → front_fields w ns ++ names_bytes new ≡ words_field w ++ (heading tag_names (length (names_bytes ns)) ++ names_bytes (new ++ ns))
names-joined w ns new =
    append_assoc (words_field w) (field tag_names (names_bytes ns)) (names_bytes new)
    ∙ ap (λ m. words_field w ++ (heading tag_names (length (names_bytes ns)) ++ m)) (sym (written-append name_bytes new ns))

-- new names stand behind the old ones: written back, the session has three fields in front
written-back : (w : Words) (ns new : List Bytes) (s pool : Bytes) {end : ℕ} → end ≡ length (front_fields w ns) + length (names_bytes new) → take end s ≡ front_fields w ns ++ names_bytes new
    → written_back w end pool s ≡ sets s 0 (front_fields (listed (word_list w)) (new ++ ns) ++ field tag_pool pool)
written-back six ns new s pool {end} p h =
    let all = names_bytes (new ++ ns) in
    let l = ap length (names-joined six ns new) ∙ refl in
    let n = length-append (front_fields six ns) (names_bytes new) in
    ap (λ m. finished 45 (end + 45) pool (sets s 0 (words_field (listed builtins) ++ m))) (h ∙ names-joined six ns new)
    ∙ headed_fields s (words_field (listed builtins)) all pool (length (names_bytes ns)) refl (omega arith)
written-back (listed ws) ns new s pool {end} p h =
    let all = names_bytes (new ++ ns) in
    let w = words_field (listed ws) in
    let old = heading tag_names (length (names_bytes ns)) in
    let l = ap length (names-joined (listed ws) ns new) ∙ length-append w (old ++ all) in
    let n = length-append (front_fields (listed ws) ns) (names_bytes new) in
    ap (finished (length w) end pool) (sym (sets_same s 0 end) ∙ ap (sets s 0) (h ∙ names-joined (listed ws) ns new))
    ∙ headed_fields s w all pool (length (names_bytes ns)) refl (omega arith)

-- the field of a session's words is never shorter once they are listed
pub words-longer : (w : Words) → length (words_field w) ≤ length (words_field (listed (word_list w)))
words-longer six = omega arith
words-longer (listed ws) = omega arith

-- a session of three fields with more names, and another pool
abbrev pub extended : List Bytes → List Const → Session → Session
extended new cs z = record { words = listed (word_list z.words); globals = new ++ z.globals; pool = cs }

-- its names end before its end
extended_upto : (z : Session) (new : List Bytes) (cs : List Const) {n : ℕ} → n ≤ length (front_fields z.words z.globals) + length (names_bytes new) → n ≤ length (session_fields (extended new cs z))
extended_upto z new cs h =
    let w = z.words in
    omega
    (arith, words-longer w, front_length w z.globals, front_length (listed (word_list w)) (new ++ z.globals), ap length (written-append name_bytes new z.globals), length-append (names_bytes z.globals) (names_bytes new), length-append (front_fields (listed (word_list w)) (new ++ z.globals)) (field tag_pool (pool_bytes cs)))

-- bytes stored behind others
take-stored : (b : Bytes) (k : ℕ) (xs : Bytes) {end : ℕ} → end ≡ k + length xs → end ≤ length b → take end (sets b k xs) ≡ take k b ++ xs
take-stored b k xs {end} e h =
    let rest = drop (k + length xs) b in
    ap (take end) (sets-eq xs b k (omega arith))
    ∙ take_at (take k b ++ xs) rest end (omega (arith, length-append (take k b) xs, length-take-le k b (omega arith)))

-- whatever was stored behind the pool, the new names and the other pool give the extended session
pub accepted_session : (z : Session) (added : Bytes) (new : List Bytes) (cs : List Const) {i k end : ℕ} → i ≡ length (session_fields z) → k ≡ length (front_fields z.words z.globals)
    → end ≡ k + length (names_bytes new) → i + length added ≤ length (session_fields (extended new cs z)) → length (session_fields (extended new cs z)) ≤ session_size
    → written_back z.words end (pool_bytes cs) (sets (sets (session_bytes z) i added) k (names_bytes new)) ≡ session_bytes (extended new cs z)
accepted_session z added new cs {i} {k} {end} e p q h s =
    let y = session_fields (extended new cs z) in
    let b = sets (session_bytes z) i added in
    let t = sets b k (names_bytes new) in
    let l = length-append (front_fields z.words z.globals) (field tag_pool (pool_bytes z.pool)) in
    let zs = session_bytes-length z (omega arith) in
    let bs = length-sets (session_bytes z) i added in
    let upto : end ≤ length y = extended_upto z new cs (omega arith) in
    let front = take-stored b k (names_bytes new) q (omega arith) ∙ ap (λ m. m ++ names_bytes new) (take_sets (session_bytes z) i k added (omega arith) ∙ front_stands z p) in
    written-back z.words z.globals new t (pool_bytes cs) (omega arith) front
    ∙ sets_over t y (omega (arith, length-sets b k (names_bytes new)))
    ∙ ap (λ r. y ++ r) (drop_sets b k (length y) (names_bytes new) (omega arith) ∙ drop_sets (session_bytes z) i (length y) added h ∙ zeros_behind z (length y) (omega arith) s)
