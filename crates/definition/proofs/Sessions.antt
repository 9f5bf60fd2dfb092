-- Sessions: written then read, and read then written.
use Prim.Native.Nat.{ℕ, zero, suc, ◌+◌, ◌-◌, ◌*◌, ◌≤◌, ◌<◌}
use native.Mathlib.Omega.{arith}
use mathlib.Core.Bool.{Bool, true, false}
use mathlib.Core.List.{List, [], ◌∷◌, ◌++◌, reverse, reverse_aux, reverse-reverse, append-nil, append_assoc}
use mathlib.Core.Path.{◌≡◌, refl, sym, ap, subst, ◌∙◌}
use lib.ListN.{length, take, drop, replicate, length-append, length-drop, length-replicate, take-append-drop}
use lib.Seq.{drop-append_seam}
use lib.Dec.{leb, eqb}
use borrow.Author.Tests.{le-leb, leb-true, eqb-true}
use Rattle.definition.specs.Basic.{Bytes, byte_at, pick, both}
use Rattle.definition.specs.Limit.{session_size, name_limit, globals_limit, words_limit}
use Rattle.definition.specs.Tag.{tag_words, tag_names, tag_name, tag_pool}
use Rattle.definition.specs.Field.{field, tagged, name_head, bytes}
use Rattle.definition.specs.Bytecode.{Const, pool_bytes}
use Rattle.definition.specs.SymbolTable.{distinct}
use Rattle.definition.specs.Session.{Words, six, listed, Session, name_bytes, names_bytes, in_order, word_list, words_field, front_fields, session_fields, session_bytes}
use Rattle.definition.specs.Decode.{Decoded, decoded, malformed, then, as_words, items, read_head, read_name_field, read_name_fields, read_words, read_names, read_front, all_zero, list_in, words_in, read_handed, read_session}
use Rattle.definition.specs.Valid.{All, none, more, AreBytes, IsName, ValidList, ValidWords, ValidSession}
use Rattle.definition.proofs.Bytes.{Stands, stands_nil, stands_head, stands_at, stands_left, stands_right, stands_append, stands_front, stands_self, stands_whole, stands_take, bytes_stand, length-bytes}
use Rattle.definition.proofs.Basic.{both_intro, both_left, both_right}
use Rattle.definition.proofs.Items.{passed, first, Rewritten, rewritten_same, Reads, Item, Writes, item_same, read-items, write_items}
use Rattle.definition.proofs.Fields.{head_of, tagged_true, stands_content, read-head, headed, field_stands, RowField, read-row, write_row}
use Rattle.definition.proofs.Pools.{pool-length, read_with_pool, write_with_pool, joined}

-- a name and its head are at most 35 bytes
pub names-length : {ns : List Bytes} → All IsName ns → length (names_bytes ns) ≤ length ns * 35
names-length none = omega arith
names-length (more {x = n} {xs = ns} v vs) = omega (arith, names-length vs, v.short, length-append (names_bytes ns) (name_bytes n))

-- words in their other order
pub all_reversed : {P : Bytes → Type 0} {ns ms : List Bytes} → All P ns → All P ms → All P (reverse_aux ns ms)
all_reversed none ms = ms
all_reversed (more p ps) ms = all_reversed ps (more p ms)

length_reversed : (ns ms : List Bytes) → length (reverse_aux ns ms) ≡ length ns + length ms
length_reversed [] ms = omega arith
length_reversed (n ∷ ns) ms = omega (arith, length_reversed ns (n ∷ ms))

pub length-reverse : (ns : List Bytes) → length (reverse ns) ≡ length ns
length-reverse ns = omega (arith, length_reversed ns [])

reversed_bytes : (ns ms : List Bytes) → names_bytes (reverse_aux ns ms) ≡ names_bytes ms ++ in_order ns
reversed_bytes [] ms = sym (append-nil (names_bytes ms))
reversed_bytes (n ∷ ns) ms = reversed_bytes ns (n ∷ ms) ∙ append_assoc (names_bytes ms) (name_bytes n) (in_order ns)

-- words are written in index order
pub words_in_order : (ws : List Bytes) → names_bytes (reverse ws) ≡ in_order ws
words_in_order ws = reversed_bytes ws []

-- the words' field has at most 843 bytes
pub words-length : (w : Words) → ValidWords w → length (words_field w) ≤ 843
words-length six v = omega arith
words-length (listed ws) v = omega (arith, names-length (all_reversed v.names none), length-reverse ws, v.count)

-- valid words, read the latest first
pub as-words : {ws : List Bytes} → ValidList ws → (at : ℕ) → as_words (reverse ws) at ≡ decoded (listed ws) at
as-words {ws} v at =
    (λ i. let x = reverse-reverse ws i in pick (distinct x) (decoded (listed x) at) (malformed at)) ∙ (λ i. pick (v.unrepeated i) (decoded (listed ws) at) (malformed at))

-- zeros are all zero
zeros_all_zero : (n : ℕ) → all_zero (replicate n 0) ≡ true
zeros_all_zero zero = refl
zeros_all_zero (suc n) = zeros_all_zero n

module _ {byte : ℕ → ℕ} where
  -- a name that stands before the end is read
  read-name : {at : ℕ} (end : ℕ) {n : Bytes} → IsName n → Stands byte at (name_bytes n) → at + length (name_bytes n) ≤ end → read_name_field byte at end ≡ decoded n (at + length (name_bytes n))
  read-name {at} end {n} v s h =
      let p : at + 3 + length n ≡ at + length (name_bytes n) = omega arith in
      let short : length n ≤ name_limit = v.short in
      let t = both_intro (le-leb 1 (length n) v.some) (le-leb (length n) name_limit v.short) in
      let l = (stands_content tag_name n s).same in
      (λ i. then (read-head (name_head 1) end tag_name n (omega arith) t s h i) (λ h in₀. decoded (bytes byte in₀ h.len) (in₀ + h.len)))
      ∙ (λ i. decoded (l i) (p i))

  -- names are items that read back
  pub reads_name : Reads byte name_bytes IsName (read_name_field byte)
  reads_name = record { some = λ n. omega arith; read = λ end v s h. read-name end v s h }

  -- the names of a valid session that stand before the end are read
  pub read-names : {ns : List Bytes} → All IsName ns → length ns ≤ globals_limit → {at : ℕ} (end : ℕ) → Stands byte at (field tag_names (names_bytes ns))
      → at + length (field tag_names (names_bytes ns)) ≤ end → read_names byte at end ≡ decoded ns (at + length (field tag_names (names_bytes ns)))
  read-names vs c end s h = read-row (tagged tag_names) (λ _. globals_limit) tag_names reads_name vs (omega (arith, names-length vs)) refl c end s h

  -- the words in front of names are read; where there are none, the names begin with another tag
  pub read-words : (w : Words) (ns : List Bytes) → ValidWords w → (end : ℕ) → Stands byte 0 (front_fields w ns) → length (words_field w) ≤ end → read_words byte 0 end ≡ decoded w (length (words_field w))
  read-words six ns v end s h = λ i. pick (eqb (stands_head s i) tag_words) (then (read_name_fields byte tag_words words_limit 0 end) as_words) (decoded six 0)
  read-words (listed ws) ns v end s h = λ i. pick (eqb (stands_head s i) tag_words) (own i) (decoded six 0)
    where
      fields : Bytes
      fields = names_bytes (reverse ws)

      own : then (read_name_fields byte tag_words words_limit 0 end) as_words ≡ decoded (listed ws) (length (field tag_words fields))
      own =
          let few : length (reverse ws) ≤ words_limit = omega (arith, length-reverse ws, v.count) in
          let short : length fields < 65536 = omega (arith, words-length (listed ws) v) in
          let s₁ = stands_left (field tag_words fields) (field tag_names (names_bytes ns)) s in
          let e = read-row (tagged tag_words) (λ _. words_limit) tag_words reads_name (all_reversed v.names none) short refl few {at = 0} end s₁ (omega arith) in
          let p : 0 + length (field tag_words fields) ≡ length (field tag_words fields) = omega arith in
          (λ i. then (e i) as_words) ∙ as-words v (0 + length (field tag_words fields)) ∙ ap (decoded (listed ws)) p

  -- the words and the names of a valid session are read
  pub read-front : (w : Words) {ns : List Bytes} → ValidWords w → All IsName ns → length ns ≤ globals_limit → (end : ℕ) → Stands byte 0 (front_fields w ns)
      → length (front_fields w ns) ≤ end → read_front byte 0 end ≡ decoded (w, ns) (length (front_fields w ns))
  read-front w {ns} v vs c end s h =
      let names = field tag_names (names_bytes ns) in
      let l = length-append (words_field w) names in
      let e = read-names vs c {at = length (words_field w)} end (stands_at (omega arith) (stands_right (words_field w) names s)) (omega arith) in
      (λ i. then (read-words w ns v end s (omega arith) i) (λ w at. then (read_names byte at end) (λ ns. decoded (w, ns)))) ∙ (λ i. then (e i) (λ ns. decoded (w, ns))) ∙ ap (decoded (w, ns)) (sym l)

-- the words that bytes begin with, where words and names stand in front
pub words-in : (w : Words) (ns : List Bytes) → ValidWords w → (b : Bytes) → Stands (byte_at b) 0 (front_fields w ns) → length (front_fields w ns) ≤ length b → words_in b ≡ word_list w
unfolding words_in
words-in w ns v b s h = ap list_in (read-words w ns v (length b) s (omega (arith, length-append (words_field w) (field tag_names (names_bytes ns)))))

-- in the fields before the pool alone
pub words_alone : (w : Words) (ns : List Bytes) → ValidWords w → words_in (front_fields w ns) ≡ word_list w
words_alone w ns v = words-in w ns v (front_fields w ns) (stands_self (front_fields w ns)) (omega arith)

-- a valid session's fields leave room for zeros
pub fields-length : (z : Session) → ValidSession z → length (session_fields z) ≤ 65361
fields-length z v =
    omega
    (arith, words-length z.words v.words, names-length v.names, v.count, pool-length z.pool, v.pool.size, length-append (words_field z.words) (field tag_names (names_bytes z.globals)), length-append (front_fields z.words z.globals) (field tag_pool (pool_bytes z.pool)))

-- a valid session fills its bytes
pub session_length : (z : Session) → ValidSession z → length (session_bytes z) ≡ session_size
session_length z v =
    let k = session_size - length (session_fields z) in
    omega (arith, fields-length z v, length-append (session_fields z) (replicate k 0), length-replicate {A = ℕ} k 0)

-- a session of words, names and a pool, if zeros follow
abbrev zeros_follow : Bytes → Words × List Bytes → List Const → ℕ → Decoded Session
zeros_follow b f cs at = pick (all_zero (drop at b)) (decoded (record { words = f.0; globals = f.1; pool = cs }) at) (malformed at)

-- a valid session's bytes read back as the session
pub read-session : (z : Session) → ValidSession z → read_session (session_bytes z) ≡ decoded z (length (session_fields z))
unfolding read_session
read-session z v =
    let b = session_bytes z in
    let n = length (session_fields z) in
    let end : Bytes = replicate (session_size - n) 0 in
    let front = front_fields z.words z.globals in
    let pool = field tag_pool (pool_bytes z.pool) in
    let s = stands_front (session_fields z) end in
    let l = length-append front pool in
    let m = length-append (session_fields z) end in
    let e = read-front z.words v.words v.names v.count (length b) (stands_left front pool s) (omega arith) in
    let zeros = ap all_zero (drop-append_seam (session_fields z) end) ∙ zeros_all_zero (session_size - n) in
    read_with_pool (byte_at b) (read_front (byte_at b)) (length b) (zeros_follow b) front e v.pool s (omega arith) ∙ (λ i. pick (zeros i) (decoded z n) (malformed n))

-- bytes that are all zero are zeros
all_zero_zeros : (b : Bytes) → all_zero b ≡ true → b ≡ replicate (length b) 0
all_zero_zeros [] e = refl
all_zero_zeros (x ∷ b) e = go (eqb x 0) refl e (all_zero_zeros b)
  where
    go : (t : Bool) → eqb x 0 ≡ t → pick t (all_zero b) false ≡ true → (all_zero b ≡ true → b ≡ replicate (length b) 0) → x ∷ b ≡ 0 ∷ replicate (length b) 0
    go true p q rest = λ i. eqb-true x 0 p i ∷ rest q i
    go false p q rest = cc

-- so many zeros
are_zeros : (b : Bytes) (n : ℕ) → length b ≡ n → all_zero b ≡ true → replicate n 0 ≡ b
are_zeros b n l z = ap (λ m. replicate m 0) (sym l) ∙ sym (all_zero_zeros b z)

-- bytes that begin with fields, and are zero behind them
pad_fields : (b fields : Bytes) {n : ℕ} → Stands (byte_at b) 0 fields → length fields ≡ n → n ≤ length b → all_zero (drop n b) ≡ true → fields ++ replicate (length b - length fields) 0 ≡ b
pad_fields b fields {n} s l h z =
    let front : fields ≡ take n b = stands_take b s (omega arith) ∙ ap (λ m. take m b) l in
    let back = are_zeros (drop n b) (length b - length fields) (omega (arith, length-drop n b)) z in
    (λ i. front i ++ back i) ∙ take-append-drop n b

-- words and names that were read in front of a pool
pub record FrontRead (byte : ℕ → ℕ) (f : Words × List Bytes) (n : ℕ) : Type 0 where
  pub stands : Stands byte 0 (front_fields f.0 f.1)
  pub upto : 0 + length (front_fields f.0 f.1) ≡ n
  pub words : ValidWords f.0
  pub names : All IsName f.1
  pub count : length f.1 ≤ globals_limit

front_same : {byte : ℕ → ℕ} {f g : Words × List Bytes} {m n : ℕ} → f ≡ g → m ≡ n → FrontRead byte f m → FrontRead byte g n
front_same p q r = rw (p, q) at r

-- names that were read, the latest first, and are not repeated
words-valid : {ns : List Bytes} → All IsName ns → length ns ≤ words_limit → distinct (reverse ns) ≡ true → ValidList (reverse ns)
words-valid {ns} vs c u = record { count = omega (arith, length-reverse ns, c); names = all_reversed vs none; unrepeated = u }

module _ {byte : ℕ → ℕ} (small : (i : ℕ) → byte i < 256) where
  -- a name that is read stands there
  write_name : (at end : ℕ) {n : Bytes} {m : ℕ} → read_name_field byte at end ≡ decoded n m → Item byte name_bytes IsName at n m
  write_name at end {n} {m} e =
      let r = first (read_head byte (name_head 1) at end) (λ h in₀. decoded (bytes byte in₀ h.len) (in₀ + h.len)) e in
      let h = headed byte (name_head 1) at end r.read in
      let g = r.value in
      let x = bytes byte r.next g.len in
      let l = length-bytes byte r.next g.len in
      let sizes = both_right (tagged tag_name g) (both (leb 1 g.len) (leb g.len name_limit)) h.right in
      let tag = tagged_true tag_name g (both_left (tagged tag_name g) (both (leb 1 g.len) (leb g.len name_limit)) h.right) in
      let same : g ≡ head_of tag_name x = λ i. record { tag = tag i; len = sym l i } in
      let value : x ≡ n = let d = r.rest in cc in
      let next : r.next + g.len ≡ m = let d = r.rest in cc in
      item_same value next
      (record {
        stands = field_stands small (h.stands ∙ same) (stands_at (sym h.inside) (bytes_stand byte r.next g.len));
        upto = omega (arith, l, h.inside);
        sound = record {
          some = omega (arith, l, leb-true 1 g.len (both_left (leb 1 g.len) (leb g.len name_limit) sizes));
          short = omega (arith, l, leb-true g.len name_limit (both_right (leb 1 g.len) (leb g.len name_limit) sizes));
        };
      })

  -- names are items that are written back
  pub writes_name : Writes byte name_bytes IsName (read_name_field byte)
  writes_name = record { wrote = λ at end e. write_name at end e }

  -- the names that are read stand there
  pub write_names : (at end : ℕ) {ns : List Bytes} {n : ℕ} → read_names byte at end ≡ decoded ns n → RowField byte (tagged tag_names) (λ _. globals_limit) name_bytes IsName tag_names at end ns n
  write_names at end e = write_row (tagged tag_names) (λ _. globals_limit) tag_names small (tagged_true tag_names) writes_name at end e

  -- the words that are read stand there
  write_words : (at end : ℕ) {w : Words} {n : ℕ} → read_words byte at end ≡ decoded w n → Item byte words_field ValidWords at w n
  write_words at end {w} {n} e = go (eqb (byte at) tag_words) e
    where
      own : then (read_name_fields byte tag_words words_limit at end) as_words ≡ decoded w n → Item byte words_field ValidWords at w n
      own e =
          let r = first (read_name_fields byte tag_words words_limit at end) as_words e in
          let f = write_row (tagged tag_words) (λ _. words_limit) tag_words small (tagged_true tag_words) writes_name at end r.read in
          let t = passed (distinct (reverse r.value)) (listed (reverse r.value)) r.next r.next r.rest in
          let back : field tag_words (names_bytes r.value) ≡ words_field (listed (reverse r.value)) = ap (λ x. field tag_words (names_bytes x)) (sym (reverse-reverse r.value)) in
          item_same t.value t.next (record { stands = subst (Stands byte at) back f.stands; upto = subst (λ x. at + length x ≡ r.next) back f.upto; sound = words-valid f.each f.count t.test })

      go : (b : Bool) → pick b (then (read_name_fields byte tag_words words_limit at end) as_words) (decoded six at) ≡ decoded w n → Item byte words_field ValidWords at w n
      go true e = own e
      go false e = let p : six ≡ w = cc in let q : at ≡ n = cc in item_same p q (record { stands = stands_nil at; upto = omega arith; sound = tt })

  -- the words and names that are read stand there
  pub write_front : (end : ℕ) {f : Words × List Bytes} {n : ℕ} → read_front byte 0 end ≡ decoded f n → FrontRead byte f n
  write_front end {f} {n} e =
      let r = first (read_words byte 0 end) (λ w at. then (read_names byte at end) (λ ns. decoded (w, ns))) e in
      let q = first (read_names byte r.next end) (λ ns. decoded (r.value, ns)) r.rest in
      let w = write_words 0 end r.read in
      let m = write_names r.next end q.read in
      let value : (r.value, q.value) ≡ f = let d = q.rest in cc in
      let next : q.next ≡ n = let d = q.rest in cc in
      front_same value next
      (record {
        stands = stands_append w.stands (stands_at (sym w.upto) m.stands);
        upto = omega (arith, length-append (words_field r.value) (field tag_names (names_bytes q.value)), w.upto, m.upto);
        words = w.sound;
        names = m.each;
        count = m.count;
      })

-- words that were handed over: the name fields of a valid list, in index order
pub record Handed (b : Bytes) (w : Words) : Type 0 where
  pub list : List Bytes
  pub words : listed list ≡ w
  pub bytes : names_bytes (reverse list) ≡ b
  pub valid : ValidList list

-- name fields of a valid list are read as its words
pub read-handed : {ws : List Bytes} → ValidList ws → read_handed (names_bytes (reverse ws)) ≡ decoded (listed ws) (length (names_bytes (reverse ws)))
read-handed {ws} v =
    let b = names_bytes (reverse ws) in
    let count : length (reverse ws) ≤ words_limit = omega (arith, length-reverse ws, v.count) in
    let e = read-items reads_name (all_reversed v.names none) {at = 0} {end = length b} count (stands_self b) (omega arith) in
    (λ i. then (e i) as_words) ∙ as-words v (length b)

-- and no other bytes are
pub write_handed : (b : Bytes) → AreBytes b → {w : Words} {n : ℕ} → read_handed b ≡ decoded w n → Handed b w
write_handed b a e =
    let r = first (items (read_name_field (byte_at b)) words_limit [] 0 (length b)) as_words e in
    let i = write_items (writes_name a.below) 0 (length b) words_limit r.read in
    let t = passed (distinct (reverse r.value)) (listed (reverse r.value)) r.next r.next r.rest in
    let whole = stands_whole b i.row.stands (omega (arith, i.row.upto)) in
    record { list = reverse r.value; words = t.value; bytes = ap names_bytes (reverse-reverse r.value) ∙ whole; valid = words-valid i.row.each i.count t.test }

pub handed-valid : {b : Bytes} {w : Words} → Handed b w → ValidWords w
handed-valid h = let v : ValidWords (listed h.list) = h.valid in subst ValidWords h.words v

-- a session that is read is written back
pub write_session : (b : Bytes) → AreBytes b → length b ≡ session_size → {z : Session} {n : ℕ} → read_session b ≡ decoded z n → Rewritten session_bytes ValidSession b z
unfolding read_session
write_session b a l {z} {n} e =
    let f = write_with_pool (byte_at b) (read_front (byte_at b)) (length b) (zeros_follow b) a.below e in
    let front = write_front a.below (length b) f.read in
    let y : Session = record { words = f.front.0; globals = f.front.1; pool = f.constants } in
    let t = passed (all_zero (drop f.next b)) y f.next f.next f.rest in
    let j = joined front.stands front.upto f.pool in
    let pad = pad_fields b (session_fields y) j.stands j.upto f.pool.fit t.test in
    let same : session_bytes y ≡ b = ap (λ m. session_fields y ++ replicate (m - length (session_fields y)) 0) (sym l) ∙ pad in
    let valid : ValidSession y = record { words = front.words; count = front.count; names = front.names; pool = f.pool.sound } in
    rewritten_same t.value (record { bytes = same; sound = valid })
