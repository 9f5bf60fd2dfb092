-- The end of a walk that went through: image and session are written, or the output is short.
use Prim.Native.Nat.{ℕ, ◌+◌, ◌-◌, ◌≤◌, ◌<◌}
use native.Mathlib.Omega.{arith}
use mathlib.Core.List.{List, ◌++◌}
use mathlib.Core.Path.{◌≡◌, refl, sym, ap, ◌∙◌}
use lib.ListN.{length, take, drop, get_or, replicate, length-append}
use lib.Seq.{sets, take_all}
use borrow.Author.Tests.{le-leb, lt-leb}
use Rattle.definition.specs.Basic.{Bytes}
use Rattle.definition.specs.Limit.{session_size}
use Rattle.definition.specs.Number
use Rattle.definition.specs.Number.{refusal}
use Rattle.definition.specs.Tag.{tag_main, tag_pool}
use Rattle.definition.specs.Field.{field}
use Rattle.definition.specs.Bytecode.{pool_bytes, pool_size, encode, image_bytes}
use Rattle.definition.specs.Session.{listed, Session, name_bytes, names_bytes, front_fields, session_fields, session_bytes}
use Rattle.definition.specs.Valid.{ValidSession}
use Rattle.definition.specs.Output.{over}
use Rattle.definition.specs.Compile.{image_of, session_of}
use Rattle.std.specs.Prelude.{Ok, Err}
use Rattle.definition.proofs.Basic.{pick_true, pick_false}
use Rattle.definition.proofs.Instructions.{code-length}
use Rattle.definition.proofs.Pools.{pool-length}
use Rattle.definition.proofs.Sessions.{session_length, fields-length}
use Rattle.session.specs.Write.{written_back}
use Rattle.session.proofs.Fields.{second_content}
use Rattle.session.proofs.Sessions.{written-append, front_length, words-longer, extended, accepted_session}
use Rattle.scope.specs.declared.State as Memory
use Rattle.refinement.specs.Relation.{names_end, pool_end}
use Rattle.refinement.proofs.Buffer.{restored, pool_stands, appended_length}
use Rattle.bytecode.specs.declared.SessionLayout.{SessionLayout}
use Rattle.compiler.specs.Result.{step_result}
use Rattle.compiler.specs.Names.{Appends, later_fields}
use Rattle.compiler.specs.Stage.{words_end}
use Rattle.compiler.specs.Translated.{image_length, Translated, final_result}
use Rattle.compiler.proofs.Opened.{pool-end}
use Rattle.compiler.proofs.Defined.{later_are}

-- all bytes of a session
all_held : (z : Session) → ValidSession z → take session_size (session_bytes z) ≡ session_bytes z
all_held z v = take_all session_size (session_bytes z) (omega (arith, session_length z v))

-- the parts that are lent are within code area and session
pub record Bounds (c b : Bytes) (l : SessionLayout) (s : Memory.State) : Type 0 where
  pub code : s.chunk.len ≤ length c
  pub start : l.names_end + 3 ≤ s.pool_end
  pub old : l.pool_end ≤ s.pool_end
  pub end : s.pool_end ≤ session_size
  pub session : length b ≡ session_size

module _ {tree c b : Bytes} {t : List ℕ} {l : SessionLayout} {s : Memory.State} (p : Translated tree c b t l s) where
  -- where the layout has the names' and the pool's end
  names-end : l.names_end ≡ names_end p.session
  names-end = ap (λ (l : SessionLayout). l.names_end) p.layout

  pub words-end : l.words_end ≡ words_end p.session
  words-end = ap (λ (l : SessionLayout). l.words_end) p.layout

  old_end : l.pool_end ≡ pool_end p.session
  old_end = ap (λ (l : SessionLayout). l.pool_end) p.layout

  -- the pool's length
  new_end : s.pool_end ≡ l.names_end + 3 + length (pool_bytes p.state.pool)
  new_end =
      let r = p.compiled.pool in
      let n = ap length r.pool ∙ length-append (pool_bytes p.session.pool) r.appended.new in
      omega (arith, names-end, pool-end p.session, r.appended.upto)

  pub pool-part : take (s.pool_end - (l.names_end + 3)) (drop (l.names_end + 3) b) ≡ pool_bytes p.state.pool
  pool-part =
      let n : s.pool_end - (l.names_end + 3) ≡ pool_size p.state.pool = omega (arith, new_end, pool-length p.state.pool) in
      (λ i. take (n i) (drop (names-end i + 3) b)) ∙ pool_stands p.session (session_bytes p.session) (all_held p.session p.valid) p.compiled.pool

  pub code-part : take s.chunk.len c ≡ encode p.state.code
  code-part = ap (λ n. take n c) p.compiled.len ∙ p.compiled.code

  -- the image's length
  image-size : image_length l s ≡ length (image_bytes (image_of p.state))
  image-size =
      let code = encode p.state.code in
      let pool = pool_bytes p.state.pool in
      omega (arith, new_end, p.compiled.len, code-length p.state.code, length-append (field tag_main code) (field tag_pool pool))

  -- the bounds of the parts that are lent
  pub bounds : Bounds c b l s
  bounds =
      let a = p.compiled.pool.appended in
      record {
        code = omega (arith, p.compiled.len, p.compiled.valid.size, p.compiled.area);
        start = omega (arith, new_end);
        old = omega (arith, old_end, a.upto);
        end = a.within;
        session = appended_length a ∙ session_length p.session p.valid;
      }

  -- the later names' fields
  fields_later : later_fields tree (take l.names_end b) t l.names (get_or t 0 0) ≡ names_bytes p.compiled.globals.more
  fields_later = ap names_bytes (later_are p)

  -- the session with them and the pool
  extended_is : extended p.compiled.globals.more p.state.pool p.session ≡ session_of p.state
  extended_is = λ i. record { words = listed (sym p.compiled.words i); globals = sym p.compiled.globals.same i; pool = p.state.pool }

  -- its fields are as long at least as what is stored
  fields-size : l.names_end + length (later_fields tree (take l.names_end b) t l.names (get_or t 0 0)) + 3 + length (pool_bytes p.state.pool) ≤ length (session_fields (session_of p.state))
  fields-size =
      let z = p.session in
      let y = extended p.compiled.globals.more p.state.pool z in
      let more = names_bytes p.compiled.globals.more in
      let n = ap (λ z. length (session_fields z)) extended_is in
      let m = ap length fields_later in
      let all = ap length (written-append name_bytes p.compiled.globals.more z.globals) ∙ length-append (names_bytes z.globals) more in
      omega
      (arith, names-end, words-longer z.words, front_length z.words z.globals, front_length y.words y.globals, length-append (front_fields y.words y.globals) (field tag_pool (pool_bytes p.state.pool)))

  -- there is room for them, for the six words' field, and for the pool behind
  pub names_room : l.names_end + length (later_fields tree (take l.names_end b) t l.names (get_or t 0 0)) + 45 + 3 + (s.pool_end - (l.names_end + 3)) ≤ session_size
  names_room = omega (arith, fields-size, new_end, fields-length (session_of p.state) p.compiled.valid.session)

  session_written : {b₁ b₂ x : Bytes} {end : ℕ} → Appends (later_fields tree (take l.names_end b) t l.names (get_or t 0 0)) l.names_end b b₁ end → x ≡ pool_bytes p.state.pool
      → b₂ ≡ written_back p.session.words end x b₁ → b₂ ≡ session_bytes (session_of p.state)
  session_written {end} n e q =
      let z = p.session in
      let more = p.compiled.globals.more in
      let a = p.compiled.pool.appended in
      let f = fields-size in
      let same = ap (λ z. length (session_fields z)) extended_is in
      let m = ap length fields_later in
      q
      ∙ (λ i. written_back z.words end (e i) (n.session i))
      ∙ (λ i. written_back z.words end (pool_bytes p.state.pool) (sets (a.session i) l.names_end (fields_later i)))
      ∙ accepted_session z a.new more p.state.pool refl names-end (omega (arith, n.end)) (omega (arith, new_end, a.upto)) (omega (arith, fields-length (session_of p.state) p.compiled.valid.session))
      ∙ ap session_bytes extended_is

  -- the output has room for the image's parts
  pub image_room : {o : ℕ} → image_length l s ≤ o → 6 + length (take s.chunk.len c) + length (take (s.pool_end - (l.names_end + 3)) (drop (l.names_end + 3) b)) ≤ o
  image_room h = omega (arith, ap length code-part, ap length pool-part, new_end, p.compiled.len, code-length p.state.code)

  -- the session has room for words and names, and the pool behind them
  pub session_room : {end : ℕ} {b₁ : Bytes} → Appends (later_fields tree (take l.names_end b) t l.names (get_or t 0 0)) l.names_end b b₁ end → length b₁ ≡ length b
      → (k : ℕ) → k ≤ s.pool_end - (l.names_end + 3) → (l.words_end + 3 ≤ end) × (end + 45 + (3 + k) ≤ length b₁)
  session_room n e k h = (omega (arith, n.end, names-end, words-end, front_length p.session.words p.session.globals), omega (arith, n.end, names_room, bounds.session))

  -- The output has room: image and session are written
  pub accepted : (o : Bytes) {o₁ b₁ b₂ : Bytes} {end total : ℕ} → total ≡ image_length l s → total ≤ length o
      → o₁ ≡ over (field tag_main (take s.chunk.len c) ++ field tag_pool (take (s.pool_end - (l.names_end + 3)) (drop (l.names_end + 3) b))) o
      → Appends (later_fields tree (take l.names_end b) t l.names (get_or t 0 0)) l.names_end b b₁ end
      → b₂ ≡ written_back p.session.words end (take (total - (6 + s.chunk.len)) (drop (6 + s.chunk.len) o₁)) b₁
      → record { answer = Ok total; session = b₂; output = o₁ } ≡ final_result p o
  accepted o {o₁} {b₁} {end = end} {total} k h w n q =
      let m = image_of p.state in
      let code = encode p.state.code in
      let pool = pool_bytes p.state.pool in
      let image : o₁ ≡ over (image_bytes m) o = w ∙ (λ i. over (field tag_main (code-part i) ++ field tag_pool (pool-part i)) o) in
      let size : total ≡ length (image_bytes m) = k ∙ image-size in
      let back : take (total - (6 + s.chunk.len)) (drop (6 + s.chunk.len) o₁) ≡ pool =
      ap (λ o. take (total - (6 + s.chunk.len)) (drop (6 + s.chunk.len) o)) image
      ∙ second_content o tag_main tag_pool code pool {i = 6 + s.chunk.len} {n = total - (6 + s.chunk.len)} (omega (arith, p.compiled.len, code-length p.state.code)) (omega (arith, new_end)) in
      let session = session_written n back q in
      (λ i. record { answer = Ok (size i); session = session i; output = image i })
      ∙ sym (ap (λ x. step_result (session_bytes p.session) o x) (pick_true _ _ (le-leb (length (image_bytes m)) (length o) (omega arith))))

  -- The output is short: zeros restore the session
  pub short : {o b₁ : Bytes} → length o < image_length l s → b₁ ≡ sets b l.pool_end (replicate (s.pool_end - l.pool_end) 0)
      → record { answer = Err (refusal Number.output_short 0); session = b₁; output = o } ≡ final_result p o
  short {o} h q =
      let z = p.session in
      let back = q ∙ (λ i. sets b (old_end i) (replicate (s.pool_end - old_end i) 0)) ∙ restored z (session_bytes z) (all_held z p.valid) p.compiled.pool.appended in
      (λ i. record { answer = Err (refusal Number.output_short 0); session = back i; output = o })
      ∙ sym (ap (λ x. step_result (session_bytes z) o x) (pick_false _ _ (lt-leb (length (image_bytes (image_of p.state))) (length o) (omega (arith, image-size)))))
