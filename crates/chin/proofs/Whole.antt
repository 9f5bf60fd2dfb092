-- A whole image in the other form: main code and pool, over the copy in the output.
use Prim.Native.Nat.{ℕ, ◌+◌, ◌-◌, ◌/◌, ◌%◌, ◌≤◌}
use native.Mathlib.Omega.{arith}
use mathlib.Core.List.{List, [], ◌∷◌, ◌++◌, append_assoc}
use mathlib.Core.Path.{◌≡◌, refl, sym, ap, subst, ◌∙◌}
use lib.ListN.{length, take, drop, set, length-append, length-set}
use lib.Seq.{take_at, drop_at, get_or-set_other}
use Rattle.definition.specs.Basic.{Bytes, byte_at}
use Rattle.definition.specs.Limit.{code_size}
use Rattle.definition.specs.Tag.{tag_pool}
use Rattle.definition.specs.Field.{Head, field, head}
use Rattle.definition.specs.Bytecode.{Code, size_of, encode, Const, pool_size, Image}
use Rattle.definition.specs.Decode.{decoded, pool_head}
use Rattle.definition.specs.Valid.{AreBytes, ValidImage}
use Rattle.definition.proofs.Bytes.{Stands, stands_left, stands_right, stands_self}
use Rattle.definition.proofs.Fields.{stands_content, head-field}
use Rattle.definition.proofs.Items.{Rewritten}
use Rattle.definition.proofs.Instructions.{code-length, read-code}
use Rattle.bytecode.specs.declared.Form.{Form}
use Rattle.bytecode.specs.Form.{tag_main_in, pool_in, image_in, read_const_in, read_form}
use Rattle.bytecode.specs.Checked.{constants_in}
use Rattle.bytecode.proofs.Items.{ended}
use Rattle.bytecode.proofs.Fields.{pool_content_in, head_read}
use Rattle.std.specs.Prelude.{Result, Ok, Err}
use Rattle.chin.specs.declared.BadJump.{BadJump}
use Rattle.chin.specs.Turn.{made, stopped, along, turn_code, turn_pool, turn_image}
use Rattle.chin.specs.Rows.{other_form, jump_of, verdict, Same, CodeAt, TurnsCode, PoolAt, TurnsPool, ImageAt, TurnsImage}
use Rattle.chin.proofs.Constants.{pool-length, read-pool}
use Rattle.chin.proofs.Forms.{read-form, write-form, image-length}
use Rattle.chin.proofs.Rows.{first, made_once}
use Rattle.chin.proofs.Turns.{turn-image}
use Rattle.chin.proofs.Stores.{front, tail_byte}
use Rattle.chin.proofs.Chunks.{fine_made, bad_stopped, not-made}
use Rattle.chin.proofs.Functions.{returns_of, verdict-along}

-- three bytes are a field's head
abbrev three : ℕ → ℕ → Bytes
three t n = t ∷ n / 256 % 256 ∷ n % 256 ∷ []

module _ (f : Form) (b : Bytes) {m : Image} (a : ImageAt f b m) where
  wrote : Rewritten (image_in f) ValidImage b m
  wrote = write-form f b a.small a.reads

  abbrev main : Bytes
  main = field (tag_main_in f) (encode m.code)

  abbrev pool : Bytes
  pool = field tag_pool (pool_in f m.pool)

  both_stand : Stands (byte_at b) 0 (main ++ pool)
  both_stand = subst (Stands (byte_at b) 0) (sym wrote.bytes) (stands_self b)

  code_short : length (encode m.code) ≤ code_size
  code_short = omega (arith, wrote.sound.size, code-length m.code)

  -- its lengths
  pub main_length : (head (byte_at b) 0).len ≡ length (encode m.code)
  main_length = ap (λ (h : Head). h.len) (head-field (tag_main_in f) (encode m.code) (omega (arith, code_short)) (stands_left main pool both_stand))

  pub image_long : length b ≡ 6 + length (encode m.code) + length (pool_in f m.pool)
  image_long = ap length (sym wrote.bytes) ∙ omega (arith, length-append main pool)

  module _ {len : ℕ} (k : len ≡ (head (byte_at b) 0).len) where
    is_length : len ≡ length (encode m.code)
    is_length = k ∙ main_length

    -- main code
    pub main_at : CodeAt b 3 (3 + len) m.code
    main_at =
        let l = image_long in
        let e = is_length in
        let n = code-length m.code in
        record {
          order = omega arith;
          within = omega arith;
          small = a.small;
          reads = read-code wrote.sound.code (3 + len - 3) 3 (3 + len) (omega arith) (stands_content (tag_main_in f) (encode m.code) (stands_left main pool both_stand)) (omega arith);
        }

    -- the pool
    pub pool_at : PoolAt f b (3 + len + 3) (length b) m.pool
    pool_at =
        let l = image_long in
        let e = is_length in
        let at = 3 + len in
        let same : 0 + length main ≡ at = omega arith in
        let q = read-pool f wrote.sound.pool {at = 0 + length main} (length b) (stands_right main pool both_stand) (omega arith) in
        let r = (head_read (byte_at b) (0 + length main) (length b) (pool_head (byte_at b)) (pool_content_in (byte_at b) f) q).1 in
        let g = (ended (read_const_in f (byte_at b)) _ _ [] _ r).ends in
        let stop : 0 + length main + length pool ≡ length b = omega arith in
        record {
          order = omega arith;
          within = omega arith;
          small = a.small;
          reads = (λ i. constants_in (byte_at b) f (sym same i + 3) (sym (sym g ∙ stop) i)) ∙ r ∙ ap (decoded m.pool) stop;
        }

    -- a bad jump in main code
    pub main_bad : {o₁ o₂ o o' : Bytes} {p : BadJump} → TurnsCode (jump_of f) b 3 (3 + len) m.code o₁ o₂ (Err p) → TurnsImage f m b o o' (Err p)
    main_bad {p = p} t =
        let stop : turn_code (jump_of f) 3 m.code ≡ stopped p.place = bad_stopped (turn_code (jump_of f) 3 m.code) t.judged in
        let e : turn_image (jump_of f) m ≡ stopped p.place = ap (λ r. along {B = Image} r (λ c. along (turn_pool (jump_of f) (6 + size_of m.code) m.pool) (λ cs. made (record { code = c; pool = cs })))) stop in
        record { judged = sym (ap verdict e); written = λ n k s. absurd (not-made e k) }

    -- the pool decides where main code is fine
    module _ (o : Bytes) {o₁ o₂ o₃ : Bytes} {r : Result (Unit {0}) BadJump} (put : o₁ ≡ set o 0 (tag_main_in (other_form f))) (kept : length o₂ ≡ length o) (t : TurnsCode (jump_of f) b 3 (3 + len) m.code o₁ o₂ (Ok tt))
        (u : TurnsPool f b (3 + len + 3) (length b) m.pool o₂ o₃ r) where
      start_is : 3 + len + 3 ≡ 6 + size_of m.code
      start_is = omega (arith, is_length, code-length m.code)

      judged : r ≡ verdict (turn_image (jump_of f) m)
      judged =
          let d = fine_made (turn_code (jump_of f) 3 m.code) t.judged in
          u.judged ∙ ap (λ n. verdict (turn_pool (jump_of f) n m.pool)) start_is
          ∙ sym (ap (λ x. verdict (along {B = Image} x (λ c. along (turn_pool (jump_of f) (6 + size_of m.code) m.pool) (λ cs. made (record { code = c; pool = cs }))))) d.1
          ∙ verdict-along (turn_pool (jump_of f) (6 + size_of m.code) m.pool) (λ cs. record { code = d.0; pool = cs }))

      module _ (s : Same o b 0 (length b)) where
        -- the output, as it held the image
        held : o ≡ (main ++ pool) ++ drop (length b) o
        held =
            let z : 0 + length b ≡ length b = omega arith in
            front s 0 b (omega arith) (omega arith) (stands_self b) ∙ (λ i. sym wrote.bytes i ++ drop (z i) o)

        abbrev headed : Bytes
        headed = three (tag_main_in (other_form f)) (length (encode m.code))

        tagged : o₁ ≡ headed ++ ((encode m.code ++ pool) ++ drop (length b) o)
        tagged = put ∙ ap (λ z. set z 0 (tag_main_in (other_form f))) held

        first_same : Same o₁ b 3 (3 + len)
        first_same =
            record {
              room = omega (arith, ap length put, length-set o 0 (tag_main_in (other_form f)), s.room, image_long, is_length);
              bytes = λ k g h.
                  let other : k ≡ 0 → ⊥ = λ e. omega arith in
                  ap (λ z. byte_at z k) put ∙ get_or-set_other o 0 k (tag_main_in (other_form f)) 0 other ∙ s.bytes k (omega arith) (omega (arith, image_long, is_length));
            }

        module _ {d : Code} (e : turn_code (jump_of f) 3 m.code ≡ made d) (n : length (encode d) ≡ length (encode m.code)) where
          main_written : o₂ ≡ (headed ++ encode d) ++ (pool ++ drop (length b) o)
          main_written =
              let q = encode m.code in
              let at_front : take 3 o₁ ≡ headed = ap (take 3) tagged ∙ take_at headed ((q ++ pool) ++ drop (length b) o) 3 refl in
              let long : length (headed ++ q) ≡ 3 + len = omega (arith, length-append headed q, is_length) in
              let split = tagged ∙ ap (λ z. headed ++ z) (append_assoc q pool (drop (length b) o)) ∙ sym (append_assoc headed q (pool ++ drop (length b) o)) in
              let at_back : drop (3 + len) o₁ ≡ pool ++ drop (length b) o = ap (drop (3 + len)) split ∙ drop_at (headed ++ q) (pool ++ drop (length b) o) (3 + len) long in
              t.written d e first_same ∙ (λ i. (at_front i ++ encode d) ++ at_back i)

          second_same : Same o₂ b (3 + len + 3) (length b)
          second_same =
              let p = take 3 o₁ ++ encode d in
              let long : length p ≡ 3 + len = omega (arith, length-append (take 3 o₁) (encode d), ap length (ap (take 3) tagged ∙ take_at headed ((encode m.code ++ pool) ++ drop (length b) o) 3 refl), is_length) in
              record {
                room = omega (arith, s.room);
                bytes = λ k g h.
                    let other : k ≡ 0 → ⊥ = λ j. omega arith in
                    ap (λ z. byte_at z k) (t.written d e first_same) ∙ tail_byte p o₁ (3 + len) k long (omega arith) ∙ ap (λ z. byte_at z k) put ∙ get_or-set_other o 0 k (tag_main_in (other_form f)) 0 other
                    ∙ s.bytes k (omega arith) h;
              }

          -- the whole image in the other form
          image-written : {ds : List Const} → turn_pool (jump_of f) (6 + size_of m.code) m.pool ≡ made ds → length (pool_in (other_form f) ds) ≡ length (pool_in f m.pool)
              → o₃ ≡ image_in (other_form f) (record { code = d; pool = ds }) ++ drop (length b) o
          image-written {ds} g w =
              let h = headed ++ encode d in
              let cs = pool_in f m.pool in
              let p = three tag_pool (length cs) in
              let to = pool_in (other_form f) ds in
              let r = drop (length b) o in
              let long : length h ≡ 3 + len = omega (arith, length-append headed (encode d), is_length) in
              let at_front : take (3 + len + 3) o₂ ≡ h ++ p = ap (take (3 + len + 3)) (main_written ∙ sym (append_assoc h p (cs ++ r))) ∙ take_at (h ++ p) (cs ++ r) (3 + len + 3) (omega (arith, length-append h p)) in
              let at_back : drop (length b) o₂ ≡ r = ap (drop (length b)) (main_written ∙ sym (append_assoc h pool r)) ∙ drop_at (h ++ pool) r (length b) (omega (arith, length-append h pool, image_long, is_length)) in
              let k : turn_pool (jump_of f) (3 + len + 3) m.pool ≡ made ds = ap (λ j. turn_pool (jump_of f) j m.pool) start_is ∙ g in
              u.written ds k second_same ∙ (λ i. (at_front i ++ to) ++ at_back i) ∙ ap (λ z. z ++ r) (append_assoc h p to)
              ∙ (λ i. ((three (tag_main_in (other_form f)) (sym n i) ++ encode d) ++ (three tag_pool (sym w i) ++ to)) ++ r)

      pub image-turned : TurnsImage f m b o o₃ r
      image-turned =
          record {
            judged = judged;
            written = λ n e s.
                let start = 6 + size_of m.code in
                let c = first (turn_code (jump_of f) 3 m.code) (λ c. along (turn_pool (jump_of f) start m.pool) (λ cs. made (record { code = c; pool = cs }))) e in
                let p = first (turn_pool (jump_of f) start m.pool) (λ cs. made (record { code = c.value; pool = cs })) c.rest in
                let same : record { code = c.value; pool = p.value } ≡ n = made_once p.rest in
                let i = turn-image (returns_of f) wrote.sound e in
                let code : length (encode c.value) ≡ length (encode m.code) = omega (arith, code-length c.value, code-length m.code, i.code, ap (λ (x : Image). size_of x.code) same) in
                let pool_same : length (pool_in (other_form f) p.value) ≡ length (pool_in f m.pool) = omega (arith, pool-length (other_form f) p.value, pool-length f m.pool, i.pool, ap (λ (x : Image). pool_size x.pool) same) in
                image-written s c.made₁ code p.made₁ pool_same ∙ ap (λ x. image_in (other_form f) x ++ drop (length b) o) same;
          }

  -- the other form is as long
  pub other_length : {n : Image} → turn_image (jump_of f) m ≡ made n → length (image_in (other_form f) n) ≡ length b
  other_length {n} e =
      let s = turn-image (returns_of f) wrote.sound e in
      image-length (other_form f) n ∙ (λ i. 6 + s.code i + s.pool i) ∙ sym (image-length f m) ∙ ap length wrote.bytes

-- an image that was read is read up to its end
pub image_at : (f : Form) (b : Bytes) → AreBytes b → {m : Image} {n : ℕ} → read_form f b ≡ decoded m n → ImageAt f b m
image_at f b a {m} e =
    let w = write-form f b a e in
    record { small = a; reads = subst (λ x. read_form f x ≡ decoded m (length x)) w.bytes (read-form f m w.sound) }
